-- W-207: what a list of gets promises of any state whatever.
use Rattle.std.specs.Prelude.{ℕ, ◌*◌, ◌≤◌, ◌<◌, ◌≡◌, ◌≢◌, List, [], length, get_or, take, drop}
use Rattle.cells.specs.Little.{num}
use Rattle.journal.specs.Geometry.{Geometry}
use Rattle.journal.specs.Log.{slot_address}
use Rattle.store.specs.State.{State}
use Rattle.store.specs.Request.{get, get_list, abandon}
use Rattle.store.specs.Causes.{cause}
use Rattle.store.specs.Outcomes.{refused}
use Rattle.store.specs.Get.{block_of}
use Rattle.store.specs.GetList.{listing_of, list_walk, listing}
use Rattle.history.specs.Dispatch.{called}

-- "a lent list of 0 to 32 addresses, 4 bytes each, repeats allowed, and a lent buffer of 512 bytes for each"
abbrev pub RightList : List ℕ → List ℕ → Type 0
RightList xs bs = (m : ℕ) × (m ≤ 32) × (length xs ≡ 4 * m) × (length bs ≡ 512 * m)

-- the address at a place of the list
abbrev pub address_at : List ℕ → ℕ → ℕ
address_at xs i = num (take 4 (drop (4 * i) xs))

module _ (geo : Geometry) where
  -- a list that no cause refuses
  pub record Fills (xs bs : List ℕ) (st : State) : Type 0 where
    pub number : (listing geo xs bs st).number ≡ 0
    -- "n for a list with any address, 0 for none"
    pub any : xs ≢ [] → (listing geo xs bs st).slots ≡ st.rec.logged
    pub none : xs ≡ [] → (listing geo xs bs st).slots ≡ 0
    -- "the slots read there are counted": as many as the walk has, and the walk has the address of each slot of the log, ascending
    pub counted : (listing geo xs bs st).slots ≡ length (list_walk xs st)
    pub walks : xs ≢ [] → (i : ℕ) → i < st.rec.logged → get_or (list_walk xs st) i 0 ≡ slot_address st.settled i
    pub size : length (listing geo xs bs st).blocks ≡ length bs
    -- "in the order listed": at each place, repeats or not, "Every block is what a single get shows", and that get is served
    pub served : (i : ℕ) → 4 * i < length xs → cause geo (get (address_at xs i)) st ≡ 0
    pub block : (i : ℕ) → 4 * i < length xs → take 512 (drop (512 * i) (listing geo xs bs st).blocks) ≡ block_of geo (address_at xs i) st

  pub record ListedGets (xs bs : List ℕ) (st : State) : Type 0 where
    -- "More than 32 addresses or a buffer of another length is refused as 1, […] the rest as by get": of any address; "a wrong address as 6"
    pub lengths : (RightList xs bs → ⊥) → cause geo (get_list xs bs) st ≡ 1
    pub as_get : RightList xs bs → (a : ℕ) → cause geo (get a) st ≢ 0 → cause geo (get a) st ≢ 6 → cause geo (get_list xs bs) st ≡ cause geo (get a) st
    pub address : RightList xs bs → (i : ℕ) → 4 * i < length xs → cause geo (get (address_at xs i)) st ≡ 6 → cause geo (get_list xs bs) st ≡ 6
    -- else, where rows 1 to 4 pass, which are all that abandon has, it is served, an empty one too
    pub right : RightList xs bs → cause geo abandon st ≡ 0 → ((i : ℕ) → 4 * i < length xs → cause geo (get (address_at xs i)) st ≡ 0) → cause geo (get_list xs bs) st ≡ 0
    pub serves : cause geo (get_list xs bs) st ≡ 0 → Fills xs bs st
    -- "and then nothing is copied"
    pub refuses : cause geo (get_list xs bs) st ≢ 0 → listing geo xs bs st ≡ listing_of (cause geo (get_list xs bs) st) 0 bs
    -- record, settled, waiting and work bytes are left in any case
    pub leaves : called geo (get_list xs bs) st ≡ refused (cause geo (get_list xs bs) st) st

  abbrev pub AllLists : Type 0
  AllLists = (xs bs : List ℕ) (st : State) → ListedGets xs bs st
