-- W-207: "One call takes a lent list of 0 to 32 addresses, 4 bytes each, repeats allowed, and a lent buffer of 512 bytes for each, and
-- fills it in the order listed."
use Rattle.std.specs.Prelude.{ℕ, Result, Ok, Err, cond, List, [], eqb, length}
use Rattle.cells.specs.Upto.{joined}
use Rattle.journal.specs.Geometry.{Geometry}
use Rattle.journal.specs.Wanted.{wanted_count, wanted_at, walked}
use Rattle.refusals.specs.declared.Refusal.{Refusal}
use Rattle.store.specs.State.{State}
use Rattle.store.specs.Request.{get_list}
use Rattle.store.specs.Causes.{cause}
use Rattle.store.specs.Get.{newest, bytes_at, block_of}

-- the number, the slots read, and the buffer's bytes after the call
pub record Listing : Type 0 where
  pub number : ℕ
  pub slots : ℕ
  pub blocks : List ℕ

-- the slots that a call read: a refusal reads none
abbrev pub slots_read : Result ℕ Refusal → ℕ
slots_read (Ok n) = n
slots_read (Err refusal) = 0

abbrev pub listing_of : ℕ → ℕ → List ℕ → Listing
listing_of number slots blocks = record { number = number; slots = slots; blocks = blocks }

-- "After the checks the descriptor is walked once", for a list with any address; for none it is not
abbrev pub list_walk : List ℕ → State → List ℕ
list_walk xs st = cond (eqb (wanted_count xs) 0) [] (walked st.settled st.rec.logged)

module _ (geo : Geometry) where
  -- "in the order listed"; "Every block is what a single get shows"
  abbrev pub shown : List ℕ → State → List ℕ
  shown xs st = joined (λ i. block_of geo (wanted_at xs i) st) (wanted_count xs)

  -- "the slots read there are counted in the answer". A refusal counts none, "and then nothing is copied"
  unfoldable pub listing : List ℕ → List ℕ → State → Listing
  listing xs bs st =
      cond (eqb (cause geo (get_list xs bs) st) 0)
      (listing_of 0 (length (list_walk xs st)) (shown xs st))
      (listing_of (cause geo (get_list xs bs) st) 0 bs)

  -- the newest block of each address, which is what `shown` is where no get is refused: contracts of private functions cite it
  abbrev pub newest_blocks : List ℕ → State → List ℕ
  newest_blocks xs st = joined (λ i. bytes_at (newest geo (wanted_at xs i) st) st) (wanted_count xs)
