-- Refusals (demand 1): over the ten calls, lists of gets (W-207) and direct writes (W-209), the script's lines, tally and alike, what C sees of them and of the
-- inquiries (W-202), and any inputs whatever.
use Rattle.std.specs.Prelude.{ℕ, ◌+◌, ◌≤◌, ◌≡◌, ◌≢◌, ◌⊎◌, Bool, true, false, cond, not, ◌&&◌, List, [], ◌∷◌, eqb, leb, length, take}
use Rattle.std.specs.Borrow.{Bor}
use Rattle.cells.specs.Little.{Bytes}
use Rattle.cells.specs.Entry.{Entry}
use Rattle.fnv.specs.Fnv.{start}
use Rattle.card.specs.Card.{Order, write, flush, queue, block_at, run}
use Rattle.journal.specs.Geometry.{Geometry}
use Rattle.journal.specs.Layout.{wrong_size}
use Rattle.journal.specs.Choice.{choice_number}
use Rattle.store.specs.Save.{Save}
use Rattle.store.specs.Request as Request
use Rattle.store.specs.State.{State, down, with_mode, with_record, card_in}
use Rattle.store.specs.CodeState.{state_of}
use Rattle.store.specs.Causes.{cause}
use Rattle.store.specs.Outcomes.{refused}
use Rattle.store.specs.Get.{get_place, part_at, block_of}
use Rattle.store.specs.Saves.{save_orders, applies}
use Rattle.store.specs.Direct.{direct_orders}
use Rattle.store.specs.GetList.{listing_of, listing}
use Rattle.store.specs.Cost.{cost_of}
use Rattle.inspect.specs.Reading.{chosen, inspection}
use Rattle.inspect.specs.Tally.{tally_of}
use Rattle.firmware.specs.Face.{record_bytes, decode_record, face_of, faced, got_of, got, listed, asked, tallied, compared_of, compared}
use Rattle.history.specs.Dispatch.{called}
use Rattle.history.specs.Scripts.{ByCall}

-- ---- the calls

module _ (geo : Geometry) where
  -- the orders of a call
  abbrev pub orders_of : Request.Request → State → List Order
  orders_of Request.format st = []
  orders_of (Request.local c) st = []
  orders_of (Request.direct a b) st = direct_orders geo a b st
  orders_of (Request.save c) st = save_orders geo c st
  orders_of (Request.cut ms) st = []

-- no order writes to the block, and none flushes it: the writes q wait before the orders. W-209: a flush touches every block whose waiting
-- write it settles, also one of an earlier call
unfoldable pub besides : ℕ → List Entry → Bool
besides x [] = true
besides x (e ∷ q) = not (eqb x e.address) && besides x q

unfoldable pub untouched : ℕ → List Entry → List Order → Bool
untouched x q [] = true
untouched x q (write e ∷ os) = not (eqb x e.address) && untouched x q os
untouched x q (flush ∷ os) = besides x q && untouched x [] os

module _ (geo : Geometry) where
  -- "a sync's apply", and "all that apply's orders happened": n+3 of them
  abbrev pub inner_done : State → Bool
  inner_done st = applies geo st && leb (st.rec.logged + 3) st.rec.power

  -- "power gone in the call": 4, the power there was as orders. "the record is down, its n and sum as before the call, or as a sync's
  -- apply left them if all that apply's orders happened"; N stays, the save number too ("a call cut short leaves it"), and the power is
  -- gone. The card is what the orders carried out made of it. Left are "group, open, and each block no order touched", of these: with no
  -- power every lent byte, and the record but for its mode
  pub record Gone (q : Request.Request) (st : State) : Type 0 where
    pub answer : (called geo q st).answer ≡ 4
    pub orders : (called geo q st).orders ≡ st.rec.power
    pub down-now : (called geo q st).state.rec.mode ≡ down
    pub N : (called geo q st).state.rec.blocks ≡ st.rec.blocks
    pub emptied : q ≡ Request.sync → inner_done st ≡ true → ((called geo q st).state.rec.logged ≡ 0) × ((called geo q st).state.rec.sum ≡ start)
    pub kept : (q ≡ Request.sync → inner_done st ≡ false)
        → ((called geo q st).state.rec.logged ≡ st.rec.logged) × ((called geo q st).state.rec.sum ≡ st.rec.sum)
    pub save : (called geo q st).state.rec.save ≡ st.rec.save
    pub power : (called geo q st).state.rec.power ≡ 0
    pub work : (called geo q st).state.work ≡ st.work
    pub open_count : (called geo q st).state.rec.opened ≡ st.rec.opened
    pub group_count : (called geo q st).state.rec.grouped ≡ st.rec.grouped
    pub card : card_in (called geo q st).state ≡ run (orders_of geo q st) (card_in st)
    pub blocks : (x : ℕ) → untouched x (queue (card_in st)) (take st.rec.power (orders_of geo q st)) ≡ true → block_at (called geo q st).state.settled x ≡ block_at st.settled x
    pub powerless : st.rec.power ≡ 0 → (called geo q st).state ≡ with_record (with_mode down st.rec) st

  -- the answer is the number of the first row that applies, which leaves everything; 4 if an order is reached that can't happen; else 0
  pub record Answers (q : Request.Request) (st : State) : Type 0 where
    pub refuses : cause geo q st ≢ 0 → called geo q st ≡ refused (cause geo q st) st
    pub gone : cause geo q st ≡ 0 → leb (length (orders_of geo q st)) st.rec.power ≡ false → Gone q st
    pub serves : cause geo q st ≡ 0 → leb (length (orders_of geo q st)) st.rec.power ≡ true → ((called geo q st).answer ≡ 0) × ((called geo q st).orders ≡ length (orders_of geo q st))
    pub two_suffice : (called geo Request.recover st).orders ≤ 2

  -- "A refused get hands out a part of no bytes": the part that get promises, of whatever slices
  pub record NoPart (a : ℕ) (st : State) : Type 0 where
    pub block : cause geo (Request.get a) st ≢ 0 → block_of geo a st ≡ []
    pub part : cause geo (Request.get a) st ≢ 0 → (settled waiting work : Bor (List ℕ)) → (part_at (get_place geo a st) settled waiting work).bytes ≡ []

  -- ---- tally and alike: "refuse 1, 8, 9", and "the first one's refusal first"

  -- what makes a card refused: its size, then the choice of recover
  pub record Inspects (s : List ℕ) : Type 0 where
    pub size : wrong_size geo s ≡ true → inspection geo s ≡ 1
    pub unsound : wrong_size geo s ≡ false → inspection geo s ≡ choice_number (chosen geo s)
    pub known : (inspection geo s ≢ 0) → (inspection geo s ≡ 1) ⊎ ((inspection geo s ≡ 8) ⊎ (inspection geo s ≡ 9))

  -- a refusal hands out no sum and no yes
  pub record Reads (a b : List ℕ) : Type 0 where
    pub inspects : Inspects a
    pub tally_refuses : inspection geo a ≢ 0 → tally_of geo a ≡ tallied (inspection geo a) 0
    pub tally_serves : inspection geo a ≡ 0 → (tally_of geo a).number ≡ 0
    pub alike_first : inspection geo a ≢ 0 → compared geo a b ≡ compared_of (inspection geo a) 0
    pub alike_second : inspection geo a ≡ 0 → inspection geo b ≢ 0 → compared geo a b ≡ compared_of (inspection geo b) 0
    pub alike_serves : inspection geo a ≡ 0 → inspection geo b ≡ 0 → (compared geo a b).number ≡ 0

  -- ---- what C sees: "another length is 1", which leaves every byte; else the number of the call, and a cause leaves every byte, those
  -- of the record too

  pub record Faces (q : Request.Request) (r s w k : List ℕ) : Type 0 where
    pub size : length r ≢ record_bytes → faced (called geo q) r s w k ≡ face_of 1 0 r s w k
    pub answers : length r ≡ record_bytes → (faced (called geo q) r s w k).number ≡ (called geo q (state_of (decode_record r) s w k)).answer
    pub refuses : length r ≡ record_bytes → Bytes r → cause geo q (state_of (decode_record r) s w k) ≢ 0
        → faced (called geo q) r s w k ≡ face_of (cause geo q (state_of (decode_record r) s w k)) 0 r s w k

  -- a get that is refused hands out no place
  pub record Gets (a : ℕ) (r s w k : List ℕ) : Type 0 where
    pub size : length r ≢ record_bytes → got geo a r s w k ≡ got_of 1 0 0
    pub refuses : length r ≡ record_bytes → cause geo (Request.get a) (state_of (decode_record r) s w k) ≢ 0
        → got geo a r s w k ≡ got_of (cause geo (Request.get a) (state_of (decode_record r) s w k)) 0 0
    pub serves : length r ≡ record_bytes → cause geo (Request.get a) (state_of (decode_record r) s w k) ≡ 0 → (got geo a r s w k).number ≡ 0

  -- W-207: a list is that of the state that the bytes stand for (`GetLists.antt`); of another record length it copies nothing, counts no slot
  pub record ListFaces (xs bs r s w k : List ℕ) : Type 0 where
    pub size : length r ≢ record_bytes → listed geo xs bs r s w k ≡ listing_of 1 0 bs
    pub answers : length r ≡ record_bytes → listed geo xs bs r s w k ≡ listing geo xs bs (state_of (decode_record r) s w k)

  -- W-202: an inquiry that is refused hands out no figures; else those of the state that the bytes stand for, 1 for yes
  pub record Asks (c : Save) (r s w k : List ℕ) : Type 0 where
    pub size : length r ≢ record_bytes → asked (cost_of geo c) r s w k ≡ record { number = 1; orders = 0; applies = 0; peak = 0; reaches = 0 }
    pub refuses : length r ≡ record_bytes → cause geo (Request.save c) (state_of (decode_record r) s w k) ≢ 0
        → asked (cost_of geo c) r s w k ≡ record { number = cause geo (Request.save c) (state_of (decode_record r) s w k); orders = 0; applies = 0; peak = 0; reaches = 0 }
    pub serves : length r ≡ record_bytes → cause geo (Request.save c) (state_of (decode_record r) s w k) ≡ 0
        → let x = cost_of geo c (state_of (decode_record r) s w k) in
        asked (cost_of geo c) r s w k ≡ record { number = 0; orders = x.orders; applies = cond x.applies 1 0; peak = x.peak; reaches = cond x.reaches 1 0 }

  pub record Refusals : Type 0 where
    pub calls : (q : Request.Request) (st : State) → Answers q st
    pub parts : (a : ℕ) (st : State) → NoPart a st
    pub lines : (l : List ℕ) (st : State) → ByCall l st
    pub reads : (a b : List ℕ) → Reads a b
    pub faces : (q : Request.Request) (r s w k : List ℕ) → Faces q r s w k
    pub gets : (a : ℕ) (r s w k : List ℕ) → Gets a r s w k
    pub lists : (xs bs r s w k : List ℕ) → ListFaces xs bs r s w k
    pub asks : (c : Save) (r s w k : List ℕ) → Asks c r s w k
