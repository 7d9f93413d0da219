-- W-209: what a direct write, a get with writes waiting, and a sync with an empty group promise of any state whatever.
use Rattle.std.specs.Prelude.{ℕ, ◌+◌, ◌-◌, ◌≤◌, ◌<◌, ◌≡◌, ◌≢◌, ◌⊎◌, Bool, true, cond, List, [], ◌∷◌, ◌++◌, eqb, leb}
use Rattle.cells.specs.Entry.{Entry}
use Rattle.card.specs.Disk.{overlay}
use Rattle.card.specs.Card.{queue, settle, block_at}
use Rattle.journal.specs.Geometry.{Geometry}
use Rattle.journal.specs.Log.{entries}
use Rattle.store.specs.Request.{put, get, direct, sync}
use Rattle.store.specs.State.{State, card_in, with_queue}
use Rattle.store.specs.Lists.{open_from, list_of}
use Rattle.store.specs.Causes.{cause}
use Rattle.store.specs.Outcomes.{refused}
use Rattle.store.specs.Get.{block_of}
use Rattle.store.specs.Saves.{group_of}
use Rattle.history.specs.Plain.{among, addresses}
use Rattle.history.specs.Dispatch.{called}
use Rattle.history.specs.Formats.{Exactly}

abbrev pub open_of : State → List Entry
open_of st = list_of st.work open_from st.rec.opened

module _ (geo : Geometry) where
  abbrev pub log_of : State → List Entry
  log_of st = entries geo st.settled st.rec.logged

  -- "with 32 waiting"
  abbrev pub fully_waits : State → Bool
  fully_waits st = eqb st.rec.waiting geo.direct

  pub record Directs (a : ℕ) (b : List ℕ) (st : State) : Type 0 where
    -- "A direct write refuses as put does up to 6": by every cause of the put but 7, which comes behind
    pub as_put : cause geo (put a b) st ≢ 0 → cause geo (put a b) st ≢ 7 → called geo (direct a b) st ≡ refused (cause geo (put a b) st) st
    -- 14, "when a direct write's address is in open, group or log, checked after 6, leaving everything"; else nothing refuses it
    pub row : (cause geo (put a b) st ≡ 0) ⊎ (cause geo (put a b) st ≡ 7)
        → Exactly (among a (addresses (open_of st ++ (group_of geo st ++ log_of st))) ≡ true) (called geo (direct a b) st ≡ refused 14 st) (cause geo (direct a b) st ≡ 0)
    -- with power for its orders it is done, else power ran out
    pub answers : cause geo (direct a b) st ≡ 0 → (called geo (direct a b) st).answer ≡ cond (leb (cond (fully_waits st) 2 1) st.rec.power) 0 4
    -- "with 32 waiting it flushes first; it hands back its orders"
    pub orders : (called geo (direct a b) st).answer ≡ 0 → (called geo (direct a b) st).orders ≡ cond (fully_waits st) 2 1
    -- the flush leaves nothing waiting, and the write waits behind what does
    pub waits : (called geo (direct a b) st).answer ≡ 0
        → queue (card_in (called geo (direct a b) st).state) ≡ cond (fully_waits st) [] (queue (card_in st)) ++ (record { address = a; block = b } ∷ [])
    -- all that waited has settled, or nothing
    pub settles : (called geo (direct a b) st).answer ≡ 0
        → (called geo (direct a b) st).state.settled ≡ cond (fully_waits st) (settle (queue (card_in st)) st.settled) st.settled
    -- it touches no list in work memory, and of the record the queue's two counts alone: "outside any transaction"
    pub rest : (called geo (direct a b) st).answer ≡ 0
        → ((called geo (direct a b) st).state.work ≡ st.work)
        × ((called geo (direct a b) st).state.rec ≡ with_queue (cond (fully_waits st) 0 st.rec.waiting + 1) (st.rec.power - cond (fully_waits st) 2 1) st.rec)

  -- "get reads waiting writes, newest first, after the log and before the home block"
  abbrev pub GetsWaiting : ℕ → State → Type 0
  GetsWaiting a st =
      cause geo (get a) st ≡ 0
      → block_of geo a st ≡ overlay (open_of st) (overlay (group_of geo st) (overlay (log_of st) (overlay (queue (card_in st)) (block_at st.settled)))) a

  -- "A sync with an empty group flushes if anything waits, one order; otherwise none."
  pub record EmptySyncs (st : State) : Type 0 where
    -- all that waited has settled, nothing waits, and everything else stays
    pub done : cause geo sync st ≡ 0 → st.rec.grouped ≡ 0 → cond (eqb st.rec.waiting 0) 0 1 ≤ st.rec.power
        → called geo sync st
        ≡ record {
          answer = 0;
          orders = cond (eqb st.rec.waiting 0) 0 1;
          state = record {
            rec = with_queue 0 (st.rec.power - cond (eqb st.rec.waiting 0) 0 1) st.rec;
            settled = settle (queue (card_in st)) st.settled;
            waiting = st.waiting;
            work = st.work;
          };
        }
    pub gone : cause geo sync st ≡ 0 → st.rec.grouped ≡ 0 → st.rec.power < cond (eqb st.rec.waiting 0) 0 1 → (called geo sync st).answer ≡ 4

  pub record AllDirects : Type 0 where
    pub directs : (a : ℕ) (b : List ℕ) (st : State) → Directs a b st
    pub gets : (a : ℕ) (st : State) → GetsWaiting a st
    pub syncs : (st : State) → EmptySyncs st
