-- A list of calls: the store, the ledger beside it, and the plain disk, which is fed the calls, at a cut one Boolean, and (W-209) at a
-- recover what is found.
use Rattle.std.specs.Prelude.{Bool, false, ◌&&◌, ◌||◌, List, [], ◌∷◌, eqb}
use Rattle.card.specs.Card.{blocks_in}
use Rattle.store.specs.State.{State}
use Rattle.store.specs.Format.{format_call}
use Rattle.store.specs.Get.{block_of}
use Rattle.journal.specs.Geometry.{Geometry}
use Rattle.history.specs.Call.{Call, local, direct, save, cut}
use Rattle.history.specs.Plain.{Plain, fresh, Fed, plain_step}
use Rattle.history.specs.Dispatch.{dispatch}
use Rattle.history.specs.Ledger.{Ledger, fresh_ledger, entered, log_found, same_log, collides}

pub record World : Type 0 where
  pub store : State
  pub ledger : Ledger
  pub plain : Plain
  pub excepted : Bool

module _ (geo : Geometry) where
  -- "It starts from a fresh card, as a format answering 0 left it"
  unfoldable pub begun : State → World
  begun st = record { store = (format_call geo st).state; ledger = fresh_ledger; plain = fresh (blocks_in st.settled); excepted = false }

  -- "Each call gets the record and the settled, waiting and work bytes that the last one returned or left"
  abbrev pub store_next : Call → World → State
  store_next c w = (dispatch geo c w.store).state

  abbrev pub ledger_next : Call → World → Ledger
  ledger_next c w = entered geo c w.store w.ledger

  -- "whether the log found is the log written", after the call
  unfoldable pub found_written : Call → World → Bool
  found_written c w = same_log (log_found geo (store_next c w)) (ledger_next c w).written

  -- what the plain disk is fed at a call. "what the next recovery after a cut finds": each block as a get then shows it
  abbrev pub fed : Call → World → Fed
  fed c w = record { same = found_written c w; found = λ a. block_of geo a (store_next c w) }

  -- a cut that is accepted
  unfoldable pub accepted_cut : Call → World → Bool
  accepted_cut (local c) w = false
  accepted_cut (direct a b) w = false
  accepted_cut (save c) w = false
  accepted_cut (cut ms) w = eqb (dispatch geo (cut ms) w.store).answer 0

  -- the exception: a collision at an accepted cut
  unfoldable pub exception : Call → World → Bool
  exception c w = accepted_cut c w && collides (log_found geo (store_next c w)) (ledger_next c w).written

  unfoldable pub next : Call → World → World
  next c w = record {
    store = store_next c w;
    ledger = ledger_next c w;
    plain = (plain_step geo c (fed c w) w.plain).plain;
    excepted = w.excepted || exception c w;
  }

  unfoldable pub after : List Call → World → World
  after [] w = w
  after (c ∷ cs) w = after cs (next c w)
