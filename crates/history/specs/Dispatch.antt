-- The one table from a call to what it does, by which lists of calls, what C sees and the script go. That it says what the contracts say
-- is `Cited`.
use Rattle.std.specs.Prelude.{ℕ, ◌≡◌, List}
use Rattle.store.specs.Local.{Local}
use Rattle.store.specs.Save.{Save}
use Rattle.store.specs.Request.{Request, format, local, direct, save, cut, power, put, get, get_list, commit, abandon, sync, apply, recover}
use Rattle.store.specs.State.{State, Outcome}
use Rattle.store.specs.Causes.{cause}
use Rattle.store.specs.Outcomes.{completed, unless}
use Rattle.store.specs.Format.{formatted, format_call}
use Rattle.store.specs.Power.{powered, power_call}
use Rattle.store.specs.Put.{putting, put_call}
use Rattle.store.specs.Abandon.{abandoned, abandon_call}
use Rattle.store.specs.GetList.{listing}
use Rattle.store.specs.Commit.{committed, commit_call}
use Rattle.store.specs.Saves.{syncing, sync_call, applying, apply_call, recovering, recover_call}
use Rattle.store.specs.Direct.{directing, direct_call}
use Rattle.store.specs.Cut.{cutting, cut_call}
use Rattle.journal.specs.Geometry.{Geometry}
use Rattle.journal.specs.Choice.{choose}
use Rattle.history.specs.Call.{Call, request_of}

module _ (geo : Geometry) where
  -- what a local call leaves where no cause refuses; a get leaves everything, and so does a list of them
  abbrev pub served_local : Local → State → State
  served_local (Local.power k) st = powered k st
  served_local (Local.put a b) st = putting a b st
  served_local (Local.get a) st = st
  served_local (Local.get_list xs bs) st = st
  served_local Local.commit st = committed geo st
  served_local Local.abandon st = abandoned st

  -- what a call that gives orders comes to, power gone included
  abbrev pub served_save : Save → State → Outcome
  served_save Save.sync st = syncing geo st
  served_save Save.apply st = applying geo st
  served_save Save.recover st = recovering (choose geo st.rec.blocks st.settled) st

  -- the row of each call
  abbrev pub served : Request → State → Outcome
  served format st = completed (formatted st)
  served (local c) st = completed (served_local c st)
  served (direct a b) st = directing geo a b st
  served (save c) st = served_save c st
  served (cut ms) st = completed (cutting ms st)

  -- "The first cause in table order is given", of any call, and leaves everything
  unfoldable pub called : Request → State → Outcome
  called q st = unless (cause geo q st) st (served q st)

  -- a call of a list
  abbrev pub dispatch : Call → State → Outcome
  dispatch c st = called (request_of c) st

  -- the definition on the right of each call's `ensures` is the call of this table. Get's contracts are of its number, `cause`, and of its
  -- place, a list's of its number, slots and blocks: each answers that number and leaves everything
  pub record Cited : Type 0 where
    pub formats : format_call geo ≡ called format
    pub powers : (k : ℕ) → power_call geo k ≡ called (power k)
    pub puts : (a : ℕ) (b : List ℕ) → put_call geo a b ≡ called (put a b)
    pub gets : (a : ℕ) (st : State) → called (get a) st ≡ record { answer = cause geo (get a) st; orders = 0; state = st }
    pub lists : (xs bs : List ℕ) (st : State) → called (get_list xs bs) st ≡ record { answer = (listing geo xs bs st).number; orders = 0; state = st }
    pub commits : commit_call geo ≡ called commit
    pub abandons : abandon_call geo ≡ called abandon
    pub directs : (a : ℕ) (b : List ℕ) → direct_call geo a b ≡ called (direct a b)
    pub syncs : sync_call geo ≡ called sync
    pub applies : apply_call geo ≡ called apply
    pub recovers : recover_call geo ≡ called recover
    pub cuts : (ms : List ℕ) → cut_call geo ms ≡ called (cut ms)
