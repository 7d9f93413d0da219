-- "put: replaces the open entry of that address or adds one at the end."
use Rattle.std.specs.Prelude.{ℕ, ◌+◌, List, Option, Some, None}
use Rattle.cells.specs.Entry.{Entry, set_entry}
use Rattle.journal.specs.Geometry.{Geometry}
use Rattle.store.specs.State.{State, Outcome, with_opened, with_record, with_work}
use Rattle.store.specs.Lists.{open_from, find}
use Rattle.store.specs.Request.{put}
use Rattle.store.specs.Causes.{cause}
use Rattle.store.specs.Outcomes.{completed, unless}

abbrev pub put_at : Option ℕ → Entry → State → State
put_at (Some i) e st = with_work (set_entry st.work i e) st
put_at None e st = with_record (with_opened (st.rec.opened + 1) st.rec) (with_work (set_entry st.work st.rec.opened e) st)

abbrev pub putting : ℕ → List ℕ → State → State
putting a b st = put_at (find st.work open_from st.rec.opened a) (record { address = a; block = b }) st

module _ (geo : Geometry) where
  unfoldable pub put_call : ℕ → List ℕ → State → Outcome
  put_call a b st = unless (cause geo (put a b) st) st (completed (putting a b st))
