-- "abandon empties open."
use Rattle.journal.specs.Geometry.{Geometry}
use Rattle.store.specs.State.{State, Outcome, with_opened, with_record}
use Rattle.store.specs.Request.{abandon}
use Rattle.store.specs.Causes.{cause}
use Rattle.store.specs.Outcomes.{completed, unless}

abbrev pub abandoned : State → State
abandoned st = with_record (with_opened 0 st.rec) st

module _ (geo : Geometry) where
  unfoldable pub abandon_call : State → Outcome
  abandon_call st = unless (cause geo abandon st) st (completed (abandoned st))
