-- "power: sets the power count, in any mode."
use Rattle.std.specs.Prelude.{ℕ}
use Rattle.journal.specs.Geometry.{Geometry}
use Rattle.store.specs.State.{State, Outcome, with_queue, with_record}
use Rattle.store.specs.Request.{power}
use Rattle.store.specs.Causes.{cause}
use Rattle.store.specs.Outcomes.{completed, unless}

abbrev pub powered : ℕ → State → State
powered k st = with_record (with_queue st.rec.waiting k st.rec) st

module _ (geo : Geometry) where
  unfoldable pub power_call : ℕ → State → Outcome
  power_call k st = unless (cause geo (power k) st) st (completed (powered k st))
