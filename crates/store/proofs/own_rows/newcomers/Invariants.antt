-- `store::own_rows::newcomers` meets its contract.
use Prim.Native.Nat.{◌≤◌}
use mathlib.Core.Path.{◌≡◌}
use Rattle.journal.specs.Geometry.{trap}
use Rattle.store.specs.Causes.{newcomers}
use Rattle.store.proofs.own_rows.newcomers.Given as goal

abbrev pub invariant-loop-i : goal.invariant-loop-i
invariant-loop-i l = (l.count ≡ newcomers trap l.work l.g l.i) × (l.count ≤ l.i)
