-- `store::check::twice` meets its contract. The invariant: none of the first i is there twice, and each has marked its bucket.
use Prim.Native.Nat.{ℕ}
use mathlib.Core.Path.{◌≡◌}
use mathlib.Core.Bool.{false}
use mathlib.Core.List.{List}
use lib.ListN.{length}
use Rattle.store.proofs.Lookups.{Marked}
use Rattle.store.specs.Lists.{listed}
use Rattle.store.specs.Causes.{twice}
use Rattle.store.proofs.check.twice.Given as goal

abbrev pub addresses : List ℕ → ℕ → ℕ → ℕ
addresses work from i = (listed work from i).address

abbrev pub invariant-loop-i : goal.invariant-loop-i
invariant-loop-i l = (length l.seen ≡ 128) × (twice l.work l.from l.i ≡ false) × Marked (addresses l.work l.from) l.seen l.i
