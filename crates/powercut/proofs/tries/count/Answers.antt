-- `powercut::tries::count` meets its contract.
use Prim.Native.Nat.{ℕ, ◌+◌}
use mathlib.Core.Path.{ap₂}
use Rattle.powercut.specs.Tries.{try_count}
use Rattle.powercut.proofs.tries.count.Goals as goal

pub returns : goal.returns
unfolding try_count
returns c = ap₂ (λ (a b : ℕ). a + b) c.count.ensures.0 c.count-2.ensures.0
