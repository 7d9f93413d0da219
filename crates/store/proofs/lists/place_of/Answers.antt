-- `store::lists::place_of` meets its contract.
use native.Mathlib.Omega.{arith}
use Rattle.journal.specs.Geometry.{trap}
use Rattle.store.proofs.lists.place_of.Goals as goal

pub overflow_add-result : goal.overflow_add-result
overflow_add-result c = omega (arith, trap.addressed)

pub overflow_mul-result : goal.overflow_mul-result
overflow_mul-result c = omega (arith, trap.addressed)

pub overflow_add-result-2 : goal.overflow_add-result-2
overflow_add-result-2 c = omega (arith, trap.addressed)
