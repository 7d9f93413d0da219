-- `store::check::wrong_sizes` meets its contract.
use Rattle.std.proofs.Common.{rules, tests}
use Rattle.journal.specs.Geometry.{trap}
use Rattle.store.specs.Causes.{wrong_sizes}
use Rattle.store.proofs.check.wrong_sizes.Goals as goal

pub returns-then-waiting-ne-WAITING : goal.returns-then-waiting-ne-WAITING
unfolding wrong_sizes trap
returns-then-waiting-ne-WAITING c = λ q. search (rules, tests)

pub returns-else-waiting-ne-WAITING : goal.returns-else-waiting-ne-WAITING
unfolding wrong_sizes trap
returns-else-waiting-ne-WAITING c = λ q. search (rules, tests)
