-- `powercut::loss::cut` meets its contract.
use Rattle.std.proofs.Common.{arith}
use Rattle.journal.specs.Geometry.{trap}
use Rattle.powercut.proofs.loss.cut.Goals as goal

pub returns-then-n-gt-PLACES-clause-within : goal.returns-then-n-gt-PLACES-clause-within
unfolding trap
returns-then-n-gt-PLACES-clause-within c p = absurd (omega (arith, p))

pub returns-clause-beyond : goal.returns-clause-beyond
unfolding trap
returns-clause-beyond c p = absurd (omega (arith, p))
