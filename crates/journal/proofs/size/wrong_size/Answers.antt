-- `journal::size::wrong_size` meets its contract.
use Rattle.std.proofs.Common.{arith}
use Rattle.std.proofs.lemmas.Bool.Decides.{nat_tests}
use Rattle.journal.specs.Geometry.Laws.{trap-slots, trap-descriptors}
use Rattle.journal.specs.Layout.{wrong_size}
use Rattle.journal.proofs.size.wrong_size.Goals as goal

pub returns-then-blocks-lt-LEAST : goal.returns-then-blocks-lt-LEAST
unfolding wrong_size
returns-then-blocks-lt-LEAST c = search (arith, nat_tests, trap-slots, trap-descriptors)

pub returns-else-blocks-lt-LEAST : goal.returns-else-blocks-lt-LEAST
unfolding wrong_size
returns-else-blocks-lt-LEAST c = search (arith, nat_tests, trap-slots, trap-descriptors)
