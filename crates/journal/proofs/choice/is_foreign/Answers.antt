-- `journal::choice::is_foreign` meets its contract.
use Rattle.std.proofs.Common.{arith}
use Rattle.std.proofs.lemmas.Bool.Decides.{nat_tests}
use Rattle.journal.specs.Geometry.Laws.{trap-slots}
use Rattle.journal.proofs.choice.is_foreign.Goals as goal

pub returns-then-h : goal.returns-then-h
returns-then-h c = search (arith, nat_tests, trap-slots)

pub returns-else-h : goal.returns-else-h
returns-else-h c = search (arith, nat_tests, trap-slots)
