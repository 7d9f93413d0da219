-- `store::record::Record::wrong_counts` meets its contract.
use Rattle.std.proofs.Common.{rules, tests}
use Rattle.journal.specs.Geometry.{trap}
use Rattle.store.specs.Causes.{wrong_counts}
use Rattle.store.proofs.record.Record.wrong_counts.Goals as goal

pub returns-then-most_waiting-self : goal.returns-then-most_waiting-self
unfolding wrong_counts trap
returns-then-most_waiting-self c = λ w k. search (rules, tests)

pub returns-else-most_waiting-self : goal.returns-else-most_waiting-self
unfolding wrong_counts trap
returns-else-most_waiting-self c = λ w k. search (rules, tests)
