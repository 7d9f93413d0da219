-- `store::record::Record::most_waiting` meets its contract.
use Rattle.std.proofs.Common.{rules, tests}
use Rattle.journal.specs.Geometry.{trap}
use Rattle.store.proofs.record.Record.most_waiting.Goals as goal

pub returns-in-1 : goal.returns-in-1
unfolding trap
returns-in-1 c = rw c.in-1.is

pub returns-in_default : goal.returns-in_default
unfolding trap
returns-in_default c = search (rules, tests)
