-- `store::record::Record::wrong_lists` meets its contract.
use Rattle.std.proofs.Common.{rules, tests}
use Rattle.journal.specs.Geometry.{trap}
use Rattle.store.specs.Causes.{wrong_lists}
use Rattle.store.proofs.record.Record.wrong_lists.Goals as goal

pub strays-requires-else-strays : goal.strays-requires-else-strays
unfolding trap
strays-requires-else-strays c = search rules

pub twice-requires-else-twice : goal.twice-requires-else-twice
unfolding trap
twice-requires-else-twice c = search rules

pub returns-then-twice : goal.returns-then-twice
unfolding wrong_lists trap
returns-then-twice c = λ w. search (rules, tests)

pub returns-else-twice : goal.returns-else-twice
unfolding wrong_lists trap
returns-else-twice c = λ w. search (rules, tests)
