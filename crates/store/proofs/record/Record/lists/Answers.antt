-- `store::record::Record::lists` meets its contract.
use Rattle.std.proofs.Common.{rules}
use Rattle.journal.specs.Geometry.{trap}
use Rattle.store.proofs.record.Record.lists.Goals as goal

pub holds-requires-else-holds : goal.holds-requires-else-holds
unfolding trap
holds-requires-else-holds c = search rules

pub returns-then-holds-2 : goal.returns-then-holds-2
unfolding trap
returns-then-holds-2 c = search rules

pub returns-else-holds-2 : goal.returns-else-holds-2
unfolding trap
returns-else-holds-2 c = search rules
