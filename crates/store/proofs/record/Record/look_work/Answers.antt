-- `store::record::Record::look_work` meets its contract.
use Rattle.std.proofs.Common.{arith}
use Rattle.journal.specs.Geometry.{trap}
use Rattle.store.proofs.record.Record.look_work.Goals as goal

pub look-requires-clause-n_in_bounds : goal.look-requires-clause-n_in_bounds
unfolding trap
look-requires-clause-n_in_bounds c = omega arith

pub returns-clause-met_3 : goal.returns-clause-met_3
unfolding trap
returns-clause-met_3 c = c.look.ensures
