-- `store::record::Record::show` meets its contract: the lists of places are as long as a list may be.
use Rattle.std.proofs.Common.{arith, ◌≤◌}
use Rattle.journal.specs.Wanted.{wanted_count}
use Rattle.journal.proofs.Chains.{met_none}
use Rattle.store.specs.Causes.{most_wanted}
use Rattle.store.proofs.record.Record.show.Goals as goal

pub walk-slots-requires : goal.walk-slots-requires
walk-slots-requires c =
    let few : wanted_count c.of-chains.result.list.now ≤ most_wanted = rw c.of-chains.ensures c.requires.list_bound.0 in
    (omega arith, (c.requires.trap_bound.0, (c.requires.opened_le_slots.2, (few, met_none c.of-chains.result.list.now most_wanted few))))

pub look-requires-clause-met : goal.look-requires-clause-met
look-requires-clause-met c =
    let few : wanted_count c.of-chains.result.list.now ≤ most_wanted = rw c.of-chains.ensures c.requires.list_bound.0 in
    met_none c.of-chains.result.list.now most_wanted few

pub look_work-requires-clause-met : goal.look_work-requires-clause-met
look_work-requires-clause-met c =
    let few : wanted_count c.of-chains.result.list.now ≤ most_wanted = rw c.of-chains.ensures c.requires.list_bound.0 in
    let none = met_none c.of-chains.result.list.now most_wanted few in
    (none, none)
