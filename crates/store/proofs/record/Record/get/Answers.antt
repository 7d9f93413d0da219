-- `store::record::Record::get` meets its contract.
use Rattle.journal.specs.Geometry.{trap}
use Rattle.store.specs.CodeState.{state_of}
use Rattle.store.proofs.Places.{get_within}
use Rattle.store.proofs.record.Record.get.Goals as goal

pub part-requires : goal.part-requires
part-requires c =
    let a = c.args in
    rw c.get_place.ensures (get_within trap a.address (state_of a.self a.settled.now a.waiting.now a.work.now))
