-- `store::record::Record::written` meets its contract.
use Rattle.std.proofs.Common.{refl}
use Rattle.journal.specs.Geometry.{trap}
use Rattle.store.specs.CodeState.{state_of}
use Rattle.store.specs.Direct.{direct_orders}
use Rattle.store.proofs.Saves.{given}
use Rattle.store.proofs.record.Record.written.Goals as goal

pub returns : goal.returns
returns c =
    let a = c.args in
    let o = c.give_orders.ensures in
    λ k. let st = state_of a.self a.settled.now a.waiting.now k in
    given (direct_orders trap a.address a.block.now st) _ a.self a.self st (record { waiting = a.self.waiting; power = a.self.power }) _ _ c.give_orders.result _ _ refl refl
    (o.happened_value k) (o.queue_after k) refl c.after.ensures
