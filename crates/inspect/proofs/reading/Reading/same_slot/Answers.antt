-- `inspect::reading::Reading::same_slot` meets its contract.
use Rattle.journal.specs.Geometry.{trap}
use Rattle.journal.proofs.Logs.{block_read}
use Rattle.inspect.proofs.Comparisons.{slot_unlike, slot_alike}
use Rattle.inspect.proofs.reading.Reading.same_slot.Goals as goal

pub returns-then-slot_address : goal.returns-then-slot_address
returns-then-slot_address c =
    let a = c.args.self.now.settled in
    let b = c.args.other.now.settled in
    slot_alike trap a.now b.now c.args.i _ _ c.slot_address.ensures c.slot_address-2.ensures _ _ _ c.if-slot_address.true
    (block_read c.slot_block.result a _ c.slot_block.ensures) (block_read c.slot_block-then-slot_address.result b _ c.slot_block-then-slot_address.ensures) c.same.ensures

pub returns-else-slot_address : goal.returns-else-slot_address
returns-else-slot_address c = slot_unlike trap c.args.self.now.settled.now c.args.other.now.settled.now c.args.i _ _ c.slot_address.ensures c.slot_address-2.ensures c.if-slot_address.false
