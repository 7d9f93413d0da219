-- `journal::append::list_addresses` meets its contract.
use Rattle.std.proofs.Common.{refl, ◌∙◌}
use Rattle.cells.specs.Entry.{entry_at}
use Rattle.journal.specs.Orders.{address_bytes}
use Rattle.journal.proofs.Descriptors.{addresses_more}
use Rattle.journal.proofs.append.list_addresses.Goals as goal

pub loop-i-init : goal.loop-i-init
unfolding address_bytes
loop-i-init c = refl

pub loop-i-preserved : goal.loop-i-preserved
loop-i-preserved c =
    let l = c.loop-i in
    let a = c.args in
    c.write_u32.ensures ∙ rw l.invariant (addresses_more a.block.now a.at (entry_at a.group.now) l.i c.address.result c.address.ensures)
