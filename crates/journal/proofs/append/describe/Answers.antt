-- `journal::append::describe` meets its contract.
use mathlib.Core.Path.{◌≡◌, ◌∙◌}
use mathlib.Core.List.{List}
use native.Mathlib.Omega.{arith}
use lib.ListN.{length, replicate, length-take}
use Rattle.cells.specs.Entry.{block_bytes, Entry}
use Rattle.journal.specs.Geometry.{trap}
use Rattle.journal.specs.Geometry.Laws.{trap-descriptors}
use Rattle.journal.specs.Log.{group_count, group_entries}
use Rattle.journal.proofs.Logs.{length-group_entries}
use Rattle.journal.proofs.Descriptors.{described}
use Rattle.journal.proofs.append.describe.Goals as goal

pub slice_bounds-copy-end : goal.slice_bounds-copy-end
slice_bounds-copy-end c = omega (arith, trap.described, trap-descriptors)

pub slice_bounds-copy-end-2 : goal.slice_bounds-copy-end-2
slice_bounds-copy-end-2 c = simp length-take (omega (arith, trap.described, trap-descriptors))

pub slice_bounds-copy-end-3 : goal.slice_bounds-copy-end-3
slice_bounds-copy-end-3 c = simp length-take (omega (arith, trap.described, trap-descriptors))

pub list_addresses-requires : goal.list_addresses-requires
list_addresses-requires c = omega (arith, trap.described, trap-descriptors)

pub returns : goal.returns
returns c =
    let a = c.args in
    let size : length a.block.now ≡ block_bytes = c.requires.block_len in
    let zeros : c.zero.new.s ≡ replicate block_bytes 0 = rw size at c.zero.ensures in
    let es : List Entry = group_entries a.group.now in
    let count : length es ≡ group_count a.group.now = length-group_entries a.group.now in
    c.list_addresses.ensures
    ∙ rw c.copy.ensures (described a.old.now c.zero.new.s a.n es (omega (arith, trap.described, trap-descriptors)) zeros (omega (arith, trap.described, trap-descriptors)))
