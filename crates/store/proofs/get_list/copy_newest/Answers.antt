-- `store::get_list::copy_newest` meets its contract.
use Prim.Native.Nat.{ℕ}
use mathlib.Core.Path.{◌≡◌, ap, ◌∙◌}
use mathlib.Core.List.{List}
use native.Mathlib.Omega.{arith}
use lib.ListN.{length, length-take, length-drop}
use Rattle.cells.specs.Part.{View}
use Rattle.journal.specs.Geometry.{trap}
use Rattle.store.proofs.get_list.copy_newest.Goals as goal

-- the bytes of a part that was handed out
abbrev bytes : View → List ℕ
bytes v = v.bytes

pub copy-requires : goal.copy-requires
unfolding trap
copy-requires c =
    let inside = c.requires.opened_lt_slots c.in-Some.i c.in-Some.is in
    let e : length c.block.result.now ≡ 512 = ap length (ap bytes c.block.ensures) ∙ rw (length-take, length-drop) (omega (arith, inside)) in
    omega arith

pub block-requires-in-Some-grouped : goal.block-requires-in-Some-grouped
unfolding trap
block-requires-in-Some-grouped c = omega (arith, c.requires.grouped_lt_slots c.in-Some-grouped.i c.in-Some-grouped.is)

pub copy-requires-in-Some-grouped : goal.copy-requires-in-Some-grouped
unfolding trap
copy-requires-in-Some-grouped c =
    let inside = c.requires.grouped_lt_slots c.in-Some-grouped.i c.in-Some-grouped.is in
    let e : length c.block-in-Some-grouped.result.now ≡ 512 = ap length (ap bytes c.block-in-Some-grouped.ensures) ∙ rw (length-take, length-drop) (omega (arith, inside)) in
    omega arith

pub returns-in-Some-grouped : goal.returns-in-Some-grouped
unfolding trap
returns-in-Some-grouped c = λ r. rw (c.in_default.is, c.in-Some-grouped.is) (c.copy-in-Some-grouped.ensures ∙ ap bytes c.block-in-Some-grouped.ensures)

pub copy-requires-in-Some-logged : goal.copy-requires-in-Some-logged
unfolding trap
copy-requires-in-Some-logged c =
    let inside = c.requires.logged_lt_slots c.in-Some-logged.k c.in-Some-logged.is in
    let e : length c.slot_block.result.now ≡ 512 = ap length (ap bytes c.slot_block.ensures) ∙ rw (length-take, length-drop) (omega (arith, inside)) in
    omega arith
