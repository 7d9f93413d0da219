-- `store::get_list::copy_unlogged` meets its contract.
use Prim.Native.Nat.{ℕ}
use mathlib.Core.Path.{◌≡◌, ap, ◌∙◌}
use mathlib.Core.List.{List}
use native.Mathlib.Omega.{arith}
use lib.ListN.{length, length-take, length-drop}
use Rattle.cells.specs.Part.{View}
use Rattle.store.proofs.get_list.copy_unlogged.Goals as goal

-- the bytes of a part that was handed out
abbrev bytes : View → List ℕ
bytes v = v.bytes

pub copy-requires : goal.copy-requires
copy-requires c =
    let inside = c.requires.waited_in_bounds c.in-Some.i c.in-Some.is in
    let e : length c.block.result.now ≡ 512 = ap length (ap bytes c.block.ensures) ∙ rw (length-take, length-drop) (omega (arith, inside.0)) in
    omega arith

pub copy-requires-2 : goal.copy-requires-2
copy-requires-2 c = let e : length c.read.result.now ≡ 512 = ap length (ap bytes c.read.ensures) ∙ rw (length-take, length-drop) (omega arith) in omega arith
