-- `script::text::append` meets its contract.
use Prim.Native.Nat.{◌+◌, ◌-◌}
use mathlib.Core.Path.{◌≡◌, refl}
use native.Mathlib.Omega.{arith}
use lib.ListN.{length}
use Rattle.cells.specs.Cell.Laws.{put-sets}
use Rattle.script.proofs.text.append.Goals as goal

pub returns : goal.returns
returns c =
    let a = c.args in
    let e : c.copy_from_slice.new.self ≡ a.bytes.now = c.copy_from_slice.ensures.after in
    (refl, rw e (put-sets a.at (a.at + length a.bytes.now - a.at) a.out.now a.bytes.now (omega arith) (omega arith)))
