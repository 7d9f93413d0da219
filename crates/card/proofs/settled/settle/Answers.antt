-- `card::settled::settle` meets its contract.
use Prim.Native.Nat.{◌+◌, ◌*◌, ◌-◌}
use mathlib.Core.Path.{◌≡◌}
use native.Mathlib.Omega.{arith}
use Rattle.cells.specs.Cell.Laws.{put-cell}
use Rattle.card.proofs.settled.settle.Goals as goal

pub returns : goal.returns
returns c =
    let a = c.args in
    let at = 512 * a.address in
    let e : c.copy.new.dst ≡ a.block.now = c.copy.ensures in
    rw e (put-cell 512 a.settled.now a.address a.block.now (at + 512 - at) (omega arith) c.requires.block_len (omega arith))
