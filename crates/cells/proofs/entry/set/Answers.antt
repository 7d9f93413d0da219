-- `cells::entry::set` meets its contract.
use Prim.Native.Nat.{◌+◌, ◌*◌, ◌-◌, ◌≤◌}
use mathlib.Core.Path.{◌≡◌, ◌∙◌}
use native.Mathlib.Omega.{arith}
use lib.ListN.{length}
use lib.Seq.{sets, length-sets}
use Rattle.cells.specs.Little.{le}
use Rattle.cells.specs.Cell.Laws.{put-sets}
use Rattle.cells.specs.Entry.Laws.{stored}
use Rattle.cells.proofs.entry.set.Goals as goal

pub returns : goal.returns
returns c =
    let a = c.args in
    let at = 516 * a.i in
    let first : c.write_u32.new.s ≡ sets a.s.now at (le 4 a.address) = c.write_u32.ensures in
    let second : c.copy.new.dst ≡ a.block.now = c.copy.ensures in
    let size : length a.block.now ≡ 512 = c.requires.block_len in
    let room : at + 4 + 512 ≤ length (sets a.s.now at (le 4 a.address)) = rw (length-sets) (omega arith) in
    rw (first, second)
    (put-sets (at + 4) (at + 4 + 512 - (at + 4)) (sets a.s.now at (le 4 a.address)) a.block.now (omega arith) (omega arith)
    ∙ stored a.s.now a.i (record { address = a.address; block = a.block.now }) size)
