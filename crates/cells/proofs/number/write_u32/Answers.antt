-- `cells::number::write_u32` meets its contract.
use Rattle.std.proofs.Common.{◌≡◌, ◌+◌, ◌-◌, ◌∙◌, arith, w32}
use Rattle.cells.specs.Little.{le}
use Rattle.cells.specs.Little.Laws.{le-to_le_bytes, length-le}
use Rattle.cells.specs.Cell.Laws.{put-sets}
use Rattle.cells.proofs.number.write_u32.Goals as goal

pub returns : goal.returns
returns c =
    let a = c.args in
    let bytes : c.copy_from_slice.new.self ≡ le 4 a.v = c.copy_from_slice.ensures.after ∙ c.to_le_bytes.ensures ∙ le-to_le_bytes w32 a.v in
    rw bytes (put-sets a.at (a.at + 4 - a.at) a.s.now (le 4 a.v) (omega arith) (rw (length-le) (omega arith)))
