-- `cells::number::read_u32` meets its contract.
use Rattle.std.proofs.Common.{◌∙◌, arith}
use Rattle.cells.specs.Little.Laws.{num_four}
use Rattle.cells.proofs.number.read_u32.Goals as goal

pub returns : goal.returns
returns c = c.from_le_bytes.ensures ∙ rw (num_four c.args.s.now c.args.at c.requires) (omega arith)
