-- `journal::wanted::wanted` meets its contract.
use mathlib.Core.Path.{sym, ◌∙◌, ap}
use Rattle.cells.specs.Cell.Laws.{cell_part}
use Rattle.cells.specs.Little.{num}
use Rattle.journal.proofs.wanted.wanted.Goals as goal

pub returns : goal.returns
returns c =
    let a = c.args in
    c.read_u32.ensures ∙ ap num (sym (cell_part 4 a.list.now a.i))
