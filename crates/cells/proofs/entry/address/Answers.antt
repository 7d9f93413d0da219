-- `cells::entry::address` meets its contract.
use mathlib.Core.Path.{sym, ◌∙◌}
use Rattle.cells.specs.Entry.Laws.{address_part}
use Rattle.cells.proofs.entry.address.Goals as goal

pub returns : goal.returns
returns c = c.read_u32.ensures ∙ sym (address_part c.args.s.now c.args.i)
