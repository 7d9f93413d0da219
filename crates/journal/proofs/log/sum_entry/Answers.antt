-- `journal::log::sum_entry` meets its contract.
use mathlib.Core.Path.{◌≡◌, sym, ◌∙◌}
use lib.ListN.{replicate}
use Rattle.cells.specs.Little.{le}
use Rattle.cells.specs.Little.Laws.{length-le}
use Rattle.journal.proofs.Logs.{sets_whole, sum_of-one}
use Rattle.journal.proofs.log.sum_entry.Goals as goal

pub returns : goal.returns
returns c =
    let a = c.args in
    let bytes : c.write_u32.new.s ≡ le 4 a.address = c.write_u32.ensures ∙ sets_whole (le 4 a.address) (replicate 4 0) (length-le 4 a.address) in
    c.sum_from-2.ensures
    ∙ rw (c.sum_from.ensures, bytes)
    (sym (sum_of-one a.h (record { address = a.address; block = a.block.now })))
