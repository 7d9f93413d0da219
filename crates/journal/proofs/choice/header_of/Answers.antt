-- `journal::choice::header_of` meets its contract.
use mathlib.Core.Path.{ap, ◌∙◌}
use native.Mathlib.Omega.{arith}
use lib.ListN.{length}
use Rattle.journal.specs.Layout.{header_at}
use Rattle.journal.specs.Header.{decode}
use Rattle.journal.proofs.Logs.{length-block_at, block_read}
use Rattle.journal.proofs.choice.header_of.Goals as goal

pub read-requires-2 : goal.read-requires-2
read-requires-2 c =
    let s = c.args.settled in
    ap length (block_read c.read.result s header_at c.read.ensures) ∙ length-block_at s.now header_at (omega arith)

pub returns : goal.returns
returns c = c.read-2.ensures ∙ ap decode (block_read c.read.result c.args.settled header_at c.read.ensures)
