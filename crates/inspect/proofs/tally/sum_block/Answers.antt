-- `inspect::tally::sum_block` meets its contract.
use mathlib.Core.Path.{ap, ◌∙◌}
use lib.ListN.{length}
use Rattle.journal.proofs.Logs.{length-block_at, block_read}
use Rattle.inspect.specs.Tally.{sum_bytes}
use Rattle.inspect.proofs.tally.sum_block.Goals as goal

pub sum_bytes-requires : goal.sum_bytes-requires
sum_bytes-requires c =
    ap length (block_read c.read.result c.args.settled c.args.a c.read.ensures) ∙ length-block_at c.args.settled.now c.args.a c.requires

pub returns-clause-value : goal.returns-clause-value
returns-clause-value c = c.sum_bytes.ensures.value ∙ ap sum_bytes (block_read c.read.result c.args.settled c.args.a c.read.ensures)
