-- `inspect::reading::Reading::sum_data` meets its contract. The invariant: the sum is that of the home blocks with each slot below i laid over
-- that is the last with its address, and at most a block's bytes have come on top for each.
use Prim.Native.Nat.{◌+◌, ◌*◌, ◌≤◌}
use mathlib.Core.Path.{◌≡◌}
use Rattle.cells.specs.Entry.{block_bytes}
use Rattle.journal.specs.Geometry.{trap}
use Rattle.inspect.specs.Reading.{data_blocks}
use Rattle.inspect.proofs.Corrections.{sum_below}
use Rattle.inspect.proofs.reading.Reading.sum_data.Given as goal

abbrev pub invariant-loop-i : goal.invariant-loop-i
invariant-loop-i l = (l.sum ≡ sum_below trap l.self.settled.now l.self.blocks l.self.count l.i) × (l.sum ≤ 255 * block_bytes * (data_blocks trap l.self.blocks + l.i))
