-- `journal::log::slot_block` meets its contract.
use Prim.Native.Nat.{ℕ, ◌+◌, ◌*◌}
use mathlib.Core.Path.{ap, ◌∙◌}
use native.Mathlib.Omega.{arith}
use Rattle.cells.specs.Entry.{block_bytes}
use Rattle.cells.specs.Part.{part_of}
use Rattle.journal.specs.Geometry.Laws.{trap-descriptors, trap-first}
use Rattle.journal.specs.Geometry.{trap}
use Rattle.journal.proofs.log.slot_block.Goals as goal

pub overflow_add-i : goal.overflow_add-i
overflow_add-i c = omega (arith, trap.addressed)

pub read-requires : goal.read-requires
read-requires c = omega (arith, trap-descriptors)

pub returns : goal.returns
returns c = c.read.ensures ∙ ap (λ (k : ℕ). part_of c.args.settled (block_bytes * (k + c.args.i)) block_bytes) trap-first
