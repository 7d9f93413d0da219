-- `journal::log::slot_address` meets its contract.
use Prim.Native.Nat.{ℕ, ◌<◌}
use mathlib.Core.Path.{◌≡◌, ap₂, sym, ◌∙◌}
use mathlib.Core.List.{List}
use native.Mathlib.Omega.{arith}
use Rattle.cells.specs.Cell.{cell}
use Rattle.cells.specs.Cell.Laws.{cell_part}
use Rattle.cells.specs.Little.{num}
use Rattle.card.specs.Card.{block_at}
use Rattle.journal.specs.Geometry.{trap}
use Rattle.journal.specs.Geometry.Laws.{trap-descriptors}
use Rattle.journal.specs.Layout.{descriptor_at, described_in, described_at}
use Rattle.journal.specs.Log.{slot_address}
use Rattle.journal.proofs.Logs.{length-block_at, block_read}
use Rattle.journal.proofs.log.slot_address.Goals as goal

-- the one descriptor block has every address
one_block : (s : List ℕ) (i : ℕ) → i < trap.slots → slot_address s i ≡ num (cell 4 (block_at s descriptor_at) i)
unfolding slot_address
one_block s i h =
    let first : described_in i ≡ descriptor_at = omega (arith, trap.described, trap-descriptors) in
    let place : described_at i ≡ i = omega (arith, trap.described, trap-descriptors) in
    ap₂ (λ (a k : ℕ). num (cell 4 (block_at s a) k)) first place

pub read_u32-requires : goal.read_u32-requires
read_u32-requires c = rw (block_read c.read.result c.args.settled descriptor_at c.read.ensures, length-block_at c.args.settled.now descriptor_at (omega arith)) (omega (arith, trap.described, trap-descriptors))

pub returns : goal.returns
returns c =
    let s = c.args.settled in
    c.read_u32.ensures
    ∙ sym (one_block s.now c.args.i c.requires.i_lt_slots
    ∙ rw (block_read c.read.result s descriptor_at c.read.ensures, cell_part 4 (block_at s.now descriptor_at) c.args.i))
