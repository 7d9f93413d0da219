-- "Layout": where header, descriptor, slots and data blocks lie in a geometry.
use Rattle.std.specs.Prelude.{ℕ, ◌+◌, ◌*◌, ◌/◌, ◌%◌, Bool, not, ◌&&◌, ◌||◌, List, eqb, leb, ltb, length}
use Rattle.cells.specs.Entry.{block_bytes}
use Rattle.card.specs.Card.{blocks_in}
use Rattle.journal.specs.Geometry.{Geometry, per_descriptor}
pub use Rattle.journal.specs.Geometry.{most_blocks}

-- "Block 0 is the header […] Block 1 is the descriptor"
abbrev pub header_at : ℕ
header_at = 0

abbrev pub descriptor_at : ℕ
descriptor_at = 1

-- the descriptor block that has slot i's address, and the address's place in that block
abbrev pub described_in : ℕ → ℕ
described_in i = descriptor_at + i / per_descriptor

abbrev pub described_at : ℕ → ℕ
described_at i = i % per_descriptor

-- where a block starts, in bytes
abbrev pub place_of : ℕ → ℕ
place_of a = block_bytes * a

module _ (geo : Geometry) where
  -- "Block 2+i holds slot i's block", behind header and descriptor blocks
  abbrev pub slot_at : ℕ → ℕ
  slot_at i = 1 + geo.descriptors + i

  -- "Data blocks are addresses 34 to N−1."
  abbrev pub first_data : ℕ
  first_data = slot_at geo.slots

  abbrev pub is_data : ℕ → ℕ → Bool
  is_data N a = leb first_data a && ltb a N

  -- "the settled bytes, N blocks, 35 ≤ N ≤ 65,536": at least one data block
  abbrev pub least_blocks : ℕ
  least_blocks = first_data + 1

  -- 1, of the settled bytes: "a lent buffer's length is wrong, N out of bounds"
  unfoldable pub wrong_size : List ℕ → Bool
  wrong_size s = not (eqb (length s % block_bytes) 0) || ltb (blocks_in s) least_blocks || ltb most_blocks (blocks_in s)
