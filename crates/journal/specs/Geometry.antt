-- The geometry of a card: how many slots and descriptor blocks its log has, how many places the queue, and what the laws know of
-- these numbers. Definitions and laws take a geometry as their parameter; only `trap` has numbers in it.
pub mod Laws
use Rattle.std.specs.Prelude.{ℕ, ◌+◌, ◌*◌, ◌/◌, ◌≤◌, ◌<◌}
use Rattle.cells.specs.Entry.{block_bytes}
use Rattle.card.specs.Card.{most_places}

-- the addresses that a descriptor block holds: 128
abbrev pub per_descriptor : ℕ
per_descriptor = block_bytes / 4

-- "at most 65,536" blocks
abbrev pub most_blocks : ℕ
most_blocks = 65536

pub record Geometry : Type 0 where
  pub slots : ℕ
  pub descriptors : ℕ
  -- W-209: the direct writes that may wait in an open record
  pub direct : ℕ
  pub places : ℕ
  -- the descriptor blocks have an address for each slot
  pub described : slots ≤ per_descriptor * descriptors
  pub directed : 0 < direct
  -- the longest list of orders: behind direct writes all slots, the descriptor blocks and the header wait
  pub queued : direct + slots + descriptors + 1 ≤ places
  -- the count of waiting writes fits the record's 4 bytes
  pub counted : places ≤ most_places
  -- header, descriptor blocks, slots and a data block lie below the largest N
  pub addressed : 1 + descriptors + slots < most_blocks

-- the trap: "slot i (0 to 31)"; W-209: "The waiting queue grows to 66 places", "An open record may have up to 32 waiting writes"
abbrev pub trap_slots : ℕ
trap_slots = 32

abbrev pub trap_direct : ℕ
trap_direct = 32

abbrev pub trap_places : ℕ
trap_places = 66

-- "Block 1 is the descriptor". Proofs about code open it; laws and theorems take any geometry
unfoldable pub trap : Geometry
trap = record {
  slots = trap_slots;
  descriptors = 1;
  direct = trap_direct;
  places = trap_places;
  described = lib.Dec.lit≤ tt;
  directed = lib.Dec.lit< tt;
  queued = lib.Dec.lit≤ tt;
  counted = lib.Dec.lit≤ tt;
  addressed = lib.Dec.lit< tt;
}
