-- "The card is two lent buffers: the settled bytes, N blocks; and the waiting writes, […] places of 516 bytes, each a 4-byte
-- address and a block, oldest first." The power count says how many orders still happen.
use Rattle.std.specs.Prelude.{ℕ, suc, ◌+◌, ◌-◌, ◌/◌, cond, List, [], ◌∷◌, eqb, length}
use Rattle.cells.specs.Cell.{cell, set_cell}
use Rattle.cells.specs.Upto.{up_to}
use Rattle.cells.specs.Entry.{block_bytes, Entry, entry_at, set_entry}
use Rattle.card.specs.Disk.{Disk}
use Rattle.card.specs.Marks.{marks_at}

-- no queue has more places than this, so that its count fits 4 bytes
abbrev pub most_places : ℕ
most_places = 65536

pub record Card : Type 0 where
  pub settled : List ℕ
  pub waiting : List ℕ
  pub count : ℕ
  pub power : ℕ

-- N: how many blocks the settled bytes hold
abbrev pub blocks_in : List ℕ → ℕ
blocks_in s = length s / block_bytes

-- the block at an address
abbrev pub block_at : List ℕ → Disk
block_at s a = cell block_bytes s a

-- the waiting writes, oldest first
unfoldable pub queue : Card → List Entry
queue c = up_to (entry_at c.waiting) c.count

-- "Its orders: write adds one waiting write; flush settles all waiting writes, oldest first, and empties the queue."
pub data Order : Type 0 where
  write : Entry → Order
  flush : Order

-- settled bytes once the writes of a list have settled, in the list's order, whole
unfoldable pub settle : List Entry → List ℕ → List ℕ
settle [] s = s
settle (e ∷ es) s = settle es (set_cell block_bytes s e.address e.block)

-- an order that happens, "each taking 1" of the power. Waiting bytes beyond the count stay as they last were
unfoldable pub order : Order → Card → Card
order (write e) c = record { settled = c.settled; waiting = set_entry c.waiting c.count e; count = c.count + 1; power = c.power - 1 }
order flush c = record { settled = settle (queue c) c.settled; waiting = c.waiting; count = 0; power = c.power - 1 }

-- orders given one after the other: "An order at count 0 doesn't happen"
unfoldable pub run : List Order → Card → Card
run [] c = c
run (o ∷ os) c = cond (eqb c.power 0) c (run os (order o c))

-- W-204: "After a cut, each byte of another block is its settled one or that of any waiting write": a block with the bytes of a write
-- laid over it whose mark is 1
unfoldable pub torn : List ℕ → List ℕ → List ℕ → List ℕ
torn [] new old = old
torn (m ∷ ms) [] old = old
torn (m ∷ ms) (x ∷ new) [] = []
torn (m ∷ ms) (x ∷ new) (y ∷ old) = cond (eqb m 1) x y ∷ torn ms new old

-- the settled bytes once the kept bytes of the writes q, which wait from a place on, have settled, oldest write first: so "byte by byte
-- the newest kept write wins"
unfoldable pub settle_kept : List ℕ → ℕ → List Entry → List ℕ → List ℕ
settle_kept ms i [] s = s
settle_kept ms i (e ∷ q) s = settle_kept ms (suc i) q (set_cell block_bytes s e.address (torn (marks_at ms i) e.block (block_at s e.address)))

-- "The queue is emptied […] the power count stay[s]."
unfoldable pub cut : List ℕ → Card → Card
cut marks c = record { settled = settle_kept marks 0 (queue c) c.settled; waiting = c.waiting; count = 0; power = c.power }
