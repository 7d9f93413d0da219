-- What a cut takes and leaves, said in other ways: which marks it takes, mark by mark; what it leaves, byte by byte; the byte that a given
-- write has for a block; and the cut of marks that tear nothing, as document 01 has it.
use Rattle.std.specs.Prelude.{ℕ, zero, suc, ◌+◌, ◌*◌, ◌≤◌, ◌<◌, ◌≡◌, cond, ◌&&◌, List, [], ◌∷◌, eqb, length, get_or}
use Rattle.cells.specs.Entry.{block_bytes, Entry}
use Rattle.card.specs.Card.{Card, queue, settle}

-- the address of the write at a place of the queue; a place behind the last has none
abbrev pub address_at : List Entry → ℕ → ℕ
address_at [] i = 0
address_at (e ∷ q) zero = e.address
address_at (e ∷ q) (suc i) = address_at q i

-- the marks ms are right for the waiting writes q: "for each waiting write, 512", "1 kept or 0 lost", and those of each write to block 0 alike,
-- so "all 0 or all 1". Mark 512·i + j is of byte j of the write at place i
pub record RightMarks (ms : List ℕ) (q : List Entry) : Type 0 where
  pub number : length ms ≡ block_bytes * length q
  pub low : (x : ℕ) → x < length ms → get_or ms x 0 ≤ 1
  pub alike : (i j : ℕ) → i < length q → address_at q i ≡ 0 → j < block_bytes → get_or ms (block_bytes * i + j) 0 ≡ get_or ms (block_bytes * i) 0

-- byte j of block a: of the writes q, which wait from place i on, the newest to that block whose mark for it, number 512·i + j, is 1 has it,
-- else it is x
unfoldable pub newest_byte : List ℕ → ℕ → ℕ → ℕ → List Entry → ℕ → ℕ
newest_byte ms i a j [] x = x
newest_byte ms i a j (e ∷ q) x = newest_byte ms (suc i) a j q (cond (eqb a e.address && eqb (get_or ms (block_bytes * i + j) 0) 1) (get_or e.block j 0) x)

-- byte j of block a as the write at place i of the queue has it, x if no write to that block waits there
unfoldable pub byte_of : ℕ → ℕ → ℕ → List Entry → ℕ → ℕ
byte_of i a j [] x = x
byte_of zero a j (e ∷ q) x = cond (eqb a e.address) (get_or e.block j 0) x
byte_of (suc i) a j (e ∷ q) x = byte_of i a j q x

-- document 01: "one mark for each waiting write, 1 kept or 0 lost": the writes that are kept
unfoldable pub kept : List ℕ → List Entry → List Entry
kept [] es = []
kept (m ∷ ms) [] = []
kept (m ∷ ms) (e ∷ es) = cond (eqb m 1) (e ∷ kept ms es) (kept ms es)

-- "Kept writes settle, oldest first, whole."
unfoldable pub whole_cut : List ℕ → Card → Card
whole_cut marks c = record { settled = settle (kept marks (queue c)) c.settled; waiting = c.waiting; count = 0; power = c.power }
