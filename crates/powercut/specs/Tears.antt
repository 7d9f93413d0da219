-- The tears that a cut is tried with, by number. W-204: "After a cut, each byte of another block is its settled one or that of any waiting
-- write to that block." Of n waiting writes the first k can be torn, all but a header. Each is torn alone, oldest first, and then all are,
-- each time in three ways. What is not torn is kept, a header too.
use Rattle.std.specs.Prelude.{ℕ, ◌+◌, ◌*◌, ◌-◌, ◌/◌, ◌%◌, Bool, cond, not, ◌&&◌, List, eqb, leb, ltb}
use Rattle.cells.specs.Entry.{block_bytes, entry_at}
use Rattle.cells.specs.Upto.{up_to}
use Rattle.journal.specs.Layout.{header_at}

-- how many of the n writes that wait can be torn: all but a header, which waits as the last
unfoldable pub tearable : List ℕ → ℕ → ℕ
tearable waiting n = cond (eqb n 0) 0 (cond (eqb (entry_at waiting (n - 1)).address header_at) (n - 1) n)

-- the ways to tear a write: its first half is kept, its second half, every other byte
abbrev pub ways : ℕ
ways = 3

abbrev pub half : ℕ
half = block_bytes / 2

-- whether byte j of a write is kept that is torn in this way
unfoldable pub keeps_byte : ℕ → ℕ → Bool
keeps_byte way j = cond (eqb way 0) (ltb j half) (cond (eqb way 1) (leb half j) (eqb (j % 2) 0))

-- how many tears there are
unfoldable pub tear_count : ℕ → ℕ
tear_count k = cond (eqb k 0) 0 (ways * (k + 1))

-- whether a tear tears write i
unfoldable pub tears : ℕ → ℕ → ℕ → Bool
tears k tear i = cond (eqb (tear / ways) k) (ltb i k) (eqb i (tear / ways))

-- the mark of byte j of write i
unfoldable pub torn_mark : ℕ → ℕ → ℕ → ℕ → ℕ
torn_mark k tear i j = cond (tears k tear i && not (keeps_byte (tear % ways) j)) 0 1

-- the marks of a tear
unfoldable pub torn_marks : ℕ → ℕ → ℕ → List ℕ
torn_marks n k tear = up_to (λ x. torn_mark k tear (x / block_bytes) (x % block_bytes)) (block_bytes * n)
