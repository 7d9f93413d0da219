-- The marks of a cut. W-204: "A cut now takes, for each waiting write, 512 marks instead of one": the oldest write's first, and of each
-- write one for each byte, "1 kept or 0 lost". Outside this crate a mark is spoken of by these names, and written out only where it comes from
-- outside, in the worked scripts and in `powercut`.
use Rattle.std.specs.Prelude.{ℕ, suc, ◌*◌, Bool, true, false, cond, not, ◌&&◌, ◌||◌, List, [], ◌∷◌, ◌++◌, map, eqb, ltb, length, replicate}
use Rattle.cells.specs.Cell.{cell}
use Rattle.cells.specs.Same.{same}
use Rattle.cells.specs.Entry.{block_bytes, Entry}

-- the marks of the write at a place of the queue
abbrev pub marks_at : List ℕ → ℕ → List ℕ
marks_at ms i = cell block_bytes ms i

-- that write is kept, and it is lost: all its marks are 1, or 0
unfoldable pub kept_at : List ℕ → ℕ → Bool
kept_at ms i = same (marks_at ms i) (replicate block_bytes 1)

unfoldable pub lost_at : List ℕ → ℕ → Bool
lost_at ms i = same (marks_at ms i) (replicate block_bytes 0)

-- every write is kept: every mark is 1
unfoldable pub all_kept : List ℕ → Bool
all_kept [] = true
all_kept (m ∷ ms) = eqb m 1 && all_kept ms

-- ---- marks that a cut accepts

-- "a mark over 1"
unfoldable pub over_one : List ℕ → Bool
over_one [] = false
over_one (m ∷ ms) = ltb 1 m || over_one ms

-- "for each waiting write, 512", and none over 1
unfoldable pub marks_for : List ℕ → ℕ → Bool
marks_for ms k = eqb (length ms) (block_bytes * k) && not (over_one ms)

-- "all 0 or all 1": the write at a place is not torn
unfoldable pub whole_at : List ℕ → ℕ → Bool
whole_at ms i = kept_at ms i || lost_at ms i

-- "The maker's new data sheet withdraws whole-block settling for all blocks except block 0"
abbrev pub whole_block : ℕ
whole_block = 0

-- "the marks of each write to block 0 must be all 0 or all 1": of the writes q, which wait from a place on
unfoldable pub headers_whole : List ℕ → ℕ → List Entry → Bool
headers_whole ms i [] = true
headers_whole ms i (e ∷ q) = (not (eqb e.address whole_block) || whole_at ms i) && headers_whole ms (suc i) q

-- marks that fit the waiting writes q
unfoldable pub marks_fit : List ℕ → List Entry → Bool
marks_fit ms q = marks_for ms (length q) && headers_whole ms 0 q

-- ---- marks for whole writes

-- "The script's single mark stands for 512 equal ones."
unfoldable pub spread : List ℕ → List ℕ
spread [] = []
spread (m ∷ ms) = replicate block_bytes m ++ spread ms

-- the marks that keep some writes and lose the others: for each waiting write, oldest first, whether it is kept
unfoldable pub marks_of : List Bool → List ℕ
marks_of ks = spread (map (λ k. cond k 1 0) ks)
