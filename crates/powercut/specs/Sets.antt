-- The sets of kept writes that a cut is tried with, by number. Each write is kept whole or lost whole. Write i is the i-th waiting one,
-- oldest first, from 0. Up to 6: all sets, each by its bits. More, n of them: 0 keeps none; 1 to n keep one alone; n + 1 to 2n lose one
-- alone; 2n + 1 keeps all.
use Rattle.std.specs.Prelude.{ℕ, zero, suc, ◌≤◌, ◌+◌, ◌*◌, ◌/◌, ◌%◌, ◌^◌, ◌≡◌, Bool, cond, not, List, [], ◌∷◌, ◌++◌, map, eqb, leb}
use Rattle.cells.specs.Upto.{up_to}

-- up to how many waiting writes all sets are tried
abbrev pub few : ℕ
few = 6

-- how many sets there are for n waiting writes
unfoldable pub set_count : ℕ → ℕ
set_count n = cond (leb n few) (2 ^ n) (2 * n + 2)

-- whether a set keeps write i of n
unfoldable pub keeps : ℕ → ℕ → ℕ → Bool
keeps n set i = cond (leb n few) (eqb (set / 2 ^ i % 2) 1) (cond (leb set n) (eqb set (i + 1)) (not (eqb set (n + 1 + i))))

-- its mark, that of each byte
unfoldable pub mark : ℕ → ℕ → ℕ → ℕ
mark n set i = cond (keeps n set i) 1 0

-- the marks of a set, one for each write
unfoldable pub marks : ℕ → ℕ → List ℕ
marks n set = up_to (λ i. mark n set i) n

-- all lists of n marks: those that lose the newest write, then those that keep it
unfoldable pub all_marks : ℕ → List (List ℕ)
all_marks zero = [] ∷ []
all_marks (suc n) = map (λ l. l ++ (0 ∷ [])) (all_marks n) ++ map (λ l. l ++ (1 ∷ [])) (all_marks n)

-- up to 6 waiting writes, the sets are all there are, each once
abbrev pub EverySet : Type 0
EverySet = (n : ℕ) → n ≤ few → up_to (marks n) (set_count n) ≡ all_marks n
