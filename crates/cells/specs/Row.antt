-- A row: numbers of fixed widths, little-endian, one behind the other. Its fields are listed once; writing and reading go by the list.
pub mod Laws
use Rattle.std.specs.Prelude.{ℕ, ◌+◌, List, [], ◌∷◌, ◌++◌, take, drop}
use Rattle.cells.specs.Little.{le, num}

-- a field of A: its width in bytes, and the number that stands there
abbrev pub Field : Type 0 → Type 0
Field A = ℕ × (A → ℕ)

-- the bytes of a row
abbrev pub total : {A : Type 0} → List (Field A) → ℕ
total [] = 0
total (f ∷ fs) = f.0 + total fs

-- the bytes that stand for a
abbrev pub row : {A : Type 0} → List (Field A) → A → List ℕ
row [] a = []
row (f ∷ fs) a = le f.0 (f.1 a) ++ row fs a

-- the numbers that bytes stand for, from an offset on
abbrev pub values_from : {A : Type 0} → List (Field A) → ℕ → List ℕ → List ℕ
values_from [] at b = []
values_from (f ∷ fs) at b = num (take f.0 (drop at b)) ∷ values_from fs (at + f.0) b
