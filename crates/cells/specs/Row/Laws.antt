-- The laws of a row, each once over its fields.
use Rattle.std.specs.Prelude.{ℕ, ◌+◌, ◌^◌, ◌≤◌, ◌<◌, ◌≡◌, refl, List, [], ◌∷◌, ◌++◌, length, get_or, take, drop}
use Rattle.std.proofs.Common.{ap, ap₂, sym, ◌∙◌, append_assoc, zero-add, add_assoc, add_comm, arith, length-append, length-drop, take-append-drop, drop_of_length-le, take_at, drop_at, drop-drop, length-take-le}
use Rattle.std.proofs.lemmas.List.Edits.{sets, sets-eq}
use Rattle.cells.specs.Cell.Laws.{sets-append, bytes_take, bytes_drop}
use Rattle.cells.specs.Little.{le, num, Bytes}
use Rattle.cells.specs.Little.Laws.{length-le, num_lt, num-le, le-num}
use Rattle.cells.specs.Row.{Field, total, row, values_from}

pub length-row : {A : Type 0} (fs : List (Field A)) (a : A) → length (row fs a) ≡ total fs
length-row [] a = refl
length-row (f ∷ fs) a = rw (length-append, length-le, length-row fs a)

-- the numbers of a, as a row has them
abbrev pub values_of : {A : Type 0} → List (Field A) → A → List ℕ
values_of [] a = []
values_of (f ∷ fs) a = f.1 a ∷ values_of fs a

-- each fits its width
abbrev pub Fits : {A : Type 0} → List (Field A) → A → Type 0
Fits [] a = Unit {0}
Fits (f ∷ fs) a = (f.1 a < 256 ^ f.0) × Fits fs a

-- ---- what is written is read

-- the offset moves into the bytes
values-drop : {A : Type 0} (fs : List (Field A)) (at k : ℕ) (b : List ℕ) → values_from fs (k + at) b ≡ values_from fs at (drop k b)
values-drop [] at k b = refl
values-drop (f ∷ fs) at k b = rw (add_assoc, values-drop fs (at + f.0) k b, drop-drop)

pub values-row : {A : Type 0} (fs : List (Field A)) (a : A) (rest : List ℕ) → Fits fs a → values_from fs 0 (row fs a ++ rest) ≡ values_of fs a
values-row [] a rest h = refl
values-row (f ∷ fs) a rest h = ap₂ (λ (x : ℕ) (l : List ℕ). x ∷ l) first (others ∙ values-row fs a rest h.1)
  where
    here : List ℕ
    here = le f.0 (f.1 a)

    behind : List ℕ
    behind = row fs a ++ rest

    first : num (take f.0 (here ++ row fs a ++ rest)) ≡ f.1 a
    first = rw (append_assoc, take_at here behind f.0 (length-le f.0 (f.1 a))) (num-le f.0 (f.1 a) h.0)

    others : values_from fs (0 + f.0) (here ++ row fs a ++ rest) ≡ values_from fs 0 behind
    others = rw (append_assoc, add_comm 0 f.0, values-drop fs 0 f.0 (here ++ behind), drop_at here behind f.0 (length-le f.0 (f.1 a)))

-- ---- what is read is written back

-- the number of w bytes is those bytes
num_part : (w : ℕ) (b : List ℕ) (at : ℕ) → Bytes b → at + w ≤ length b → le w (num (take w (drop at b))) ≡ take w (drop at b)
num_part w b at h l =
    let t : List ℕ = take w (drop at b) in
    let size : length t ≡ w = length-take-le w (drop at b) (rw (length-drop) (omega arith)) in
    ap (λ (k : ℕ). le k (num t)) (sym size) ∙ le-num t (bytes_take w (drop at b) (bytes_drop at b h))

-- and fits them
num_fits : (w : ℕ) (b : List ℕ) (at : ℕ) → Bytes b → at + w ≤ length b → num (take w (drop at b)) < 256 ^ w
num_fits w b at h l =
    let t : List ℕ = take w (drop at b) in
    let size : length t ≡ w = length-take-le w (drop at b) (rw (length-drop) (omega arith)) in
    rw size at (num_lt t (bytes_take w (drop at b) (bytes_drop at b h)))

-- numbers that were read from bytes fit their widths
pub values_fit : {A : Type 0} (fs : List (Field A)) (at : ℕ) (a : A) (b : List ℕ) → values_of fs a ≡ values_from fs at b → Bytes b → at + total fs ≤ length b → Fits fs a
values_fit [] at a b e h l = tt
values_fit (f ∷ fs) at a b e h l =
    let first : f.1 a ≡ num (take f.0 (drop at b)) = ap (λ (vs : List ℕ). get_or vs 0 0) e in
    let others : values_of fs a ≡ values_from fs (at + f.0) b = ap (drop 1) e in
    (rw first (num_fits f.0 b at h (omega arith)), values_fit fs (at + f.0) a b others h (omega arith))

row_from : {A : Type 0} (fs : List (Field A)) (at : ℕ) (a : A) (b : List ℕ) → values_of fs a ≡ values_from fs at b → Bytes b → length b ≡ at + total fs
    → row fs a ≡ drop at b
row_from [] at a b e h l = let past : length b ≤ at = omega arith in sym (drop_of_length-le b past)
row_from (f ∷ fs) at a b e h l =
    let first : f.1 a ≡ num (take f.0 (drop at b)) = ap (λ (vs : List ℕ). get_or vs 0 0) e in
    let others : values_of fs a ≡ values_from fs (at + f.0) b = ap (drop 1) e in
    rw (first, num_part f.0 b at h (omega arith), row_from fs (at + f.0) a b others h (omega arith), ← drop-drop f.0 at b)
    (take-append-drop f.0 (drop at b))

pub row-values : {A : Type 0} (fs : List (Field A)) (a : A) (b : List ℕ) → values_of fs a ≡ values_from fs 0 b → Bytes b → length b ≡ total fs → row fs a ≡ b
row-values fs a b e h l = row_from fs 0 a b e h (l ∙ sym (zero-add (total fs)))

-- ---- stored number by number

-- what the stores leave, from an offset on
abbrev pub stored_from : {A : Type 0} → List (Field A) → ℕ → A → List ℕ → List ℕ
stored_from [] at a s = s
stored_from (f ∷ fs) at a s = stored_from fs (at + f.0) a (sets s at (le f.0 (f.1 a)))

stored-sets : {A : Type 0} (fs : List (Field A)) (at : ℕ) (a : A) (s : List ℕ) → stored_from fs at a s ≡ sets s at (row fs a)
stored-sets [] at a s = refl
stored-sets (f ∷ fs) at a s =
    rw (stored-sets fs (at + f.0) a (sets s at (le f.0 (f.1 a))), sets-append (le f.0 (f.1 a)) (row fs a) s at, length-le)

-- the row, and behind it what was there
pub stored_row : {A : Type 0} (fs : List (Field A)) (a : A) (s : List ℕ) → total fs ≤ length s → stored_from fs 0 a s ≡ row fs a ++ drop (total fs) s
stored_row fs a s h =
    let size : length (row fs a) ≡ total fs = length-row fs a in
    let room : 0 + length (row fs a) ≤ length s = omega arith in
    stored-sets fs 0 a s ∙ sets-eq (row fs a) s 0 room ∙ ap (λ (k : ℕ). row fs a ++ drop k s) (zero-add (length (row fs a)) ∙ size)
