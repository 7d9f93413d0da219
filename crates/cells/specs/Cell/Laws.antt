-- The laws of cells, each once over the cell's size k.
use Rattle.std.specs.Prelude.{ℕ, zero, suc, ◌+◌, ◌*◌, ◌≤◌, ◌<◌, min, ◌≡◌, refl, ◌≢◌, ◌⊎◌, List, [], ◌∷◌, ◌++◌, length, take, drop, get_or, set, replicate}
use Rattle.std.proofs.Common.{ap, sym, ◌∙◌, ⊎_elim, append_assoc, arith, lit<, length-take, length-drop, length-take-le, take_all, take_at, drop_at, drop-drop, get_or-take, get_or-drop, get_or-set_other, ext_get_or}
use native.Mathlib.Nat.{mul-suc, mul-le-mul_left, add-suc, suc-add}
use Rattle.std.proofs.Math.Decide.{dec_lt}
use Rattle.std.proofs.lemmas.List.{length-replicate, get_or-replicate, set-get_or}
use Rattle.std.proofs.lemmas.List.Edits.{sets, sets-eq}
use Rattle.std.proofs.Math.Seq.{length-sets, take-nil}
use Rattle.cells.specs.Cell.{cell, set_cell}
use Rattle.cells.specs.Little.{Bytes}

-- ---- stores of a run of bytes

-- before the run and behind it every byte is as it was
pub sets_outside : (vs l : List ℕ) (i j : ℕ) → (j < i) ⊎ (i + length vs ≤ j) → get_or (sets l i vs) j 0 ≡ get_or l j 0
sets_outside [] l i j h = refl
sets_outside (v ∷ vs) l i j h =
    sets_outside vs (set l i v) (suc i) j (⊎_elim (λ p. ◌⊎◌.inl (omega arith)) (λ p. ◌⊎◌.inr (omega arith)) h)
    ∙ get_or-set_other l i j v 0 (⊎_elim (λ p e. omega arith) (λ p e. omega arith) h)

pub sets-append : (u v l : List ℕ) (i : ℕ) → sets l i (u ++ v) ≡ sets (sets l i u) (i + length u) v
sets-append [] v l i = rw (native.Mathlib.Nat.add-zero)
sets-append (x ∷ u) v l i = sets-append u v (set l i x) (suc i) ∙ rw (suc-add, ← add-suc i (length u))

-- what a middle part that was lent on leaves, once it is back
pub put-sets : (a n : ℕ) (s v : List ℕ) → a + n ≤ length s → n ≡ length v → take a s ++ (v ++ drop n (drop a s)) ≡ sets s a v
put-sets a n s v h e =
    let h' : a + length v ≤ length s = omega arith in
    rw (e, sets-eq v s a h', append_assoc, drop-drop)

-- ---- places

-- a cell ends where, or before, a later one begins
pub apart : (k : ℕ) {i j : ℕ} → i < j → k * i + k ≤ k * j
apart k {i} {j} h = rw (← mul-suc k i) (mul-le-mul_left k h)

-- ---- one cell

pub drop-take : (a b : ℕ) (l : List ℕ) → drop a (take (a + b) l) ≡ take b (drop a l)
drop-take zero b l = rw (native.Mathlib.Nat.zero-add)
drop-take (suc a) b [] = rw (suc-add, take-nil)
drop-take (suc a) b (x ∷ l) = rw (suc-add) (drop-take a b l)

pub cell_part : (k : ℕ) (s : List ℕ) (i : ℕ) → cell k s i ≡ take k (drop (k * i) s)
unfolding cell
cell_part k s i = refl

pub length-cell : (k : ℕ) (s : List ℕ) (i : ℕ) → k * i + k ≤ length s → length (cell k s i) ≡ k
unfolding cell
length-cell k s i h = length-take-le k (drop (k * i) s) (rw (length-drop) (omega arith))

pub get_or-cell : (k : ℕ) (s : List ℕ) (i j : ℕ) → j < k → get_or (cell k s i) j 0 ≡ get_or s (k * i + j) 0
unfolding cell
get_or-cell k s i j h = get_or-take k (drop (k * i) s) j 0 h ∙ get_or-drop (k * i) s j 0

pub bytes_take : (n : ℕ) (l : List ℕ) → Bytes l → Bytes (take n l)
bytes_take zero l h j = lit< tt
bytes_take (suc n) [] h j = h j
bytes_take (suc n) (x ∷ l) h zero = h zero
bytes_take (suc n) (x ∷ l) h (suc j) = bytes_take n l (λ m. h (suc m)) j

pub bytes_drop : (n : ℕ) (l : List ℕ) → Bytes l → Bytes (drop n l)
bytes_drop n l h j = rw (get_or-drop) (h (n + j))

pub bytes-cell : (k : ℕ) (s : List ℕ) (i : ℕ) → Bytes s → Bytes (cell k s i)
unfolding cell
bytes-cell k s i h = bytes_take k (drop (k * i) s) (bytes_drop (k * i) s h)

-- ---- a cell overwritten

-- k bytes stored at the cell's place
pub sets-cell : (k : ℕ) (s : List ℕ) (i : ℕ) (v : List ℕ) → length v ≡ k → sets s (k * i) v ≡ set_cell k s i v
unfolding set_cell
sets-cell k s i v e = ap (λ (x : List ℕ). sets s (k * i) x) (sym (take_all k v (omega arith)))

-- what a lent cell leaves, once it is back
pub put-cell : (k : ℕ) (s : List ℕ) (i : ℕ) (v : List ℕ) (n : ℕ) → k * i + k ≤ length s → length v ≡ k → n ≡ k
    → take (k * i) s ++ (v ++ drop n (drop (k * i) s)) ≡ set_cell k s i v
put-cell k s i v n h e p = put-sets (k * i) n s v (omega arith) (omega arith) ∙ sets-cell k s i v e

pub length_set_cell : (k : ℕ) (s : List ℕ) (i : ℕ) (v : List ℕ) → length (set_cell k s i v) ≡ length s
unfolding set_cell
length_set_cell k s i v = length-sets s (k * i) (take k v)

pub cell_same : (k : ℕ) (s : List ℕ) (i : ℕ) (v : List ℕ) → k * i + k ≤ length s → length v ≡ k → cell k (set_cell k s i v) i ≡ v
unfolding cell set_cell
cell_same k s i v h e =
    let p : k * i + length v ≤ length s = omega arith in
    rw (take_all k v (omega arith), sets-eq v s (k * i) p, append_assoc, drop_at (take (k * i) s) (v ++ drop (k * i + length v) s) (k * i) (length-take-le (k * i) s (omega arith)))
    (take_at v (drop (k * i + length v) s) k e)

-- the cell that stands there, stored, changes nothing
pub set_own : (k : ℕ) (s : List ℕ) (i : ℕ) → set_cell k s i (cell k s i) ≡ s
unfolding cell set_cell
set_own k s i = own (take k (take k (drop (k * i) s))) (k * i) s (λ j l. get_or-take k (take k (drop (k * i) s)) j 0 (inner j l) ∙ get_or-take k (drop (k * i) s) j 0 (inner j l) ∙ get_or-drop (k * i) s j 0)
  where
    inner : (j : ℕ) → j < length (take k (take k (drop (k * i) s))) → j < k
    inner j l = let e : length (take k (take k (drop (k * i) s))) ≡ min k (length (take k (drop (k * i) s))) = length-take k (take k (drop (k * i) s)) in omega arith

    own : (vs : List ℕ) (p : ℕ) (l : List ℕ) → ((j : ℕ) → j < length vs → get_or vs j 0 ≡ get_or l (p + j) 0) → sets l p vs ≡ l
    own [] p l h = refl
    own (v ∷ vs) p l h =
        let same : set l p v ≡ l = (let z : v ≡ get_or l p 0 = h 0 (omega arith) ∙ ap (λ (x : ℕ). get_or l x 0) (native.Mathlib.Nat.add-zero p) in ap (set l p) z ∙ set-get_or l p 0) in
        rw same (own vs (suc p) l (λ j b. let z : suc p + j ≡ p + suc j = omega arith in rw z (h (suc j) (omega arith))))

pub cell_other : (k : ℕ) (s : List ℕ) (i j : ℕ) (v : List ℕ) → j ≢ i → cell k (set_cell k s i v) j ≡ cell k s j
unfolding cell set_cell
cell_other k s i j v h =
    ext_get_or 0 (take k (drop (k * j) (set_cell k s i v))) (take k (drop (k * j) s)) same_length same
  where
    same_length : length (take k (drop (k * j) (set_cell k s i v))) ≡ length (take k (drop (k * j) s))
    same_length = simp (length-take, length-drop, length_set_cell)

    room : length (take k v) ≤ k
    room = rw (length-take) (omega arith)

    outside : (x : ℕ) → x < k → (k * j + x < k * i) ⊎ (k * i + length (take k v) ≤ k * j + x)
    outside x p = go (dec_lt j i)
      where
        go : Dec (j < i) → (k * j + x < k * i) ⊎ (k * i + length (take k v) ≤ k * j + x)
        go (yes q) = let a : k * j + k ≤ k * i = apart k q in ◌⊎◌.inl (omega arith)
        go (no q) =
            let less : i < j = omega arith in
            let a : k * i + k ≤ k * j = apart k less in
            let r : length (take k v) ≤ k = room in
            ◌⊎◌.inr (omega arith)

    same : (x : ℕ) → x < length (take k (drop (k * j) (set_cell k s i v))) → get_or (take k (drop (k * j) (set_cell k s i v))) x 0 ≡ get_or (take k (drop (k * j) s)) x 0
    same x p =
        let q : x < min k (length (drop (k * j) (set_cell k s i v))) = rw (length-take) at p in
        let less : x < k = omega arith in
        get_or-take k (drop (k * j) (set_cell k s i v)) x 0 less
        ∙ get_or-drop (k * j) (set_cell k s i v) x 0
        ∙ sets_outside (take k v) s (k * i) (k * j + x) (outside x less)
        ∙ sym (get_or-drop (k * j) s x 0)
        ∙ sym (get_or-take k (drop (k * j) s) x 0 less)

-- ---- the whole by its cells

-- every cell of zeros is zeros
pub cell-zeros : (k n i : ℕ) → k * i + k ≤ n → cell k (replicate n 0) i ≡ replicate k 0
cell-zeros k n i h =
    let z : k * i + k ≤ length (replicate {A = ℕ} n 0) = rw (length-replicate) h in
    let size : length (cell k (replicate n 0) i) ≡ k = length-cell k (replicate n 0) i z in
    ext_get_or 0 (cell k (replicate n 0) i) (replicate k 0) (size ∙ sym (length-replicate k 0))
    (λ x p.
    let less : x < k = omega arith in
    get_or-cell k (replicate n 0) i x less ∙ get_or-replicate n (k * i + x) 0 0 (omega arith) ∙ sym (get_or-replicate k x 0 0 less))
