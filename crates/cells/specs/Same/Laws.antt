-- The laws of equal bytes: what `==` answers, and what a yes means. Behind them the laws of a comparison byte by byte and word by word, which
-- nothing cites today.
use Rattle.std.specs.Prelude.{ℕ, zero, suc, ◌+◌, ◌*◌, ◌≤◌, ◌<◌, ◌≡◌, refl, Bool, true, false, cond, ◌&&◌, ◌≢◌, List, [], ◌∷◌, eqb, length, take, drop, get_or}
use Rattle.std.proofs.Common.{ap, ap₂, ◌∙◌, arith, eq-eqb, ne_eqb, eqb-true, length-drop, drop-cons, drop-drop, get_or-drop}
use Rattle.std.proofs.Math.Bool.{and-false, and-eq-true_iff}
use Rattle.std.proofs.lemmas.Bool.{false≢true}
use Rattle.std.proofs.Math.Decide.{ℕ_discrete}
use Rattle.std.proofs.Math.Seq.{drop-length}
use Rattle.cells.specs.Little.{num, Bytes}
use Rattle.cells.specs.Little.Laws.{num_cons}
use Rattle.std.specs.Str.{bytes_eq}
use Rattle.cells.specs.Same.{same}

pub same-bytes_eq : (s t : List ℕ) → bytes_eq s t ≡ same s t
unfolding same
same-bytes_eq [] [] = refl
same-bytes_eq [] (y ∷ t) = refl
same-bytes_eq (x ∷ s) [] = refl
same-bytes_eq (x ∷ s) (y ∷ t) = ap (λ (b : Bool). eqb x y && b) (same-bytes_eq s t)

pub same_equal : (s t : List ℕ) → same s t ≡ true → s ≡ t
unfolding same
same_equal [] [] e = refl
same_equal [] (y ∷ t) e = absurd (false≢true e)
same_equal (x ∷ s) [] e = absurd (false≢true e)
same_equal (x ∷ s) (y ∷ t) e =
    let p = (and-eq-true_iff _ _).0 e in
    ap₂ (λ (h : ℕ) (l : List ℕ). h ∷ l) (eqb-true x y p.0) (same_equal s t p.1)

pub same_self : (s : List ℕ) → same s s ≡ true
unfolding same
same_self [] = refl
same_self (x ∷ s) = rw (eq-eqb x x refl) (same_self s)

-- what is left from byte i on
abbrev same_from : List ℕ → List ℕ → ℕ → Bool
same_from s t i = same (drop i s) (drop i t)

-- ---- byte by byte

same_lengths : (s t : List ℕ) → length s ≢ length t → same s t ≡ false
unfolding same
same_lengths [] [] h = absurd (h refl)
same_lengths [] (y ∷ t) h = refl
same_lengths (x ∷ s) [] h = refl
same_lengths (x ∷ s) (y ∷ t) h = rw (same_lengths s t (λ e. h (omega arith))) (and-false (eqb x y))

same_on : (s t : List ℕ) (i : ℕ) → i < length s → i < length t → get_or s i 0 ≡ get_or t i 0
    → same (drop i s) (drop i t) ≡ same (drop (suc i) s) (drop (suc i) t)
unfolding same
same_on s t i h k e = rw (drop-cons s i 0 h, drop-cons t i 0 k, eq-eqb _ _ e)

same_off : (s t : List ℕ) (i : ℕ) → i < length s → i < length t → get_or s i 0 ≢ get_or t i 0
    → same (drop i s) (drop i t) ≡ false
unfolding same
same_off s t i h k e = rw (drop-cons s i 0 h, drop-cons t i 0 k, ne_eqb _ _ e)

same_over : (s t : List ℕ) (i : ℕ) → i ≡ length s → i ≡ length t → same (drop i s) (drop i t) ≡ true
unfolding same
same_over s t i h k =
    let p : drop i s ≡ [] = rw h (drop-length s) in
    let q : drop i t ≡ [] = rw k (drop-length t) in
    rw (p, q)

-- ---- by numbers of k bytes

same_number : (k : ℕ) (s t : List ℕ) → k ≤ length s → k ≤ length t → Bytes s → Bytes t
    → cond (eqb (num (take k s)) (num (take k t))) (same (drop k s) (drop k t)) false ≡ same s t
unfolding same
same_number zero s t h l p q = rw (eq-eqb (num []) (num []) refl)
same_number (suc k) [] t h l p q = absurd (omega arith)
same_number (suc k) (x ∷ s) [] h l p q = absurd (omega arith)
same_number (suc k) (x ∷ s) (y ∷ t) h l p q =
    rw (num_cons x (take k s), num_cons y (take k t))
    (digits x y (num (take k s)) (num (take k t)) (p 0) (q 0) (same (drop k s) (drop k t))
    ∙ ap (λ (b : Bool). eqb x y && b) (same_number k s t (omega arith) (omega arith) (λ i. p (suc i)) (λ i. q (suc i))))
  where
    digits : (x y m n : ℕ) → x < 256 → y < 256 → (r : Bool)
        → cond (eqb (x + 256 * m) (y + 256 * n)) r false ≡ eqb x y && cond (eqb m n) r false
    digits x y m n hx hy r = go (ℕ_discrete x y) (ℕ_discrete m n)
      where
        go : Dec (x ≡ y) → Dec (m ≡ n) → cond (eqb (x + 256 * m) (y + 256 * n)) r false ≡ eqb x y && cond (eqb m n) r false
        go (yes e) (yes f) = rw (eq-eqb x y e, eq-eqb m n f, eq-eqb (x + 256 * m) (y + 256 * n) (omega arith))
        go (yes e) (no f) = rw (eq-eqb x y e, ne_eqb m n f, ne_eqb (x + 256 * m) (y + 256 * n) (λ z. f (omega arith)))
        go (no e) f = rw (ne_eqb x y e, ne_eqb (x + 256 * m) (y + 256 * n) (λ z. e (omega arith)))

-- at an offset
same_number_at : (k : ℕ) (s t : List ℕ) (at : ℕ) → at + k ≤ length s → at + k ≤ length t → Bytes s → Bytes t
    → cond (eqb (num (take k (drop at s))) (num (take k (drop at t)))) (same_from s t (at + k)) false ≡ same_from s t at
same_number_at k s t at h l p q =
    rw (← drop-drop k at s, ← drop-drop k at t)
    (same_number k (drop at s) (drop at t) (rw (length-drop) (omega arith)) (rw (length-drop) (omega arith)) (λ i. rw (get_or-drop at s i 0) (p (at + i))) (λ i. rw (get_or-drop at t i 0) (q (at + i))))

-- a loop over words: what was seen is 0 as long as they are the same
same_words : (s t : List ℕ) (i d x y d' : ℕ) → i + 8 ≤ length s → i + 8 ≤ length t → Bytes s → Bytes t
    → x ≡ num (take 8 (drop i s))
    → y ≡ num (take 8 (drop i t))
    → eqb d' 0 ≡ eqb d 0 && eqb x y
    → cond (eqb d 0) (same_from s t i) false ≡ same s t
    → cond (eqb d' 0) (same_from s t (i + 8)) false ≡ same s t
same_words s t i d x y d' h l p q ex ey e rest =
    ap (λ (b : Bool). cond b (same_from s t (i + 8)) false) e
    ∙ nested (eqb d 0) (eqb x y)
    ∙ ap (λ (b : Bool). cond (eqb d 0) b false) (rw (ex, ey) (same_number_at 8 s t i h l p q))
    ∙ rest
  where
    nested : (b c : Bool) → cond (b && c) (same_from s t (i + 8)) false ≡ cond b (cond c (same_from s t (i + 8)) false) false
    nested true c = refl
    nested false c = refl
