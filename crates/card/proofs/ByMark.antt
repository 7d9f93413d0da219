-- The marks that fit, mark by mark.
use Prim.Native.Nat.{ℕ, zero, suc, ◌+◌, ◌*◌, ◌≤◌, ◌<◌}
use mathlib.Core.Path.{◌≡◌, refl, ap, sym, ◌∙◌}
use mathlib.Core.Bool.{Bool, true, false, not, ◌||◌}
use mathlib.Core.List.{List, [], ◌∷◌}
use native.Mathlib.Nat.{add-zero, zero-add}
use native.Mathlib.Omega.{arith}
use borrow.Author.Tests.{eq-eqb}
use lib.Dec.{eqb}
use lib.ListN.{length, get_or}
use Rattle.cells.specs.Cell.Laws.{get_or-cell}
use Rattle.cells.specs.Entry.{block_bytes, Entry}
use Rattle.card.specs.Marks.{marks_at, kept_at, lost_at, marks_for, whole_at, whole_block, headers_whole, marks_fit}
use Rattle.card.specs.Torn.{address_at, RightMarks}
use Rattle.card.proofs.MarkLaws.{both, fits_length, fits_headers, fits_low, headers_by, kept-marks, lost-marks, filled_at, low_at, low_none}

-- the marks of the write at a place are alike
abbrev AlikeAt : List ℕ → ℕ → Type 0
AlikeAt ms i = (j : ℕ) → j < block_bytes → get_or ms (block_bytes * i + j) 0 ≡ get_or ms (block_bytes * i) 0

-- ---- marks that fit are right

whole_alike : (ms : List ℕ) (i : ℕ) → whole_at ms i ≡ true → AlikeAt ms i
unfolding whole_at
whole_alike ms i h j l = go (kept_at ms i) refl
  where
    at : (m : ℕ) → ((k : ℕ) → k < block_bytes → get_or (marks_at ms i) k 0 ≡ m) → get_or ms (block_bytes * i + j) 0 ≡ get_or ms (block_bytes * i) 0
    at m f =
        sym (get_or-cell block_bytes ms i j l)
        ∙ f j l
        ∙ sym (f 0 (omega arith))
        ∙ get_or-cell block_bytes ms i 0 (omega arith)
        ∙ ap (λ (k : ℕ). get_or ms k 0) (add-zero (block_bytes * i))

    go : (t : Bool) → kept_at ms i ≡ t → get_or ms (block_bytes * i + j) 0 ≡ get_or ms (block_bytes * i) 0
    go true p = at 1 (kept-marks ms i p)
    go false p = at 0 (lost-marks ms i (rw p at h))

headers_each : (ms : List ℕ) (i : ℕ) (q : List Entry) → headers_whole ms i q ≡ true → (k : ℕ) → k < length q → address_at q k ≡ 0 → AlikeAt ms (i + k)
unfolding headers_whole
headers_each ms i [] h k l z = absurd (omega arith)
headers_each ms i (e ∷ q) h zero l z =
    let p = both (not (eqb e.address whole_block) || whole_at ms i) (headers_whole ms (suc i) q) h in
    rw (add-zero i) (whole_alike ms i (rw (eq-eqb e.address whole_block z) at p.0))
headers_each ms i (e ∷ q) h (suc k) l z =
    let p = both (not (eqb e.address whole_block) || whole_at ms i) (headers_whole ms (suc i) q) h in
    let place : i + suc k ≡ suc i + k = omega arith in
    rw place (headers_each ms (suc i) q p.1 k (omega arith) z)

pub fit_right : (ms : List ℕ) (q : List Entry) → marks_fit ms q ≡ true → RightMarks ms q
fit_right ms q h = record {
  number = fits_length ms q h;
  low = λ x l. low_at ms x (fits_low ms q h);
  alike = λ i j l z b. rw (zero-add i) at (headers_each ms 0 q (fits_headers ms q h) i l z j b);
}

-- ---- right marks fit

alike_whole : (ms : List ℕ) (i : ℕ) → block_bytes * i + block_bytes ≤ length ms → get_or ms (block_bytes * i) 0 ≤ 1 → AlikeAt ms i → whole_at ms i ≡ true
unfolding whole_at kept_at lost_at
alike_whole ms i room low h = go (get_or ms (block_bytes * i) 0) low (λ j b. get_or-cell block_bytes ms i j b ∙ h j b)
  where
    last : (t : Bool) → t || true ≡ true
    last true = refl
    last false = refl

    go : (m : ℕ) → m ≤ 1 → ((j : ℕ) → j < block_bytes → get_or (marks_at ms i) j 0 ≡ m) → kept_at ms i || lost_at ms i ≡ true
    go zero l f = rw (filled_at 0 ms i room f) (last (kept_at ms i))
    go (suc zero) l f = rw (filled_at 1 ms i room f)
    go (suc (suc m)) l f = absurd (omega arith)

pub right_fit : (ms : List ℕ) (q : List Entry) → RightMarks ms q → marks_fit ms q ≡ true
unfolding marks_fit marks_for
right_fit ms q r = rw (eq-eqb _ _ r.number, low_none ms r.low) (headers_by ms 0 q (λ k l z. ap (whole_at ms) (zero-add k) ∙ one k l z))
  where
    one : (k : ℕ) → k < length q → address_at q k ≡ whole_block → whole_at ms k ≡ true
    one k l z = let size : length ms ≡ block_bytes * length q = r.number in alike_whole ms k (omega arith) (r.low (block_bytes * k) (omega arith)) (λ j b. r.alike k j l z b)
