-- Marks that tear nothing: one for each write, spread over its bytes.
use Prim.Native.Nat.{ℕ, zero, suc, ◌*◌, ◌≤◌, ◌<◌}
use mathlib.Core.Path.{◌≡◌, refl, ap, sym, ◌∙◌}
use mathlib.Core.Bool.{Bool, true, false, not, cond, ◌&&◌, ◌||◌, true≢false}
use mathlib.Core.Logic.{◌≢◌}
use mathlib.Core.List.{List, [], ◌∷◌, map}
use native.Mathlib.Nat.{zero-add}
use native.Mathlib.Omega.{arith}
use native.Mathlib.Decide.{dec_lt}
use borrow.Author.Tests.{eqb-true, eqb-false, eq-eqb, ne_eqb}
use lib.Dec.{eqb, ltb}
use lib.ListN.{length, get_or, take, replicate, length-append, length-map, length-replicate, get_or-replicate, drop_of_length-le, get_or-eq_default}
use lib.Seq.{take-nil}
use Rattle.cells.specs.Cell.Laws.{cell_part}
use Rattle.cells.specs.Same.{same}
use Rattle.cells.specs.Same.Laws.{same_equal, same_self}
use Rattle.cells.specs.Entry.{block_bytes, Entry}
use Rattle.card.specs.Marks.{marks_at, kept_at, lost_at, all_kept, over_one, marks_for, whole_at, headers_whole, marks_fit, spread, marks_of}
use Rattle.card.proofs.MarkLaws.{headers_by, front_at, behind_at, over_append, low_at, kept_append}

pub length-spread : (ms : List ℕ) → length (spread ms) ≡ block_bytes * length ms
unfolding spread
length-spread [] = refl
length-spread (m ∷ ms) =
    let r : length (spread ms) ≡ block_bytes * length ms = length-spread ms in
    let k : length (replicate block_bytes m) ≡ block_bytes = length-replicate block_bytes m in
    length-append (replicate block_bytes m) (spread ms) ∙ (omega arith)

-- a write's marks are equal
spread_at : (ms : List ℕ) (i : ℕ) → i < length ms → marks_at (spread ms) i ≡ replicate block_bytes (get_or ms i 0)
unfolding spread
spread_at [] i h = absurd (omega arith)
spread_at (m ∷ ms) zero h = front_at (replicate block_bytes m) (spread ms) (length-replicate block_bytes m)
spread_at (m ∷ ms) (suc i) h = behind_at (replicate block_bytes m) (spread ms) i (length-replicate block_bytes m) ∙ spread_at ms i (omega arith)

-- behind the last write there are none
spread_past : (ms : List ℕ) (i : ℕ) → length ms ≤ i → marks_at (spread ms) i ≡ []
spread_past ms i h =
    let size : length (spread ms) ≡ block_bytes * length ms = length-spread ms in
    let past : length (spread ms) ≤ block_bytes * i = omega arith in
    cell_part block_bytes (spread ms) i ∙ ap (take block_bytes) (drop_of_length-le (spread ms) past) ∙ take-nil block_bytes

-- every mark of a write is its one; behind the last write there is 0
pub spread-mark : (ms : List ℕ) (i j : ℕ) → j < block_bytes → get_or (marks_at (spread ms) i) j 0 ≡ get_or ms i 0
spread-mark ms i j h = go (dec_lt i (length ms))
  where
    go : Dec (i < length ms) → get_or (marks_at (spread ms) i) j 0 ≡ get_or ms i 0
    go (yes l) = ap (λ (b : List ℕ). get_or b j 0) (spread_at ms i l) ∙ get_or-replicate block_bytes j (get_or ms i 0) 0 h
    go (no l) =
        let past : length ms ≤ i = omega arith in
        ap (λ (b : List ℕ). get_or b j 0) (spread_past ms i past) ∙ sym (get_or-eq_default ms 0 past)

over_alike : (k m : ℕ) → 0 < k → over_one (replicate k m) ≡ ltb 1 m
unfolding over_one
over_alike zero m h = absurd (omega arith)
over_alike (suc zero) m h = go (ltb 1 m)
  where
    go : (t : Bool) → t || false ≡ t
    go true = refl
    go false = refl
over_alike (suc (suc k)) m h = rw (over_alike (suc k) m (omega arith)) (go (ltb 1 m))
  where
    go : (t : Bool) → t || t ≡ t
    go true = refl
    go false = refl

-- a mark over 1 is one still
over_spread : (ms : List ℕ) → over_one (spread ms) ≡ over_one ms
unfolding spread over_one
over_spread [] = refl
over_spread (m ∷ ms) = rw (over_append (replicate block_bytes m) (spread ms), over_alike block_bytes m (omega arith), over_spread ms)

-- all kept: each mark of a write is its one
kept_alike : (k m : ℕ) → 0 < k → all_kept (replicate k m) ≡ eqb m 1
unfolding all_kept
kept_alike zero m h = absurd (omega arith)
kept_alike (suc zero) m h = go (eqb m 1)
  where
    go : (t : Bool) → t && true ≡ t
    go true = refl
    go false = refl
kept_alike (suc (suc k)) m h = rw (kept_alike (suc k) m (omega arith)) (go (eqb m 1))
  where
    go : (t : Bool) → t && t ≡ t
    go true = refl
    go false = refl

kept-spread : (ms : List ℕ) → all_kept (spread ms) ≡ all_kept ms
unfolding spread all_kept
kept-spread [] = refl
kept-spread (m ∷ ms) = rw (kept_append (replicate block_bytes m) (spread ms), kept_alike block_bytes m (omega arith), kept-spread ms)

-- equal marks, or none at all
same-replicate : (k m n : ℕ) → 0 < k → same (replicate k m) (replicate k n) ≡ eqb m n
same-replicate k m n h = go (eqb m n) refl
  where
    go : (t : Bool) → eqb m n ≡ t → same (replicate k m) (replicate k n) ≡ t
    go true p = rw (eqb-true m n p) (same_self (replicate k n))
    go false p = other (same (replicate k m) (replicate k n)) refl
      where
        other : (t : Bool) → same (replicate k m) (replicate k n) ≡ t → t ≡ false
        other false e = refl
        other true e =
            let one : m ≡ n = sym (get_or-replicate k 0 m 0 h) ∙ ap (λ (l : List ℕ). get_or l 0 0) (same_equal _ _ e) ∙ get_or-replicate k 0 n 0 h in
            absurd (true≢false (sym (eq-eqb _ _ one) ∙ p))

spread-kept : (ms : List ℕ) (i : ℕ) → i < length ms → kept_at (spread ms) i ≡ eqb (get_or ms i 0) 1
unfolding kept_at
spread-kept ms i h = ap (λ (b : List ℕ). same b (replicate block_bytes 1)) (spread_at ms i h) ∙ same-replicate block_bytes (get_or ms i 0) 1 (omega arith)

spread-lost : (ms : List ℕ) (i : ℕ) → i < length ms → lost_at (spread ms) i ≡ eqb (get_or ms i 0) 0
unfolding lost_at
spread-lost ms i h = ap (λ (b : List ℕ). same b (replicate block_bytes 0)) (spread_at ms i h) ∙ same-replicate block_bytes (get_or ms i 0) 0 (omega arith)

-- document 01's row 10: "marks not as many as waiting, or a mark over 1"
spread_for : (ms : List ℕ) (k : ℕ) → marks_for (spread ms) k ≡ eqb (length ms) k && not (over_one ms)
unfolding marks_for
spread_for ms k = rw (over_spread ms, count (eqb (length ms) k) refl)
  where
    size : length (spread ms) ≡ block_bytes * length ms
    size = length-spread ms

    count : (t : Bool) → eqb (length ms) k ≡ t → eqb (length (spread ms)) (block_bytes * k) ≡ eqb (length ms) k
    count true p = let e : length ms ≡ k = eqb-true _ _ p in rw p (eq-eqb (length (spread ms)) (block_bytes * k) (omega (arith, size)))
    count false p = let e : length ms ≢ k = eqb-false _ _ p in rw p (ne_eqb (length (spread ms)) (block_bytes * k) (λ z. e (omega (arith, size))))

-- a write is not torn
spread_whole : (ms : List ℕ) (i : ℕ) → i < length ms → over_one ms ≡ false → whole_at (spread ms) i ≡ true
unfolding whole_at
spread_whole ms i h r = rw (spread-kept ms i h, spread-lost ms i h) (go (eqb (get_or ms i 0) 1) refl (low_at ms i r))
  where
    go : (t : Bool) → eqb (get_or ms i 0) 1 ≡ t → get_or ms i 0 ≤ 1 → t || eqb (get_or ms i 0) 0 ≡ true
    go true z low = refl
    go false z low = let one : get_or ms i 0 ≢ 1 = eqb-false _ _ z in eq-eqb (get_or ms i 0) 0 (omega arith)

-- so that row is all of row 10
pub spread_fits : (ms : List ℕ) (q : List Entry) → marks_fit (spread ms) q ≡ eqb (length ms) (length q) && not (over_one ms)
unfolding marks_fit
spread_fits ms q = rw (spread_for ms (length q)) (go (eqb (length ms) (length q)) (over_one ms) refl refl)
  where
    go : (t u : Bool) → eqb (length ms) (length q) ≡ t → over_one ms ≡ u → (t && not u) && headers_whole (spread ms) 0 q ≡ t && not u
    go false u p r = refl
    go true true p r = refl
    go true false p r =
        headers_by (spread ms) 0 q
        (λ k l z. let inside : k < length ms = let e : length ms ≡ length q = eqb-true _ _ p in omega arith in ap (whole_at (spread ms)) (zero-add k) ∙ spread_whole ms k inside r)

-- ---- marks that keep some writes

abbrev pub singles : List Bool → List ℕ
singles ks = map (λ k. cond k 1 0) ks

-- every one of them
abbrev pub all_true : List Bool → Bool
all_true [] = true
all_true (k ∷ ks) = k && all_true ks

low-singles : (ks : List Bool) → over_one (singles ks) ≡ false
unfolding over_one
low-singles [] = refl
low-singles (true ∷ ks) = low-singles ks
low-singles (false ∷ ks) = low-singles ks

pub marks_of_fit : (ks : List Bool) (q : List Entry) → length ks ≡ length q → marks_fit (marks_of ks) q ≡ true
unfolding marks_of
marks_of_fit ks q h = spread_fits (singles ks) q ∙ rw (low-singles ks, length-map, eq-eqb _ _ h)

pub marks_of_for : (ks : List Bool) → marks_for (marks_of ks) (length ks) ≡ true
unfolding marks_of
marks_of_for ks = spread_for (singles ks) (length ks) ∙ rw (low-singles ks, length-map, eq-eqb (length ks) (length ks) refl)

pub marks_of_whole : (ks : List Bool) (i : ℕ) → i < length ks → whole_at (marks_of ks) i ≡ true
unfolding marks_of
marks_of_whole ks i h = spread_whole (singles ks) i (rw (length-map) h) (low-singles ks)

-- whether a write is kept
single : (ks : List Bool) (i : ℕ) → eqb (get_or (singles ks) i 0) 1 ≡ get_or ks i false
single [] i = refl
single (true ∷ ks) zero = refl
single (false ∷ ks) zero = refl
single (k ∷ ks) (suc i) = single ks i

unsingle : (ks : List Bool) (i : ℕ) → i < length ks → eqb (get_or (singles ks) i 0) 0 ≡ not (get_or ks i false)
unsingle [] i h = absurd (omega arith)
unsingle (true ∷ ks) zero h = refl
unsingle (false ∷ ks) zero h = refl
unsingle (k ∷ ks) (suc i) h = unsingle ks i (omega arith)

pub marks_of-lost : (ks : List Bool) (i : ℕ) → i < length ks → lost_at (marks_of ks) i ≡ not (get_or ks i false)
unfolding marks_of
marks_of-lost ks i h = spread-lost (singles ks) i (rw (length-map) h) ∙ unsingle ks i h

pub marks_of-kept : (ks : List Bool) (i : ℕ) → i < length ks → kept_at (marks_of ks) i ≡ get_or ks i false
unfolding marks_of
marks_of-kept ks i h = spread-kept (singles ks) i (rw (length-map) h) ∙ single ks i

pub marks_of-all : (ks : List Bool) → all_kept (marks_of ks) ≡ all_true ks
unfolding marks_of all_kept
marks_of-all ks = kept-spread (singles ks) ∙ all ks
  where
    all : (ks : List Bool) → all_kept (singles ks) ≡ all_true ks
    all [] = refl
    all (true ∷ ks) = all ks
    all (false ∷ ks) = refl

-- ---- marks that keep all

abbrev pub ones : List Entry → List ℕ
ones q = marks_of (replicate (length q) true)

pub ones_fit : (q : List Entry) → marks_fit (ones q) q ≡ true
ones_fit q = marks_of_fit (replicate (length q) true) q (length-replicate (length q) true)

pub ones-kept : (q : List Entry) → all_kept (ones q) ≡ true
ones-kept q = marks_of-all (replicate (length q) true) ∙ every (length q)
  where
    every : (k : ℕ) → all_true (replicate k true) ≡ true
    every zero = refl
    every (suc k) = every k
