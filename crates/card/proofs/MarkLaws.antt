-- The laws of the names by which marks are spoken of. Those of marks that tear nothing stand in Spreads.antt.
use Prim.Native.Nat.{ℕ, zero, suc, ◌+◌, ◌-◌, ◌*◌, ◌≤◌, ◌<◌}
use mathlib.Core.Path.{◌≡◌, refl, ap, sym, ◌∙◌}
use mathlib.Core.Bool.{Bool, true, false, not, ◌&&◌, ◌||◌, false≢true, true≢false}
use mathlib.Core.Logic.{◌≢◌}
use mathlib.Core.List.{List, [], ◌∷◌, ◌++◌, map}
use native.Mathlib.Nat.{zero-add, add-zero}
use native.Mathlib.Numerals.{add-one}
use native.Mathlib.Omega.{arith}
use native.Mathlib.Decide.{ℕ_discrete}
use borrow.Author.Tests.{eqb-true, eqb-false, eq-eqb, ne_eqb, ltb-false, le-ltb, not-true}
use lib.Dec.{eqb, ltb}
use lib.ListN.{length, get_or, drop, replicate, length-append, length-drop, length-replicate, get_or-replicate}
use lib.Seq.{ext_get_or, get_or-drop, take_at, drop-append-add}
use Rattle.std.specs.List.{list_any, list_all, range_with_len}
use Rattle.std.proofs.lemmas.List.Folds.{list_all-append, list_all-map}
use Rattle.std.proofs.lemmas.List.FromFn.{map-range_with_len_more}
use Rattle.std.proofs.Math.Bool.{and-true}
use Rattle.cells.specs.Cell.Laws.{cell_part, length-cell, get_or-cell}
use Rattle.cells.specs.Same.{same}
use Rattle.cells.specs.Same.Laws.{same_equal, same_self}
use Rattle.cells.specs.Upto.{up_to}
use Rattle.cells.specs.Upto.Laws.{length-up_to}
use Rattle.cells.specs.Entry.{block_bytes, Entry}
use Rattle.card.specs.Marks.{marks_at, kept_at, lost_at, all_kept, over_one, marks_for, whole_at, whole_block, headers_whole, marks_fit}
use Rattle.card.specs.Torn.{address_at}
use Rattle.card.proofs.All.{All, all_at}

-- ---- what the library's `any` and `all` say of marks

pub over_one-any : (ms : List ℕ) → list_any (ltb 1) ms ≡ over_one ms
unfolding over_one
over_one-any [] = refl
over_one-any (m ∷ ms) = ap (λ (b : Bool). ltb 1 m || b) (over_one-any ms)

pub filled-all : (m : ℕ) (ms : List ℕ) → list_all (λ x. eqb x m) ms ≡ same ms (replicate (length ms) m)
unfolding same
filled-all m [] = refl
filled-all m (x ∷ ms) = ap (λ (b : Bool). eqb x m && b) (filled-all m ms)

pub both : (a b : Bool) → a && b ≡ true → (a ≡ true) × (b ≡ true)
both true b e = (refl, e)
both false b e = absurd (false≢true e)

-- ---- marks that fit

for_length : (ms : List ℕ) (k : ℕ) → marks_for ms k ≡ true → length ms ≡ block_bytes * k
unfolding marks_for
for_length ms k h = eqb-true _ _ (both (eqb (length ms) (block_bytes * k)) (not (over_one ms)) h).0

for_low : (ms : List ℕ) (k : ℕ) → marks_for ms k ≡ true → over_one ms ≡ false
unfolding marks_for
for_low ms k h = not-true (over_one ms) (both (eqb (length ms) (block_bytes * k)) (not (over_one ms)) h).1

pub fits_headers : (ms : List ℕ) (q : List Entry) → marks_fit ms q ≡ true → headers_whole ms 0 q ≡ true
unfolding marks_fit
fits_headers ms q h = (both (marks_for ms (length q)) (headers_whole ms 0 q) h).1

pub fits_length : (ms : List ℕ) (q : List Entry) → marks_fit ms q ≡ true → length ms ≡ block_bytes * length q
unfolding marks_fit
fits_length ms q h = for_length ms (length q) (both (marks_for ms (length q)) (headers_whole ms 0 q) h).0

pub fits_low : (ms : List ℕ) (q : List Entry) → marks_fit ms q ≡ true → over_one ms ≡ false
unfolding marks_fit
fits_low ms q h = for_low ms (length q) (both (marks_for ms (length q)) (headers_whole ms 0 q) h).0

-- ---- writes to block 0

headers_append : (ms : List ℕ) (i : ℕ) (a b : List Entry) → headers_whole ms i (a ++ b) ≡ headers_whole ms i a && headers_whole ms (i + length a) b
unfolding headers_whole
headers_append ms i [] b = rw (add-zero i)
headers_append ms i (e ∷ a) b =
    let z : i + suc (length a) ≡ suc i + length a = omega arith in
    rw (z, headers_append ms (suc i) a b) (go (not (eqb e.address whole_block) || whole_at ms i))
  where
    go : (t : Bool) → t && (headers_whole ms (suc i) a && headers_whole ms (suc i + length a) b) ≡ (t && headers_whole ms (suc i) a) && headers_whole ms (suc i + length a) b
    go true = refl
    go false = refl

-- one more
pub headers_more : (ms : List ℕ) (f : ℕ → Entry) (k : ℕ) → headers_whole ms 0 (up_to f (k + 1)) ≡ headers_whole ms 0 (up_to f k) && (not (eqb (f k).address whole_block) || whole_at ms k)
unfolding headers_whole
headers_more ms f k =
    let z : 0 + length (up_to f k) ≡ k = zero-add (length (up_to f k)) ∙ length-up_to f k in
    rw (add-one) (headers_append ms 0 (up_to f k) (f k ∷ []) ∙ rw z (go (headers_whole ms 0 (up_to f k)) (not (eqb (f k).address whole_block) || whole_at ms k)))
  where
    go : (t u : Bool) → t && (u && true) ≡ t && u
    go true true = refl
    go true false = refl
    go false u = refl

-- as the library's `all` says it of the places
pub headers-all : (ms : List ℕ) (f : ℕ → Entry) (n : ℕ) → list_all (λ i. not (eqb (f i).address whole_block) || whole_at ms i) (range_with_len 0 n) ≡ headers_whole ms 0 (up_to f n)
unfolding headers_whole
headers-all ms f zero = refl
headers-all ms f (suc n) =
    ap (λ (k : ℕ). list_all test (range_with_len 0 k)) (sym (add-one n))
    ∙ sym (list_all-map (λ b. b) test (range_with_len 0 (n + 1)))
    ∙ ap (list_all (λ b. b)) (map-range_with_len_more test 0 n n (zero-add n))
    ∙ list_all-append (λ b. b) (map test (range_with_len 0 n)) (test n ∷ [])
    ∙ rw (list_all-map (λ b. b) test (range_with_len 0 n), headers-all ms f n, and-true (test n)) (sym (headers_more ms f n))
    ∙ ap (λ (k : ℕ). headers_whole ms 0 (up_to f k)) (add-one n)
  where
    test : ℕ → Bool
    test i = not (eqb (f i).address whole_block) || whole_at ms i

-- there is none
headers_none : (ms : List ℕ) (i : ℕ) (q : List Entry) → All (λ e. whole_block ≢ e.address) q → headers_whole ms i q ≡ true
unfolding headers_whole
headers_none ms i [] o = refl
headers_none ms i (e ∷ q) o = rw (ne_eqb e.address whole_block (λ z. o.0 (sym z))) (headers_none ms (suc i) q o.1)

-- none is torn
pub headers_by : (ms : List ℕ) (i : ℕ) (q : List Entry) → ((k : ℕ) → k < length q → address_at q k ≡ whole_block → whole_at ms (i + k) ≡ true) → headers_whole ms i q ≡ true
unfolding headers_whole
headers_by ms i [] h = refl
headers_by ms i (e ∷ q) h =
    rw (headers_by ms (suc i) q (λ k l z. let place : suc i + k ≡ i + suc k = omega arith in rw place (h (suc k) (omega arith) z))) (go (ℕ_discrete e.address whole_block))
  where
    go : Dec (e.address ≡ whole_block) → (not (eqb e.address whole_block) || whole_at ms i) && true ≡ true
    go (no z) = rw (ne_eqb _ _ z)
    go (yes z) = rw (eq-eqb _ _ z, ap (whole_at ms) (sym (add-zero i)) ∙ h 0 (omega arith) z)

-- there is none, or one as the last
abbrev pub HeaderLast : Bool → List Entry → Type 0
HeaderLast false q = All (λ e. whole_block ≢ e.address) q
HeaderLast true q = (es : List Entry) × (e : Entry) × (q ≡ es ++ (e ∷ [])) × (All (λ f. whole_block ≢ f.address) es) × (e.address ≡ whole_block)

-- then the last place tells
pub fits_last : (t : Bool) (ms : List ℕ) (q : List Entry) → HeaderLast t q → marks_fit ms q ≡ marks_for ms (length q) && (not t || whole_at ms (length q - 1))
unfolding marks_fit headers_whole
fits_last false ms q o = rw (headers_none ms 0 q o)
fits_last true ms q h = ap (λ (t : Bool). marks_for ms (length q) && t) (last ∙ ap (whole_at ms) place)
  where
    es : List Entry
    es = h.0

    last : headers_whole ms 0 q ≡ whole_at ms (length es)
    last =
        ap (headers_whole ms 0) h.2
        ∙ headers_append ms 0 es (h.1 ∷ [])
        ∙ rw (headers_none ms 0 es h.3, zero-add (length es), eq-eqb _ _ h.4) (go (whole_at ms (length es)))
      where
        go : (t : Bool) → t && true ≡ t
        go true = refl
        go false = refl

    place : length es ≡ length q - 1
    place = let z : length q ≡ length es + 1 = ap length h.2 ∙ length-append es (h.1 ∷ []) in omega arith

-- ---- the marks of a write

-- all of them one mark
alike : (m : ℕ) (ms : List ℕ) → same ms (replicate block_bytes m) ≡ true → (j : ℕ) → j < block_bytes → get_or ms j 0 ≡ m
alike m ms h j l = ap (λ (b : List ℕ). get_or b j 0) (same_equal ms (replicate block_bytes m) h) ∙ get_or-replicate block_bytes j m 0 l

pub kept-marks : (ms : List ℕ) (i : ℕ) → kept_at ms i ≡ true → (j : ℕ) → j < block_bytes → get_or (marks_at ms i) j 0 ≡ 1
unfolding kept_at
kept-marks ms i h = alike 1 (marks_at ms i) h

pub lost-marks : (ms : List ℕ) (i : ℕ) → lost_at ms i ≡ true → (j : ℕ) → j < block_bytes → get_or (marks_at ms i) j 0 ≡ 0
unfolding lost_at
lost-marks ms i h = alike 0 (marks_at ms i) h

-- and the other way round
pub filled_at : (m : ℕ) (ms : List ℕ) (i : ℕ) → block_bytes * i + block_bytes ≤ length ms → ((j : ℕ) → j < block_bytes → get_or (marks_at ms i) j 0 ≡ m)
    → same (marks_at ms i) (replicate block_bytes m) ≡ true
filled_at m ms i room one = ap (λ (l : List ℕ). same l (replicate block_bytes m)) equal ∙ same_self (replicate block_bytes m)
  where
    long : length (marks_at ms i) ≡ block_bytes
    long = length-cell block_bytes ms i room

    equal : marks_at ms i ≡ replicate block_bytes m
    equal =
        ext_get_or 0 (marks_at ms i) (replicate block_bytes m) (long ∙ sym (length-replicate {A = ℕ} block_bytes m))
        (λ j l. let b : j < block_bytes = rw long at l in one j b ∙ sym (get_or-replicate block_bytes j m 0 b))

-- every mark is 1
all_ones : (ms : List ℕ) → all_kept ms ≡ true → All (λ m. m ≡ 1) ms
unfolding all_kept
all_ones [] h = tt
all_ones (m ∷ ms) h = let p = both (eqb m 1) (all_kept ms) h in (eqb-true _ _ p.0, all_ones ms p.1)

pub kept-drop : (n : ℕ) (ms : List ℕ) → all_kept ms ≡ true → all_kept (drop n ms) ≡ true
unfolding all_kept
kept-drop zero ms h = h
kept-drop (suc n) [] h = h
kept-drop (suc n) (m ∷ ms) h = kept-drop n ms (both (eqb m 1) (all_kept ms) h).1

-- every write from place n on is kept
pub tail_marks : (ms : List ℕ) (q : List Entry) (n i j : ℕ) → marks_fit ms q ≡ true → all_kept (drop (block_bytes * n) ms) ≡ true → n ≤ i → i < length q → j < block_bytes → get_or (marks_at ms i) j 0 ≡ 1
tail_marks ms q n i j f h m l k =
    let size : length ms ≡ block_bytes * length q = fits_length ms q f in
    let rest : length (drop (block_bytes * n) ms) ≡ length ms - block_bytes * n = length-drop (block_bytes * n) ms in
    let at : block_bytes * n + (block_bytes * (i - n) + j) ≡ block_bytes * i + j = omega arith in
    get_or-cell block_bytes ms i j k
    ∙ ap (λ (x : ℕ). get_or ms x 0) (sym at)
    ∙ sym (get_or-drop (block_bytes * n) ms (block_bytes * (i - n) + j) 0)
    ∙ all_at (λ m. m ≡ 1) (drop (block_bytes * n) ms) (block_bytes * (i - n) + j) 0 (omega arith) (all_ones (drop (block_bytes * n) ms) h)

pub tail_kept_at : (ms : List ℕ) (q : List Entry) (n i : ℕ) → marks_fit ms q ≡ true → n ≤ i → i < length q → all_kept (drop (block_bytes * n) ms) ≡ true → kept_at ms i ≡ true
unfolding kept_at
tail_kept_at ms q n i f m l h =
    let size : length ms ≡ block_bytes * length q = fits_length ms q f in
    filled_at 1 ms i (omega arith) (λ j k. tail_marks ms q n i j f h m l k)

-- every write is
pub all-marks : (ms : List ℕ) (q : List Entry) (i j : ℕ) → marks_fit ms q ≡ true → all_kept ms ≡ true → i < length q → j < block_bytes → get_or (marks_at ms i) j 0 ≡ 1
all-marks ms q i j f h l k = tail_marks ms q 0 i j f h (omega arith) l k

pub all-kept_at : (ms : List ℕ) (q : List Entry) (i : ℕ) → marks_fit ms q ≡ true → i < length q → all_kept ms ≡ true → kept_at ms i ≡ true
all-kept_at ms q i f l h = tail_kept_at ms q 0 i f (omega arith) l h

-- ---- marks in front of others

pub front_at : (m ms : List ℕ) → length m ≡ block_bytes → marks_at (m ++ ms) 0 ≡ m
front_at m ms e = cell_part block_bytes (m ++ ms) 0 ∙ take_at m ms block_bytes e

pub behind_at : (m ms : List ℕ) (i : ℕ) → length m ≡ block_bytes → marks_at (m ++ ms) (suc i) ≡ marks_at ms i
behind_at m ms i e =
    let z : block_bytes * suc i ≡ length m + block_bytes * i = omega arith in
    cell_part block_bytes (m ++ ms) (suc i) ∙ rw (z, drop-append-add m ms (block_bytes * i)) (sym (cell_part block_bytes ms i))

pub over_append : (a b : List ℕ) → over_one (a ++ b) ≡ over_one a || over_one b
unfolding over_one
over_append [] b = refl
over_append (m ∷ a) b = rw (over_append a b) (go (ltb 1 m))
  where
    go : (t : Bool) → t || (over_one a || over_one b) ≡ (t || over_one a) || over_one b
    go true = refl
    go false = refl

pub low_at : (ms : List ℕ) (i : ℕ) → over_one ms ≡ false → get_or ms i 0 ≤ 1
unfolding over_one
low_at [] i h = omega arith
low_at (m ∷ ms) i h = go i (ltb 1 m) refl h (λ k e. low_at ms k e)
  where
    go : (i : ℕ) (t : Bool) → ltb 1 m ≡ t → t || over_one ms ≡ false → ((k : ℕ) → over_one ms ≡ false → get_or ms k 0 ≤ 1) → get_or (m ∷ ms) i 0 ≤ 1
    go i true p e more = absurd (true≢false e)
    go zero false p e more = ltb-false 1 m p
    go (suc i) false p e more = more i e

pub low_none : (ms : List ℕ) → ((x : ℕ) → x < length ms → get_or ms x 0 ≤ 1) → over_one ms ≡ false
unfolding over_one
low_none [] h = refl
low_none (m ∷ ms) h = let z : m ≤ 1 = h 0 (omega arith) in rw (le-ltb 1 m z) (low_none ms (λ x b. h (suc x) (omega arith)))

pub behind_for : (m ms : List ℕ) (k : ℕ) → length m ≡ block_bytes → over_one m ≡ false → marks_for (m ++ ms) (suc k) ≡ marks_for ms k
unfolding marks_for
behind_for m ms k e low = rw (over_append m ms, low, count (eqb (length ms) (block_bytes * k)) refl)
  where
    size : length (m ++ ms) ≡ length m + length ms
    size = length-append m ms

    count : (t : Bool) → eqb (length ms) (block_bytes * k) ≡ t → eqb (length (m ++ ms)) (block_bytes * suc k) ≡ eqb (length ms) (block_bytes * k)
    count true p = let h : length ms ≡ block_bytes * k = eqb-true _ _ p in rw p (eq-eqb (length (m ++ ms)) (block_bytes * suc k) (omega (arith, size)))
    count false p = let h : length ms ≢ block_bytes * k = eqb-false _ _ p in rw p (ne_eqb (length (m ++ ms)) (block_bytes * suc k) (λ z. h (omega (arith, size))))

-- all kept: those in front and the others
pub kept_append : (a b : List ℕ) → all_kept (a ++ b) ≡ all_kept a && all_kept b
unfolding all_kept
kept_append [] b = refl
kept_append (m ∷ a) b = rw (kept_append a b) (go (eqb m 1))
  where
    go : (t : Bool) → t && (all_kept a && all_kept b) ≡ (t && all_kept a) && all_kept b
    go true = refl
    go false = refl
