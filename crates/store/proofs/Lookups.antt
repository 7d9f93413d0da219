-- The laws of lookups.
use Rattle.std.specs.Prelude.{Option, Some, None}
use Rattle.std.proofs.Common.{zero-add}
use Rattle.std.specs.List.{range_with_len, find as find-first}
use Rattle.std.specs.Option.{option_map}
use Rattle.std.specs.Range.{range_steps_back}
use Rattle.std.specs.declared.iter.Rev.{Rev}
use Rattle.std.specs.declared.ops.Range.{Range}
use Rattle.std.proofs.lemmas.Iterator.{YieldsList}
use Rattle.std.proofs.lemmas.Iterator.Consumers.{YieldsList-from_shown}
use Rattle.std.proofs.lemmas.Iterator.Adapters.{option_map_id}
use Rattle.std.proofs.lemmas.List.FromFn.{length-range_with_len}
use Rattle.std.proofs.lemmas.List.{reverse-append, length-reverse}
use Prim.Native.Nat.{ℕ, zero, suc, ◌+◌, ◌-◌, ◌%◌, ◌<◌}
use mathlib.Core.Path.{◌≡◌, refl, ap, sym, ◌∙◌}
use mathlib.Core.Bool.{Bool, true, false, cond, ◌&&◌, true≢false}
use mathlib.Core.Logic.{◌≢◌}
use mathlib.Core.List.{List, [], ◌∷◌, ◌++◌, reverse}
use native.Mathlib.Omega.{arith}
use native.Mathlib.Decide.{ℕ_discrete}
use borrow.Author.Tests.{eqb-true, eqb-false}
use mathlib.Core.Path.{subst}
use lib.Dec.{eqb}
use lib.ListN.{length, get_or, set}
use lib.Seq.{get_or-set_same, get_or-set_other}
use Rattle.journal.specs.Lookup.{last_of}
use Rattle.journal.proofs.Lookups.{Means, last_means}
use Rattle.store.specs.Lists.{listed, find}
use Rattle.store.specs.Causes.{is_found}

-- ---- the library's search from the last place down

-- one more place
pub range_more : (a n : ℕ) → range_with_len a (suc n) ≡ range_with_len a n ++ (a + n) ∷ []
range_more a zero = ap (λ (x : ℕ). x ∷ []) (let e : a ≡ a + 0 = omega arith in e)
range_more a (suc n) =
    let e : a + 1 + n ≡ a + suc n = omega arith in
    ap (λ (xs : List ℕ). a ∷ xs) (range_more (a + 1) n ∙ ap (λ (x : ℕ). range_with_len (a + 1) n ++ x ∷ []) e)

range_down : (a n : ℕ) → reverse (range_with_len a (suc n)) ≡ (a + n) ∷ reverse (range_with_len a n)
range_down a n = ap reverse (range_more a n) ∙ reverse-append (range_with_len a n) ((a + n) ∷ [])

abbrev shown : Rev (Range ℕ) → List ℕ
shown s = reverse (range_with_len s.iter.start (s.iter.end - s.iter.start))

abbrev steps_down : Rev (Range ℕ) → Option ℕ → Rev (Range ℕ) → Type 0
steps_down s r t = range_steps_back (λ (x y : ℕ). y - x) (λ (x y : ℕ). y ≡ x + 1) s.iter r t.iter

pub places_down : {s : Rev (Range ℕ)} (n : ℕ) → s.iter ≡ record { start = 0; end = n } → YieldsList steps_down (λ x. x) s (reverse (range_with_len 0 n))
places_down {s} n e =
    let all : shown s ≡ reverse (range_with_len 0 n) =
    ap (λ (p : Range ℕ). reverse (range_with_len p.start (p.end - p.start))) e ∙ ap (λ (k : ℕ). reverse (range_with_len 0 k)) (let z : n - 0 ≡ n = omega arith in z) in
    subst (YieldsList steps_down (λ x. x) s) all (YieldsList-from_shown steps_down (λ x. x) shown none some s)
  where
    none : (s t : Rev (Range ℕ)) → steps_down s None t → length (shown s) ≡ 0
    none s t p = length-reverse _ ∙ length-range_with_len s.iter.start (s.iter.end - s.iter.start) ∙ p.1.0

    some : (s : Rev (Range ℕ)) (x : ℕ) (t : Rev (Range ℕ)) → steps_down s (Some x) t → shown s ≡ x ∷ shown t
    some s x t p =
        let a = s.iter.start in
        let m = t.iter.end - a in
        let longer : s.iter.end - a ≡ suc m = omega (arith, p.1) in
        let here : a + m ≡ x = omega (arith, p.1) in
        ap (λ (k : ℕ). reverse (range_with_len a k)) longer
        ∙ range_down a m
        ∙ ap (λ (y : ℕ). y ∷ reverse (range_with_len a m)) here
        ∙ ap (λ (k : ℕ). x ∷ reverse (range_with_len k (t.iter.end - k))) (sym p.0)

-- its result is the lookup's
pub last_find : (f : ℕ → ℕ) (a n : ℕ) (r : Option ℕ) → option_map (λ x. x) r ≡ find-first (λ i. eqb (f i) a) (reverse (range_with_len 0 n)) → r ≡ last_of f a n
unfolding last_of
last_find f a n r e = sym (option_map_id r) ∙ e ∙ same n
  where
    same : (n : ℕ) → find-first (λ i. eqb (f i) a) (reverse (range_with_len 0 n)) ≡ last_of f a n
    same zero = refl
    same (suc n) = ap (find-first (λ i. eqb (f i) a)) (range_down 0 n) ∙ rw (zero-add n, same n)

-- where a lookup ends
pub last_at : (g : ℕ → ℕ) (a n i : ℕ) → last_of g a n ≡ Some i → (i < n) × (g i ≡ a)
unfolding last_of
last_at g a zero i e = let z : ◌≡◌ {A = ℕ} 0 1 = cc in absurd (omega arith)
last_at g a (suc n) i e = go (eqb (g n) a) refl e (last_at g a n i)
  where
    go : (t : Bool) → eqb (g n) a ≡ t → cond t (Some n) (last_of g a n) ≡ Some i → (last_of g a n ≡ Some i → (i < n) × (g i ≡ a)) → (i < suc n) × (g i ≡ a)
    go true p q k = let r : n ≡ i = cc in (omega arith, rw (← r) (eqb-true (g n) a p))
    go false p q k = let r = k q in (omega arith, r.1)

pub find_at : (work : List ℕ) (from n a i : ℕ) → find work from n a ≡ Some i → (i < n) × ((listed work from i).address ≡ a)
find_at work from n a i e = last_at (λ j. (listed work from j).address) a n i e

-- an address that is there is found
pub last_some : (g : ℕ → ℕ) (a n i : ℕ) → i < n → g i ≡ a → is_found (last_of g a n) ≡ true
unfolding last_of
last_some g a zero i h e = elim h [ ]
last_some g a (suc n) i h e = go (eqb (g n) a) refl (last_some g a n i)
  where
    go : (t : Bool) → eqb (g n) a ≡ t → (i < n → g i ≡ a → is_found (last_of g a n) ≡ true) → is_found (cond t (Some n) (last_of g a n)) ≡ true
    go true p k = refl
    go false p k = k (less (ℕ_discrete i n)) e
      where
        less : Dec (i ≡ n) → i < n
        less (yes q) = absurd (eqb-false (g n) a p (ap g (sym q) ∙ e))
        less (no q) = omega arith

pub find-some : (work : List ℕ) (from n a i : ℕ) → i < n → (listed work from i).address ≡ a → is_found (find work from n a) ≡ true
find-some work from n a i h e = last_some (λ j. (listed work from j).address) a n i h e

-- ---- buckets: each of the first n places has marked the bucket of its address, of 128

abbrev pub Marked : (ℕ → ℕ) → List Bool → ℕ → Type 0
Marked f marks n = (j : ℕ) → j < n → get_or marks (f j % 128) false ≡ true

-- one more, of address a
pub mark_more : (f : ℕ → ℕ) (marks : List Bool) (i a : ℕ) → length marks ≡ 128 → a ≡ f i → Marked f marks i
    → Marked f (set marks (a % 128) true) (i + 1)
mark_more f marks i a size e before j h = go (ℕ_discrete (f j % 128) (a % 128))
  where
    go : Dec (f j % 128 ≡ a % 128) → get_or (set marks (a % 128) true) (f j % 128) false ≡ true
    go (yes p) =
        let inside : a % 128 < length marks = omega arith in
        rw (p, get_or-set_same marks (a % 128) true false inside)
    go (no p) =
        let earlier : j ≢ i = λ z. p (ap (λ (x : ℕ). f x % 128) z ∙ ap (λ (x : ℕ). x % 128) (sym e)) in
        rw (get_or-set_other marks (a % 128) (f j % 128) true false p) (before j (omega arith))

-- an address whose bucket is not marked is none of theirs, so the search may be left out
pub met-found : (f : ℕ → ℕ) (seen : List Bool) (i a : ℕ) → Marked f seen i → (get_or seen (a % 128) false && is_found (last_of f a i)) ≡ is_found (last_of f a i)
met-found f seen i a marked = go (get_or seen (a % 128) false) refl (last_of f a i) (last_means f a i)
  where
    go : (t : Bool) → get_or seen (a % 128) false ≡ t → (r : Option ℕ) → Means f a i r → (t && is_found r) ≡ is_found r
    go true e r m = refl
    go false e (Some k) m = absurd (true≢false (sym (marked k m.inside) ∙ ap (λ (x : ℕ). get_or seen (x % 128) false) m.here ∙ e))
    go false e None m = refl
