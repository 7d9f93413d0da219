-- The laws of a lookup.
use Rattle.std.specs.Prelude.{Option, Some, None}
use Prim.Native.Nat.{ℕ, zero, suc, ◌-◌, ◌<◌}
use mathlib.Core.Path.{◌≡◌, refl, ap, sym, ◌∙◌}
use mathlib.Core.Bool.{Bool, true, false, cond}
use mathlib.Core.Logic.{◌≢◌}
use mathlib.Core.List.{List, [], ◌∷◌}
use native.Mathlib.Omega.{arith}
use native.Mathlib.Decide.{ℕ_discrete}
use borrow.Author.Tests.{eq-eqb, ne_eqb, eqb-true, eqb-false}
use lib.Dec.{eqb}
use Rattle.cells.specs.Upto.{up_to}
use Rattle.cells.specs.Entry.{Entry}
use Rattle.card.specs.Card.{block_at}
use Rattle.card.specs.Disk.{Disk, lay, overlay}
use Rattle.card.proofs.Overlays.{lay-same, lay_other, overlay-append}
use Rattle.journal.specs.Geometry.{Geometry}
use Rattle.journal.specs.Layout.{slot_at}
use Rattle.journal.specs.Log.{slot_entry, entries}
use Rattle.journal.specs.Lookup.{last_of, last_slot}

-- ---- from the last place down

pub last_none : (f : ℕ → ℕ) (a : ℕ) → last_of f a 0 ≡ None
unfolding last_of
last_none f a = refl

pub last_here : (f : ℕ → ℕ) (a n : ℕ) → 0 < n → f (n - 1) ≡ a → last_of f a n ≡ Some (n - 1)
unfolding last_of
last_here f a zero h e = absurd (omega arith)
last_here f a (suc n) h e =
    let p : suc n - 1 ≡ n = omega arith in
    let q : f n ≡ a = rw p at e in
    rw (eq-eqb (f n) a q, p)

pub last_below : (f : ℕ → ℕ) (a n : ℕ) → 0 < n → f (n - 1) ≢ a → last_of f a n ≡ last_of f a (n - 1)
unfolding last_of
last_below f a zero h e = absurd (omega arith)
last_below f a (suc n) h e =
    let p : suc n - 1 ≡ n = omega arith in
    let q : f n ≢ a = rw p at e in
    rw (ne_eqb (f n) a q, p)

-- ---- what it finds

-- k is the last of n places with address a
pub record Last (f : ℕ → ℕ) (a n k : ℕ) : Type 0 where
  pub inside : k < n
  pub here : f k ≡ a
  pub later : (i : ℕ) → k < i → i < n → f i ≢ a

-- what an answer means
abbrev pub Means : (ℕ → ℕ) → ℕ → ℕ → Option ℕ → Type 0
Means f a n (Some k) = Last f a n k
Means f a n None = (i : ℕ) → i < n → f i ≢ a

pub last_means : (f : ℕ → ℕ) (a n : ℕ) → Means f a n (last_of f a n)
unfolding last_of
last_means f a zero = λ i p. absurd (omega arith)
last_means f a (suc n) = go (eqb (f n) a) refl (last_of f a n) (last_means f a n)
  where
    go : (t : Bool) → eqb (f n) a ≡ t → (r : Option ℕ) → Means f a n r → Means f a (suc n) (cond t (Some n) r)
    go true e r m = record { inside = omega arith; here = eqb-true _ _ e; later = λ i p q. absurd (omega arith) }
    go false e (Some k) m = record { inside = omega (arith, m.inside); here = m.here; later = λ i p q. later i p (ℕ_discrete i n) q }
      where
        later : (i : ℕ) → k < i → Dec (i ≡ n) → i < suc n → f i ≢ a
        later i p (yes x) q = λ y. eqb-false (f n) a e (ap f (sym x) ∙ y)
        later i p (no x) q = m.later i p (omega arith)
    go false e None m = λ i q. none i (ℕ_discrete i n) q
      where
        none : (i : ℕ) → Dec (i ≡ n) → i < suc n → f i ≢ a
        none i (yes x) q = λ y. eqb-false (f n) a e (ap f (sym x) ∙ y)
        none i (no x) q = m i (omega arith)

pub last_at : (f : ℕ → ℕ) (a n k : ℕ) → last_of f a n ≡ Some k → Last f a n k
last_at f a n k e = rw e at (last_means f a n)

-- ---- a lookup in a list is a read of its overlay

-- the block at the place that was found, or another
abbrev pub found_in : Option ℕ → (ℕ → List ℕ) → List ℕ → List ℕ
found_in (Some k) f d = f k
found_in None f d = d

pub overlay-found : (e : ℕ → Entry) (n : ℕ) (d : Disk) (a : ℕ) → overlay (up_to e n) d a ≡ found_in (last_of (λ i. (e i).address) a n) (λ k. (e k).block) (d a)
unfolding last_of overlay
overlay-found e zero d a = refl
overlay-found e (suc n) d a =
    ap (λ (x : Disk). x a) (overlay-append (up_to e n) (e n ∷ []) d) ∙ go (eqb (e n).address a) refl (overlay-found e n d a)
  where
    go : (t : Bool) → eqb (e n).address a ≡ t
        → overlay (up_to e n) d a ≡ found_in (last_of (λ i. (e i).address) a n) (λ k. (e k).block) (d a)
        → lay (e n) (overlay (up_to e n) d) a ≡ found_in (cond t (Some n) (last_of (λ i. (e i).address) a n)) (λ k. (e k).block) (d a)
    go true p k = lay-same (e n) (overlay (up_to e n) d) a (sym (eqb-true _ _ p))
    go false p k = lay_other (e n) (overlay (up_to e n) d) a (λ q. eqb-false _ _ p (sym q)) ∙ k

module _ (geo : Geometry) where
  pub overlay_slots : (s : List ℕ) (n : ℕ) (d : Disk) (a : ℕ) → overlay (entries geo s n) d a ≡ found_in (last_slot s a n) (λ k. block_at s (slot_at geo k)) (d a)
  unfolding slot_entry
  overlay_slots s n d a = overlay-found (slot_entry geo s) n d a
