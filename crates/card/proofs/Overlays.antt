-- The overlay: the last entry with an address wins.
use Prim.Native.Nat.{ℕ}
use mathlib.Core.Path.{◌≡◌, refl, sym, ◌∙◌}
use mathlib.Core.Bool.{Bool, true, false}
use mathlib.Core.Logic.{◌≢◌}
use mathlib.Core.List.{List, [], ◌∷◌, ◌++◌}
use borrow.Author.Tests.{eq-eqb, ne_eqb, eqb-true, eqb-false}
use lib.Dec.{eqb}
use Rattle.cells.specs.Entry.{Entry}
use Rattle.card.specs.Disk.{Disk, lay, overlay}
use Rattle.card.proofs.All.{All}

pub lay-same : (e : Entry) (d : Disk) (a : ℕ) → a ≡ e.address → lay e d a ≡ e.block
unfolding lay
lay-same e d a h = rw (eq-eqb _ _ h)

pub lay_other : (e : Entry) (d : Disk) (a : ℕ) → a ≢ e.address → lay e d a ≡ d a
unfolding lay
lay_other e d a h = rw (ne_eqb _ _ h)

pub overlay_nil : (d : Disk) → overlay [] d ≡ d
unfolding overlay
overlay_nil d = refl

pub overlay-append : (a b : List Entry) (d : Disk) → overlay (a ++ b) d ≡ overlay b (overlay a d)
unfolding overlay
overlay-append [] b d = refl
overlay-append (e ∷ a) b d = overlay-append a b (lay e d)

-- an address that no entry has is left alone
pub overlay_other : (es : List Entry) (d : Disk) (a : ℕ) → All (λ e. a ≢ e.address) es → overlay es d a ≡ d a
unfolding overlay
overlay_other [] d a h = refl
overlay_other (e ∷ es) d a h = overlay_other es (lay e d) a h.1 ∙ lay_other e d a h.0

-- what holds of the disk at an address and of each entry's block there holds of the overlay
pub overlay-keeps : (P : List ℕ → Type 0) (es : List Entry) (d : Disk) (a : ℕ) → P (d a) → All (λ e. e.address ≡ a → P e.block) es → P (overlay es d a)
unfolding overlay
overlay-keeps P [] d a h k = h
overlay-keeps P (e ∷ es) d a h k = overlay-keeps P es (lay e d) a (go (eqb a e.address) refl) k.1
  where
    go : (t : Bool) → eqb a e.address ≡ t → P (lay e d a)
    go true p = let q : a ≡ e.address = eqb-true _ _ p in rw (lay-same e d a q) (k.0 (sym q))
    go false p = rw (lay_other e d a (eqb-false _ _ p)) h

-- disks that agree at an address agree there under an overlay
pub overlay_agree : (es : List Entry) (c d : Disk) (a : ℕ) → c a ≡ d a → overlay es c a ≡ overlay es d a
unfolding overlay
overlay_agree [] c d a h = h
overlay_agree (e ∷ es) c d a h = overlay_agree es (lay e c) (lay e d) a (go (eqb a e.address) refl)
  where
    go : (t : Bool) → eqb a e.address ≡ t → lay e c a ≡ lay e d a
    go true p = let q : a ≡ e.address = eqb-true _ _ p in lay-same e c a q ∙ sym (lay-same e d a q)
    go false p = let q : a ≢ e.address = eqb-false _ _ p in lay_other e c a q ∙ h ∙ sym (lay_other e d a q)

-- cover: disks that differ only at addresses of the list overlay alike
pub overlay_cover : (es : List Entry) (c d : Disk) (a : ℕ) → (All (λ e. a ≢ e.address) es → c a ≡ d a) → overlay es c a ≡ overlay es d a
unfolding overlay
overlay_cover [] c d a h = h tt
overlay_cover (e ∷ es) c d a h = go (eqb a e.address) refl (λ k. overlay_cover es (lay e c) (lay e d) a k)
  where
    go : (t : Bool) → eqb a e.address ≡ t → ((All (λ x. a ≢ x.address) es → lay e c a ≡ lay e d a) → overlay es (lay e c) a ≡ overlay es (lay e d) a)
        → overlay (e ∷ es) c a ≡ overlay (e ∷ es) d a
    go true p k = let q : a ≡ e.address = eqb-true _ _ p in k (λ _. lay-same e c a q ∙ sym (lay-same e d a q))
    go false p k = let q : a ≢ e.address = eqb-false _ _ p in k (λ r. lay_other e c a q ∙ h (q, r) ∙ sym (lay_other e d a q))
