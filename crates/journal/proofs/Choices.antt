-- The laws of the choice of recovery.
use Prim.Native.Nat.{ℕ, ◌+◌, ◌-◌, ◌≤◌}
use mathlib.Core.Path.{◌≡◌, refl, ap, ap₂, sym, ◌∙◌}
use mathlib.Core.Logic.{◌≢◌}
use mathlib.Core.Bool.{Bool, true, false, true≢false, false≢true, cond, not, ◌&&◌}
use mathlib.Core.List.{List}
use native.Mathlib.Omega.{arith}
use borrow.Author.Tests.{eq-eqb, eqb-true, leb-true, not-false}
use lib.Dec.{eqb, ltb}
use Rattle.journal.specs.Geometry.{Geometry}
use Rattle.journal.specs.declared.header.Header.{Header}
use Rattle.journal.specs.declared.choice.Choice.{Choice}
use Rattle.journal.specs.declared.choice.Choice.TheVariants.{Whole, Fallback, Foreign, Neither}
use Rattle.journal.specs.Header.{format_number}
use Rattle.journal.specs.Log.{header_of, entries, good}
use Rattle.journal.specs.Choice.{unnumbered, foreign, choose, in_use, choice_number, taken_count}
pub use Rattle.journal.proofs.Logs.{both}
use Rattle.journal.proofs.Logs.{neither}

-- ---- a header of this card

module _ (geo : Geometry) where
  -- what is not foreign
  pub record Ours (N : ℕ) (h : Header) : Type 0 where
    pub format : h.format ≡ format_number
    pub blocks : h.blocks ≡ N
    pub count : h.count ≤ geo.slots
    pub previous : h.previous ≤ h.count
    pub numbered : unnumbered h ≡ false

  pub ours : (N : ℕ) (h : Header) → foreign geo N h ≡ false → Ours N h
  ours N h e =
      let n = neither _ _ e in
      let p = both _ _ (not-false _ n.0) in
      let q = both _ _ p.0 in
      let r = both _ _ q.0 in
      record {
        format = eqb-true _ _ r.0;
        blocks = eqb-true _ _ r.1;
        count = leb-true _ _ q.1;
        previous = leb-true _ _ p.1;
        numbered = n.1;
      }

-- save number 0: counts and sums are alike
pub alike_zero : (h : Header) → unnumbered h ≡ false → h.save ≡ 0 → (h.previous ≡ h.count) × (h.presum ≡ h.sum)
alike_zero h e z =
    let same : not (eqb h.previous h.count && eqb h.presum h.sum) ≡ false = ap (λ (t : Bool). t && not (eqb h.previous h.count && eqb h.presum h.sum)) (sym (eq-eqb _ _ z)) ∙ e in
    let p = both _ _ (not-false _ same) in
    (eqb-true _ _ p.0, eqb-true _ _ p.1)

-- the choice falls back
abbrev falls : Choice → Bool
falls (Whole n sum save) = false
falls (Fallback n sum save) = true
falls Foreign = false
falls Neither = false

module _ (geo : Geometry) where
  -- a fallback never meets save number 0, on any card whatever: with it both lists and both sums would be the same
  pub fallback_over_zero : (N : ℕ) (s : List ℕ) (h : Header) → foreign geo N h ≡ false → good geo N (entries geo s h.count) h.sum ≡ false → good geo N (entries geo s h.previous) h.presum ≡ true
      → h.save ≢ 0
  fallback_over_zero N s h f n p z =
      let same = alike_zero h (ours geo N h f).numbered z in
      true≢false (sym p ∙ ap₂ (λ (k x : ℕ). good geo N (entries geo s k) x) same.0 same.1 ∙ n)

  -- ---- the choice, case by case

  module _ (N : ℕ) (s : List ℕ) (h : Header) (read : h ≡ header_of s) where
    pub choose-foreign : foreign geo N h ≡ true → choose geo N s ≡ Foreign
    unfolding choose
    choose-foreign f = rw (← read, f)

    pub choose_whole : foreign geo N h ≡ false → good geo N (entries geo s h.count) h.sum ≡ true → choose geo N s ≡ Whole h.count h.sum h.save
    unfolding choose
    choose_whole f n = rw (← read, f, n)

    pub choose_fallback : foreign geo N h ≡ false → good geo N (entries geo s h.count) h.sum ≡ false → good geo N (entries geo s h.previous) h.presum ≡ true
        → choose geo N s ≡ Fallback h.previous h.presum (h.save - 1)
    unfolding choose
    choose_fallback f n p = rw (← read, f, n, p)

    pub choose-neither : foreign geo N h ≡ false → good geo N (entries geo s h.count) h.sum ≡ false → good geo N (entries geo s h.previous) h.presum ≡ false
        → choose geo N s ≡ Neither
    unfolding choose
    choose-neither f n p = rw (← read, f, n, p)

    -- ---- whether a format would wipe out a log

    pub foreign_unused : foreign geo N h ≡ true → in_use geo N s ≡ false
    unfolding in_use
    foreign_unused f = rw (← read, f)

    pub ours_used : foreign geo N h ≡ false → in_use geo N s ≡ ltb 0 h.count
    unfolding in_use
    ours_used f = rw (← read, f)

  -- only a foreign header is refused as 8
  pub known_chosen : (N : ℕ) (s : List ℕ) → foreign geo N (header_of s) ≡ false → choice_number (choose geo N s) ≢ 8
  unfolding choose
  known_chosen N s f = rw f (go (good geo N (entries geo s (header_of s).count) (header_of s).sum) (good geo N (entries geo s (header_of s).previous) (header_of s).presum))
    where
      go : (n p : Bool) → choice_number (cond n (Whole (header_of s).count (header_of s).sum (header_of s).save) (cond p (Fallback (header_of s).previous (header_of s).presum ((header_of s).save - 1)) Neither)) ≢ 8
      go true p z = omega arith
      go false true z = omega arith
      go false false z = omega arith

  -- a list that is taken fits the slots
  pub taken-count : (N : ℕ) (s : List ℕ) → taken_count (choose geo N s) ≤ geo.slots
  unfolding choose
  taken-count N s = go (foreign geo N (header_of s)) refl (good geo N (entries geo s (header_of s).count) (header_of s).sum) (good geo N (entries geo s (header_of s).previous) (header_of s).presum)
    where
      go : (f : Bool) → foreign geo N (header_of s) ≡ f → (n p : Bool)
          → taken_count (cond f Foreign (cond n (Whole (header_of s).count (header_of s).sum (header_of s).save) (cond p (Fallback (header_of s).previous (header_of s).presum ((header_of s).save - 1)) Neither))) ≤ geo.slots
      go true e n p = omega arith
      go false e true p = (ours geo N (header_of s) e).count
      go false e false true = let o = ours geo N (header_of s) e in omega (arith, o.count, o.previous)
      go false e false false = omega arith

  -- what a fallback hands back is one less than the number of the header that it meets
  pub fallback_number : (N : ℕ) (s : List ℕ) (n sum c : ℕ) → choose geo N s ≡ Fallback n sum c → (header_of s).save ≡ c + 1
  unfolding choose
  fallback_number N s n sum c = go (foreign geo N (header_of s)) refl (good geo N (entries geo s (header_of s).count) (header_of s).sum) refl (good geo N (entries geo s (header_of s).previous) (header_of s).presum) refl
    where
      go : (f : Bool) → foreign geo N (header_of s) ≡ f → (a : Bool) → good geo N (entries geo s (header_of s).count) (header_of s).sum ≡ a
          → (b : Bool) → good geo N (entries geo s (header_of s).previous) (header_of s).presum ≡ b
          → cond f Foreign (cond a (Whole (header_of s).count (header_of s).sum (header_of s).save) (cond b (Fallback (header_of s).previous (header_of s).presum ((header_of s).save - 1)) Neither)) ≡ Fallback n sum c
          → (header_of s).save ≡ c + 1
      go true p a q b z e = absurd (false≢true (ap falls e))
      go false p true q b z e = absurd (false≢true (ap falls e))
      go false p false q false z e = absurd (false≢true (ap falls e))
      go false p false q true z e =
          let some : (header_of s).save ≢ 0 = fallback_over_zero N s (header_of s) p q z in
          let less : (header_of s).save - 1 ≡ c = cc in
          omega arith
