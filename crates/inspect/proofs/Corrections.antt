-- The laws of a tally's corrections: the disk that the sum stands for, slot by slot, from the home blocks to the log laid over.
use Rattle.std.specs.Prelude.{Option, Some, None}
use Prim.Native.Nat.{ℕ, ◌+◌, ◌≤◌, ◌<◌}
use mathlib.Core.Path.{◌≡◌, refl, ap, sym, ◌∙◌}
use mathlib.Core.Bool.{Bool, true, cond}
use mathlib.Core.Logic.{◌≢◌}
use mathlib.Core.List.{List}
use native.Mathlib.Decide.{ℕ_discrete, dec_lt}
use native.Mathlib.Omega.{arith}
use borrow.Author.Tests.{lt-ltb, le-ltb}
use lib.Dec.{ltb}
use Rattle.card.specs.Card.{block_at}
use Rattle.card.specs.Disk.{Disk, lay}
use Rattle.card.proofs.Overlays.{lay-same, lay_other}
use Rattle.journal.specs.Geometry.{Geometry}
use Rattle.journal.specs.Layout.{slot_at, first_data, is_data}
use Rattle.journal.specs.Log.{slot_address, slot_entry}
use Rattle.journal.specs.Lookup.{last_slot}
use Rattle.journal.proofs.Logs.{bounds_data}
use Rattle.journal.proofs.Lookups.{Means, found_in, last_means, last_at, overlay_slots}
use Rattle.inspect.specs.Reading.{laid, data_blocks}
use Rattle.inspect.specs.Tally.{sum_bytes, sum_data}
use Rattle.inspect.proofs.Sums.{data_agree, data_replaced, data_has}

module _ (geo : Geometry) (s : List ℕ) (n : ℕ) where
  -- slot k's block if k is below i, else another
  abbrev slot_below : ℕ → List ℕ → ℕ → List ℕ
  slot_below i d k = cond (ltb k i) (block_at s (slot_at geo k)) d

  -- the home blocks, with each slot below i laid over that is the last of n with its address
  unfoldable pub laid_below : ℕ → Disk
  laid_below i a = found_in (last_slot s a n) (slot_below i (block_at s a)) (block_at s a)

  below_none : laid_below 0 ≡ block_at s
  unfolding laid_below
  below_none = λ j a. go (last_slot s a n) a j
    where
      go : (r : Option ℕ) (a : ℕ) → found_in r (slot_below 0 (block_at s a)) (block_at s a) ≡ block_at s a
      go (Some k) a = rw (le-ltb k 0 (omega arith))
      go None a = refl

  below_all : laid_below n ≡ laid geo s n
  unfolding laid_below
  below_all = λ j a. (go (last_slot s a n) a (last_means (slot_address s) a n) ∙ sym (overlay_slots geo s n (block_at s) a)) j
    where
      go : (r : Option ℕ) (a : ℕ) → Means (slot_address s) a n r → found_in r (slot_below n (block_at s a)) (block_at s a) ≡ found_in r (λ k. block_at s (slot_at geo k)) (block_at s a)
      go (Some k) a m = rw (lt-ltb k n m.inside)
      go None a m = refl

  -- slot i changes no address but the one that it is the last slot of
  elsewhere : (i a : ℕ) → last_slot s a n ≢ Some i → laid_below (i + 1) a ≡ laid_below i a
  unfolding laid_below
  elsewhere i a h = go (last_slot s a n) refl
    where
      same : (k : ℕ) → k ≢ i → Dec (k < i) → ltb k (i + 1) ≡ ltb k i
      same k q (yes l) = lt-ltb k (i + 1) (omega arith) ∙ sym (lt-ltb k i l)
      same k q (no l) = le-ltb k (i + 1) (omega arith) ∙ sym (le-ltb k i (omega arith))

      go : (r : Option ℕ) → last_slot s a n ≡ r → found_in r (slot_below (i + 1) (block_at s a)) (block_at s a) ≡ found_in r (slot_below i (block_at s a)) (block_at s a)
      go (Some k) e = ap (λ (t : Bool). cond t (block_at s (slot_at geo k)) (block_at s a)) (same k (λ z. h (e ∙ ap Some z)) (dec_lt k i))
      go None e = refl

  -- a slot that is the last with its address is laid over
  below_laid : (i : ℕ) → last_slot s (slot_address s i) n ≡ Some i → laid_below (i + 1) ≡ lay (slot_entry geo s i) (laid_below i)
  unfolding laid_below slot_entry
  below_laid i h = λ j a. go a (ℕ_discrete a (slot_address s i)) j
    where
      go : (a : ℕ) → Dec (a ≡ slot_address s i) → laid_below (i + 1) a ≡ lay (slot_entry geo s i) (laid_below i) a
      go a (yes p) =
          let here : last_slot s a n ≡ Some i = ap (λ (x : ℕ). last_slot s x n) p ∙ h in
          rw (lay-same (slot_entry geo s i) (laid_below i) a p, here, lt-ltb i (i + 1) (omega arith))
      go a (no p) =
          elsewhere i a (λ e. p (sym (last_at (slot_address s) a n i e).here))
          ∙ sym (lay_other (slot_entry geo s i) (laid_below i) a p)

  -- and until then its home block stands
  below_home : (i : ℕ) → last_slot s (slot_address s i) n ≡ Some i → laid_below i (slot_address s i) ≡ block_at s (slot_address s i)
  unfolding laid_below
  below_home i h = rw (h, le-ltb i i (omega arith))

-- ---- the test

module _ (geo : Geometry) (s : List ℕ) (N n i : ℕ) where
  -- slot i is the last with its address, and the address is a data block's
  abbrev pub Decides : Type 0
  Decides = (is_data geo N (slot_address s i) ≡ true) × (last_slot s (slot_address s i) n ≡ Some i)

-- ---- the sum, one slot after the other

module _ (geo : Geometry) (s : List ℕ) (N n : ℕ) where
  -- the sum of all data bytes of that disk
  abbrev pub sum_below : ℕ → ℕ
  sum_below i = sum_data geo (laid_below geo s n i) (data_blocks geo N)

  -- it begins with the home blocks and ends with the log laid over
  pub sum_none : sum_data geo (block_at s) (data_blocks geo N) ≡ sum_below 0
  sum_none = rw (below_none geo s n)

  pub sum-all : sum_below n ≡ sum_data geo (laid geo s n) (data_blocks geo N)
  sum-all = rw (below_all geo s n)

  -- the home bytes of a slot that decides are in the sum, so that taking them off does not fall below 0
  pub home_counted : (i : ℕ) → Decides geo s N n i → sum_bytes (block_at s (slot_address s i)) ≤ sum_below i
  home_counted i d = rw (← below_home geo s n i d.1) (data_has geo (laid_below geo s n i) N (slot_address s i) d.0)

  -- its home bytes off and its own on
  pub slot_corrected : (i u v : ℕ) → Decides geo s N n i → u ≡ sum_below i → v + sum_bytes (block_at s (slot_address s i)) ≡ u + sum_bytes (block_at s (slot_at geo i)) → v ≡ sum_below (i + 1)
  unfolding slot_entry
  slot_corrected i u v d p e =
      let replaced = data_replaced geo (slot_entry geo s i) (laid_below geo s n i) N d.0 in
      let corrected : sum_below (i + 1) + sum_bytes (block_at s (slot_address s i)) ≡ sum_below i + sum_bytes (block_at s (slot_at geo i)) =
      rw (below_laid geo s n i d.1, ← below_home geo s n i d.1) replaced in
      omega arith

  -- one that decides nothing changes nothing
  pub slot_passed : (i : ℕ) → (Decides geo s N n i → ⊥) → sum_below i ≡ sum_below (i + 1)
  slot_passed i h = sym (data_agree geo (laid_below geo s n (i + 1)) (laid_below geo s n i) (data_blocks geo N) (λ k l. elsewhere geo s n i (first_data geo + k) (other k l)))
    where
      other : (k : ℕ) → k < data_blocks geo N → last_slot s (first_data geo + k) n ≢ Some i
      other k l e =
          let here : slot_address s i ≡ first_data geo + k = (last_at (slot_address s) (first_data geo + k) n i e).here in
          h (rw here (bounds_data geo N (first_data geo + k) (omega arith) (omega arith)), rw here e)
