-- The laws of comparing: slots and data blocks, one after the other; a block as laid; and what a yes means.
use Rattle.std.specs.Prelude.{Option, Some, None, Ok, Err, is_some}
use Prim.Native.Nat.{ℕ, zero, suc, ◌+◌, ◌<◌}
use mathlib.Core.Path.{◌≡◌, refl, ap, ap₂, sym, ◌∙◌}
use mathlib.Core.Bool.{Bool, true, false, cond, ◌&&◌}
use mathlib.Core.Logic.{◌≢◌, ◌↔◌}
use mathlib.Core.List.{List, [], ◌∷◌, map}
use native.Mathlib.Nat.{zero-add}
use native.Mathlib.Numerals.{add-one}
use native.Mathlib.Decide.{ℕ_discrete}
use native.Mathlib.Omega.{arith}
use borrow.Author.Tests.{eq-eqb, ne_eqb, eqb-true, eqb-false}
use lib.Dec.{eqb}
use Rattle.std.specs.List.{list_all, range_with_len}
use Rattle.std.proofs.lemmas.List.Folds.{list_all-append, list_all-map}
use Rattle.std.proofs.lemmas.List.FromFn.{map-range_with_len_more}
use Rattle.std.proofs.Math.Bool.{and-true}
use Rattle.cells.specs.Same.{same}
use Rattle.cells.specs.Same.Laws.{same_equal, same_self}
use Rattle.cells.specs.Upto.Laws.{ext_up_to}
use Rattle.cells.specs.Entry.{Entry}
use Rattle.cells.specs.Entry.Laws.{entry_eq}
use Rattle.card.specs.Disk.{Disk, overlay}
use Rattle.card.specs.Card.{blocks_in, block_at}
use Rattle.journal.specs.Geometry.{Geometry}
use Rattle.journal.specs.Layout.{first_data, slot_at, is_data}
use Rattle.journal.specs.Log.{slot_address, slot_entry, entries}
use Rattle.journal.specs.Lookup.{last_slot}
use Rattle.journal.proofs.Logs.{both, data_bounds, bounds_data}
use Rattle.journal.proofs.Lookups.{found_in, overlay_slots}
use Rattle.refusals.specs.declared.Refusal.{Refusal}
use Rattle.refusals.specs.Numbers.{number_of}
use Rattle.inspect.specs.declared.reading.Reading.{Reading}
use Rattle.inspect.specs.Reading.{inspection, chosen_count, laid, laid_over, data_blocks}
use Rattle.inspect.specs.Alike.{same_data, same_slot, same_slots, refusal, alike_of, alike_answer, Same}
use Rattle.inspect.specs.CodeReading.{Taken}
use Rattle.inspect.proofs.Readings.{refusal_positive}

-- ---- a test of numbers, one after the other

-- `all` of k: each number below k passes
pub record Each (test all : ℕ → Bool) : Type 0 where
  pub none : all 0 ≡ true
  pub more : (k : ℕ) → all (suc k) ≡ all k && test k

module _ {test all : ℕ → Bool} (o : Each test all) where
  -- as the library's `all` says it, of the numbers from a on
  pub each-all : (t : ℕ → Bool) (a : ℕ) → ((k : ℕ) → t (a + k) ≡ test k) → (k : ℕ) → list_all t (range_with_len a k) ≡ all k
  each-all t a e zero = sym o.none
  each-all t a e (suc k) =
      ap (λ (n : ℕ). list_all t (range_with_len a n)) (sym (add-one k))
      ∙ sym (list_all-map (λ b. b) t (range_with_len a (k + 1)))
      ∙ ap (list_all (λ b. b)) (map-range_with_len_more t a k (a + k) refl)
      ∙ list_all-append (λ b. b) (map t (range_with_len a k)) (t (a + k) ∷ [])
      ∙ rw (list_all-map (λ b. b) t (range_with_len a k), each-all t a e k, and-true (t (a + k)), e k) (sym (o.more k))

  -- what a yes means
  each_passes : (k : ℕ) → all k ≡ true → (i : ℕ) → i < k → test i ≡ true
  each_passes zero e i h = absurd (omega arith)
  each_passes (suc k) e i h = let p = both _ _ (sym (o.more k) ∙ e) in go (ℕ_discrete i k) p.1 (each_passes k p.0 i)
    where
      go : Dec (i ≡ k) → test k ≡ true → (i < k → test i ≡ true) → test i ≡ true
      go (yes p) here below = ap test p ∙ here
      go (no p) here below = below (omega arith)

  passes_each : (k : ℕ) → ((i : ℕ) → i < k → test i ≡ true) → all k ≡ true
  passes_each zero h = o.none
  passes_each (suc k) h = rw (o.more k, passes_each k (λ i p. h i (omega arith)), h k (omega arith))

module _ (geo : Geometry) where
  -- ---- data blocks

  each_data : (c d : Disk) → Each (λ k. same (c (first_data geo + k)) (d (first_data geo + k))) (same_data geo c d)
  unfolding same_data
  each_data c d = record { none = refl; more = λ k. refl }

  pub data-all : (c d : Disk) (k : ℕ) → list_all (λ x. same (c x) (d x)) (range_with_len (first_data geo) k) ≡ same_data geo c d k
  data-all c d = each-all (each_data c d) (λ x. same (c x) (d x)) (first_data geo) (λ k. refl)

  -- ---- slots

  each_slot : (a b : List ℕ) → Each (same_slot geo a b) (same_slots geo a b)
  unfolding same_slots
  each_slot a b = record { none = refl; more = λ k. refl }

  pub slots-all : (a b : List ℕ) (n : ℕ) → list_all (same_slot geo a b) (range_with_len 0 n) ≡ same_slots geo a b n
  slots-all a b = each-all (each_slot a b) (same_slot geo a b) 0 (λ k. ap (same_slot geo a b) (zero-add k))

  slot_equal : (a b : List ℕ) (i : ℕ) → same_slot geo a b i ≡ true → slot_entry geo a i ≡ slot_entry geo b i
  unfolding same_slot slot_entry
  slot_equal a b i e = let p = both _ _ e in entry_eq (eqb-true _ _ p.0) (same_equal _ _ p.1)

  equal_slot : (a b : List ℕ) (i : ℕ) → slot_entry geo a i ≡ slot_entry geo b i → same_slot geo a b i ≡ true
  unfolding same_slot slot_entry
  equal_slot a b i e =
      let blocks : block_at a (slot_at geo i) ≡ block_at b (slot_at geo i) = ap (λ (x : Entry). x.block) e in
      rw (eq-eqb (slot_address a i) (slot_address b i) (ap (λ (x : Entry). x.address) e), blocks) (same_self (block_at b (slot_at geo i)))

  slots_equal : (a b : List ℕ) (n : ℕ) → same_slots geo a b n ≡ true → (i : ℕ) → i < n → slot_entry geo a i ≡ slot_entry geo b i
  slots_equal a b n e i h = slot_equal a b i (each_passes (each_slot a b) n e i h)

  -- a slot's two addresses, as they were read
  module _ (a b : List ℕ) (i x y : ℕ) (p : x ≡ slot_address a i) (q : y ≡ slot_address b i) where
    pub slot_unlike : x ≢ y → eqb x y ≡ same_slot geo a b i
    unfolding same_slot
    slot_unlike h = let no : eqb x y ≡ false = ne_eqb x y h in rw (← p, ← q, no)

    -- and its two blocks
    pub slot_alike : (u v : List ℕ) (t : Bool) → x ≡ y → u ≡ block_at a (slot_at geo i) → v ≡ block_at b (slot_at geo i) → t ≡ same u v → t ≡ same_slot geo a b i
    unfolding same_slot
    slot_alike u v t h f g e = let one : eqb x y ≡ true = eq-eqb x y h in rw (e, f, g, ← p, ← q, one)

  -- ---- a block as laid, where the same n entries are laid over both

  -- the block in the slot that was found, or another
  abbrev slot_or : List ℕ → Option ℕ → List ℕ → List ℕ
  slot_or a r d = found_in r (λ k. block_at a (slot_at geo k)) d

  module _ (a b : List ℕ) (n x : ℕ) (e : same_slots geo a b n ≡ true) where
    entries_equal : entries geo b n ≡ entries geo a n
    entries_equal = ext_up_to (slot_entry geo b) (slot_entry geo a) n (λ i h. sym (slots_equal a b n e i h))

    -- the two blocks, by what a search of the first log finds
    laid-found : (r : Option ℕ) → last_slot a x n ≡ r
        → same (laid geo a n x) (laid geo b n x) ≡ same (slot_or a r (block_at a x)) (slot_or a r (block_at b x))
    laid-found r p =
        ap₂ same (over (block_at a)) (ap (λ (es : List Entry). overlay es (block_at b) x) entries_equal ∙ over (block_at b))
      where
        over : (d : Disk) → overlay (entries geo a n) d x ≡ slot_or a r (d x)
        over d = overlay_slots geo a n d x ∙ ap (λ (q : Option ℕ). slot_or a q (d x)) p

    -- equal at home
    pub home_same : same (block_at a x) (block_at b x) ≡ true → true ≡ same (laid geo a n x) (laid geo b n x)
    home_same h = sym (laid-found (last_slot a x n) refl ∙ rw (same_equal (block_at a x) (block_at b x) h) (same_self (slot_or a (last_slot a x n) (block_at b x))))

    -- in the log
    pub logged_same : (i : ℕ) → last_slot a x n ≡ Some i → true ≡ same (laid geo a n x) (laid geo b n x)
    logged_same i p = sym (laid-found (Some i) p ∙ same_self (block_at a (slot_at geo i)))

    -- unlike at home, so that the log decides
    pub home_unlike : same (block_at a x) (block_at b x) ≡ false → is_some (last_slot a x n) ≡ same (laid geo a n x) (laid geo b n x)
    home_unlike h = go (last_slot a x n) refl
      where
        go : (r : Option ℕ) → last_slot a x n ≡ r → is_some r ≡ same (laid geo a n x) (laid geo b n x)
        go (Some i) p = logged_same i p
        go None p = sym (laid-found None p ∙ h)

  -- ---- the answer of alike

  module _ (a b : List ℕ) where
    pub alike_first : (e : Refusal) → number_of e ≡ inspection geo a → alike_answer (Err e) ≡ alike_of geo a b
    unfolding alike_of
    alike_first e h = rw (← h, ne_eqb (number_of e) 0 (refusal_positive e), ne_eqb (number_of e) 0 (refusal_positive e))

    pub alike_second : (e : Refusal) → inspection geo a ≡ 0 → number_of e ≡ inspection geo b → alike_answer (Err e) ≡ alike_of geo a b
    unfolding alike_of
    alike_second e z h = rw (z, ← h, ne_eqb (number_of e) 0 (refusal_positive e))

    module _ (r q : Reading) (x : Taken geo a r) (y : Taken geo b q) where
      pub alike_unlike : eqb r.blocks q.blocks && eqb r.count q.count ≡ false → alike_answer (Ok false) ≡ alike_of geo a b
      unfolding alike_of
      alike_unlike h = rw (x.none, y.none, ← x.count, ← y.count, ← x.blocks, ← y.blocks, h)

      pub alike_contents : (t : Bool) → eqb r.blocks q.blocks && eqb r.count q.count ≡ true
          → t ≡ same_slots geo r.settled.now q.settled.now r.count && same_data geo (laid geo r.settled.now r.count) (laid geo q.settled.now r.count) (data_blocks geo r.blocks)
          → alike_answer (Ok t) ≡ alike_of geo a b
      unfolding alike_of
      alike_contents t h e =
          let counts : r.count ≡ q.count = eqb-true _ _ (both _ _ h).1 in
          rw (x.none, y.none, ← x.count, ← y.count, ← x.blocks, ← y.blocks, h, e, x.settled, y.settled, counts)

  -- ---- yes

  -- no refusal is no refusal of either card
  none : (a b : List ℕ) → refusal geo a b ≡ 0 → (inspection geo a ≡ 0) × (inspection geo b ≡ 0)
  none a b e = go (eqb (inspection geo a) 0) refl e
    where
      go : (t : Bool) → eqb (inspection geo a) 0 ≡ t → cond t (inspection geo b) (inspection geo a) ≡ 0 → (inspection geo a ≡ 0) × (inspection geo b ≡ 0)
      go true p q = (eqb-true _ _ p, q)
      go false p q = absurd (eqb-false _ _ p q)

  -- exactly if both cards are accepted, N and all data blocks so laid are equal, and "both chosen logs have the same count and the same
  -- entry in each slot"
  pub alike_yes : (a b : List ℕ) → ((alike_of geo a b).yes ≡ true) ↔ (Same geo) a b
  unfolding alike_of
  alike_yes a b = (there, back)
    where
      there : (alike_of geo a b).yes ≡ true → Same geo a b
      there e =
          let p = both _ _ e in
          let r = none a b (eqb-true _ _ p.0) in
          let d = both _ _ p.1 in
          let s = both _ _ d.0 in
          let q = both _ _ s.0 in
          record {
            first = r.0;
            second = r.1;
            blocks = eqb-true _ _ q.0;
            count = eqb-true _ _ q.1;
            slots = slots_equal a b (chosen_count geo a) s.1;
            laid = λ x h. data_at x h d.1;
          }
        where
          data_at : (x : ℕ) → is_data geo (blocks_in a) x ≡ true → same_data geo (laid_over geo a) (laid_over geo b) (data_blocks geo (blocks_in a)) ≡ true → laid_over geo a x ≡ laid_over geo b x
          data_at x d f =
              let h = data_bounds geo (blocks_in a) x d in
              let here : first_data geo + data_blocks geo x ≡ x = omega arith in
              let less : data_blocks geo x < data_blocks geo (blocks_in a) = omega arith in
              same_equal (laid_over geo a x) (laid_over geo b x) (rw here at (each_passes (each_data (laid_over geo a) (laid_over geo b)) (data_blocks geo (blocks_in a)) f (data_blocks geo x) less))

      back : Same geo a b → (alike_of geo a b).yes ≡ true
      back h =
          rw (eq-eqb _ _ h.first, eq-eqb _ _ h.second, eq-eqb _ _ h.blocks, eq-eqb _ _ h.count, slots) laid_same
        where
          slots : same_slots geo a b (chosen_count geo a) ≡ true
          slots = passes_each (each_slot a b) (chosen_count geo a) (λ i p. equal_slot a b i (h.slots i p))

          laid_same : same_data geo (laid_over geo a) (laid_over geo b) (data_blocks geo (blocks_in a)) ≡ true
          laid_same = passes_each (each_data (laid_over geo a) (laid_over geo b)) (data_blocks geo (blocks_in a)) (λ i p. equal (first_data geo + i) (bounds_data geo (blocks_in a) (first_data geo + i) (omega arith) (omega arith)))
            where
              equal : (x : ℕ) → is_data geo (blocks_in a) x ≡ true → same (laid_over geo a x) (laid_over geo b x) ≡ true
              equal x d = rw (h.laid x d) (same_self (laid_over geo b x))
