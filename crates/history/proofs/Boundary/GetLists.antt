-- What a list of gets promises of any state: its rows beside a get's, and its blocks.
use Prim.Native.Nat.{ℕ, ◌*◌, ◌%◌, ◌<◌}
use mathlib.Core.Path.{◌≡◌, refl, ap, sym, ◌∙◌}
use mathlib.Core.Logic.{◌≢◌}
use mathlib.Core.Bool.{Bool, true, false, cond, not}
use mathlib.Core.List.{List, ◌∷◌, []}
use native.Mathlib.Omega.{arith}
use borrow.Author.Tests.{eq-eqb, ne_eqb, le-ltb}
use lib.Dec.{eqb}
use lib.ListN.{length, take, drop, drop_of_length-le}
use Rattle.cells.specs.Cell.Laws.{cell_part}
use Rattle.cells.specs.Little.{num}
use Rattle.cells.specs.Entry.{block_bytes}
use Rattle.cells.specs.Upto.Laws.{get_or-up_to, length-joined, joined_part}
use Rattle.journal.specs.Geometry.{Geometry}
use Rattle.journal.specs.Layout.{is_data}
use Rattle.journal.specs.Log.{slot_address}
use Rattle.journal.specs.Wanted.{wanted_count, wanted_at}
use Rattle.store.specs.State.{State}
use Rattle.store.specs.Request.{get, get_list, abandon}
use Rattle.store.specs.Causes.{some, wrong_list, address_row, addresses_row, cause}
use Rattle.store.specs.Get.{block_of}
use Rattle.store.specs.GetList.{Listing, listing_of, list_walk, shown, listing}
use Rattle.store.proofs.Causes.{climb_hit, cause_block, cause_4}
use Rattle.store.proofs.Places.{block_length}
use Rattle.store.proofs.Listings.{right-list, ListFacts, list_facts, listing-served, listing-refused, walk_length}
use Rattle.history.specs.GetLists.{RightList, address_at, Fills, ListedGets}
use Rattle.history.proofs.Relation.Lists.{none_some}
use Rattle.history.proofs.Relation.Forms.{list-called}

-- ---- lengths

right-wrong : (xs bs : List ℕ) → RightList xs bs → wrong_list xs bs ≡ false
unfolding wrong_list
right-wrong xs bs (m, few, whole, room) =
    let count : wanted_count xs ≡ m = omega arith in
    let z : length xs % 4 ≡ 0 = omega arith in
    let r : length bs ≡ 512 * wanted_count xs = room ∙ ap (λ (k : ℕ). 512 * k) (sym count) in
    rw (eq-eqb _ 0 z, le-ltb 32 (wanted_count xs) (omega arith), eq-eqb _ _ r)

-- a place of the list
inside : (xs bs : List ℕ) (i : ℕ) → RightList xs bs → 4 * i < length xs → i < wanted_count xs
inside xs bs i (m, few, whole, room) h = omega arith

same_at : (xs : List ℕ) (i : ℕ) → address_at xs i ≡ wanted_at xs i
same_at xs i = ap num (sym (cell_part 4 xs i))

-- ---- rows

module _ (geo : Geometry) (st : State) where
  -- rows 1 to 4, which a get and a list share
  shared : ℕ
  shared = cause geo abandon st

  get_rows : (a : ℕ) → cause geo (get a) st ≡ cond (eqb shared 0) (cond (not (is_data geo st.rec.blocks a)) 6 0) shared
  unfolding shared
  get_rows a = cause_4 geo st shared (address_row geo a ∷ []) false refl refl

  list_rows : (xs bs : List ℕ) → RightList xs bs
      → cause geo (get_list xs bs) st ≡ cond (eqb shared 0) (cond (some (λ i. not (is_data geo st.rec.blocks (wanted_at xs i))) (wanted_count xs)) 6 0) shared
  unfolding shared
  list_rows xs bs r = cause_4 geo st shared (addresses_row geo xs ∷ []) (wrong_list xs bs) (right-wrong xs bs r) refl

  lengths : (xs bs : List ℕ) → (RightList xs bs → ⊥) → cause geo (get_list xs bs) st ≡ 1
  lengths xs bs n = go (wrong_list xs bs) refl
    where
      go : (t : Bool) → wrong_list xs bs ≡ t → cause geo (get_list xs bs) st ≡ 1
      go true e = cause_block geo (get_list xs bs) st e
      go false e = let r = right-list xs bs e in absurd (n (wanted_count xs, r.1, r.0, r.2))

  as_get : (xs bs : List ℕ) → RightList xs bs → (a : ℕ) → cause geo (get a) st ≢ 0 → cause geo (get a) st ≢ 6 → cause geo (get_list xs bs) st ≡ cause geo (get a) st
  as_get xs bs r a = rw (get_rows a, list_rows xs bs r) (go (eqb shared 0) (not (is_data geo st.rec.blocks a)) (some (λ i. not (is_data geo st.rec.blocks (wanted_at xs i))) (wanted_count xs)))
    where
      go : (t u v : Bool) → cond t (cond u 6 0) shared ≢ 0 → cond t (cond u 6 0) shared ≢ 6 → cond t (cond v 6 0) shared ≡ cond t (cond u 6 0) shared
      go true true v h k = absurd (k refl)
      go true false v h k = absurd (h refl)
      go false u v h k = refl

  address : (xs bs : List ℕ) → RightList xs bs → (i : ℕ) → 4 * i < length xs → cause geo (get (address_at xs i)) st ≡ 6 → cause geo (get_list xs bs) st ≡ 6
  address xs bs r i h =
      rw (same_at xs i, get_rows (wanted_at xs i), list_rows xs bs r)
      (go (eqb shared 0) (not (is_data geo st.rec.blocks (wanted_at xs i))) (λ e. sym (climb_hit (λ j. not (is_data geo st.rec.blocks (wanted_at xs j))) i (wanted_count xs) (inside xs bs i r h) e)) refl)
    where
      stray : Bool
      stray = some (λ j. not (is_data geo st.rec.blocks (wanted_at xs j))) (wanted_count xs)

      go : (t u : Bool) → (not (is_data geo st.rec.blocks (wanted_at xs i)) ≡ true → stray ≡ true) → not (is_data geo st.rec.blocks (wanted_at xs i)) ≡ u
          → cond t (cond u 6 0) shared ≡ 6 → cond t (cond stray 6 0) shared ≡ 6
      go true true w e k = rw (w e)
      go true false w e k = absurd (omega arith)
      go false u w e k = k

  right : (xs bs : List ℕ) → RightList xs bs → shared ≡ 0 → ((i : ℕ) → 4 * i < length xs → cause geo (get (address_at xs i)) st ≡ 0) → cause geo (get_list xs bs) st ≡ 0
  right xs bs r n all =
      let none : some (λ i. not (is_data geo st.rec.blocks (wanted_at xs i))) (wanted_count xs) ≡ false = none_some _ (wanted_count xs) (λ i h. found i (all i (omega arith))) in
      list_rows xs bs r ∙ rw (n, none)
    where
      found : (i : ℕ) → cause geo (get (address_at xs i)) st ≡ 0 → not (is_data geo st.rec.blocks (wanted_at xs i)) ≡ false
      found i e = go (not (is_data geo st.rec.blocks (wanted_at xs i))) (sym (rw (n) at (get_rows (wanted_at xs i))) ∙ rw (← same_at xs i) e)
        where
          go : (t : Bool) → ◌≡◌ {A = ℕ} (cond t 6 0) 0 → t ≡ false
          go true k = absurd (omega arith)
          go false k = refl

  -- ---- a list that is served

  fills : (xs bs : List ℕ) → cause geo (get_list xs bs) st ≡ 0 → Fills geo xs bs st
  fills xs bs z = record {
    number = ap (λ (l : Listing). l.number) is;
    any = λ n. ap (λ (l : Listing). l.slots) is ∙ walk_length geo xs bs st z ∙ rw (ne_eqb (length xs) 0 (λ e. n (drop_of_length-le xs {i = 0} (omega arith))));
    none = λ e. ap (λ (l : Listing). l.slots) is ∙ walk_length geo xs bs st z ∙ rw (e);
    counted = ap (λ (l : Listing). l.slots) is;
    walks = λ n i h.
        let many : wanted_count xs ≢ 0 = λ e. n (drop_of_length-le xs {i = 0} (omega (arith, f.whole))) in
        rw (ne_eqb _ 0 many) (get_or-up_to (slot_address st.settled) st.rec.logged i 0 h);
    size = ap (λ (l : Listing). length l.blocks) is ∙ length-joined _ block_bytes (wanted_count xs) sizes ∙ sym f.room;
    served = λ i h. rw (same_at xs i) (f.gets i (place i h));
    block = λ i h. ap (λ (l : Listing). take 512 (drop (512 * i) l.blocks)) is ∙ joined_part _ block_bytes (wanted_count xs) i sizes (place i h) ∙ ap (λ (a : ℕ). block_of geo a st) (sym (same_at xs i));
  }
    where
      f : ListFacts geo xs bs st
      f = list_facts geo xs bs st z

      is : listing geo xs bs st ≡ listing_of 0 (length (list_walk xs st)) (shown geo xs st)
      is = sym (listing-served geo xs bs st _ _ z refl refl)

      place : (i : ℕ) → 4 * i < length xs → i < wanted_count xs
      place i h = omega (arith, f.whole)

      sizes : (i : ℕ) → i < wanted_count xs → length (block_of geo (wanted_at xs i) st) ≡ block_bytes
      sizes i h = block_length geo (wanted_at xs i) st (f.gets i h)

module _ (geo : Geometry) where
  pub listed_gets : (xs bs : List ℕ) (st : State) → ListedGets geo xs bs st
  unfolding shared
  listed_gets xs bs st = record {
    lengths = lengths geo st xs bs;
    as_get = as_get geo st xs bs;
    address = address geo st xs bs;
    right = right geo st xs bs;
    serves = fills geo st xs bs;
    refuses = listing-refused geo xs bs st;
    leaves = list-called geo xs bs st;
  }
