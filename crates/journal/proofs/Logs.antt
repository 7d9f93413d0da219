-- The laws of the log's entries, their sum and the tests on them.
use Prim.Native.Nat.{ℕ, zero, suc, ◌+◌, ◌*◌, ◌^◌, ◌≤◌, ◌<◌}
use mathlib.Core.Path.{◌≡◌, refl, ap, sym, ◌∙◌}
use mathlib.Core.Bool.{Bool, true, false, ◌&&◌, ◌||◌, and-true, and_assoc, true≢false}
use mathlib.Core.List.{List, [], ◌∷◌, ◌++◌, append-nil, map}
use native.Mathlib.Nat.{zero-add}
use native.Mathlib.Numerals.{add-one}
use native.Mathlib.Omega.{arith}
use borrow.Author.Tests.{le-leb, leb-true, lt-ltb, ltb-true}
use Rattle.std.proofs.Common.{length-take-le}
use denote.Ref.{Bor}
use lib.ListN.{length, take, drop, length-drop, drop_of_length-le}
use lib.Seq.{sets, sets-eq}
use Rattle.std.specs.List.{fold, range_with_len}
use Rattle.std.proofs.lemmas.List.Folds.{fold-map}
use Rattle.std.proofs.lemmas.List.FromFn.{map-range_with_len_more}
use Rattle.cells.specs.Cell.{cell}
use Rattle.cells.specs.Cell.Laws.{cell_part, length-cell, bytes-cell}
use Rattle.cells.specs.Little.{le, num, Bytes}
use Rattle.cells.specs.Little.Laws.{num_lt}
use Rattle.cells.specs.Upto.{up_to}
use Rattle.cells.specs.Upto.Laws.{length-up_to, ext_up_to}
use Rattle.cells.specs.Entry.{block_bytes, entry_bytes, Entry, to_bytes, flat, entry_at}
use Rattle.cells.specs.Entry.Laws.{entry_eq, entry_of_part, length_block, block_part, flat_nil, flat-one, flat_append}
use Rattle.cells.specs.Part.{View, view_of, part_of}
use Rattle.fnv.specs.Fnv.{sum_from}
use Rattle.fnv.proofs.Laws.{sum_from_nil, sum_from-append, sum_from_lt}
use Rattle.card.specs.Card.{block_at, blocks_in}
use Rattle.card.proofs.All.{All, all-up_to, up_to-all}
use Rattle.card.proofs.Runs.{Whole, NarrowAddress}
pub use Rattle.card.proofs.MarkLaws.{both}
use Rattle.journal.specs.Geometry.{Geometry}
use Rattle.journal.specs.Layout.{slot_at, described_in, described_at, first_data, is_data}
use Rattle.journal.specs.Log.{slot_address, slot_entry, entries, entries_from, group_count, group_entries, sum_of, all_data}

-- ---- tests

pub neither : (a b : Bool) → a || b ≡ false → (a ≡ false) × (b ≡ false)
neither true b e = absurd (true≢false e)
neither false b e = (refl, e)

-- ---- blocks

pub length-block_at : (s : List ℕ) (a : ℕ) → a < blocks_in s → length (block_at s a) ≡ block_bytes
length-block_at s a h = length-cell block_bytes s a (omega arith)

-- a block that is read where it lies
pub block_read : (r s : Bor (List ℕ)) (a : ℕ) → view_of r ≡ part_of s (block_bytes * a) block_bytes → r.now ≡ block_at s.now a
block_read r s a e = ap (λ (v : View). v.bytes) e ∙ sym (cell_part block_bytes s.now a)

-- the block of an entry, read where it lies
pub listed_block : (r s : Bor (List ℕ)) (i : ℕ) → view_of r ≡ part_of s (entry_bytes * i + 4) block_bytes → r.now ≡ (entry_at s.now i).block
listed_block r s i e = ap (λ (v : View). v.bytes) e ∙ sym (block_part s.now i)

-- the sum of an entry that is read where it lies in memory
pub sum_listed : (s r : Bor (List ℕ)) (h i a b : ℕ) → a ≡ (entry_at s.now i).address → view_of r ≡ part_of s (entry_bytes * i + 4) block_bytes
    → b ≡ sum_of h (record { address = a; block = r.now } ∷ []) → b ≡ sum_of h (entry_at s.now i ∷ [])
sum_listed s r h i a b p q e = rw (p, listed_block r s i q) at e

-- m entries in memory that there is room for are whole
pub from_whole : (work : List ℕ) (from m : ℕ) → entry_bytes * (from + m) ≤ length work → All Whole (entries_from work from m)
from_whole work from m h = all-up_to Whole (λ i. entry_at work (from + i)) m (λ i p. length_block work (from + i) (omega arith))

-- a group's entries
pub length-group_entries : (group : List ℕ) → length (group_entries group) ≡ group_count group
length-group_entries group = length-up_to (entry_at group) (group_count group)

pub group_whole : (group : List ℕ) → All Whole (group_entries group)
group_whole group = all-up_to Whole (entry_at group) (group_count group) (λ i p. length_block group i (omega arith))

-- m entries in memory, cut out as a group
pub group_part : (work : List ℕ) (from m : ℕ) → entry_bytes * (from + m) ≤ length work
    → group_entries (take (entry_bytes * m) (drop (entry_bytes * from) work)) ≡ entries_from work from m
group_part work from m h =
    ap (up_to (entry_at part)) count ∙ ext_up_to (entry_at part) (λ i. entry_at work (from + i)) m (entry_of_part work from m)
  where
    part : List ℕ
    part = take (entry_bytes * m) (drop (entry_bytes * from) work)

    size : length part ≡ entry_bytes * m
    size = length-take-le (entry_bytes * m) (drop (entry_bytes * from) work) (rw (length-drop) (omega arith))

    count : group_count part ≡ m
    count = omega (arith, size)

-- bytes stored over all of a run
pub sets_whole : (v l : List ℕ) → length v ≡ length l → sets l 0 v ≡ v
sets_whole v l e =
    let past : length l ≤ 0 + length v = omega arith in
    sets-eq v l 0 (omega arith) ∙ ap (λ (r : List ℕ). v ++ r) (drop_of_length-le l past) ∙ append-nil v

-- ---- sums

pub sum_of_nil : (h : ℕ) → sum_of h [] ≡ h
sum_of_nil h = rw (flat_nil) (sum_from_nil h)

pub sum_of-append : (h : ℕ) (a b : List Entry) → sum_of h (a ++ b) ≡ sum_of (sum_of h a) b
sum_of-append h a b = rw (flat_append) (sum_from-append h (flat a) (flat b))

pub sum_of-one : (h : ℕ) (e : Entry) → sum_of h (e ∷ []) ≡ sum_from (sum_from h (le 4 e.address)) e.block
unfolding to_bytes
sum_of-one h e = rw (flat-one) (sum_from-append h (le 4 e.address) e.block)

pub sum_of_lt : (h : ℕ) (es : List Entry) → h < 2 ^ 64 → sum_of h es < 2 ^ 64
sum_of_lt h es l = sum_from_lt h (flat es) l

-- the elements at the first n places
range-up_to : {A : Type 0} (f : ℕ → A) (n : ℕ) → map f (range_with_len 0 n) ≡ up_to f n
range-up_to f zero = refl
range-up_to {A} f (suc n) =
    ap (λ (k : ℕ). map f (range_with_len 0 k)) (sym (add-one n))
    ∙ map-range_with_len_more f 0 n n (zero-add n)
    ∙ ap (λ (l : List A). l ++ (f n ∷ [])) (range-up_to f n)

-- the sum as a fold over places
pub sum_of-fold : (f : ℕ → Entry) (h n : ℕ) → fold (λ sum i. sum_of sum (f i ∷ [])) h (range_with_len 0 n) ≡ sum_of h (up_to f n)
sum_of-fold f h n =
    sym (fold-map (λ sum e. sum_of sum (e ∷ [])) f h (range_with_len 0 n))
    ∙ rw (range-up_to f n) (all (up_to f n) h)
  where
    all : (es : List Entry) (g : ℕ) → fold (λ sum e. sum_of sum (e ∷ [])) g es ≡ sum_of g es
    all [] g = sym (sum_of_nil g)
    all (e ∷ es) g = all es (sum_of g (e ∷ [])) ∙ sym (sum_of-append g (e ∷ []) es)

-- ---- a list of data blocks

module _ (geo : Geometry) where
  pub data_bounds : (N a : ℕ) → is_data geo N a ≡ true → (first_data geo ≤ a) × (a < N)
  data_bounds N a e = let p = both _ _ e in (leb-true (first_data geo) a p.0, ltb-true a N p.1)

  pub bounds_data : (N a : ℕ) → first_data geo ≤ a → a < N → is_data geo N a ≡ true
  bounds_data N a h k = rw (le-leb (first_data geo) a h, lt-ltb a N k)

  pub all_data-all : (N : ℕ) (es : List Entry) → all_data geo N es ≡ true → All (λ e. is_data geo N e.address ≡ true) es
  unfolding all_data
  all_data-all N [] h = tt
  all_data-all N (e ∷ es) h = let p = both _ _ h in (p.0, all_data-all N es p.1)

  pub all-all_data : (N : ℕ) (es : List Entry) → All (λ e. is_data geo N e.address ≡ true) es → all_data geo N es ≡ true
  unfolding all_data
  all-all_data N [] h = refl
  all-all_data N (e ∷ es) h = rw (h.0, all-all_data N es h.1)

  -- each slot of such a log
  pub slot_data : (s : List ℕ) (N n i : ℕ) → i < n → all_data geo N (entries geo s n) ≡ true → is_data geo N (slot_address s i) ≡ true
  unfolding slot_entry
  slot_data s N n i h e = up_to-all (λ x. is_data geo N x.address ≡ true) (slot_entry geo s) n (all_data-all N (entries geo s n) e) i h

  pub all_data-append : (N : ℕ) (a b : List Entry) → all_data geo N (a ++ b) ≡ all_data geo N a && all_data geo N b
  unfolding all_data
  all_data-append N [] b = refl
  all_data-append N (e ∷ a) b = go (is_data geo N e.address) (all_data-append N a b)
    where
      go : (t : Bool) → all_data geo N (a ++ b) ≡ all_data geo N a && all_data geo N b → t && all_data geo N (a ++ b) ≡ (t && all_data geo N a) && all_data geo N b
      go true k = k
      go false k = refl

  -- ---- entry by entry

  -- the sum of an entry that is read where it lies
  pub sum_slot : (s r : Bor (List ℕ)) (h i a b : ℕ) → a ≡ slot_address s.now i → view_of r ≡ part_of s (block_bytes * slot_at geo i) block_bytes
      → b ≡ sum_of h (record { address = a; block = r.now } ∷ []) → b ≡ sum_of h (slot_entry geo s.now i ∷ [])
  unfolding slot_entry
  sum_slot s r h i a b p q e = rw (p, block_read r s (slot_at geo i) q) at e

  -- an entry with the slot's address and its block
  pub slot-entry : (s : List ℕ) (i : ℕ) (e : Entry) → e.address ≡ slot_address s i → e.block ≡ block_at s (slot_at geo i) → e ≡ slot_entry geo s i
  unfolding slot_entry
  slot-entry s i e p q = entry_eq p q

module _ (geo : Geometry) where
  -- whether each is a data block, as a fold over places
  pub data-fold : (N : ℕ) (s : List ℕ) (n : ℕ) → fold (λ all i. all && is_data geo N (slot_address s i)) true (range_with_len 0 n) ≡ all_data geo N (entries geo s n)
  unfolding all_data slot_entry
  data-fold N s n =
      sym (fold-map (λ all (e : Entry). all && is_data geo N e.address) (slot_entry geo s) true (range_with_len 0 n))
      ∙ rw (range-up_to (slot_entry geo s) n) (all (up_to (slot_entry geo s) n) true)
    where
      all : (es : List Entry) (t : Bool) → fold (λ all (e : Entry). all && is_data geo N e.address) t es ≡ t && all_data geo N es
      all [] t = sym (and-true t)
      all (e ∷ es) t = all es (t && is_data geo N e.address) ∙ and_assoc t (is_data geo N e.address) (all_data geo N es)

  -- ---- what the log holds is whole, and its addresses fit four bytes

  pub entries_whole : (s : List ℕ) (n : ℕ) → first_data geo < blocks_in s → n ≤ geo.slots → All Whole (entries geo s n)
  unfolding slot_entry
  entries_whole s n h k = all-up_to Whole (slot_entry geo s) n (λ i p. length-block_at s (slot_at geo i) (omega arith))

  pub slot_address_lt : (s : List ℕ) (i : ℕ) → Bytes s → first_data geo < blocks_in s → i < geo.slots → slot_address s i < 2 ^ 32
  unfolding slot_address
  slot_address_lt s i b h k =
      let whole : length (block_at s (described_in i)) ≡ block_bytes = length-block_at s (described_in i) (omega (arith, geo.described)) in
      let four : length (cell 4 (block_at s (described_in i)) (described_at i)) ≡ 4 = length-cell 4 (block_at s (described_in i)) (described_at i) (omega arith) in
      let small : num (cell 4 (block_at s (described_in i)) (described_at i)) < 256 ^ length (cell 4 (block_at s (described_in i)) (described_at i)) =
      num_lt (cell 4 (block_at s (described_in i)) (described_at i)) (bytes-cell 4 (block_at s (described_in i)) (described_at i) (bytes-cell block_bytes s (described_in i) b)) in
      rw four at small

  pub entries_below : (X : ℕ) (s : List ℕ) (n : ℕ) → ((i : ℕ) → i < n → slot_address s i < X) → All (λ e. e.address < X) (entries geo s n)
  unfolding slot_entry
  entries_below X s n h = all-up_to (λ e. e.address < X) (slot_entry geo s) n h

  pub entries-short : (s : List ℕ) (n : ℕ) → Bytes s → first_data geo < blocks_in s → n ≤ geo.slots → All NarrowAddress (entries geo s n)
  entries-short s n b h k = entries_below (2 ^ 32) s n (λ i p. slot_address_lt s i b h (omega arith))
