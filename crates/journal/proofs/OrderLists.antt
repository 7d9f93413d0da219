-- The laws of the lists of orders: how long they are, what they write and where.
use Prim.Native.Nat.{ℕ, zero, suc, ◌+◌, ◌*◌, ◌-◌, ◌^◌, ◌≤◌, ◌<◌}
use mathlib.Core.Path.{◌≡◌, refl, ap, ap₂, sym, ◌∙◌}
use mathlib.Core.Bool.{Bool, true, false, cond}
use mathlib.Core.List.{List, [], ◌∷◌, ◌++◌, map, map-append, append_assoc}
use native.Mathlib.Nat.{add-zero, add-suc, suc-add}
use native.Mathlib.Omega.{arith}
use lib.Dec.{eqb, leb}
use lib.ListN.{length, drop, length-append, length-map}
use Rattle.cells.specs.Upto.{up_to}
use Rattle.cells.specs.Upto.Laws.{length-up_to, ext_up_to}
use Rattle.cells.specs.Entry.{entry_bytes, Entry}
use Rattle.cells.specs.Entry.Laws.{entry_eq}
use Rattle.fnv.specs.Fnv.{start}
use Rattle.card.specs.Card.{Order, write, flush, run, block_at}
use Rattle.card.specs.declared.queue.Queue.{Queue}
use Rattle.card.specs.CodeQueue.{card_of, Below}
use Rattle.card.proofs.All.{All, all_append, all_map}
use Rattle.card.proofs.Runs.{Whole, NarrowAddress, writes_below}
use Rattle.journal.specs.Geometry.{Geometry, per_descriptor, trap}
use Rattle.journal.specs.Geometry.Laws.{trap-descriptors}
use Rattle.journal.specs.declared.header.Header.{Header}
use Rattle.journal.specs.Layout.{header_at, descriptor_at, slot_at, first_data}
use Rattle.journal.specs.Header.{encode, header, empty_header}
use Rattle.journal.specs.Log.{slot_entry, entries, sum_of}
use Rattle.journal.specs.Orders.{header_write, barrier, slot_writes, describe, descriptor_entry, descriptors, append_orders, checkpoint_orders, fallback_orders, apply_orders, sync_orders}
pub use Rattle.journal.proofs.Descriptors.{length-describe, describe_afresh}
use Rattle.journal.proofs.Phases.{below_card}

-- ---- log blocks

module _ (geo : Geometry) where
  -- an entry's block, on its way to slot k
  abbrev pub slot_block : ℕ → Entry → Entry
  slot_block k e = record { address = slot_at geo k; block = e.block }

  -- a list's blocks, on their way to the slots from n on
  unfoldable pub slot_blocks : ℕ → List Entry → List Entry
  slot_blocks n [] = []
  slot_blocks n (e ∷ es) = slot_block n e ∷ slot_blocks (suc n) es

  pub slot_writes-blocks : (n : ℕ) (es : List Entry) → slot_writes geo n es ≡ map write (slot_blocks n es)
  unfolding slot_writes slot_blocks
  slot_writes-blocks n [] = refl
  slot_writes-blocks n (e ∷ es) = ap (λ (os : List Order). write (slot_block n e) ∷ os) (slot_writes-blocks (suc n) es)

  pub length-slot_blocks : (n : ℕ) (es : List Entry) → length (slot_blocks n es) ≡ length es
  unfolding slot_blocks
  length-slot_blocks n [] = refl
  length-slot_blocks n (e ∷ es) = ap suc (length-slot_blocks (suc n) es)

  pub slot_blocks-append : (n : ℕ) (a b : List Entry) → slot_blocks n (a ++ b) ≡ slot_blocks n a ++ slot_blocks (n + length a) b
  unfolding slot_blocks
  slot_blocks-append n [] b = rw (add-zero)
  slot_blocks-append n (e ∷ a) b =
      rw (add-suc, ← suc-add n (length a)) (ap (λ (l : List Entry). slot_block n e ∷ l) (slot_blocks-append (suc n) a b))

  pub slot_blocks-up_to : (n : ℕ) (e : ℕ → Entry) (m : ℕ) → slot_blocks n (up_to e m) ≡ up_to (λ i. slot_block (n + i) (e i)) m
  unfolding slot_blocks
  slot_blocks-up_to n e zero = refl
  slot_blocks-up_to n e (suc m) =
      slot_blocks-append n (up_to e m) (e m ∷ [])
      ∙ ap₂ (λ (a : List Entry) (k : ℕ). a ++ (slot_block (n + k) (e m) ∷ [])) (slot_blocks-up_to n e m) (length-up_to e m)

  pub slot_writes-up_to : (n : ℕ) (e : ℕ → Entry) (m : ℕ) → slot_writes geo n (up_to e m) ≡ map write (up_to (λ i. slot_block (n + i) (e i)) m)
  slot_writes-up_to n e m = slot_writes-blocks n (up_to e m) ∙ ap (map write) (slot_blocks-up_to n e m)

  -- they are whole if the entries are, and lie in the slots from n on
  pub slots_whole : (n : ℕ) (es : List Entry) → All Whole es → All Whole (slot_blocks n es)
  unfolding slot_blocks
  slots_whole n [] h = tt
  slots_whole n (e ∷ es) h = (h.0, slots_whole (suc n) es h.1)

  pub slots_below : (X n : ℕ) (es : List Entry) → slot_at geo (n + length es) ≤ X → All (λ e. e.address < X) (slot_blocks n es)
  unfolding slot_blocks
  slots_below X n [] h = tt
  slots_below X n (e ∷ es) h = (omega arith, slots_below X (suc n) es (omega arith))

  pub slots_from : (X n : ℕ) (es : List Entry) → X ≤ slot_at geo n → All (λ e. X ≤ e.address) (slot_blocks n es)
  unfolding slot_blocks
  slots_from X n [] h = tt
  slots_from X n (e ∷ es) h = (h, slots_from X (suc n) es (omega arith))

-- ---- the writes of each list

-- a header as an entry
abbrev pub header_entry : Header → Entry
header_entry h = record { address = header_at; block = encode h }

-- the one descriptor block of the trap
abbrev pub one_descriptor : List ℕ → ℕ → List Entry → Entry
one_descriptor s n es = record { address = descriptor_at; block = describe (block_at s descriptor_at) n es }

pub one-descriptor : (s : List ℕ) (n : ℕ) (es : List Entry) → descriptors trap s n es ≡ one_descriptor s n es ∷ []
one-descriptor s n es =
    let kept : n - 0 ≡ n = omega arith in
    let all : 0 - n ≡ 0 = omega arith in
    ap (up_to (descriptor_entry s n es)) trap-descriptors
    ∙ ap₂ (λ (k i : ℕ). record { address = descriptor_at; block = describe (block_at s descriptor_at) k (drop i es) } ∷ []) kept all

module _ (geo : Geometry) where
  -- what an append writes before its flush
  abbrev pub append_writes : ℕ → List ℕ → ℕ → ℕ → ℕ → List Entry → List Entry
  append_writes N s n h c es = slot_blocks geo n es ++ (descriptors geo s n es ++ (header_entry (header N n h (n + length es) (sum_of h es) c) ∷ []))

  pub append-writes : (N : ℕ) (s : List ℕ) (n h c : ℕ) (es : List Entry) → append_orders geo N s n h c es ≡ map write (append_writes N s n h c es) ++ (flush ∷ [])
  unfolding append_orders
  append-writes N s n h c es =
      let top : List Entry = header_entry (header N n h (n + length es) (sum_of h es) c) ∷ [] in
      rw (map-append write (slot_blocks geo n es) (descriptors geo s n es ++ top), map-append write (descriptors geo s n es) top, append_assoc, append_assoc, ← slot_writes-blocks geo n es)

  -- in the two phases in which it is given: log blocks and descriptor, then header and flush
  pub append_split : (N : ℕ) (s : List ℕ) (n h c : ℕ) (es : List Entry)
      → append_orders geo N s n h c es ≡ (slot_writes geo n es ++ map write (descriptors geo s n es)) ++ (header_write (header N n h (n + length es) (sum_of h es) c) ∷ flush ∷ [])
  unfolding append_orders
  append_split N s n h c es =
      sym (append_assoc (slot_writes geo n es) (map write (descriptors geo s n es)) (header_write (header N n h (n + length es) (sum_of h es) c) ∷ flush ∷ []))

  -- what waits after log blocks and further writes below the slots
  pub list_below : (X : ℕ) (s w : List ℕ) (q : Queue) (w' : List ℕ) (q' : Queue) (n : ℕ) (es ds : List Entry)
      → card_of s w' q' ≡ run (slot_writes geo n es ++ map write ds) (card_of s w q)
      → entry_bytes * (q.waiting + length es + length ds) ≤ length w → All Whole es → All Whole ds → All (λ d. d.address < slot_at geo 0) ds → n + length es ≤ geo.slots → first_data geo ≤ X
      → Below X w q.waiting → Below X w' q'.waiting
  list_below X s w q w' q' n es ds told room whole d-whole d-low fits large old =
      below_card X s w' q' _
      (told ∙ ap (λ (os : List Order). run (os ++ map write ds) (card_of s w q)) (slot_writes-blocks geo n es) ∙ ap (λ (os : List Order). run os (card_of s w q)) (sym (map-append write (slot_blocks geo n es) ds)))
      (writes_below X (slot_blocks geo n es ++ ds) (card_of s w q) (rw (length-append, length-slot_blocks geo) (omega arith))
      (all_append Whole (slot_blocks geo n es) ds (slots_whole geo n es whole) d-whole)
      (all_append NarrowAddress (slot_blocks geo n es) ds (slots_below geo (2 ^ 32) n es (omega (arith, geo.addressed))) (all_map (λ d. d.address < slot_at geo 0) NarrowAddress (λ d l. omega (arith, geo.addressed)) ds d-low))
      (all_append (λ e. e.address < X) (slot_blocks geo n es) ds (slots_below geo X n es (omega arith)) (all_map (λ d. d.address < slot_at geo 0) (λ d. d.address < X) (λ d l. omega arith) ds d-low))
      old)

pub checkpoint_writes : (N c : ℕ) (es : List Entry)
    → checkpoint_orders N c es ≡ (map write es ++ (flush ∷ [])) ++ (map write (header_entry (empty_header N c) ∷ []) ++ (flush ∷ []))
unfolding checkpoint_orders
checkpoint_writes N c es = sym (append_assoc (map write es) (flush ∷ []) (header_write (empty_header N c) ∷ flush ∷ []))

pub fallback_writes : (N p h c : ℕ) → fallback_orders N p h c ≡ map write (header_entry (header N p h p h c) ∷ []) ++ (flush ∷ [])
unfolding fallback_orders
fallback_writes N p h c = refl

module _ (geo : Geometry) where
  -- at n = 0 the descriptor that stands on the card plays no part
  pub append_afresh : (N : ℕ) (s t : List ℕ) (h c : ℕ) (es : List Entry) → append_orders geo N s 0 h c es ≡ append_orders geo N t 0 h c es
  unfolding append_orders
  append_afresh N s t h c es =
      ap (λ (l : List Entry). slot_writes geo 0 es ++ (map write l ++ (header_write (header N 0 h (0 + length es) (sum_of h es) c) ∷ flush ∷ [])))
      (ext_up_to (descriptor_entry s 0 es) (descriptor_entry t 0 es) geo.descriptors
      (λ j l. entry_eq refl (describe_afresh (block_at s (descriptor_at + j)) (block_at t (descriptor_at + j)) (0 - per_descriptor * j) (drop (per_descriptor * j - 0) es) (omega arith))))

  -- ---- lengths

  pub length-slot_writes : (n : ℕ) (es : List Entry) → length (slot_writes geo n es) ≡ length es
  length-slot_writes n es = rw (slot_writes-blocks geo, length-map) (length-slot_blocks geo n es)

  pub length-append_writes : (N : ℕ) (s : List ℕ) (n h c : ℕ) (es : List Entry) → length (append_writes geo N s n h c es) ≡ length es + geo.descriptors + 1
  length-append_writes N s n h c es =
      rw (length-append, length-slot_blocks geo, length-append, length-up_to (descriptor_entry s n es) geo.descriptors) (omega arith)

  pub length-append_orders : (N : ℕ) (s : List ℕ) (n h c : ℕ) (es : List Entry) → length (append_orders geo N s n h c es) ≡ length es + geo.descriptors + 2
  length-append_orders N s n h c es = rw (append-writes geo N s n h c es, length-append, length-map, length-append_writes N s n h c es) (omega arith)

pub length-checkpoint : (N c : ℕ) (es : List Entry) → length (checkpoint_orders N c es) ≡ length es + 3
unfolding checkpoint_orders
length-checkpoint N c es = simp (length-append, length-map)

pub length_fallback : (N p h c : ℕ) → length (fallback_orders N p h c) ≡ 2
unfolding fallback_orders
length_fallback N p h c = refl

-- "n = 0: done, no orders […] n+3 orders"
abbrev pub apply_count : ℕ → ℕ
apply_count n = cond (eqb n 0) 0 (n + 3)

pub length-barrier : (w : ℕ) → length (barrier w) ≡ cond (eqb w 0) 0 1
unfolding barrier
length-barrier w = go (eqb w 0)
  where
    go : (t : Bool) → length (cond t [] (flush ∷ [])) ≡ cond t 0 1
    go true = refl
    go false = refl

module _ (geo : Geometry) where
  pub length-apply : (N : ℕ) (s : List ℕ) (n c : ℕ) → length (apply_orders geo N s n c) ≡ apply_count n
  unfolding apply_orders
  length-apply N s n c = go (eqb n 0)
    where
      go : (t : Bool) → length (cond t [] (checkpoint_orders N c (entries geo s n))) ≡ cond t 0 (n + 3)
      go true = refl
      go false = length-checkpoint N c (entries geo s n) ∙ ap (λ (k : ℕ). k + 3) (length-up_to (slot_entry geo s) n)

  -- "flushes if anything waits, one order; otherwise none. If n+m > 32, apply runs first and n is then 0 […] m+3 orders"
  abbrev pub sync_count : ℕ → ℕ → ℕ → ℕ
  sync_count w n m = cond (eqb m 0) (cond (eqb w 0) 0 1) (cond (leb (n + m) geo.slots) (m + geo.descriptors + 2) (n + 3 + (m + geo.descriptors + 2)))

  pub length-sync : (N : ℕ) (s : List ℕ) (w n h c : ℕ) (es : List Entry) → length (sync_orders geo N s w n h c es) ≡ sync_count w n (length es)
  unfolding sync_orders
  length-sync N s w n h c es = go (eqb (length es) 0) (leb (n + length es) geo.slots)
    where
      go : (t u : Bool)
          → length (cond t (barrier w) (cond u (append_orders geo N s n h (c + 1) es) (checkpoint_orders N c (entries geo s n) ++ append_orders geo N s 0 start (c + 1) es)))
          ≡ cond t (cond (eqb w 0) 0 1) (cond u (length es + geo.descriptors + 2) (n + 3 + (length es + geo.descriptors + 2)))
      go true u = length-barrier w
      go false true = length-append_orders geo N s n h (c + 1) es
      go false false = rw (length-append, length-checkpoint, length-up_to, length-append_orders geo)
