-- What an append leaves when a cut keeps some of its writes.
use Prim.Native.Nat.{ℕ, zero, suc, ◌+◌, ◌*◌, ◌/◌, ◌≤◌, ◌<◌}
use mathlib.Core.Path.{◌≡◌, refl, ap, ap₂, sym, ◌∙◌}
use mathlib.Core.Logic.{◌≢◌}
use mathlib.Core.Bool.{true, false}
use mathlib.Core.List.{List, [], ◌∷◌, ◌++◌, append_assoc}
use native.Mathlib.Omega.{arith}
use native.Mathlib.Decide.{ℕ_discrete}
use lib.ListN.{length, get_or, take, drop, length-append}
use lib.Seq.{ext_get_or, take-append-le}
use Rattle.cells.specs.Cell.{cell}
use Rattle.cells.specs.Little.{num, le}
use Rattle.cells.specs.Little.Laws.{num-le}
use Rattle.cells.specs.Upto.{up_to}
use Rattle.cells.specs.Upto.Laws.{length-up_to, get_or-up_to, up_to_add}
use Rattle.cells.specs.Entry.{block_bytes, Entry}
use Rattle.cells.specs.Entry.Laws.{entry_eq}
use Rattle.card.specs.Disk.{Disk, lay, overlay}
use Rattle.card.specs.Card.{block_at}
use Rattle.card.specs.Marks.{kept_at, all_kept}
use Rattle.card.proofs.All.{All, all_append, all_map, all_take, all_at, all-up_to}
use Rattle.card.proofs.Overlays.{lay-same, lay_other, overlay-append, overlay_other}
use Rattle.card.proofs.Runs.{Whole, NarrowAddress}
use Rattle.card.proofs.MarkLaws.{HeaderLast}
use Rattle.card.proofs.Leaves.{Leaves, only_lost, kept-header, lost-header}
use Rattle.journal.specs.Geometry.{Geometry, per_descriptor}
use Rattle.journal.specs.Layout.{header_at, descriptor_at, described_in, described_at, slot_at, first_data, is_data}
use Rattle.journal.specs.Header.{encode, header}
use Rattle.journal.specs.Log.{sum_of}
use Rattle.journal.specs.Orders.{descriptor_entry, descriptors}
use Rattle.journal.proofs.OrderLists.{slot_block, slot_blocks, header_entry, append_writes, length-slot_blocks, slots_whole, slots_below, slots_from}
use Rattle.journal.proofs.Headers.{length-encode}
use Rattle.journal.proofs.Descriptors.{length-describe, listed-old, listed_new}
use Rattle.crash.proofs.Logs.{slot_e, log_d, LogStands, same_log_lem, data_above}
use Rattle.crash.proofs.Frames.{Besides, Sized, Aside, log-left, homes_left, Stands, KeepOff, off_aside, off_low, aside_stands}

-- ---- the writes of an append

module _ (geo : Geometry) (N : ℕ) (s : List ℕ) (n h c : ℕ) (G : List Entry) where
  -- all but the header
  abbrev pub front : List Entry
  front = slot_blocks geo n G ++ descriptors geo s n G

  abbrev pub top : Entry
  top = header_entry (header N n h (n + length G) (sum_of h G) c)

  pub writes_split : append_writes geo N s n h c G ≡ front ++ (top ∷ [])
  writes_split = sym (append_assoc (slot_blocks geo n G) (descriptors geo s n G) (top ∷ []))

  pub length_front : length front ≡ length G + geo.descriptors
  length_front = length-append (slot_blocks geo n G) (descriptors geo s n G) ∙ ap₂ (λ (a b : ℕ). a + b) (length-slot_blocks geo n G) (length-up_to (descriptor_entry s n G) geo.descriptors)

  pub writes_whole : All Whole G → All Whole (append_writes geo N s n h c G)
  writes_whole w =
      all_append Whole (slot_blocks geo n G) (descriptors geo s n G ++ (top ∷ [])) (slots_whole geo n G w)
      (all_append Whole (descriptors geo s n G) (top ∷ []) (all-up_to Whole (descriptor_entry s n G) geo.descriptors (λ j l. length-describe _ _ _))
      (length-encode (header N n h (n + length G) (sum_of h G) c), tt))

  pub writes_below : (X : ℕ) → n + length G ≤ geo.slots → first_data geo ≤ X → All (λ e. e.address < X) (append_writes geo N s n h c G)
  writes_below X room l =
      all_append (λ e. e.address < X) (slot_blocks geo n G) (descriptors geo s n G ++ (top ∷ [])) (slots_below geo X n G (omega arith))
      (all_append (λ e. e.address < X) (descriptors geo s n G) (top ∷ []) (all-up_to (λ e. e.address < X) (descriptor_entry s n G) geo.descriptors (λ j k. omega arith)) (omega arith, tt))

  module _ (room : n + length G ≤ geo.slots) where
    -- what holds of the writes to slots and of those to descriptor blocks holds of all but the header
    front-all : (P : Entry → Type 0) → ((e : Entry) → slot_at geo n ≤ e.address → e.address < first_data geo → P e) → ((j : ℕ) → j < geo.descriptors → P (descriptor_entry s n G j)) → All P front
    front-all P f g =
        all_append P (slot_blocks geo n G) (descriptors geo s n G)
        (slots_all (slot_blocks geo n G) (slots_from geo (slot_at geo n) n G (omega arith)) (slots_below geo (first_data geo) n G (omega arith)))
        (all-up_to P (descriptor_entry s n G) geo.descriptors g)
      where
        slots_all : (es : List Entry) → All (λ e. slot_at geo n ≤ e.address) es → All (λ e. e.address < first_data geo) es → All P es
        slots_all [] a b = tt
        slots_all (e ∷ es) a b = (f e a.0 b.0, slots_all es a.1 b.1)

    front_high : Besides front header_at
    front_high = front-all (λ e. header_at ≢ e.address) (λ e q u z. omega arith) (λ j l z. omega arith)

    -- a header waits behind all the others, and before that none does
    pub header_none : (k : ℕ) → k ≤ length front → HeaderLast false (take k (append_writes geo N s n h c G))
    header_none k l = rw (writes_split, take-append-le k front (top ∷ []) l) (all_take (λ e. header_at ≢ e.address) k front front_high)

    pub header-last : HeaderLast true (append_writes geo N s n h c G)
    header-last = (front, top, writes_split, front_high, refl)

  module _ (room : n + length G ≤ geo.slots) (big : first_data geo < N) (size : Sized N (block_at s)) where
    -- a descriptor block has the old addresses as they were
    described_aside : (j : ℕ) → j < geo.descriptors → Aside geo n (block_at s) (descriptor_entry s n G j)
    described_aside j l = record {
      names = λ i b h k z. listed-old s n G j i b z (size (described_in i) (omega arith)) h k;
      above = λ i h z. omega arith;
    }

    front_aside : All (Aside geo n (block_at s)) front
    front_aside =
        front-all room (Aside geo n (block_at s))
        (λ e q u. record { names = λ i j l k z. absurd (omega (arith, geo.described)); above = λ i l z. omega arith })
        described_aside

    top_aside : Aside geo n (block_at s) top
    top_aside = record { names = λ i j l k z. absurd (omega arith); above = λ i l z. omega arith }

    -- no write goes to a data block
    front_homes : (a : ℕ) → is_data geo N a ≡ true → Besides front a
    front_homes a l =
        let above : first_data geo ≤ a = data_above geo N a l in
        front-all room (λ e. a ≢ e.address) (λ e q u z. omega arith) (λ j k z. omega arith)

    all_aside : All (Aside geo n (block_at s)) (append_writes geo N s n h c G)
    all_aside = rw writes_split (all_append (Aside geo n (block_at s)) front (top ∷ []) front_aside (top_aside, tt))

    all_homes : (a : ℕ) → is_data geo N a ≡ true → All (λ x. a ≢ x.address) (append_writes geo N s n h c G)
    all_homes a q = rw writes_split (all_append (λ x. a ≢ x.address) front (top ∷ []) (front_homes a q) ((λ z. let u = data_above geo N a q in omega arith), tt))

    -- ---- behind any queue q₀ that keeps off header and log

    module _ (ms : List ℕ) (q₀ : List Entry) (off : KeepOff geo q₀) (e : Disk) where
      -- without its header
      pub lost-stands : (k : ℕ) → k ≤ length front → Leaves N ms (q₀ ++ take k (append_writes geo N s n h c G)) (block_at s) e → Stands geo N n q₀ (block_at s) e
      lost-stands k l v =
          let p : take k (append_writes geo N s n h c G) ≡ take k front = ap (take k) writes_split ∙ take-append-le k front (top ∷ []) l in
          let u : Leaves N ms (q₀ ++ take k front) (block_at s) e = rw p at v in
          aside_stands geo N ms q₀ (take k front) n (block_at s) e big (omega arith) off u size (all_take (Aside geo n (block_at s)) k front front_aside)
          (u.untouched header_at (omega arith) (all_append (λ x. header_at ≢ x.address) q₀ (take k front) (off_low geo q₀ off header_at (omega arith)) (all_take (λ x. header_at ≢ x.address) k front (front_high room))))
          (λ a q. all_take (λ x. a ≢ x.address) k front (front_homes a q))

      module _ (v : Leaves N ms (q₀ ++ append_writes geo N s n h c G) (block_at s) e) where
        -- its header is the last write
        last_write : q₀ ++ append_writes geo N s n h c G ≡ (q₀ ++ front) ++ (top ∷ [])
        last_write = ap (λ (l : List Entry). q₀ ++ l) writes_split ∙ sym (append_assoc q₀ front (top ∷ []))

        last_place : length (q₀ ++ front) ≡ length q₀ + (length G + geo.descriptors)
        last_place = length-append q₀ front ∙ ap (λ (k : ℕ). length q₀ + k) length_front

        -- its header was written, and lost
        pub header-lost : kept_at ms (length q₀ + (length G + geo.descriptors)) ≡ false → Stands geo N n q₀ (block_at s) e
        header-lost z =
            aside_stands geo N ms q₀ (append_writes geo N s n h c G) n (block_at s) e big (omega arith) off v size all_aside
            (lost-header v (only_lost (kept_at ms) header_at (q₀ ++ front) [] top last_write (all_append (λ x. header_at ≢ x.address) q₀ front (off_low geo q₀ off header_at (omega arith)) (front_high room)) tt (ap (kept_at ms) last_place ∙ z))) all_homes

        -- its header was written, and kept
        pub header-kept : kept_at ms (length q₀ + (length G + geo.descriptors)) ≡ true → e header_at ≡ encode (header N n h (n + length G) (sum_of h G) c)
        header-kept z = kept-header v (q₀ ++ front) [] top last_write refl tt (ap (kept_at ms) last_place ∙ z)

        -- header or not, the first n entries stand, and the homes that q₀ does not write to
        pub log-stands : LogStands geo n e (block_at s)
        log-stands =
            log-left geo N ms (q₀ ++ append_writes geo N s n h c G) n (block_at s) e big v (omega arith) size
            (all_append (Aside geo n (block_at s)) q₀ (append_writes geo N s n h c G) (off_aside geo n (block_at s) q₀ (omega arith) off) all_aside)

        pub homes_stand : (a : ℕ) → is_data geo N a ≡ true → All (λ x. a ≢ x.address) q₀ → e a ≡ block_at s a
        homes_stand a l k =
            homes_left geo N ms (q₀ ++ append_writes geo N s n h c G) n (block_at s) e big v a l
            (all_append (λ x. a ≢ x.address) q₀ (append_writes geo N s n h c G) k (all_homes a l))

slots_laid : (geo : Geometry) (n : ℕ) (G : List Entry) (d : Disk) (i : ℕ) (x : Entry) → i < length G → overlay (slot_blocks geo n G) d (slot_at geo (n + i)) ≡ (get_or G i x).block
unfolding slot_blocks overlay
slots_laid geo n [] d i x h = elim h [ ]
slots_laid geo n (e ∷ G) d zero x h =
    rw (native.Mathlib.Nat.add-zero)
    (overlay_other (slot_blocks geo (suc n) G) (lay (slot_block geo n e) d) (slot_at geo n) (all_map (λ f. slot_at geo (suc n) ≤ f.address) (λ f. slot_at geo n ≢ f.address) (λ f q z. omega arith) (slot_blocks geo (suc n) G) (slots_from geo (slot_at geo (suc n)) (suc n) G (omega arith)))
    ∙ lay-same (slot_block geo n e) d (slot_at geo n) refl)
slots_laid geo n (e ∷ G) d (suc i) x h =
    rw (native.Mathlib.Nat.add-suc, ← native.Mathlib.Nat.suc-add n i) (slots_laid geo (suc n) G (lay (slot_block geo n e) d) i x (omega arith))

-- writes to blocks in a row, from b on
row_laid : (f : ℕ → Entry) (b : ℕ) → ((i : ℕ) → (f i).address ≡ b + i) → (k j : ℕ) (d : Disk) → j < k → overlay (up_to f k) d (b + j) ≡ (f j).block
unfolding overlay
row_laid f b at zero j d h = absurd (omega arith)
row_laid f b at (suc k) j d h =
    ap (λ (g : Disk). g (b + j)) (overlay-append (up_to f k) (f k ∷ []) d)
    ∙ go (ℕ_discrete j k) (λ l. row_laid f b at k j d l)
  where
    go : Dec (j ≡ k) → (j < k → overlay (up_to f k) d (b + j) ≡ (f j).block) → lay (f k) (overlay (up_to f k) d) (b + j) ≡ (f j).block
    go (yes e) more = lay-same (f k) (overlay (up_to f k) d) (b + j) (ap (λ (i : ℕ). b + i) e ∙ sym (at k)) ∙ ap (λ (i : ℕ). (f i).block) (sym e)
    go (no e) more = lay_other (f k) (overlay (up_to f k) d) (b + j) (λ z. e (omega (arith, at k))) ∙ more (omega arith)

-- ---- all of them kept, whatever became of q₀: the log found is the log written

module _ (geo : Geometry) (N : ℕ) (s : List ℕ) (n h c : ℕ) (G : List Entry) (room : n + length G ≤ geo.slots) (big : first_data geo < N) (size : Sized N (block_at s)) (low : All NarrowAddress G)
    (ms : List ℕ) (q₀ : List Entry) (off : KeepOff geo q₀) (e : Disk) (v : Leaves N ms (q₀ ++ append_writes geo N s n h c G) (block_at s) e) (all : all_kept (drop (block_bytes * length q₀) ms) ≡ true) where
  -- what q₀ wrote plays no part below the data blocks
  over : (a : ℕ) → a < first_data geo → e a ≡ overlay (append_writes geo N s n h c G) (block_at s) a
  over a b = v.whole q₀ (append_writes geo N s n h c G) refl all a (omega arith) (off_low geo q₀ off a b)

  -- the log blocks, under descriptor and header
  abbrev blocks : Disk
  blocks = overlay (slot_blocks geo n G) (block_at s)

  abbrev behind : List Entry
  behind = descriptors geo s n G ++ (top geo N s n h c G ∷ [])

  slotted : (a : ℕ) → 1 + geo.descriptors ≤ a → overlay (append_writes geo N s n h c G) (block_at s) a ≡ blocks a
  slotted a p =
      ap (λ (f : Disk). f a) (overlay-append (slot_blocks geo n G) behind (block_at s))
      ∙ overlay_other behind blocks a
      (all_append (λ x. a ≢ x.address) (descriptors geo s n G) (top geo N s n h c G ∷ [])
      (all-up_to (λ x. a ≢ x.address) (descriptor_entry s n G) geo.descriptors (λ j l z. omega arith)) ((λ z. omega arith), tt))

  described : (j : ℕ) → j < geo.descriptors → e (descriptor_at + j) ≡ (descriptor_entry s n G j).block
  described j l =
      over (descriptor_at + j) (omega arith)
      ∙ ap (λ (f : Disk). f (descriptor_at + j)) (overlay-append (slot_blocks geo n G) behind (block_at s) ∙ overlay-append (descriptors geo s n G) (top geo N s n h c G ∷ []) blocks)
      ∙ overlay_other (top geo N s n h c G ∷ []) (overlay (descriptors geo s n G) blocks) (descriptor_at + j) ((λ z. omega arith), tt)
      ∙ row_laid (descriptor_entry s n G) descriptor_at (λ i. refl) geo.descriptors j blocks l

  -- the address of a new slot, in the block and at the place that are its
  named : (x : Entry) (i : ℕ) → i < length G → cell 4 (e (described_in (n + i))) (described_at (n + i)) ≡ le 4 (get_or G i x).address
  named x i l =
      let block : (n + i) / per_descriptor < geo.descriptors = omega (arith, geo.described) in
      let new = listed_new s n G i x (size (described_in (n + i)) (omega arith)) l in
      ap (λ (b : List ℕ). cell 4 b (described_at (n + i))) (ap e (sym new.0) ∙ described ((n + i) / per_descriptor) block)
      ∙ new.1

  slot_found : (x : Entry) (i : ℕ) → i < length G → slot_e geo e (n + i) ≡ get_or G i x
  unfolding slot_e
  slot_found x i l =
      entry_eq
      (ap num (named x i l) ∙ num-le 4 (get_or G i x).address (all_at NarrowAddress G i x l low))
      (over (slot_at geo (n + i)) (omega arith) ∙ slotted (slot_at geo (n + i)) (omega arith) ∙ slots_laid geo n G (block_at s) i x l)

  pub found-written : log_d geo e (n + length G) ≡ log_d geo (block_at s) n ++ G
  found-written =
      up_to_add (slot_e geo e) n (length G)
      ∙ ap₂ (λ (a b : List Entry). a ++ b)
      (same_log_lem geo n e (block_at s) (log-stands geo N s n h c G room big size ms q₀ off e v))
      (new G refl)
    where
      new : (H : List Entry) → H ≡ G → up_to (λ i. slot_e geo e (n + i)) (length G) ≡ G
      new [] p = rw (sym p)
      new (x ∷ H) p =
          ext_get_or x (up_to (λ i. slot_e geo e (n + i)) (length G)) G (length-up_to (λ i. slot_e geo e (n + i)) (length G))
          (λ i l. let k : i < length G = rw (length-up_to (λ i. slot_e geo e (n + i)) (length G)) at l in get_or-up_to (λ i. slot_e geo e (n + i)) (length G) i x k ∙ slot_found x i k)
