-- What every cut leads to, behind any queue that keeps off header and log: settled bytes s on which the header's list is w, and S, n and F
-- that belong to it; collisions apart.
use Prim.Native.Nat.{ℕ, ◌+◌, ◌*◌, ◌^◌, ◌≤◌, ◌<◌}
use mathlib.Core.Path.{◌≡◌, refl, ap, ap₂, sym, ◌∙◌}
use mathlib.Core.Logic.{◌≢◌}
use mathlib.Core.Bool.{Bool, true, false, true≢false, ◌&&◌}
use mathlib.Core.List.{List, [], ◌∷◌, ◌++◌, append-nil}
use native.Mathlib.Omega.{arith}
use native.Mathlib.Decide.{ℕ_discrete}
use borrow.Author.Tests.{eq-eqb, eqb-true}
use lib.Dec.{eqb}
use lib.ListN.{length, take, drop, length-append}
use Rattle.cells.specs.Upto.Laws.{length-up_to}
use Rattle.cells.specs.Entry.{block_bytes, Entry}
use Rattle.cells.specs.Entry.Laws.{entry_eq}
use Rattle.cells.specs.Same.{same}
use Rattle.cells.specs.Same.Laws.{same_equal, same_self}
use Rattle.fnv.specs.Fnv.{start}
use Rattle.card.specs.Disk.{Disk, overlay}
use Rattle.card.specs.Card.{block_at, blocks_in}
use Rattle.card.specs.Marks.{kept_at, all_kept}
use Rattle.card.proofs.All.{All, all_append, all_take}
use Rattle.card.proofs.Overlays.{overlay-append, overlay_agree, overlay_other}
use Rattle.card.proofs.Runs.{Whole, NarrowAddress}
use Rattle.card.proofs.Leaves.{Leaves, whole_all, only_lost, kept-header, lost-header}
use Rattle.card.proofs.MarkLaws.{tail_kept_at}
use Rattle.journal.specs.declared.header.Header.{Header}
use Rattle.journal.specs.Geometry.{Geometry}
use Rattle.journal.specs.Layout.{header_at, first_data, is_data}
use Rattle.journal.specs.Header.{encode, header, empty_header}
use Rattle.journal.specs.Log.{header_of, entries, sum_of, all_data, good}
use Rattle.journal.proofs.Headers.{decode-encode}
use Rattle.journal.proofs.Logs.{both, length-block_at}
use Rattle.journal.proofs.OrderLists.{header_entry, append_writes, length-append_writes}
use Rattle.crash.specs.Found.{same_log, collides}
use Rattle.crash.specs.Laid.{Laid, lay_over}
use Rattle.crash.proofs.Logs.{slot_e, log_d, entries_disk, data_above, data_below}
use Rattle.crash.proofs.Cards.{HasHeader, WholeCard, ClosedCard, SafeCard, closed_agree, append-head, append-found, append_bad, append_safe, append-sum, Appended, emptied, fallen}
use Rattle.crash.proofs.Frames.{Besides, Spared, Sized, KeepOff, off_low, Stands, covered_stands, whole_stands}
use Rattle.crash.proofs.Appends.{lost-stands, header-lost, header-kept, log-stands, homes_stand, found-written, length_front}

-- ---- equal logs

pub same_logs : (a b : List Entry) → same_log a b ≡ true → a ≡ b
unfolding same_log
same_logs [] [] h = refl
same_logs [] (y ∷ b) h = absurd (mathlib.Core.Bool.false≢true h)
same_logs (x ∷ a) [] h = absurd (mathlib.Core.Bool.false≢true h)
same_logs (x ∷ a) (y ∷ b) h =
    let p = both (eqb x.address y.address && same x.block y.block) (same_log a b) h in
    let q = both (eqb x.address y.address) (same x.block y.block) p.0 in
    ap₂ (λ (u : Entry) (v : List Entry). u ∷ v) (entry_eq (eqb-true _ _ q.0) (same_equal x.block y.block q.1)) (same_logs a b p.1)

pub logs_same : (a : List Entry) → same_log a a ≡ true
unfolding same_log
logs_same [] = refl
logs_same (x ∷ a) = rw (eq-eqb x.address x.address refl, same_self x.block) (logs_same a)

-- lists that are as long, are not the same and do not collide have other sums
pub other_sums : (a b : List Entry) → same_log a b ≡ false → length a ≡ length b → collides a b ≡ false → eqb (sum_of start a) (sum_of start b) ≡ false
unfolding collides
other_sums a b s l h = rw (s, eq-eqb _ _ l) at h

module _ (geo : Geometry) where
  -- a header on the card is read as it was written
  pub read_head : (s : List ℕ) (N p ps c ns k : ℕ) → N < 2 ^ 32 → HasHeader geo (block_at s) N p ps c ns k → header_of s ≡ header N p ps c ns k
  read_head s N p ps c ns k l h =
      h.reads
      ∙ decode-encode (header N p ps c ns k)
      (omega (arith, l, h.ordered, h.most, h.presum, h.sum, h.save, geo.addressed))

  -- the first n entries, by the header
  abbrev pub found_in : List ℕ → List Entry
  found_in s = entries geo s (header_of s).count

  -- with the data blocks X in question
  pub record Leads (X : ℕ → Type 0) (N : ℕ) (s : List ℕ) (w : List Entry) (S : Laid) (n : ℕ) (F : Bool) : Type 0 where
    pub clean : collides (found_in s) w ≡ false → ClosedCard geo X N (block_at s) w S n F
    pub safe : SafeCard geo X N (block_at s) w

  pub closed_leads : (X : ℕ → Type 0) (N : ℕ) (s : List ℕ) (w : List Entry) (S : Laid) (n : ℕ) (F : Bool) → ClosedCard geo X N (block_at s) w S n F → Leads X N s w S n F
  closed_leads X N s w S n F r = record { clean = λ h. r; safe = record { w = w; S = S; n = n; F = F; size = refl; total = refl; card = r } }

  -- ---- a card behind whose waiting writes q₀, none to header or log, more are given: X are the data blocks in question, and Y those
  -- of them that q₀ does not write to

  pub record Behind (X Y : ℕ → Type 0) (N : ℕ) (s : List ℕ) (q₀ : List Entry) (w : List Entry) (S : Laid) (n : ℕ) (F : Bool) : Type 0 where
    pub big : first_data geo < N
    pub small : N < 2 ^ 32
    pub size : N ≡ blocks_in s
    pub off : KeepOff geo q₀
    pub whole : All Whole q₀
    pub spared : Spared X q₀ Y
    pub card : ClosedCard geo X N (block_at s) w S n F

  -- nothing waits
  pub none_behind : {X : ℕ → Type 0} {N : ℕ} {s : List ℕ} {w : List Entry} {S : Laid} {n : ℕ} {F : Bool} → first_data geo < N → N < 2 ^ 32 → N ≡ blocks_in s → ClosedCard geo X N (block_at s) w S n F
      → Behind X X N s [] w S n F
  none_behind big small size card = record { big = big; small = small; size = size; off = tt; whole = tt; spared = λ a y. (y, tt); card = card }

  module _ {X Y : ℕ → Type 0} {N : ℕ} {s : List ℕ} {q₀ : List Entry} {w : List Entry} {S : Laid} {n : ℕ} {F : Bool} (b : Behind X Y N s q₀ w S n F) (t ms : List ℕ) where
    -- blocks to which no write is addressed
    low-left : (q : List Entry) → Leaves N ms (q₀ ++ q) (block_at s) (block_at t) → (a : ℕ) → a < first_data geo → Besides q a → block_at t a ≡ block_at s a
    low-left q v a l o = v.untouched a (omega (arith, b.big)) (all_append (λ x. a ≢ x.address) q₀ q (off_low geo q₀ b.off a l) o)

    home_left : (q : List Entry) → Leaves N ms (q₀ ++ q) (block_at s) (block_at t) → (a : ℕ) → is_data geo N a ≡ true → Y a → Besides q a → X a × (block_at t a ≡ block_at s a)
    home_left q v a l y o = ((b.spared a y).0, v.untouched a (data_below geo N a l) (all_append (λ x. a ≢ x.address) q₀ q (b.spared a y).1 o))

    -- data blocks are not block 0
    not_header : (h : Header) (a : ℕ) → is_data geo N a ≡ true → Besides (header_entry h ∷ []) a
    not_header h a q = ((λ z. let u = data_above geo N a q in omega arith), tt)

    -- nothing more is given: the card stands
    pub still_leads : Leaves N ms q₀ (block_at s) (block_at t) → Leads Y N t w S n F
    still_leads u =
        let v : Leaves N ms (q₀ ++ []) (block_at s) (block_at t) = rw (append-nil q₀) u in
        closed_leads Y N t w S n F (closed_agree geo X Y N (block_at s) (block_at t) w S n (λ a l. low-left [] v a l tt) (λ a l y. home_left [] v a l y tt) F b.card)

    -- a header, kept or lost
    module _ (h : Header) (v : Leaves N ms (q₀ ++ (header_entry h ∷ [])) (block_at s) (block_at t)) where
      pub lost_leads : kept_at ms (length q₀) ≡ false → Leads Y N t w S n F
      lost_leads k =
          closed_leads Y N t w S n F
          (closed_agree geo X Y N (block_at s) (block_at t) w S n (λ a l. low a l (ℕ_discrete a header_at)) (λ a l y. home_left (header_entry h ∷ []) v a l y (not_header h a l)) F b.card)
        where
          low : (a : ℕ) → a < first_data geo → Dec (a ≡ header_at) → block_at t a ≡ block_at s a
          low a l (yes z) = rw z (lost-header v (only_lost (kept_at ms) header_at q₀ [] (header_entry h) refl (off_low geo q₀ b.off header_at (omega arith)) tt k))
          low a l (no z) = low-left (header_entry h ∷ []) v a l (z, tt)

      kept-one : kept_at ms (length q₀) ≡ true → block_at t header_at ≡ encode h
      kept-one k = kept-header v q₀ [] (header_entry h) refl refl tt k

  -- an empty log's, over home blocks that are S
  pub empty_card : {X Y : ℕ → Type 0} {N : ℕ} {s : List ℕ} {q₀ w : List Entry} {S : Laid} {n : ℕ} (b : Behind X Y N s q₀ w S n false) (t ms : List ℕ)
      → ((a : ℕ) → is_data geo N a ≡ true → X a → S.disk a ≡ block_at s a) → Leaves N ms (q₀ ++ (header_entry (empty_header N S.groups) ∷ [])) (block_at s) (block_at t) → kept_at ms (length q₀) ≡ true
      → WholeCard geo Y N (block_at t) [] S 0
  empty_card {Y = Y} {N = N} {S = S} b t ms homes v k =
      emptied geo Y N (block_at t) S b.card.head.save (kept-one b t ms (empty_header N S.groups) v k)
      (λ a q y. let stood = home_left b t ms (header_entry (empty_header N S.groups) ∷ []) v a q y (not_header b t ms (empty_header N S.groups) a q) in homes a q stood.0 ∙ sym stood.1)

  -- a fallback's
  abbrev pub fall_header : ℕ → List ℕ → ℕ → ℕ → Header
  fall_header N s n k = header N n (sum_of start (log_d geo (block_at s) n)) n (sum_of start (log_d geo (block_at s) n)) k

  pub fallen_card : {X Y : ℕ → Type 0} {N : ℕ} {s : List ℕ} {q₀ w : List Entry} {S : Laid} {n : ℕ} (b : Behind X Y N s q₀ w S n true) (t ms : List ℕ)
      → Leaves N ms (q₀ ++ (header_entry (fall_header N s n S.groups) ∷ [])) (block_at s) (block_at t) → kept_at ms (length q₀) ≡ true → WholeCard geo Y N (block_at t) (log_d geo (block_at s) n) S n
  fallen_card {X = X} {Y = Y} {N = N} {s = s} {S = S} {n = n} b t ms v k =
      let r = b.card in
      fallen geo X Y N (block_at s) (block_at t) S n (omega (arith, r.head.ordered, r.head.most)) (omega (arith, r.head.save)) r.all r.disk (kept-one b t ms (fall_header N s n S.groups) v k)
      (λ a l z. low-left b t ms (header_entry (fall_header N s n S.groups) ∷ []) v a l (z, tt))
      (λ a q y. home_left b t ms (header_entry (fall_header N s n S.groups) ∷ []) v a q y (not_header b t ms (fall_header N s n S.groups) a q))

  -- ---- a checkpoint

  module _ {X Y : ℕ → Type 0} {N : ℕ} {s : List ℕ} {q₀ w : List Entry} {S : Laid} {n : ℕ} (b : Behind X Y N s q₀ w S n false) (t ms : List ℕ) where
    covered : (q : List Entry) → ((P : Entry → Type 0) → All P (log_d geo (block_at s) n) → All P q) → Leaves N ms (q₀ ++ q) (block_at s) (block_at t) → WholeCard geo Y N (block_at t) w S n
    covered q sub v =
        whole_stands geo X Y N q₀ (block_at s) (block_at t) w S n b.spared
        (covered_stands geo N ms q₀ q n (block_at s) (block_at t) b.big b.card.head.most b.off v b.card.all sub) b.card

    -- home blocks of the log, any of the first k kept
    pub homes_leads : (k : ℕ) → Leaves N ms (q₀ ++ take k (log_d geo (block_at s) n)) (block_at s) (block_at t) → Leads Y N t w S n false
    homes_leads k v = closed_leads Y N t w S n false (covered (take k (log_d geo (block_at s) n)) (λ P h. all_take P k (log_d geo (block_at s) n) h) v)

    -- all of them kept: the log stands, and the home blocks are S
    pub homes_done : Leaves N ms (q₀ ++ log_d geo (block_at s) n) (block_at s) (block_at t) → all_kept ms ≡ true
        → WholeCard geo Y N (block_at t) w S n × ((a : ℕ) → is_data geo N a ≡ true → Y a → S.disk a ≡ block_at t a)
    homes_done v all = (
      covered (log_d geo (block_at s) n) (λ P h. h) v,
      λ a q y.
          b.card.disk a q (b.spared a y).0
          ∙ sym (whole_all v all a (data_below geo N a q)
          ∙ ap (λ (f : Disk). f a) (overlay-append q₀ (log_d geo (block_at s) n) (block_at s))
          ∙ overlay_agree (log_d geo (block_at s) n) (overlay q₀ (block_at s)) (block_at s) a (overlay_other q₀ (block_at s) a (b.spared a y).1)),
    )

  -- ---- an append of the group G to the first n entries, whose sum is h

  pub record Appending (X Y : ℕ → Type 0) (N : ℕ) (s : List ℕ) (q₀ : List Entry) (n h : ℕ) (G w : List Entry) (S : Laid) : Type 0 where
    pub behind : Behind X Y N s q₀ w S n false
    pub room : n + length G ≤ geo.slots
    pub sum : h ≡ sum_of start (log_d geo (block_at s) n)
    pub blocks : All Whole G
    pub narrow : All NarrowAddress G
    pub all-data : all_data geo N G ≡ true
    pub next : S.groups + 1 < 2 ^ 64

  module _ {X Y : ℕ → Type 0} {N : ℕ} {s : List ℕ} {q₀ : List Entry} {n h : ℕ} {G w : List Entry} {S : Laid} (x : Appending X Y N s q₀ n h G w S) where
    abbrev W : List Entry
    W = append_writes geo N s n h (S.groups + 1) G

    -- its header's place in the queue
    abbrev pub own_place : ℕ
    own_place = length q₀ + (length G + geo.descriptors)

    abbrev big : first_data geo < N
    big = x.behind.big

    sized : Sized N (block_at s)
    sized a l = length-block_at s a (omega (arith, x.behind.size))

    module _ (t ms : List ℕ) where
      stood : Stands geo N n q₀ (block_at s) (block_at t) → Leads Y N t w S n false
      stood z = closed_leads Y N t w S n false (whole_stands geo X Y N q₀ (block_at s) (block_at t) w S n x.behind.spared z x.behind.card)

      -- before its header
      pub append-front : (k : ℕ) → k ≤ length G + geo.descriptors → Leaves N ms (q₀ ++ take k W) (block_at s) (block_at t) → Leads Y N t w S n false
      append-front k l v = stood (lost-stands geo N s n h (S.groups + 1) G x.room big sized ms q₀ x.behind.off (block_at t) k (rw (length_front geo N s n h (S.groups + 1) G) l) v)

      module _ (v : Leaves N ms (q₀ ++ W) (block_at s) (block_at t)) where
        pub append-header-lost : kept_at ms own_place ≡ false → Leads Y N t w S n false
        append-header-lost z = stood (header-lost geo N s n h (S.groups + 1) G x.room big sized ms q₀ x.behind.off (block_at t) v z)

        -- the header is on the card: what is found decides
        module _ (kept : kept_at ms own_place ≡ true) where
          pub on_card : Appended geo Y N (block_at s) (block_at t) n h S.groups G
          on_card = record {
            head = header-kept geo N s n h (S.groups + 1) G x.room big sized ms q₀ x.behind.off (block_at t) v kept;
            log = log-stands geo N s n h (S.groups + 1) G x.room big sized ms q₀ x.behind.off (block_at t) v;
            homes = λ a l y. homes_stand geo N s n h (S.groups + 1) G x.room big sized ms q₀ x.behind.off (block_at t) v a l (x.behind.spared a y).1;
            sum = x.sum;
            room = x.room;
            next = x.next;
          }

          spares : (a : ℕ) → Y a → X a
          spares a y = (x.behind.spared a y).0

          -- the count that the header gives
          pub found-log : found_in t ≡ log_d geo (block_at t) (n + length G)
          found-log =
              ap (entries geo t) (ap (λ (i : Header). i.count) (read_head t N n h (n + length G) (sum_of h G) (S.groups + 1) x.behind.small (append-head geo Y N (block_at s) (block_at t) n h S.groups G on_card)))
              ∙ entries_disk geo t (n + length G)

          -- the log found is the log written
          pub append_new : same_log (found_in t) (log_d geo (block_at s) n ++ G) ≡ true → Leads Y N t (log_d geo (block_at s) n ++ G) (lay_over G S) (n + length G) false
          append_new q =
              closed_leads Y N t (log_d geo (block_at s) n ++ G) (lay_over G S) (n + length G) false
              (append-found geo X Y N (block_at s) (block_at t) w S n h G spares x.behind.card on_card x.all-data (sym found-log ∙ same_logs (found_in t) (log_d geo (block_at s) n ++ G) q))

          -- it is another list
          pub append-old : same_log (found_in t) (log_d geo (block_at s) n ++ G) ≡ false → Leads Y N t (log_d geo (block_at s) n ++ G) S n true
          append-old q = record {
            clean = λ c. append_bad geo X Y N (block_at s) (block_at t) w S n h G spares x.behind.card on_card other (bad c);
            safe = append_safe geo X Y N (block_at s) (block_at t) w S n h G spares x.behind.card on_card other;
          }
            where
              other : log_d geo (block_at s) n ++ G ≢ log_d geo (block_at t) (n + length G)
              other e = true≢false (sym (logs_same (log_d geo (block_at s) n ++ G)) ∙ ap (λ (l : List Entry). same_log l (log_d geo (block_at s) n ++ G)) (e ∙ sym found-log) ∙ q)

              long_as : length (found_in t) ≡ length (log_d geo (block_at s) n ++ G)
              long_as =
                  ap length found-log ∙ length-up_to (slot_e geo (block_at t)) (n + length G)
                  ∙ sym (length-append (log_d geo (block_at s) n) G ∙ ap (λ (k : ℕ). k + length G) (length-up_to (slot_e geo (block_at s)) n))

              bad : collides (found_in t) (log_d geo (block_at s) n ++ G) ≡ false → good geo N (log_d geo (block_at t) (n + length G)) (sum_of h G) ≡ false
              bad c =
                  let e : eqb (sum_of start (found_in t)) (sum_of start (log_d geo (block_at s) n ++ G)) ≡ false = other_sums (found_in t) (log_d geo (block_at s) n ++ G) q long_as c in
                  rw (← found-log, ← append-sum geo Y N (block_at s) (block_at t) n h S.groups G on_card, e)

        -- every write is kept, whatever became of q₀
        module _ (all : all_kept (drop (block_bytes * length q₀) ms) ≡ true) where
          pub kept_top : kept_at ms own_place ≡ true
          kept_top =
              let e : length W ≡ length G + geo.descriptors + 1 = length-append_writes geo N s n h (S.groups + 1) G in
              let m : length (q₀ ++ W) ≡ length q₀ + length W = length-append q₀ W in
              tail_kept_at ms (q₀ ++ W) (length q₀) own_place v.fits (omega arith) (omega arith) all

          found : log_d geo (block_at t) (n + length G) ≡ log_d geo (block_at s) n ++ G
          found = found-written geo N s n h (S.groups + 1) G x.room big sized x.narrow ms q₀ x.behind.off (block_at t) v all

          pub append-all : WholeCard geo Y N (block_at t) (log_d geo (block_at s) n ++ G) (lay_over G S) (n + length G)
          append-all = append-found geo X Y N (block_at s) (block_at t) w S n h G (spares kept_top) x.behind.card (on_card kept_top) x.all-data found

          -- so a cut that kept every write finds the log written
          pub append_whole : same_log (found_in t) (log_d geo (block_at s) n ++ G) ≡ true
          append_whole = rw (found-log kept_top ∙ found) (logs_same (log_d geo (block_at s) n ++ G))
