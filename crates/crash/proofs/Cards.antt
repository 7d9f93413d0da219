-- What a card holds when nothing waits: a header and its log, whole or with a fallback to come, and the disk under it at the data blocks
-- in question; and what writes make of it.
use Prim.Native.Nat.{ℕ, ◌+◌, ◌^◌, ◌≤◌, ◌<◌}
use mathlib.Core.Path.{◌≡◌, refl, ap, sym, ◌∙◌}
use mathlib.Core.Logic.{◌≢◌}
use mathlib.Core.Bool.{Bool, true, false}
use mathlib.Core.List.{List, [], ◌++◌}
use native.Mathlib.Omega.{arith}
use lib.Dec.{eqb}
use lib.ListN.{length, take}
use Rattle.cells.specs.Cell.{cell}
use Rattle.cells.specs.Upto.Laws.{length-up_to}
use Rattle.cells.specs.Entry.{Entry}
use Rattle.fnv.specs.Fnv.{start}
use Rattle.card.specs.Disk.{Disk, overlay}
use Rattle.card.proofs.Overlays.{overlay-append, overlay_agree}
use Rattle.journal.specs.Geometry.{Geometry}
use Rattle.journal.specs.Layout.{header_at, described_in, described_at, slot_at, first_data, is_data}
use Rattle.journal.specs.Header.{encode, decode, header, empty_header}
use Rattle.journal.specs.Log.{sum_of, all_data, good}
use Rattle.journal.proofs.Logs.{sum_of_nil, sum_of-append, all_data-append}
use Rattle.journal.proofs.Choices.{both}
use Rattle.crash.specs.Laid.{Laid, lay_over}
use Rattle.crash.proofs.Logs.{sum_lt, slot_e, log_d, LogStands, same_log_lem, same_agree}

-- all data blocks are in question
abbrev pub Every : ℕ → Type 0
Every a = Unit {0}

module _ (geo : Geometry) where
  -- block 0 reads as a header of ours, with the save number k; what its last bytes hold plays no part
  pub record HasHeader (d : Disk) (N p ps c ns k : ℕ) : Type 0 where
    pub reads : decode (d header_at) ≡ decode (encode (header N p ps c ns k))
    pub ordered : p ≤ c
    pub most : c ≤ geo.slots
    pub presum : ps < 2 ^ 64
    pub sum : ns < 2 ^ 64
    pub save : k < 2 ^ 64
    pub numbered : k ≡ 0 → (p ≡ c) × (ps ≡ ns)

  -- its first n entries are the log: their list is w, and S is the disk under it, at the data blocks X. Its save number is that of the
  -- groups laid into S
  pub record WholeCard (X : ℕ → Type 0) (N : ℕ) (d : Disk) (w : List Entry) (S : Laid) (n : ℕ) : Type 0 where
    pub p : ℕ
    pub ps : ℕ
    pub head : HasHeader d N p ps n (sum_of start (log_d geo d n)) S.groups
    pub all : all_data geo N (log_d geo d n) ≡ true
    pub same : w ≡ log_d geo d n
    pub disk : (a : ℕ) → is_data geo N a ≡ true → X a → S.disk a ≡ overlay (log_d geo d n) d a

  -- its first c entries are not good, and its first n are the log: those of the list w from which the header took its sum. Its save number
  -- is one more than that of the groups laid into S
  pub record FallCard (X : ℕ → Type 0) (N : ℕ) (d : Disk) (w : List Entry) (S : Laid) (n : ℕ) : Type 0 where
    pub c : ℕ
    pub ns : ℕ
    pub head : HasHeader d N n (sum_of start (log_d geo d n)) c ns (S.groups + 1)
    pub all : all_data geo N (log_d geo d n) ≡ true
    pub bad : good geo N (log_d geo d c) ns ≡ false
    pub other : w ≢ log_d geo d c
    pub size : length w ≡ c
    pub total : sum_of start w ≡ ns
    pub front : take n w ≡ log_d geo d n
    pub disk : (a : ℕ) → is_data geo N a ≡ true → X a → S.disk a ≡ overlay (log_d geo d n) d a

  abbrev pub ClosedCard : (ℕ → Type 0) → ℕ → Disk → List Entry → Laid → ℕ → Bool → Type 0
  ClosedCard X N d w S n false = WholeCard X N d w S n
  ClosedCard X N d w S n true = FallCard X N d w S n

  -- a card that some list, as long as v and with its sum, some disk and some count belong to
  pub record SafeCard (X : ℕ → Type 0) (N : ℕ) (d : Disk) (v : List Entry) : Type 0 where
    pub w : List Entry
    pub S : Laid
    pub n : ℕ
    pub F : Bool
    pub size : length w ≡ length v
    pub total : sum_of start w ≡ sum_of start v
    pub card : ClosedCard X N d w S n F

  -- ---- another disk under the log, at all data blocks

  pub recard : {X : ℕ → Type 0} {N : ℕ} {d : Disk} {w : List Entry} {S : Laid} {n : ℕ} (D : Disk) → WholeCard X N d w S n → ((a : ℕ) → is_data geo N a ≡ true → D a ≡ overlay (log_d geo d n) d a)
      → WholeCard Every N d w (record { disk = D; groups = S.groups }) n
  recard D r f = record { p = r.p; ps = r.ps; head = r.head; all = r.all; same = r.same; disk = λ a q y. f a q }

  -- ---- another disk, with the data blocks Y in question

  -- the same header and log, and the same disk under it
  pub whole_frame : (X Y : ℕ → Type 0) (N : ℕ) (d e : Disk) (w : List Entry) (S : Laid) (n : ℕ) → e header_at ≡ d header_at → log_d geo e n ≡ log_d geo d n
      → ((a : ℕ) → is_data geo N a ≡ true → Y a → X a × (overlay (log_d geo d n) e a ≡ overlay (log_d geo d n) d a))
      → WholeCard X N d w S n → WholeCard Y N e w S n
  whole_frame X Y N d e w S n h l o r = record {
    p = r.p;
    ps = r.ps;
    head = record {
      reads = ap decode h ∙ r.head.reads ∙ ap (λ (x : List Entry). decode (encode (header N r.p r.ps n (sum_of start x) S.groups))) (sym l);
      ordered = r.head.ordered;
      most = r.head.most;
      presum = r.head.presum;
      sum = rw l r.head.sum;
      save = r.head.save;
      numbered = λ z. ((r.head.numbered z).0, (r.head.numbered z).1 ∙ ap (sum_of start) (sym l));
    };
    all = rw l r.all;
    same = r.same ∙ sym l;
    disk = λ a q y. rw l (r.disk a q (o a q y).0 ∙ sym (o a q y).1);
  }

  -- a disk that agrees below the data blocks and at Y
  module _ (X Y : ℕ → Type 0) (N : ℕ) (d e : Disk) (w : List Entry) (S : Laid) (n : ℕ) (low : (a : ℕ) → a < first_data geo → e a ≡ d a)
      (homes : (a : ℕ) → is_data geo N a ≡ true → Y a → X a × (e a ≡ d a)) where
    log_agrees : (k : ℕ) → k ≤ geo.slots → log_d geo e k ≡ log_d geo d k
    log_agrees k h = same_log_lem geo k e d (same_agree geo k e d h low)

    laid_agrees : (a : ℕ) → is_data geo N a ≡ true → Y a → X a × (overlay (log_d geo d n) e a ≡ overlay (log_d geo d n) d a)
    laid_agrees a q y = ((homes a q y).0, overlay_agree (log_d geo d n) e d a (homes a q y).1)

    whole_agree : WholeCard X N d w S n → WholeCard Y N e w S n
    whole_agree r = whole_frame X Y N d e w S n (low header_at (omega arith)) (log_agrees n r.head.most) laid_agrees r

    fall_agree : FallCard X N d w S n → FallCard Y N e w S n
    fall_agree r =
        let l : log_d geo e n ≡ log_d geo d n = log_agrees n (omega (arith, r.head.ordered, r.head.most)) in
        let m : log_d geo e r.c ≡ log_d geo d r.c = log_agrees r.c r.head.most in
        record {
          c = r.c;
          ns = r.ns;
          head = record {
            reads = ap decode (low header_at (omega arith)) ∙ r.head.reads ∙ ap (λ (x : List Entry). decode (encode (header N n (sum_of start x) r.c r.ns (S.groups + 1)))) (sym l);
            ordered = r.head.ordered;
            most = r.head.most;
            presum = rw l r.head.presum;
            sum = r.head.sum;
            save = r.head.save;
            numbered = λ z. absurd (omega arith);
          };
          all = rw l r.all;
          bad = rw m r.bad;
          other = λ q. r.other (q ∙ m);
          size = r.size;
          total = r.total;
          front = r.front ∙ sym l;
          disk = λ a q y. rw l (r.disk a q (homes a q y).0 ∙ sym (laid_agrees a q y).1);
        }

    pub closed_agree : (F : Bool) → ClosedCard X N d w S n F → ClosedCard Y N e w S n F
    closed_agree false r = whole_agree r
    closed_agree true r = fall_agree r

  -- ---- an append whose header was kept, on the disk e: the first n entries stand, the rest are those found. k groups were laid before

  pub record Appended (X : ℕ → Type 0) (N : ℕ) (d e : Disk) (n h k : ℕ) (G : List Entry) : Type 0 where
    pub head : e header_at ≡ encode (header N n h (n + length G) (sum_of h G) (k + 1))
    pub log : LogStands geo n e d
    pub homes : (a : ℕ) → is_data geo N a ≡ true → X a → e a ≡ d a
    pub sum : h ≡ sum_of start (log_d geo d n)
    pub room : n + length G ≤ geo.slots
    pub next : k + 1 < 2 ^ 64

  module _ (Y : ℕ → Type 0) (N : ℕ) (d e : Disk) (n h k : ℕ) (G : List Entry) (t : Appended Y N d e n h k G) where
    -- the list from which that header took its sum
    pub append-sum : sum_of start (log_d geo d n ++ G) ≡ sum_of h G
    append-sum = sum_of-append start (log_d geo d n) G ∙ ap (λ (x : ℕ). sum_of x G) (sym t.sum)

    pub append-head : HasHeader e N n h (n + length G) (sum_of h G) (k + 1)
    append-head = record {
      reads = ap decode t.head;
      ordered = omega arith;
      most = t.room;
      presum = rw t.sum (sum_lt (log_d geo d n));
      sum = rw (← append-sum) (sum_lt (log_d geo d n ++ G));
      save = t.next;
      numbered = λ z. absurd (omega arith);
    }

    append-log : log_d geo e n ≡ log_d geo d n
    append-log = same_log_lem geo n e d t.log

  append_size : (d : Disk) (n : ℕ) (G : List Entry) → length (log_d geo d n ++ G) ≡ n + length G
  append_size d n G = lib.ListN.length-append (log_d geo d n) G ∙ ap (λ (k : ℕ). k + length G) (length-up_to (slot_e geo d) n)

  -- from a card whose log is the first n entries
  module _ (X Y : ℕ → Type 0) (N : ℕ) (d e : Disk) (w : List Entry) (S : Laid) (n h : ℕ) (G : List Entry) (sub : (a : ℕ) → Y a → X a) (r : WholeCard X N d w S n) (t : Appended Y N d e n h S.groups G) where
    abbrev sums : sum_of start (log_d geo d n ++ G) ≡ sum_of h G
    sums = append-sum Y N d e n h S.groups G t

    abbrev head : HasHeader e N n h (n + length G) (sum_of h G) (S.groups + 1)
    head = append-head Y N d e n h S.groups G t

    abbrev stands : log_d geo e n ≡ log_d geo d n
    stands = append-log Y N d e n h S.groups G t

    -- the log found is the log written: G is laid over S
    pub append-found : all_data geo N G ≡ true → log_d geo e (n + length G) ≡ log_d geo d n ++ G → WholeCard Y N e (log_d geo d n ++ G) (lay_over G S) (n + length G)
    append-found m q = record {
      p = n;
      ps = h;
      head = rw (q, sums) head;
      all = rw (q, all_data-append geo N (log_d geo d n) G, r.all) m;
      same = sym q;
      disk = λ a x y.
          rw q
          (overlay_agree G S.disk (overlay (log_d geo d n) d) a (r.disk a x (sub a y))
          ∙ overlay_agree G (overlay (log_d geo d n) d) (overlay (log_d geo d n) e) a (sym (overlay_agree (log_d geo d n) e d a (t.homes a x y)))
          ∙ ap (λ (f : Disk). f a) (sym (overlay-append (log_d geo d n) G e)));
    }

    -- it is not good: the log is the first n entries as before
    pub append_bad : log_d geo d n ++ G ≢ log_d geo e (n + length G) → good geo N (log_d geo e (n + length G)) (sum_of h G) ≡ false → FallCard Y N e (log_d geo d n ++ G) S n
    append_bad z b = record {
      c = n + length G;
      ns = sum_of h G;
      head = rw (stands, ← t.sum) head;
      all = rw stands r.all;
      bad = b;
      other = z;
      size = append_size d n G;
      total = sums;
      front = lib.Seq.take_at (log_d geo d n) G n (length-up_to (slot_e geo d) n) ∙ sym stands;
      disk = λ a x y. rw stands (r.disk a x (sub a y) ∙ sym (overlay_agree (log_d geo d n) e d a (t.homes a x y)));
    }

    -- it has the sum by a collision: whatever is found then is a log all the same
    pub append_safe : log_d geo d n ++ G ≢ log_d geo e (n + length G) → SafeCard Y N e (log_d geo d n ++ G)
    append_safe z = go (good geo N (log_d geo e (n + length G)) (sum_of h G)) refl
      where
        go : (t : Bool) → good geo N (log_d geo e (n + length G)) (sum_of h G) ≡ t → SafeCard Y N e (log_d geo d n ++ G)
        go true b =
            let parts = both (eqb (sum_of start (log_d geo e (n + length G))) (sum_of h G)) (all_data geo N (log_d geo e (n + length G))) b in
            let q : sum_of start (log_d geo e (n + length G)) ≡ sum_of h G = borrow.Author.Tests.eqb-true _ _ parts.0 in
            record {
              w = log_d geo e (n + length G);
              S = record { disk = overlay (log_d geo e (n + length G)) e; groups = S.groups + 1 };
              n = n + length G;
              F = false;
              size = length-up_to (slot_e geo e) (n + length G) ∙ sym (append_size d n G);
              total = q ∙ sym sums;
              card = record { p = n; ps = h; head = rw q head; all = parts.1; same = refl; disk = λ a x y. refl };
            }
        go false b = record { w = log_d geo d n ++ G; S = S; n = n; F = true; size = refl; total = refl; card = append_bad z b }

  -- ---- a checkpoint: an empty log's header over home blocks that are S, with the save number that belongs to S

  pub emptied : (X : ℕ → Type 0) (N : ℕ) (e : Disk) (S : Laid) → S.groups < 2 ^ 64 → e header_at ≡ encode (empty_header N S.groups) → ((a : ℕ) → is_data geo N a ≡ true → X a → S.disk a ≡ e a) → WholeCard X N e [] S 0
  unfolding overlay all_data
  emptied X N e S small h s = record {
    p = 0;
    ps = start;
    head = record {
      reads = ap decode (h ∙ ap (λ (x : ℕ). encode (header N 0 start 0 x S.groups)) (sym (sum_of_nil start)));
      ordered = omega arith;
      most = omega arith;
      presum = lib.Dec.lit< tt;
      sum = sum_lt [];
      save = small;
      numbered = λ z. (refl, sym (sum_of_nil start));
    };
    all = refl;
    same = refl;
    disk = s;
  }

  -- ---- a fallback's header, over a card whose first n entries are all data blocks'

  pub fallen : (X Y : ℕ → Type 0) (N : ℕ) (d e : Disk) (S : Laid) (n : ℕ) → n ≤ geo.slots → S.groups < 2 ^ 64 → all_data geo N (log_d geo d n) ≡ true
      → ((a : ℕ) → is_data geo N a ≡ true → X a → S.disk a ≡ overlay (log_d geo d n) d a)
      → e header_at ≡ encode (header N n (sum_of start (log_d geo d n)) n (sum_of start (log_d geo d n)) S.groups)
      → ((a : ℕ) → a < first_data geo → a ≢ header_at → e a ≡ d a) → ((a : ℕ) → is_data geo N a ≡ true → Y a → X a × (e a ≡ d a)) → WholeCard Y N e (log_d geo d n) S n
  fallen X Y N d e S n m small all under h low homes =
      let l : log_d geo e n ≡ log_d geo d n =
      same_log_lem geo n e d (record {
        addresses = λ i q. ap (λ (b : List ℕ). cell 4 b (described_at i)) (low (described_in i) (omega (arith, geo.described)) (λ z. omega arith));
        blocks = λ i q. low (slot_at geo i) (omega arith) (λ z. omega arith);
      }) in
      record {
        p = n;
        ps = sum_of start (log_d geo d n);
        head = record {
          reads = ap decode (h ∙ ap (λ (x : List Entry). encode (header N n (sum_of start (log_d geo d n)) n (sum_of start x) S.groups)) (sym l));
          ordered = omega arith;
          most = m;
          presum = sum_lt (log_d geo d n);
          sum = sum_lt (log_d geo e n);
          save = small;
          numbered = λ z. (refl, ap (sum_of start) (sym l));
        };
        all = rw l all;
        same = sym l;
        disk = λ a q y. rw l (under a q (homes a q y).0 ∙ sym (overlay_agree (log_d geo d n) e d a (homes a q y).1));
      }
