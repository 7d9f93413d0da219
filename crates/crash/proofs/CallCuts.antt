-- A call cut short, and then the cut: what it leads to, by the orders carried out and the mark of the header.
use Prim.Native.Nat.{ℕ, ◌+◌, ◌*◌, ◌^◌, ◌≤◌, ◌<◌}
use mathlib.Core.Path.{◌≡◌, ap, sym, ◌∙◌}
use mathlib.Core.Bool.{Bool, true, false, cond, not}
use mathlib.Core.List.{List, [], ◌∷◌, ◌++◌}
use native.Mathlib.Omega.{arith}
use lib.ListN.{length, take, drop, length-append}
use lib.Seq.{take_all}
use Rattle.cells.specs.Entry.{block_bytes, Entry}
use Rattle.card.specs.Disk.{Disk}
use Rattle.card.specs.Card.{Card, cut, settle, block_at, blocks_in}
use Rattle.card.specs.Marks.{marks_fit, kept_at, all_kept}
use Rattle.card.proofs.All.{All, all_append, all_take}
use Rattle.card.proofs.Runs.{Whole}
use Rattle.card.proofs.Leaves.{Leaves, cut_leaves, settle_leaves}
use Rattle.card.proofs.MarkLaws.{all-kept_at, kept-drop}
use Rattle.card.proofs.Spreads.{ones, ones_fit, ones-kept}
use Rattle.journal.specs.Geometry.{Geometry}
use Rattle.journal.specs.Layout.{first_data, is_data}
use Rattle.journal.specs.Header.{empty_header}
use Rattle.journal.specs.declared.header.Header.{Header}
use Rattle.journal.proofs.Headers.{length-encode}
use Rattle.journal.proofs.OrderLists.{header_entry, append_writes, length-append_writes}
use Rattle.crash.specs.Found.{same_log}
use Rattle.crash.specs.Laid.{Laid, lay_over}
use Rattle.crash.proofs.Logs.{log_d}
use Rattle.crash.proofs.Cards.{WholeCard, ClosedCard, Appended}
use Rattle.crash.proofs.Frames.{Besides, KeepOff}
use Rattle.crash.proofs.Batches.{Left}
use Rattle.crash.proofs.Appends.{writes_whole}
use Rattle.crash.proofs.Leads.{found_in, Leads, closed_leads, Behind, Appending, own_place, fall_header, still_leads, lost_leads, append-front, append-header-lost, append_new, append-old, append-all, append_whole, on_card, kept_top, homes_leads, homes_done, empty_card, fallen_card}

leaves_at : {N M : ℕ} (ms : List ℕ) {q v : List Entry} {s t : List ℕ} (e : Disk) → N ≡ M → q ≡ v → s ≡ t → Leaves N ms q (block_at s) e → Leaves M ms v (block_at t) e
leaves_at ms e x y z l = rw (x, y, z) at l

-- what a cut leaves of a card on which q waits
pub left_leaves : (c r : Card) (s : List ℕ) (q : List Entry) (p N : ℕ) (ms : List ℕ) → Left c r s q p → 0 < N → N ≡ blocks_in s → marks_fit ms q ≡ true → All Whole q
    → Leaves N ms q (block_at s) (block_at (cut ms r).settled)
left_leaves c r s q p N ms l some size f w =
    let some-r : 0 < blocks_in r.settled = rw l.settled (omega arith) in
    leaves_at ms (block_at (cut ms r).settled) (ap blocks_in l.settled ∙ sym size) l.waits l.settled (cut_leaves ms r some-r (rw l.waits f) (rw l.waits w))

-- settled bytes are what a cut that keeps all leaves
pub settled_leaves : (es : List Entry) (s : List ℕ) (N : ℕ) → 0 < N → N ≡ blocks_in s → All Whole es → Leaves N (ones es) es (block_at s) (block_at (settle es s))
settled_leaves es s N some size w = rw size (settle_leaves es s (omega arith) w)

-- the last write of a cut that keeps all is kept
last-kept : (q₀ : List Entry) (e : Entry) → kept_at (ones (q₀ ++ (e ∷ []))) (length q₀) ≡ true
last-kept q₀ e =
    let k : length (q₀ ++ (e ∷ [])) ≡ length q₀ + 1 = length-append q₀ (e ∷ []) in
    all-kept_at (ones (q₀ ++ (e ∷ []))) (q₀ ++ (e ∷ [])) (length q₀) (ones_fit (q₀ ++ (e ∷ []))) (omega arith) (ones-kept (q₀ ++ (e ∷ [])))

module _ (geo : Geometry) where
  -- ---- a header behind the queue, cut and settled

  module _ {X Y : ℕ → Type 0} {N : ℕ} {s : List ℕ} {q₀ w : List Entry} {S : Laid} {n : ℕ} {F : Bool} (b : Behind geo X Y N s q₀ w S n F) (h : Header) where
    header_whole : All Whole (q₀ ++ (header_entry h ∷ []))
    header_whole = all_append Whole q₀ (header_entry h ∷ []) b.whole (length-encode h, tt)

    header-left : (c r : Card) (ms : List ℕ) → Left c r s (q₀ ++ (header_entry h ∷ [])) 0 → marks_fit ms (q₀ ++ (header_entry h ∷ [])) ≡ true
        → Leaves N ms (q₀ ++ (header_entry h ∷ [])) (block_at s) (block_at (cut ms r).settled)
    header-left c r ms left fit = left_leaves c r s (q₀ ++ (header_entry h ∷ [])) 0 N ms left (omega (arith, b.big)) b.size fit header_whole

    header_settled : Leaves N (ones (q₀ ++ (header_entry h ∷ []))) (q₀ ++ (header_entry h ∷ [])) (block_at s) (block_at (settle (q₀ ++ (header_entry h ∷ [])) s))
    header_settled = settled_leaves (q₀ ++ (header_entry h ∷ [])) s N (omega (arith, b.big)) b.size header_whole

  -- ---- an append

  module _ {X Y : ℕ → Type 0} {N : ℕ} {s : List ℕ} {q₀ : List Entry} {n h : ℕ} {G w : List Entry} {S : Laid} (x : Appending geo X Y N s q₀ n h G w S) where
    abbrev W : List Entry
    W = append_writes geo N s n h (S.groups + 1) G

    some : 0 < N
    some = omega (arith, x.behind.big)

    whole_writes : All Whole W
    whole_writes = writes_whole geo N s n h (S.groups + 1) G x.blocks

    -- done
    done_leaves : Leaves N (ones (q₀ ++ W)) (q₀ ++ W) (block_at s) (block_at (settle (q₀ ++ W) s))
    done_leaves = settled_leaves (q₀ ++ W) s N some x.behind.size (all_append Whole q₀ W x.behind.whole whole_writes)

    pub done_card : WholeCard geo Y N (block_at (settle (q₀ ++ W) s)) (log_d geo (block_at s) n ++ G) (lay_over G S) (n + length G)
    done_card = append-all geo x (settle (q₀ ++ W) s) (ones (q₀ ++ W)) done_leaves (kept-drop (block_bytes * length q₀) (ones (q₀ ++ W)) (ones-kept (q₀ ++ W)))

    pub done-append : Appended geo Y N (block_at s) (block_at (settle (q₀ ++ W) s)) n h S.groups G
    done-append =
        on_card geo x (settle (q₀ ++ W) s) (ones (q₀ ++ W)) done_leaves
        (kept_top geo x (settle (q₀ ++ W) s) (ones (q₀ ++ W)) done_leaves (kept-drop (block_bytes * length q₀) (ones (q₀ ++ W)) (ones-kept (q₀ ++ W))))

    -- cut short after k writes
    module _ (c r : Card) (k : ℕ) (left : Left c r s (q₀ ++ take k W) 0) (ms : List ℕ) (fit : marks_fit ms (q₀ ++ take k W) ≡ true) where
      part_left : Leaves N ms (q₀ ++ take k W) (block_at s) (block_at (cut ms r).settled)
      part_left = left_leaves c r s (q₀ ++ take k W) 0 N ms left some x.behind.size fit (all_append Whole q₀ (take k W) x.behind.whole (all_take Whole k W whole_writes))

      -- before its header
      pub append_cuts : k ≤ length G + geo.descriptors → Leads geo Y N (cut ms r).settled w S n false
      append_cuts l = append-front geo x (cut ms r).settled ms k l part_left

      module _ (e : k ≡ length G + geo.descriptors + 1) where
        all_left : Leaves N ms (q₀ ++ W) (block_at s) (block_at (cut ms r).settled)
        all_left =
            let q : length W ≡ length G + geo.descriptors + 1 = length-append_writes geo N s n h (S.groups + 1) G in
            rw (take_all k W (omega arith)) at part_left

        -- its header lost
        pub append_cuts_lost : kept_at ms (own_place geo x) ≡ false → Leads geo Y N (cut ms r).settled w S n false
        append_cuts_lost z = append-header-lost geo x (cut ms r).settled ms all_left z

        -- its header kept, and the log found is the log written
        pub append_cuts_new : kept_at ms (own_place geo x) ≡ true → same_log (found_in geo (cut ms r).settled) (log_d geo (block_at s) n ++ G) ≡ true
            → Leads geo Y N (cut ms r).settled (log_d geo (block_at s) n ++ G) (lay_over G S) (n + length G) false
        append_cuts_new z q = append_new geo x (cut ms r).settled ms all_left z q

        -- its header kept, and another log is found
        pub append_cuts_old : kept_at ms (own_place geo x) ≡ true → same_log (found_in geo (cut ms r).settled) (log_d geo (block_at s) n ++ G) ≡ false
            → Leads geo Y N (cut ms r).settled (log_d geo (block_at s) n ++ G) S n true
        append_cuts_old z q = append-old geo x (cut ms r).settled ms all_left z q

        -- every write of its own kept: so is the header, and the log found is the log written
        pub append_cuts_kept : all_kept (drop (block_bytes * length q₀) ms) ≡ true → kept_at ms (own_place geo x) ≡ true
        append_cuts_kept all = kept_top geo x (cut ms r).settled ms all_left all

        pub append_cuts_whole : all_kept (drop (block_bytes * length q₀) ms) ≡ true → same_log (found_in geo (cut ms r).settled) (log_d geo (block_at s) n ++ G) ≡ true
        append_cuts_whole all = append_whole geo x (cut ms r).settled ms all_left all

  -- ---- a checkpoint

  module _ {X Y : ℕ → Type 0} {N : ℕ} {s : List ℕ} {q₀ w : List Entry} {S : Laid} {n : ℕ} (b : Behind geo X Y N s q₀ w S n false) where
    abbrev log : List Entry
    log = log_d geo (block_at s) n

    -- its home blocks are settled
    pub homes_settled : All Whole (log_d geo (block_at s) n)
        → WholeCard geo Y N (block_at (settle (q₀ ++ log_d geo (block_at s) n) s)) w S n × ((a : ℕ) → is_data geo N a ≡ true → Y a → S.disk a ≡ block_at (settle (q₀ ++ log_d geo (block_at s) n) s) a)
    homes_settled whole =
        homes_done geo b (settle (q₀ ++ log) s) (ones (q₀ ++ log)) (settled_leaves (q₀ ++ log) s N (omega (arith, b.big)) b.size (all_append Whole q₀ log b.whole whole))
        (ones-kept (q₀ ++ log))

    module _ (c r : Card) (ms : List ℕ) where
      -- among the home blocks
      pub homes_cuts : (k : ℕ) → All Whole (log_d geo (block_at s) n) → Left c r s (q₀ ++ take k (log_d geo (block_at s) n)) 0 → marks_fit ms (q₀ ++ take k (log_d geo (block_at s) n)) ≡ true
          → Leads geo Y N (cut ms r).settled w S n false
      homes_cuts k whole left fit =
          homes_leads geo b (cut ms r).settled ms k
          (left_leaves c r s (q₀ ++ take k log) 0 N ms left (omega (arith, b.big)) b.size fit (all_append Whole q₀ (take k log) b.whole (all_take Whole k log whole)))

      -- behind their flush an empty log's header waits
      pub header_cuts : ((a : ℕ) → is_data geo N a ≡ true → X a → S.disk a ≡ block_at s a) → Left c r s (q₀ ++ (header_entry (empty_header N S.groups) ∷ [])) 0 → marks_fit ms (q₀ ++ (header_entry (empty_header N S.groups) ∷ [])) ≡ true
          → (t : Bool) → kept_at ms (length q₀) ≡ t → Leads geo Y N (cut ms r).settled (cond t [] w) S (cond t 0 n) false
      header_cuts homes left fit true z = closed_leads geo Y N (cut ms r).settled [] S 0 false (empty_card geo b (cut ms r).settled ms homes (header-left b (empty_header N S.groups) c r ms left fit) z)
      header_cuts homes left fit false z = lost_leads geo b (cut ms r).settled ms (empty_header N S.groups) (header-left b (empty_header N S.groups) c r ms left fit) z

    -- an empty log's header is settled
    pub empty_settled : ((a : ℕ) → is_data geo N a ≡ true → X a → S.disk a ≡ block_at s a) → WholeCard geo Y N (block_at (settle (q₀ ++ (header_entry (empty_header N S.groups) ∷ [])) s)) [] S 0
    empty_settled homes =
        empty_card geo b (settle (q₀ ++ (header_entry (empty_header N S.groups) ∷ [])) s) (ones (q₀ ++ (header_entry (empty_header N S.groups) ∷ []))) homes (header_settled b (empty_header N S.groups)) (last-kept q₀ (header_entry (empty_header N S.groups)))

  -- ---- nothing more waits

  pub still_cuts : {X Y : ℕ → Type 0} {N : ℕ} {s : List ℕ} {q₀ w : List Entry} {S : Laid} {n : ℕ} {F : Bool} → Behind geo X Y N s q₀ w S n F → (c r : Card) (p : ℕ) (ms : List ℕ)
      → Left c r s q₀ p → marks_fit ms q₀ ≡ true → Leads geo Y N (cut ms r).settled w S n F
  still_cuts {N = N} {s = s} {q₀ = q₀} b c r p ms left fit = still_leads geo b (cut ms r).settled ms (left_leaves c r s q₀ p N ms left (omega (arith, b.big)) b.size fit b.whole)

  -- ---- a fallback

  module _ {X Y : ℕ → Type 0} {N : ℕ} {s : List ℕ} {q₀ w : List Entry} {S : Laid} {n : ℕ} (b : Behind geo X Y N s q₀ w S n true) where
    pub fall_cuts : (c r : Card) (ms : List ℕ) → Left c r s (q₀ ++ (header_entry (fall_header geo N s n S.groups) ∷ [])) 0 → marks_fit ms (q₀ ++ (header_entry (fall_header geo N s n S.groups) ∷ [])) ≡ true
        → (t : Bool) → kept_at ms (length q₀) ≡ t → Leads geo Y N (cut ms r).settled (cond t (log_d geo (block_at s) n) w) S n (not t)
    fall_cuts c r ms left fit true z =
        closed_leads geo Y N (cut ms r).settled (log_d geo (block_at s) n) S n false (fallen_card geo b (cut ms r).settled ms (header-left b (fall_header geo N s n S.groups) c r ms left fit) z)
    fall_cuts c r ms left fit false z = lost_leads geo b (cut ms r).settled ms (fall_header geo N s n S.groups) (header-left b (fall_header geo N s n S.groups) c r ms left fit) z

    pub fall_settled : WholeCard geo Y N (block_at (settle (q₀ ++ (header_entry (fall_header geo N s n S.groups) ∷ [])) s)) (log_d geo (block_at s) n) S n
    fall_settled =
        fallen_card geo b (settle (q₀ ++ (header_entry (fall_header geo N s n S.groups) ∷ [])) s) (ones (q₀ ++ (header_entry (fall_header geo N s n S.groups) ∷ []))) (header_settled b (fall_header geo N s n S.groups))
        (last-kept q₀ (header_entry (fall_header geo N s n S.groups)))

  -- ---- any queue of whole writes to data blocks will do, and what it does not write to is spared

  pub any_behind : {X : ℕ → Type 0} {N : ℕ} {s : List ℕ} {w : List Entry} {S : Laid} {n : ℕ} {F : Bool} (q₀ : List Entry) → first_data geo < N → N < 2 ^ 32 → N ≡ blocks_in s → KeepOff geo q₀ → All Whole q₀
      → ClosedCard geo X N (block_at s) w S n F → Behind geo X (λ a. X a × Besides q₀ a) N s q₀ w S n F
  any_behind q₀ big small size off whole card = record { big = big; small = small; size = size; off = off; whole = whole; spared = λ a y. y; card = card }
