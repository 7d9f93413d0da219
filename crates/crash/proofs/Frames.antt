-- What every waiting write leaves alone, every cut leaves alone: from any queue whose writes keep off the blocks in question.
use Prim.Native.Nat.{ℕ, ◌+◌, ◌*◌, ◌≤◌, ◌<◌}
use mathlib.Core.Path.{◌≡◌, sym, ◌∙◌}
use mathlib.Core.Logic.{◌≢◌, ◌⊎◌}
use mathlib.Core.Bool.{true}
use mathlib.Core.List.{List, ◌++◌}
use native.Mathlib.Omega.{arith}
use lib.ListN.{length, get_or}
use lib.Seq.{ext_get_or}
use Rattle.cells.specs.Cell.{cell}
use Rattle.cells.specs.Cell.Laws.{length-cell, get_or-cell}
use Rattle.cells.specs.Entry.{block_bytes, Entry}
use Rattle.card.specs.Disk.{Disk, overlay}
use Rattle.card.proofs.All.{All, all_append, all_map, Any, any_elim}
use Rattle.card.proofs.Overlays.{overlay_agree, overlay_cover}
use Rattle.card.proofs.Leaves.{Leaves}
use Rattle.journal.specs.Geometry.{Geometry}
use Rattle.journal.specs.Layout.{header_at, described_in, described_at, slot_at, first_data, is_data}
use Rattle.journal.specs.Log.{all_data}
use Rattle.journal.proofs.Logs.{all_data-all}
use Rattle.crash.specs.Laid.{Laid}
use Rattle.crash.proofs.Logs.{log_d, LogStands, same_log_lem, same_agree, data_above, data_below}
use Rattle.crash.proofs.Cards.{WholeCard, whole_frame}

-- no write of the queue is addressed to the block
abbrev pub Besides : List Entry → ℕ → Type 0
Besides q a = All (λ x. a ≢ x.address) q

-- the blocks Y are among X, and no write of q₀ is addressed to one
abbrev pub Spared : (ℕ → Type 0) → List Entry → (ℕ → Type 0) → Type 0
Spared X q₀ Y = (a : ℕ) → Y a → X a × Besides q₀ a

-- every block is whole
abbrev pub Sized : ℕ → Disk → Type 0
Sized N d = (a : ℕ) → a < N → length (d a) ≡ block_bytes

module _ (geo : Geometry) where
  -- a write that leaves the first n entries of a disk alone: the bytes of their addresses, and their slots
  pub record Aside (n : ℕ) (d : Disk) (e : Entry) : Type 0 where
    pub names : (i j : ℕ) → i < n → j < 4 → e.address ≡ described_in i → get_or e.block (4 * described_at i + j) 0 ≡ get_or (d (described_in i)) (4 * described_at i + j) 0
    pub above : (i : ℕ) → i < n → slot_at geo i ≢ e.address

  -- a write to a data block
  data_aside : (n : ℕ) (d : Disk) (e : Entry) → n ≤ geo.slots → first_data geo ≤ e.address → Aside n d e
  data_aside n d e few h = record { names = λ i j l k z. absurd (omega (arith, geo.described)); above = λ i l z. omega arith }

  module _ (N : ℕ) (ms : List ℕ) (q : List Entry) (n : ℕ) (d e : Disk) (big : first_data geo < N) (l : Leaves N ms q d e) where
    -- the log
    pub log-left : n ≤ geo.slots → Sized N d → All (Aside n d) q → LogStands geo n e d
    log-left few size a = record {
      addresses = λ i h.
          let inside : described_in i < N = omega (arith, geo.described) in
          let long : length (e (described_in i)) ≡ block_bytes = l.long (described_in i) inside in
          let before : length (d (described_in i)) ≡ block_bytes = size (described_in i) inside in
          let new : length (cell 4 (e (described_in i)) (described_at i)) ≡ 4 = length-cell 4 (e (described_in i)) (described_at i) (omega arith) in
          let old : length (cell 4 (d (described_in i)) (described_at i)) ≡ 4 = length-cell 4 (d (described_in i)) (described_at i) (omega arith) in
          ext_get_or 0 (cell 4 (e (described_in i)) (described_at i)) (cell 4 (d (described_in i)) (described_at i)) (new ∙ sym old)
          (λ j k.
          let four : j < 4 = omega arith in
          get_or-cell 4 (e (described_in i)) (described_at i) j four ∙ byte i j h four inside ∙ sym (get_or-cell 4 (d (described_in i)) (described_at i) j four));
      blocks = λ i h. l.untouched (slot_at geo i) (omega arith) (all_map (Aside n d) (λ x. slot_at geo i ≢ x.address) (λ x p. p.above i h) q a);
    }
      where
        byte : (i j : ℕ) → i < n → j < 4 → described_in i < N → get_or (e (described_in i)) (4 * described_at i + j) 0 ≡ get_or (d (described_in i)) (4 * described_at i + j) 0
        byte i j h k inside = go (l.byte (described_in i) (4 * described_at i + j) inside)
          where
            go : (get_or (e (described_in i)) (4 * described_at i + j) 0 ≡ get_or (d (described_in i)) (4 * described_at i + j) 0) ⊎ Any (λ x. (x.address ≡ described_in i) × (get_or (e (described_in i)) (4 * described_at i + j) 0 ≡ get_or x.block (4 * described_at i + j) 0)) q
                → get_or (e (described_in i)) (4 * described_at i + j) 0 ≡ get_or (d (described_in i)) (4 * described_at i + j) 0
            go (◌⊎◌.inl p) = p
            go (◌⊎◌.inr p) =
                any_elim (λ x. (x.address ≡ described_in i) × (get_or (e (described_in i)) (4 * described_at i + j) 0 ≡ get_or x.block (4 * described_at i + j) 0)) q
                (all_map (Aside n d) (λ x. (x.address ≡ described_in i) × (get_or (e (described_in i)) (4 * described_at i + j) 0 ≡ get_or x.block (4 * described_at i + j) 0) → get_or (e (described_in i)) (4 * described_at i + j) 0 ≡ get_or (d (described_in i)) (4 * described_at i + j) 0)
                (λ x s y. y.1 ∙ s.names i j h k y.0) q a)
                p

    -- the home blocks that no write is addressed to
    pub homes_left : (a : ℕ) → is_data geo N a ≡ true → Besides q a → e a ≡ d a
    homes_left a h o = l.untouched a (data_below geo N a h) o

  -- ---- what stands of a disk d on e, behind writes q₀ that keep off header and log: header and log, and the disk under the log
  -- wherever q₀ writes nothing

  pub record Stands (N n : ℕ) (q₀ : List Entry) (d e : Disk) : Type 0 where
    pub head : e header_at ≡ d header_at
    pub log : LogStands geo n e d
    pub homes : (a : ℕ) → is_data geo N a ≡ true → Besides q₀ a → overlay (log_d geo d n) e a ≡ overlay (log_d geo d n) d a

  -- writes to data blocks keep off
  abbrev pub KeepOff : List Entry → Type 0
  KeepOff q₀ = All (λ x. first_data geo ≤ x.address) q₀

  pub off_aside : (n : ℕ) (d : Disk) (q₀ : List Entry) → n ≤ geo.slots → KeepOff q₀ → All (Aside n d) q₀
  off_aside n d q₀ few k = all_map (λ x. first_data geo ≤ x.address) (Aside n d) (λ x h. data_aside n d x few h) q₀ k

  -- blocks below the data blocks
  pub off_low : (q₀ : List Entry) → KeepOff q₀ → (a : ℕ) → a < first_data geo → Besides q₀ a
  off_low q₀ k a l = all_map (λ x. first_data geo ≤ x.address) (λ x. a ≢ x.address) (λ x h z. omega arith) q₀ k

  module _ (N : ℕ) (ms : List ℕ) (q₀ q : List Entry) (n : ℕ) (d e : Disk) (big : first_data geo < N) (few : n ≤ geo.slots) (off : KeepOff q₀) (l : Leaves N ms (q₀ ++ q) d e) where
    -- writes aside of the log and of all homes, and a header that is as it was
    pub aside_stands : Sized N d → All (Aside n d) q → e header_at ≡ d header_at → ((a : ℕ) → is_data geo N a ≡ true → Besides q a) → Stands N n q₀ d e
    aside_stands size a z o = record {
      head = z;
      log = log-left N ms (q₀ ++ q) n d e big l few size (all_append (Aside n d) q₀ q (off_aside n d q₀ few off) a);
      homes = λ x h k. overlay_agree (log_d geo d n) e d x (homes_left N ms (q₀ ++ q) n d e big l x h (all_append (λ y. x ≢ y.address) q₀ q k (o x h)));
    }

    -- writes to homes of the log alone
    pub covered_stands : all_data geo N (log_d geo d n) ≡ true → ((P : Entry → Type 0) → All P (log_d geo d n) → All P q) → Stands N n q₀ d e
    covered_stands good sub = record {
      head = low header_at (omega arith);
      log = same_agree geo n e d few low;
      homes = λ a h k. overlay_cover (log_d geo d n) e d a (λ m. l.untouched a (data_below geo N a h) (all_append (λ x. a ≢ x.address) q₀ q k (sub (λ x. a ≢ x.address) m)));
    }
      where
        low : (a : ℕ) → a < first_data geo → e a ≡ d a
        low a h =
            l.untouched a (omega arith)
            (all_append (λ x. a ≢ x.address) q₀ q (off_low q₀ off a h)
            (sub (λ x. a ≢ x.address)
            (all_map (λ x. is_data geo N x.address ≡ true) (λ x. a ≢ x.address) (λ x p k. let u = data_above geo N x.address p in omega arith) (log_d geo d n)
            (all_data-all geo N (log_d geo d n) good))))

  -- the card is whole as before, as far as q₀ writes nothing
  pub whole_stands : (X Y : ℕ → Type 0) (N : ℕ) (q₀ : List Entry) (d e : Disk) (w : List Entry) (S : Laid) (n : ℕ) → Spared X q₀ Y → Stands N n q₀ d e → WholeCard geo X N d w S n → WholeCard geo Y N e w S n
  whole_stands X Y N q₀ d e w S n f s r = whole_frame geo X Y N d e w S n s.head (same_log_lem geo n e d s.log) (λ a h y. ((f a y).0, s.homes a h (f a y).1)) r
