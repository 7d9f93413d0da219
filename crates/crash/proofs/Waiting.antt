-- A card on which direct writes wait (W-209): what stands once they are settled, and what every cut leaves alone.
use Prim.Native.Nat.{ℕ, ◌+◌, ◌*◌, ◌-◌, ◌/◌, ◌^◌, ◌≤◌, ◌<◌}
use mathlib.Core.Path.{◌≡◌, refl, ap, sym, ◌∙◌}
use mathlib.Core.Logic.{◌≢◌}
use mathlib.Core.Bool.{Bool, true}
use mathlib.Core.List.{List, [], ◌∷◌, ◌++◌}
use native.Mathlib.Omega.{arith}
use native.Mathlib.Decide.{ℕ_discrete}
use lib.ListN.{length, drop}
use Rattle.cells.specs.Upto.Laws.{ext_up_to}
use Rattle.cells.specs.Entry.{block_bytes, Entry}
use Rattle.card.specs.Disk.{Disk, lay, overlay}
use Rattle.card.specs.Card.{settle, block_at, blocks_in}
use Rattle.card.proofs.All.{All}
use Rattle.card.proofs.Overlays.{lay-same, lay_other, overlay_agree, overlay_other}
use Rattle.card.proofs.Runs.{Whole, settle_other, settle-overlay, length-settle}
use Rattle.journal.specs.Geometry.{Geometry, per_descriptor}
use Rattle.journal.specs.Layout.{descriptor_at, first_data, is_data}
use Rattle.journal.specs.Header.{header}
use Rattle.journal.specs.Log.{sum_of}
use Rattle.journal.specs.Orders.{describe, descriptor_entry}
use Rattle.journal.proofs.OrderLists.{slot_blocks, header_entry, append_writes}
use Rattle.crash.specs.Laid.{Laid}
use Rattle.crash.proofs.Logs.{log_d, same_log_lem, same_agree, data_above, data_below}
use Rattle.crash.proofs.Cards.{Every, WholeCard, ClosedCard, SafeCard, recard, whole_frame, closed_agree}
use Rattle.crash.proofs.Frames.{Besides, KeepOff, off_low}
use Rattle.crash.proofs.Leads.{Leads, Behind}

-- ---- fewer blocks in question

module _ (geo : Geometry) where
  pub closed_sub : (X Y : ℕ → Type 0) → ((a : ℕ) → Y a → X a) → (N : ℕ) (s : List ℕ) (w : List Entry) (S : Laid) (n : ℕ) (F : Bool) → ClosedCard geo X N (block_at s) w S n F → ClosedCard geo Y N (block_at s) w S n F
  closed_sub X Y sub N s w S n F c = closed_agree geo X Y N (block_at s) (block_at s) w S n (λ a l. refl) (λ a q y. (sub a y, refl)) F c

  safe_sub : (X Y : ℕ → Type 0) → ((a : ℕ) → Y a → X a) → (N : ℕ) (s : List ℕ) (w : List Entry) → SafeCard geo X N (block_at s) w → SafeCard geo Y N (block_at s) w
  safe_sub X Y sub N s w c = record { w = c.w; S = c.S; n = c.n; F = c.F; size = c.size; total = c.total; card = closed_sub X Y sub N s c.w c.S c.n c.F c.card }

  pub leads_sub : (X Y : ℕ → Type 0) → ((a : ℕ) → Y a → X a) → (N : ℕ) (s : List ℕ) (w : List Entry) (S : Laid) (n : ℕ) (F : Bool) → Leads geo X N s w S n F → Leads geo Y N s w S n F
  leads_sub X Y sub N s w S n F l = record { clean = λ c. closed_sub X Y sub N s w S n F (l.clean c); safe = safe_sub X Y sub N s w l.safe }

  -- ---- writes q₀ that keep off header and log

  module _ (q₀ : List Entry) (off : KeepOff geo q₀) (s : List ℕ) where
    -- below the data blocks nothing changes
    pub settled_low : (a : ℕ) → a < first_data geo → block_at (settle q₀ s) a ≡ block_at s a
    settled_low a l = settle_other q₀ s a (off_low geo q₀ off a l)

    pub settled_log : (n : ℕ) → n ≤ geo.slots → log_d geo (block_at (settle q₀ s)) n ≡ log_d geo (block_at s) n
    settled_log n m = same_log_lem geo n (block_at (settle q₀ s)) (block_at s) (same_agree geo n (block_at (settle q₀ s)) (block_at s) m settled_low)

    -- so an append writes the same
    pub settled_writes : (N n h c : ℕ) (G : List Entry) → append_writes geo N (settle q₀ s) n h c G ≡ append_writes geo N s n h c G
    settled_writes N n h c G =
        ap (λ (l : List Entry). slot_blocks geo n G ++ (l ++ (header_entry (header N n h (n + length G) (sum_of h G) c) ∷ [])))
        (ext_up_to (descriptor_entry (settle q₀ s) n G) (descriptor_entry s n G) geo.descriptors
        (λ j l. ap (λ (b : List ℕ). record { address = descriptor_at + j; block = describe b (n - per_descriptor * j) (drop (per_descriptor * j - n) G) }) (settled_low (descriptor_at + j) (omega arith))))

    pub settled_size : blocks_in (settle q₀ s) ≡ blocks_in s
    settled_size = ap (λ (k : ℕ). k / block_bytes) (length-settle q₀ s)

    -- behind q₀, on a card that is whole once q₀ is settled: what q₀ does not write to is spared
    pub open_behind : (N : ℕ) (w : List Entry) (S : Laid) (n : ℕ) (F : Bool) → first_data geo < N → N < 2 ^ 32 → N ≡ blocks_in s → All Whole q₀
        → ClosedCard geo Every N (block_at (settle q₀ s)) w S n F → Behind geo (Besides q₀) (Besides q₀) N s q₀ w S n F
    open_behind N w S n F big small size whole c = record {
      big = big;
      small = small;
      size = size;
      off = off;
      whole = whole;
      spared = λ a y. (y, y);
      card = closed_agree geo Every (Besides q₀) N (block_at (settle q₀ s)) (block_at s) w S n (λ a l. sym (settled_low a l)) (λ a q y. (tt, sym (settle_other q₀ s a y))) F c;
    }

-- ---- one write more, to a data block that is not in the log, is settled

module _ (geo : Geometry) where
  pub drawn_card : (N : ℕ) (s : List ℕ) (w : List Entry) (S : Laid) (n : ℕ) (e : Entry) → N ≡ blocks_in s → Whole e → is_data geo N e.address ≡ true → Besides (log_d geo (block_at s) n) e.address
      → WholeCard geo Every N (block_at s) w S n → WholeCard geo Every N (block_at (settle (e ∷ []) s)) w (record { disk = lay e S.disk; groups = S.groups }) n
  unfolding overlay
  drawn_card N s w S n e size whole place off r = recard geo (lay e S.disk) others (λ a q. go a q (ℕ_discrete a e.address))
    where
      t : Disk
      t = block_at (settle (e ∷ []) s)

      other : (a : ℕ) → a ≢ e.address → t a ≡ block_at s a
      other a z = settle_other (e ∷ []) s a (z, tt)

      low : (a : ℕ) → a < first_data geo → t a ≡ block_at s a
      low a l = other a (λ z. let u = data_above geo N e.address place in omega arith)

      log : log_d geo t n ≡ log_d geo (block_at s) n
      log = same_log_lem geo n t (block_at s) (same_agree geo n t (block_at s) r.head.most low)

      others : WholeCard geo (λ a. a ≢ e.address) N t w S n
      others =
          whole_frame geo Every (λ a. a ≢ e.address) N (block_at s) t w S n (low 0 (omega arith)) log
          (λ a q y. (tt, overlay_agree (log_d geo (block_at s) n) t (block_at s) a (other a y))) r

      go : (a : ℕ) → is_data geo N a ≡ true → Dec (a ≡ e.address) → lay e S.disk a ≡ overlay (log_d geo t n) t a
      go a q (yes z) =
          lay-same e S.disk a z
          ∙ sym (ap (λ (l : List Entry). overlay l t a) log
          ∙ overlay_other (log_d geo (block_at s) n) t a (rw z off)
          ∙ settle-overlay (e ∷ []) s a (rw (← size) (data_below geo N a q)) (whole, tt)
          ∙ lay-same e (block_at s) a z)
      go a q (no z) = lay_other e S.disk a z ∙ others.disk a q z
