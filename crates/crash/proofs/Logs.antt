-- The log on a disk. A disk stands for the card's blocks.
use Prim.Native.Nat.{ℕ, ◌^◌, ◌≤◌, ◌<◌}
use mathlib.Core.Path.{◌≡◌, refl, ap}
use mathlib.Core.Bool.{true}
use mathlib.Core.List.{List}
use native.Mathlib.Omega.{arith}
use Rattle.cells.specs.Cell.{cell}
use Rattle.cells.specs.Little.{num}
use Rattle.cells.specs.Upto.{up_to}
use Rattle.cells.specs.Upto.Laws.{ext_up_to}
use Rattle.cells.specs.Entry.{Entry}
use Rattle.cells.specs.Entry.Laws.{entry_eq}
use Rattle.fnv.specs.Fnv.{start}
use Rattle.card.specs.Disk.{Disk}
use Rattle.card.specs.Card.{block_at}
use Rattle.journal.specs.Geometry.{Geometry}
use Rattle.journal.specs.Layout.{described_in, described_at, slot_at, first_data, is_data}
use Rattle.journal.specs.Log.{slot_address, slot_entry, entries, sum_of}
use Rattle.journal.proofs.Logs.{sum_of_lt, data_bounds}

pub sum_lt : (es : List Entry) → sum_of start es < 2 ^ 64
sum_lt es = sum_of_lt start es (lib.Dec.lit< tt)

module _ (geo : Geometry) where
  unfoldable pub slot_e : Disk → ℕ → Entry
  slot_e d i = record { address = num (cell 4 (d (described_in i)) (described_at i)); block = d (slot_at geo i) }

  abbrev pub log_d : Disk → ℕ → List Entry
  log_d d n = up_to (slot_e d) n

  pub entries_disk : (s : List ℕ) (n : ℕ) → entries geo s n ≡ log_d (block_at s) n
  unfolding slot_entry slot_address slot_e
  entries_disk s n = ext_up_to (slot_entry geo s) (slot_e (block_at s)) n (λ i h. refl)

  -- the first n addresses and slots are as on another disk
  pub record LogStands (n : ℕ) (d e : Disk) : Type 0 where
    pub addresses : (i : ℕ) → i < n → cell 4 (d (described_in i)) (described_at i) ≡ cell 4 (e (described_in i)) (described_at i)
    pub blocks : (i : ℕ) → i < n → d (slot_at geo i) ≡ e (slot_at geo i)

  pub same_log_lem : (n : ℕ) (d e : Disk) → LogStands n d e → log_d d n ≡ log_d e n
  unfolding slot_e
  same_log_lem n d e h = ext_up_to (slot_e d) (slot_e e) n (λ i l. entry_eq (ap num (h.addresses i l)) (h.blocks i l))

  pub same_agree : (n : ℕ) (d e : Disk) → n ≤ geo.slots → ((a : ℕ) → a < first_data geo → d a ≡ e a) → LogStands n d e
  same_agree n d e m h = record {
    addresses = λ i l. ap (λ (b : List ℕ). cell 4 b (described_at i)) (h (described_in i) (omega (arith, geo.described)));
    blocks = λ i l. h (slot_at geo i) (omega arith);
  }

  -- data blocks lie above all that
  pub data_above : (N a : ℕ) → is_data geo N a ≡ true → first_data geo ≤ a
  data_above N a h = (data_bounds geo N a h).0

  pub data_below : (N a : ℕ) → is_data geo N a ≡ true → a < N
  data_below N a h = (data_bounds geo N a h).1
