-- The log on the card: its entries, their sum, and when a list is good.
use Rattle.std.specs.Prelude.{ℕ, ◌+◌, ◌/◌, Bool, true, ◌&&◌, List, [], ◌∷◌, eqb, length}
use Rattle.cells.specs.Cell.{cell}
use Rattle.cells.specs.Little.{num}
use Rattle.cells.specs.Upto.{up_to}
use Rattle.cells.specs.Entry.{entry_bytes, Entry, flat, entry_at}
use Rattle.fnv.specs.Fnv.{start, sum_from}
use Rattle.card.specs.Card.{block_at}
use Rattle.journal.specs.declared.header.Header.{Header}
use Rattle.journal.specs.Geometry.{Geometry}
use Rattle.journal.specs.Layout.{header_at, described_in, described_at, slot_at, is_data}
use Rattle.journal.specs.Header.{decode}

abbrev pub header_of : List ℕ → Header
header_of s = decode (block_at s header_at)

-- "slot i (0 to 31) has its address in bytes 4i to 4i+3" of the descriptor, 128 addresses to a block
unfoldable pub slot_address : List ℕ → ℕ → ℕ
slot_address s i = num (cell 4 (block_at s (described_in i)) (described_at i))

-- m entries of a run of them in memory, from place `from` on
abbrev pub entries_from : List ℕ → ℕ → ℕ → List Entry
entries_from work from m = up_to (λ i. entry_at work (from + i)) m

-- how many entries a group's bytes are, one behind the other, and which
abbrev pub group_count : List ℕ → ℕ
group_count group = length group / entry_bytes

abbrev pub group_entries : List ℕ → List Entry
group_entries group = up_to (entry_at group) (group_count group)

-- "An entry is its 4 address bytes, then its 512 bytes; a list's sum runs over its entries in slot order." It continues from h
abbrev pub sum_of : ℕ → List Entry → ℕ
sum_of h es = sum_from h (flat es)

module _ (geo : Geometry) where
  -- the entry in slot i
  unfoldable pub slot_entry : List ℕ → ℕ → Entry
  slot_entry s i = record { address = slot_address s i; block = block_at s (slot_at geo i) }

  -- the first n entries
  abbrev pub entries : List ℕ → ℕ → List Entry
  entries s n = up_to (slot_entry s) n

  unfoldable pub all_data : ℕ → List Entry → Bool
  all_data N [] = true
  all_data N (e ∷ es) = is_data geo N e.address && all_data N es

  -- "A list is good if its sum equals the header's and each address is a data block."
  abbrev pub good : ℕ → List Entry → ℕ → Bool
  good N es sum = eqb (sum_of start es) sum && all_data N es
