-- Open and group: lists of entries in work memory.
use Rattle.std.specs.Prelude.{ℕ, ◌+◌, List, Option}
use Rattle.cells.specs.Upto.{up_to}
use Rattle.cells.specs.Entry.{Entry, entry_at}
use Rattle.journal.specs.Geometry.{Geometry}
use Rattle.journal.specs.Lookup.{last_of}

-- a list starts at an entry of work memory: open at the first, group after the 32 of open
abbrev pub open_from : ℕ
open_from = 0

module _ (geo : Geometry) where
  abbrev pub group_from : ℕ
  group_from = geo.slots

-- the i-th entry of the list that starts at from
abbrev pub listed : List ℕ → ℕ → ℕ → Entry
listed work from i = entry_at work (from + i)

-- its first n entries
abbrev pub list_of : List ℕ → ℕ → ℕ → List Entry
list_of work from n = up_to (listed work from) n

-- their addresses
abbrev pub addresses_of : List ℕ → ℕ → ℕ → List ℕ
addresses_of work from n = up_to (λ i. (listed work from i).address) n

-- its entry with an address
abbrev pub find : List ℕ → ℕ → ℕ → ℕ → Option ℕ
find work from n a = last_of (λ i. (listed work from i).address) a n
