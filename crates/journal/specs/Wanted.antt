-- W-207: "a lent list of 0 to 32 addresses, 4 bytes each", and the walk that looks for them.
use Rattle.std.specs.Prelude.{ℕ, ◌/◌, List, length}
use Rattle.cells.specs.Cell.{cell}
use Rattle.cells.specs.Little.{num}
use Rattle.cells.specs.Upto.{up_to}
use Rattle.journal.specs.Log.{slot_address}

-- "4 bytes each"
abbrev pub wanted_bytes : ℕ
wanted_bytes = 4

-- how many addresses a list has, and the i-th of them
abbrev pub wanted_count : List ℕ → ℕ
wanted_count xs = length xs / wanted_bytes

abbrev pub wanted_at : List ℕ → ℕ → ℕ
wanted_at xs i = num (cell wanted_bytes xs i)

-- "the descriptor is walked once": the addresses that a walk of n slots reads, ascending
abbrev pub walked : List ℕ → ℕ → List ℕ
walked s n = up_to (slot_address s) n
