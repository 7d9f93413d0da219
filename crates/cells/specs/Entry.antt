-- "An entry is its 4 address bytes, then its 512 bytes." The card's waiting writes and the lists in work memory are runs of these.
pub mod Laws
use Rattle.std.specs.Prelude.{ℕ, List, [], ◌∷◌, ◌++◌, take, drop}
use Rattle.cells.specs.Cell.{cell, set_cell}
use Rattle.cells.specs.Little.{le, num}

-- "A block is 512 bytes."
abbrev pub block_bytes : ℕ
block_bytes = 512

abbrev pub entry_bytes : ℕ
entry_bytes = 516

-- an address, and the block that is to stand there
pub record Entry : Type 0 where
  pub address : ℕ
  pub block : List ℕ

unfoldable pub to_bytes : Entry → List ℕ
to_bytes e = le 4 e.address ++ e.block

-- the bytes of a list, entry after entry
unfoldable pub flat : List Entry → List ℕ
flat [] = []
flat (e ∷ es) = to_bytes e ++ flat es

-- the i-th entry of a run of them
unfoldable pub entry_at : List ℕ → ℕ → Entry
entry_at s i = record { address = num (take 4 (cell entry_bytes s i)); block = drop 4 (cell entry_bytes s i) }

-- s with e as its i-th entry
unfoldable pub set_entry : List ℕ → ℕ → Entry → List ℕ
set_entry s i e = set_cell entry_bytes s i (to_bytes e)
