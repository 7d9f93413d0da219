-- Bytes in a row, seen as cells of k bytes each. Shut: whoever cites a cell goes by the laws.
pub mod Laws
use Rattle.std.specs.Prelude.{ℕ, ◌*◌, List, take, drop}
use Rattle.std.proofs.lemmas.List.Edits.{sets}

-- the i-th cell of k bytes
pub cell : ℕ → List ℕ → ℕ → List ℕ
cell k s i = take k (drop (k * i) s)

-- s with the k bytes v in the place of its i-th cell
pub set_cell : ℕ → List ℕ → ℕ → List ℕ → List ℕ
set_cell k s i v = sets s (k * i) (take k v)
