-- The calls that give no orders and settle nothing: they read, or change the record, the open list and the group. W-207: a list of gets
-- has two lent buffers, the addresses and the one for their blocks, as they are lent.
use Rattle.std.specs.Prelude.{ℕ, List}

pub data Local : Type 0 where
  power : ℕ → Local
  put : ℕ → List ℕ → Local
  get : ℕ → Local
  get_list : List ℕ → List ℕ → Local
  commit : Local
  abandon : Local
