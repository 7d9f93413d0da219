-- `journal::append::write_slots` meets its contract. The invariant: the first i writes have been given, and have happened.
use Prim.Native.Nat.{ℕ, ◌+◌}
use mathlib.Core.List.{List}
use Rattle.cells.specs.Entry.{Entry, entry_at}
use Rattle.journal.specs.Geometry.{trap}
use Rattle.journal.proofs.OrderLists.{slot_block}
use Rattle.journal.proofs.Phases.{WrittenSoFar}
use Rattle.journal.proofs.append.write_slots.Given as goal

-- the k-th entry of the group, on its way to its slot
abbrev pub row : List ℕ → ℕ → ℕ → Entry
row group n k = slot_block trap (n + k) (entry_at group k)

abbrev pub invariant-loop-i : goal.invariant-loop-i
invariant-loop-i l = WrittenSoFar (row l.group l.n) l.i l.initial.waiting l.initial.q l.waiting l.q
