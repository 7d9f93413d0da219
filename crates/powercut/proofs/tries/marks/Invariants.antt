-- `powercut::tries::marks` meets its contract. The invariant: the first x bytes are the marks of the first x bytes of the writes.
use Rattle.std.proofs.Common.{◌≡◌, ◌/◌, ◌%◌, length, take}
use Rattle.cells.specs.Upto.{up_to}
use Rattle.powercut.specs.Tries.{try_mark}
use Rattle.powercut.proofs.tries.marks.Given as goal

abbrev pub invariant-loop-x : goal.invariant-loop-x
invariant-loop-x l = (length l.to ≡ length l.initial.to) × (take l.x l.to ≡ up_to (λ b. try_mark l.n l.k l.attempt (b / 512) (b % 512)) l.x)
