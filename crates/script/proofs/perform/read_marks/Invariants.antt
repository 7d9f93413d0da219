-- `script::perform::read_marks` meets its contract.
use Prim.Native.Nat.{◌+◌, ◌*◌}
use mathlib.Core.Path.{◌≡◌}
use mathlib.Core.List.{◌++◌}
use lib.ListN.{take, drop}
use Rattle.card.specs.Marks.{spread}
use Rattle.script.specs.Replies.{values}
use Rattle.script.proofs.perform.read_marks.Given as goal

abbrev pub invariant-loop-i : goal.invariant-loop-i
invariant-loop-i l = take (512 * l.i) l.marks ++ spread (values (drop (l.i + 4) l.line)) ≡ spread (values (drop 4 l.line))
