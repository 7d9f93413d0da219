-- `journal::lookup::last_slot` meets its contract. The invariant: the last of the first i slots is the last of all n.
use mathlib.Core.Path.{◌≡◌}
use Rattle.journal.specs.Lookup.{last_slot}
use Rattle.journal.proofs.lookup.last_slot.Given as goal

abbrev pub invariant-loop-i : goal.invariant-loop-i
invariant-loop-i l = last_slot l.settled l.a l.i ≡ last_slot l.settled l.a l.n
