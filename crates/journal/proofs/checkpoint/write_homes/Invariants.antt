-- `journal::checkpoint::write_homes` meets its contract. The invariant: the first i writes have been given, and have happened.
use Rattle.journal.specs.Geometry.{trap}
use Rattle.journal.specs.Log.{slot_entry}
use Rattle.journal.proofs.Phases.{WrittenSoFar}
use Rattle.journal.proofs.checkpoint.write_homes.Given as goal

abbrev pub invariant-loop-i : goal.invariant-loop-i
invariant-loop-i l = WrittenSoFar (slot_entry trap l.settled) l.i l.initial.waiting l.initial.q l.waiting l.q
