-- `powercut::contents::save` is safe and ends.
use Rattle.std.proofs.Common.{◌≤◌}
use Rattle.powercut.proofs.contents.save.Given as goal

abbrev pub invariant-loop-address : goal.invariant-loop-address
invariant-loop-address l = l.address-iterator.end ≤ 65
