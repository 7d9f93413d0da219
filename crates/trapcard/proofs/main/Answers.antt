-- `trapcard::main` meets its contract.
use Rattle.std.proofs.Common.{refl}
use Rattle.journal.specs.Geometry.{trap}
use Rattle.trapcard.proofs.Turns.{starts}
use Rattle.trapcard.proofs.main.Goals as goal

pub run-requires : goal.run-requires
unfolding trap
run-requires c = starts c.new.result _ _ _ _ refl refl refl c.new.ensures.0 c.new.ensures.1
