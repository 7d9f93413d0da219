-- `journal::wanted::Chains::mark` meets its contract: from place i on all were compared with the address.
use Rattle.journal.proofs.Chains.{Compared}
use Rattle.journal.proofs.wanted.Chains.mark.Given as goal

abbrev pub invariant-loop-i : goal.invariant-loop-i
invariant-loop-i g l = Compared l.self.list.now l.a l.k l.initial.met l.met l.i

abbrev pub decreases-loop-i : goal.decreases-loop-i
decreases-loop-i g l = l.i
