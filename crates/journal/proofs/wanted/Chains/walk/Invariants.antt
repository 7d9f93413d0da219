-- `journal::wanted::Chains::walk` meets its contract. The invariant: the first k slots were read.
use Rattle.journal.specs.Wanted.{walked}
use Rattle.journal.specs.CodeWanted.{Met}
use Rattle.journal.proofs.wanted.Chains.walk.Given as goal

abbrev pub invariant-loop-k : goal.invariant-loop-k
invariant-loop-k g l = Met l.self.list.now (walked l.settled l.k) l.met
