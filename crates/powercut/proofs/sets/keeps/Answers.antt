-- `powercut::sets::keeps` meets its contract.
use borrow.Author.Tests.{le-leb, lt-leb}
use Rattle.powercut.specs.Sets as Sets
use Rattle.powercut.proofs.sets.keeps.Goals as goal

pub returns-then-n-le-FEW : goal.returns-then-n-le-FEW
unfolding Sets.keeps
returns-then-n-le-FEW c = rw (le-leb _ _ c.if-n-le-FEW.true)

pub returns-then-set-n : goal.returns-then-set-n
unfolding Sets.keeps
returns-then-set-n c = rw (lt-leb _ _ c.if-n-le-FEW.false, le-leb _ _ c.if-set-n.true)

pub returns : goal.returns
unfolding Sets.keeps
returns c = rw (lt-leb _ _ c.if-n-le-FEW.false, lt-leb _ _ c.if-set-n.false)
