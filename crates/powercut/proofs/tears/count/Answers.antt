-- `powercut::tears::count` meets its contract.
use mathlib.Core.Path.{◌≡◌}
use mathlib.Core.Bool.{true, false}
use native.Mathlib.Omega.{arith}
use borrow.Author.Tests.{eq-eqb, ne_eqb}
use lib.Dec.{eqb}
use Rattle.powercut.specs.Tears.{tear_count}
use Rattle.powercut.proofs.tears.count.Goals as goal

pub returns-then-k-eq0 : goal.returns-then-k-eq0
unfolding tear_count
returns-then-k-eq0 c =
    let none : eqb c.args.k 0 ≡ true = eq-eqb _ _ c.if-k-eq0.true in
    (rw none, omega arith)

pub returns : goal.returns
unfolding tear_count
returns c =
    let some : eqb c.args.k 0 ≡ false = ne_eqb _ _ c.if-k-eq0.false in
    (rw some, omega arith)
