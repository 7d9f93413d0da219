-- `powercut::tears::tears` meets its contract.
use Prim.Native.Nat.{◌/◌}
use mathlib.Core.Path.{◌≡◌}
use mathlib.Core.Bool.{true, false}
use borrow.Author.Tests.{eq-eqb, ne_eqb}
use lib.Dec.{eqb}
use Rattle.powercut.specs.Tears as Tears
use Rattle.powercut.proofs.tears.tears.Goals as goal

pub returns-then-tear-k : goal.returns-then-tear-k
unfolding Tears.tears
returns-then-tear-k c =
    let a = c.args in
    let all : eqb (a.tear / 3) a.k ≡ true = eq-eqb _ _ c.if-tear-k.true in
    rw all

pub returns : goal.returns
unfolding Tears.tears
returns c =
    let a = c.args in
    let one : eqb (a.tear / 3) a.k ≡ false = ne_eqb _ _ c.if-tear-k.false in
    rw one
