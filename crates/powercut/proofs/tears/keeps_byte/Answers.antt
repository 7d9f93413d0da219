-- `powercut::tears::keeps_byte` meets its contract.
use mathlib.Core.Path.{◌≡◌}
use mathlib.Core.Bool.{true, false}
use borrow.Author.Tests.{eq-eqb, ne_eqb}
use lib.Dec.{eqb}
use Rattle.powercut.specs.Tears.{keeps_byte}
use Rattle.powercut.proofs.tears.keeps_byte.Goals as goal

pub returns-then-way-eq0 : goal.returns-then-way-eq0
unfolding keeps_byte
returns-then-way-eq0 c =
    let first : eqb c.args.way 0 ≡ true = eq-eqb _ _ c.if-way-eq0.true in
    rw first

pub returns-then-way-eq1 : goal.returns-then-way-eq1
unfolding keeps_byte
returns-then-way-eq1 c =
    let way = c.args.way in
    let later : eqb way 0 ≡ false = ne_eqb _ _ c.if-way-eq0.false in
    let second : eqb way 1 ≡ true = eq-eqb _ _ c.if-way-eq1.true in
    rw (later, second)

pub returns : goal.returns
unfolding keeps_byte
returns c =
    let way = c.args.way in
    let later : eqb way 0 ≡ false = ne_eqb _ _ c.if-way-eq0.false in
    let third : eqb way 1 ≡ false = ne_eqb _ _ c.if-way-eq1.false in
    rw (later, third)
