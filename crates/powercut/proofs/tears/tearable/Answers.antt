-- `powercut::tears::tearable` meets its contract.
use Prim.Native.Nat.{◌-◌}
use mathlib.Core.Path.{◌≡◌, sym, ◌∙◌}
use mathlib.Core.Bool.{true, false}
use native.Mathlib.Omega.{arith}
use borrow.Author.Tests.{eq-eqb, ne_eqb}
use lib.Dec.{eqb}
use Rattle.cells.specs.Entry.{entry_at}
use Rattle.journal.specs.Layout.{header_at}
use Rattle.powercut.specs.Tears as Tears
use Rattle.powercut.proofs.tears.tearable.Goals as goal

pub returns-then-n-eq0 : goal.returns-then-n-eq0
unfolding Tears.tearable
returns-then-n-eq0 c =
    let none : eqb c.args.n 0 ≡ true = eq-eqb _ _ c.if-n-eq0.true in
    (rw none, omega arith)

pub returns-then-address-eq-HEADER_AT : goal.returns-then-address-eq-HEADER_AT
unfolding Tears.tearable
returns-then-address-eq-HEADER_AT c =
    let a = c.args in
    let some : eqb a.n 0 ≡ false = ne_eqb _ _ c.if-n-eq0.false in
    let header : eqb (entry_at a.waiting.now (a.n - 1)).address header_at ≡ true = eq-eqb _ _ (sym c.address.ensures ∙ c.if-address-eq-HEADER_AT.true) in
    (rw (some, header), omega arith)

pub returns : goal.returns
unfolding Tears.tearable
returns c =
    let a = c.args in
    let some : eqb a.n 0 ≡ false = ne_eqb _ _ c.if-n-eq0.false in
    let other : eqb (entry_at a.waiting.now (a.n - 1)).address header_at ≡ false = ne_eqb _ _ (λ e. c.if-address-eq-HEADER_AT.false (c.address.ensures ∙ e)) in
    (rw (some, other), omega arith)
