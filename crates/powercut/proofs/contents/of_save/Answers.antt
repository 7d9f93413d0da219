-- `powercut::contents::of_save` meets its contract.
use Rattle.std.proofs.Common.{arith}
use borrow.Author.Tests.{ne_eqb}
use Rattle.journal.specs.Geometry.{trap}
use Rattle.powercut.proofs.contents.of_save.Goals as goal

pub returns-then-address-eq-MIDDLE : goal.returns-then-address-eq-MIDDLE
unfolding trap
returns-then-address-eq-MIDDLE c = grind arith

pub returns-else-address-eq-MIDDLE : goal.returns-else-address-eq-MIDDLE
unfolding trap
returns-else-address-eq-MIDDLE c = rw (ne_eqb _ _ c.if-address-eq-MIDDLE.false.0, ne_eqb _ _ c.if-address-eq-MIDDLE.false.1)
