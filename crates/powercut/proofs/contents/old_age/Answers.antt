-- `powercut::contents::old_age` meets its contract.
use borrow.Author.Tests.{lt-ltb, le-ltb}
use Rattle.journal.specs.Geometry.{trap}
use Rattle.powercut.specs.Contents.{old_age}
use Rattle.powercut.proofs.contents.old_age.Goals as goal

pub returns-then-address-saves : goal.returns-then-address-saves
unfolding old_age trap
returns-then-address-saves c = rw (lt-ltb _ _ c.if-address-saves.true)

pub returns-else-address-saves : goal.returns-else-address-saves
unfolding old_age trap
returns-else-address-saves c = rw (le-ltb _ _ c.if-address-saves.false)
