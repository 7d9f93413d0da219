-- `journal::log::is_data` meets its contract.
use mathlib.Core.Path.{◌≡◌}
use mathlib.Core.Bool.{true, false}
use native.Mathlib.Omega.{arith}
use borrow.Author.Tests.{le-leb, lt-leb}
use lib.Dec.{leb}
use Rattle.journal.specs.Geometry.Laws.{trap-slots, trap-descriptors}
use Rattle.journal.specs.Geometry.{trap}
use Rattle.journal.specs.Layout.{first_data}
use Rattle.journal.proofs.log.is_data.Goals as goal

pub returns-then-a-ge-FIRST_DATA : goal.returns-then-a-ge-FIRST_DATA
returns-then-a-ge-FIRST_DATA c =
    let from : leb (first_data trap) c.args.a ≡ true = le-leb (first_data trap) c.args.a (omega (arith, trap-slots, trap-descriptors, c.if-a-ge-FIRST_DATA.true)) in
    rw from

pub returns-else-a-ge-FIRST_DATA : goal.returns-else-a-ge-FIRST_DATA
returns-else-a-ge-FIRST_DATA c =
    let below : leb (first_data trap) c.args.a ≡ false = lt-leb (first_data trap) c.args.a (omega (arith, trap-slots, trap-descriptors, c.if-a-ge-FIRST_DATA.false)) in
    rw (below, lt-leb _ _ c.if-a-ge-FIRST_DATA.false)
