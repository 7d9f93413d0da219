-- `store::lists::look` meets its contract: the first i were looked at.
use mathlib.Core.Path.{◌≡◌, ◌∙◌}
use native.Mathlib.Numerals.{add-one}
use lib.ListN.{length}
use Rattle.cells.specs.Upto.Laws.{length-up_to}
use Rattle.store.specs.Lists.{listed, addresses_of}
use Rattle.store.proofs.lists.look.Goals as goal

pub loop-i-preserved : goal.loop-i-preserved
loop-i-preserved c =
    let a = c.args in
    let l = c.loop-i in
    let size : length (addresses_of a.work.now a.from l.i) ≡ l.i = length-up_to (λ j. (listed a.work.now a.from j).address) l.i in
    let next : c.address.result ≡ (listed a.work.now a.from l.i).address = c.address.ensures in
    (c.mark.auto.met ∙ l.invariant.0, rw (add-one, ← next) (c.mark.ensures (addresses_of a.work.now a.from l.i) size l.invariant.1))
