-- `journal::wanted::Chains::walk` meets its contract.
use Rattle.std.proofs.Common.{◌≡◌, sym, add-one, length}
use Rattle.cells.specs.Upto.Laws.{length-up_to}
use Rattle.journal.specs.Log.{slot_address}
use Rattle.journal.specs.Wanted.{walked}
use Rattle.journal.proofs.wanted.Chains.walk.Goals as goal

pub loop-k-preserved : goal.loop-k-preserved
loop-k-preserved g c =
    let s = c.args.settled.now in
    let l = c.loop-k in
    let size : length (walked s l.k) ≡ l.k = length-up_to (slot_address s) l.k in
    let next : c.slot_address.result ≡ slot_address s l.k = c.slot_address.ensures in
    rw (add-one, ← next) (c.mark.ensures (walked s l.k) size l.invariant)

pub returns-clause-value : goal.returns-clause-value
returns-clause-value g c = sym (length-up_to (slot_address c.args.settled.now) c.args.n)
