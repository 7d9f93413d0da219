-- `journal::wanted::Chains::of` meets its contract.
use Rattle.std.proofs.Common.{ℕ, ◌≡◌, ◌%◌, ◌∙◌, ap, arith, replicate}
use lib.ListN.{length-set, length-replicate}
use Rattle.journal.specs.Wanted.{wanted_count}
use Rattle.journal.specs.CodeWanted.{buckets, bucket_at}
use Rattle.journal.proofs.Chains.{chained_none, chained_more}
use Rattle.journal.proofs.wanted.Chains.of.Goals as goal

pub loop-i-init : goal.loop-i-init
loop-i-init g c = (length-replicate {A = ℕ} buckets 0, length-replicate {A = ℕ} g.row.PLACES 0, chained_none c.args.list.now (replicate g.row.PLACES 0))

pub loop-i-preserved : goal.loop-i-preserved
loop-i-preserved g c =
    let a = c.args in
    let l = c.loop-i in
    let e : c.wanted.result % buckets ≡ bucket_at a.list.now l.i = ap (λ (x : ℕ). x % buckets) c.wanted.ensures in
    (length-set l.last _ _ ∙ l.invariant.0, length-set l.before _ _ ∙ l.invariant.1, chained_more a.list.now l.last l.before l.i _ l.invariant.0 (omega arith) e l.invariant.2)

pub invariant_of-result : goal.invariant_of-result
invariant_of-result g c =
    let l = c.loop-i in
    let over : l.i ≡ wanted_count c.args.list.now = omega arith in
    record { few = c.requires.few; chained = rw over at l.invariant.2 }
