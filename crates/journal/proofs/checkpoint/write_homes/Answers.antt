-- `journal::checkpoint::write_homes` meets its contract.
use Rattle.std.proofs.Common.{rules, ◌≡◌, refl, ap, ◌∙◌, arith, length}
use Rattle.std.specs.Prelude.{Ok, Err}
use Rattle.cells.specs.Entry.{Entry}
use Rattle.journal.specs.Geometry.{trap}
use Rattle.journal.specs.Layout.{slot_at}
use Rattle.journal.specs.Log.{slot_entry}
use Rattle.journal.proofs.Logs.{length-block_at, block_read, slot-entry}
use Rattle.journal.proofs.Phases.{written_none, written_more, written_stop}
use Rattle.journal.proofs.checkpoint.write_homes.Goals as goal

pub loop-i-init : goal.loop-i-init
loop-i-init c = written_none _ _ _

pub write-requires-clause-block_len : goal.write-requires-clause-block_len
write-requires-clause-block_len c =
    let s = c.args.settled in
    let i = c.loop-i.i in
    ap length (block_read c.slot_block.result s (slot_at trap i) c.slot_block.ensures) ∙ length-block_at s.now (slot_at trap i) (omega arith)

pub returns-in_err-q : goal.returns-in_err-q
returns-in_err-q c =
    let l = c.loop-i in
    let a = c.args in
    let sent : ◌≡◌ {A = Entry} (record { address = c.slot_address.result; block = c.slot_block.result.now }) (slot_entry trap a.settled.now l.i) =
    slot-entry trap a.settled.now l.i _ c.slot_address.ensures (block_read c.slot_block.result a.settled (slot_at trap l.i) c.slot_block.ensures) in
    let w = c.in_err-q.ensures in
    let same : c.from_residual.result ≡ Err c.in_err-q.field-0.0 = search rules in
    let all = written_stop (slot_entry trap a.settled.now) l.i a.waiting.now a.queue l.waiting l.q l.invariant _ sent c.write.new.waiting (Err c.in_err-q.field-0.0) (w.happened_value, (w.by_index, w.waiting_bound)) a.n (omega arith) refl in
    rw same (record { happened_value = all.0; by_index = all.1.0; waiting_bound = all.1.1 })

pub loop-i-preserved : goal.loop-i-preserved
loop-i-preserved c =
    let l = c.loop-i in
    let a = c.args in
    let sent : ◌≡◌ {A = Entry} (record { address = c.slot_address.result; block = c.slot_block.result.now }) (slot_entry trap a.settled.now l.i) =
    slot-entry trap a.settled.now l.i _ c.slot_address.ensures (block_read c.slot_block.result a.settled (slot_at trap l.i) c.slot_block.ensures) in
    let w = c.in_ok-q.ensures in
    written_more (slot_entry trap a.settled.now) l.i a.waiting.now a.queue l.waiting l.q l.invariant _ sent c.write.new.waiting (Ok c.in_ok-q.q) (w.happened_value, (w.by_index, w.waiting_bound)) (omega arith) refl
