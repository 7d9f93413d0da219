-- `journal::append::write_slots` meets its contract.
use Rattle.std.proofs.Common.{rules, ◌≡◌, refl, ap, ◌∙◌, sym, arith, length, ℕ, ◌+◌, List}
use Rattle.std.specs.Prelude.{Ok, Err}
use Rattle.cells.specs.Entry.{Entry, entry_at}
use Rattle.cells.specs.Entry.Laws.{entry_eq, length_block}
use Rattle.card.specs.Card.{Order, run}
use Rattle.card.specs.CodeQueue.{card_of}
use Rattle.journal.specs.Geometry.{trap}
use Rattle.journal.specs.Geometry.Laws.{trap-first}
use Rattle.journal.specs.Log.{group_count}
use Rattle.journal.proofs.Logs.{listed_block}
use Rattle.journal.proofs.OrderLists.{slot_writes-up_to}
use Rattle.journal.proofs.Phases.{rowed_orders, written_none, written_more, written_stop}
use Rattle.journal.proofs.append.write_slots.Invariants.{row}
use Rattle.journal.proofs.append.write_slots.Goals as goal

pub loop-i-init : goal.loop-i-init
loop-i-init c = written_none _ _ _

pub overflow_add-n : goal.overflow_add-n
overflow_add-n c = omega (arith, trap.addressed)

pub overflow_add-n-in-loop-i : goal.overflow_add-n-in-loop-i
overflow_add-n-in-loop-i c = omega (arith, trap.addressed)

pub write-requires-clause-block_len : goal.write-requires-clause-block_len
write-requires-clause-block_len c =
    let a = c.args in
    let k = c.loop-i.i in
    ap length (listed_block c.block-block.result a.group k c.block-block.ensures) ∙ length_block a.group.now k (omega arith)

pub returns-in_err-q : goal.returns-in_err-q
returns-in_err-q c =
    let l = c.loop-i in
    let a = c.args in
    let f = row a.group.now a.n in
    let sent : ◌≡◌ {A = Entry} (record { address = 2 + (a.n + l.i); block = c.block-block.result.now }) (f l.i) =
    entry_eq (ap (λ (k : ℕ). k + (a.n + l.i)) trap-first) (listed_block c.block-block.result a.group l.i c.block-block.ensures) in
    let w = c.in_err-q.ensures in
    let same : c.from_residual.result ≡ Err c.in_err-q.field-0.0 = search rules in
    let all = rowed_orders f (group_count a.group.now) a.waiting.now a.queue c.write.new.waiting (Err c.in_err-q.field-0.0) _ (slot_writes-up_to trap a.n (entry_at a.group.now) (group_count a.group.now))
    (written_stop f l.i a.waiting.now a.queue l.waiting l.q l.invariant _ sent c.write.new.waiting (Err c.in_err-q.field-0.0) (w.happened_value, (w.by_index, w.waiting_bound)) (group_count a.group.now) (omega arith) refl) in
    rw same (record { happened_value = all.0; by_index = all.1.0; waiting_bound = all.1.1 })

pub loop-i-preserved : goal.loop-i-preserved
loop-i-preserved c =
    let l = c.loop-i in
    let a = c.args in
    let f = row a.group.now a.n in
    let sent : ◌≡◌ {A = Entry} (record { address = 2 + (a.n + l.i); block = c.block-block.result.now }) (f l.i) =
    entry_eq (ap (λ (k : ℕ). k + (a.n + l.i)) trap-first) (listed_block c.block-block.result a.group l.i c.block-block.ensures) in
    let w = c.in_ok-q.ensures in
    written_more f l.i a.waiting.now a.queue l.waiting l.q l.invariant _ sent c.write.new.waiting (Ok c.in_ok-q.q) (w.happened_value, (w.by_index, w.waiting_bound)) (omega arith) refl

pub returns-clause-by_index : goal.returns-clause-by_index
returns-clause-by_index c =
    let l = c.loop-i in
    let a = c.args in
    let all : l.i ≡ group_count a.group.now = omega arith in
    λ s. (rw all at l.invariant.card s) ∙ ap (λ (os : List Order). run os (card_of s a.waiting.now a.queue)) (sym (slot_writes-up_to trap a.n (entry_at a.group.now) (group_count a.group.now)))
