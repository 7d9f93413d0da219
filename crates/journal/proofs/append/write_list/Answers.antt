-- `journal::append::write_list` meets its contract.
use Rattle.std.proofs.Common.{rules, ◌≡◌, refl, ap, ◌∙◌, arith, length, ℕ, List, [], ◌∷◌}
use Rattle.std.specs.Prelude.{Ok, Err}
use Rattle.card.specs.Card.{block_at, write}
use Rattle.journal.specs.Geometry.{trap}
use Rattle.journal.specs.Orders.{slot_writes, describe}
use Rattle.journal.specs.Layout.{descriptor_at}
use Rattle.journal.specs.Log.{group_count, group_entries}
use Rattle.journal.proofs.OrderLists.{length-slot_writes, one_descriptor}
use Rattle.journal.proofs.Logs.{length-block_at, block_read, length-group_entries}
use Rattle.journal.proofs.Phases.{writes_stopped, writes_resumed}
use Rattle.journal.proofs.append.write_list.Goals as goal

orders : (n : ℕ) (group : List ℕ) → length (slot_writes trap n (group_entries group)) ≡ group_count group
orders n group = length-slot_writes trap n (group_entries group) ∙ length-group_entries group

pub returns-in_err-written-clause-by_index : goal.returns-in_err-written-clause-by_index
returns-in_err-written-clause-by_index c =
    let a = c.args in
    let es = group_entries a.group.now in
    let w = c.in_err-written.ensures in
    let same : c.from_residual.result ≡ Err c.in_err-written.field-0.0 = search rules in
    let o = writes_stopped _ (slot_writes trap a.n es) (write (one_descriptor a.settled.now a.n es) ∷ []) refl (group_count a.group.now) 1 _ (orders a.n a.group.now) refl
    a.waiting.now a.queue c.write_slots.new.waiting (Err c.in_err-written.field-0.0) w.happened_value w.by_index refl in
    rw same o.1

pub describe-requires-clause-len : goal.describe-requires-clause-len
describe-requires-clause-len c =
    let s = c.args.settled in
    ap length (block_read c.read.result s descriptor_at c.read.ensures) ∙ length-block_at s.now descriptor_at (omega arith)

pub returns : goal.returns
returns c =
    let a = c.args in
    let es = group_entries a.group.now in
    let w = c.in_ok-written.ensures in
    let new : c.describe.new.block ≡ describe (block_at a.settled.now descriptor_at) a.n es =
    c.describe.ensures ∙ ap (λ (old : List ℕ). describe old a.n es) (block_read c.read.result a.settled descriptor_at c.read.ensures) in
    let o = writes_resumed _ (slot_writes trap a.n es) (write (one_descriptor a.settled.now a.n es) ∷ []) refl (group_count a.group.now) 1 _ (orders a.n a.group.now) refl
    a.waiting.now a.queue c.write_slots.new.waiting (Ok c.in_ok-written.written) w.happened_value w.by_index refl
    c.write.new.waiting c.write.result c.write.ensures.happened_value (rw new at c.write.ensures.by_index) in
    record { happened_value = o.0; by_index = o.1; waiting_bound = omega (arith, w.waiting_bound, c.write.ensures.waiting_bound) }
