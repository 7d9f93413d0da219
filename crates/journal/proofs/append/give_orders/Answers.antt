-- `journal::append::give_orders` meets its contract.
use Rattle.std.proofs.Common.{rules, ◌≡◌, refl, true, false, ap, ap₂, ◌∙◌, sym, arith, length, ℕ, ◌+◌, List, [], ◌∷◌, ◌++◌, map}
use Rattle.std.specs.Prelude.{Err}
use lib.ListN.{length-append}
use Rattle.cells.specs.Entry.{block_bytes, Entry}
use Rattle.card.specs.Card.{Order, write, flush, run, block_at, blocks_in}
use Rattle.card.specs.CodeQueue.{card_of}
use Rattle.journal.specs.Geometry.{trap}
use Rattle.journal.specs.Geometry.Laws.{trap-descriptors}
use Rattle.journal.specs.declared.append.Log.{Log}
use Rattle.journal.specs.declared.header.Header.{Header}
use Rattle.journal.specs.Layout.{descriptor_at}
use Rattle.journal.specs.Header.{header}
use Rattle.journal.specs.Log.{group_count, group_entries, sum_of}
use Rattle.journal.specs.Orders.{header_write, slot_writes, append_orders}
use Rattle.journal.proofs.Logs.{length-block_at, length-group_entries, group_whole}
use Rattle.journal.proofs.Descriptors.{length-describe}
use Rattle.journal.proofs.OrderLists.{one_descriptor, one-descriptor, length-slot_writes, append_split, list_below}
use Rattle.journal.proofs.Phases.{stopped, resumed}
use Rattle.journal.proofs.append.give_orders.Goals as goal

-- the two phases
abbrev listed : List ℕ → ℕ → List Entry → List Order
listed s n es = slot_writes trap n es ++ (write (one_descriptor s n es) ∷ [])

abbrev last : Log → List Entry → List Order
last l es = header_write (header l.blocks l.count l.sum (l.count + length es) (sum_of l.sum es) l.save) ∷ flush ∷ []

split : (l : Log) (s : List ℕ) (es : List Entry) → append_orders trap l.blocks s l.count l.sum l.save es ≡ listed s l.count es ++ last l es
split l s es =
    append_split trap l.blocks s l.count l.sum l.save es
    ∙ ap (λ (ds : List Entry). (slot_writes trap l.count es ++ map write ds) ++ last l es) (one-descriptor s l.count es)

size : (s : List ℕ) (n : ℕ) (es : List Entry) (m : ℕ) → length es ≡ m → length (listed s n es) ≡ m + 1
size s n es m e = rw (length-append, length-slot_writes trap, e)

pub returns-in_err-listed-clause-queue_after : goal.returns-in_err-listed-clause-queue_after
returns-in_err-listed-clause-queue_after c =
    let a = c.args in
    let es = group_entries a.group.now in
    let w = c.in_err-listed.ensures in
    let same : c.from_residual.result ≡ Err c.in_err-listed.field-0.0 = search rules in
    let o = stopped _ (listed a.settled.now a.log.count es) (last a.log es) (split a.log a.settled.now es) (group_count a.group.now + 1) 2 (group_count a.group.now + 3) (size a.settled.now a.log.count es (group_count a.group.now) (length-group_entries a.group.now)) (omega arith)
    (card_of a.settled.now a.waiting.now a.queue) _ (w.by_index a.settled.now) false w.happened_value refl in
    rw same o.1

pub overflow_add-log : goal.overflow_add-log
overflow_add-log c = omega (arith, trap.addressed)

pub order-requires-clause-below : goal.order-requires-clause-below
order-requires-clause-below c =
    let a = c.args in
    let es = group_entries a.group.now in
    let m : length es ≡ group_count a.group.now = length-group_entries a.group.now in
    let old : length (block_at a.settled.now descriptor_at) ≡ block_bytes = length-block_at a.settled.now descriptor_at (omega arith) in
    list_below trap (blocks_in a.settled.now) a.settled.now a.waiting.now a.queue c.write_list.new.waiting c.in_ok-listed.listed a.log.count es (one_descriptor a.settled.now a.log.count es ∷ []) (c.in_ok-listed.ensures.by_index a.settled.now) (omega arith) (group_whole a.group.now) (length-describe (block_at a.settled.now descriptor_at) a.log.count es, tt) (omega (arith, trap-descriptors), tt) (omega arith) (omega arith) c.requires.below

pub returns : goal.returns
returns c =
    let a = c.args in
    let es = group_entries a.group.now in
    let w = c.in_ok-listed.ensures in
    let new : c.header-h.result ≡ header a.log.blocks a.log.count a.log.sum (a.log.count + length es) (sum_of a.log.sum es) a.log.save =
    c.header-h.ensures ∙ ap₂ (λ (k x : ℕ). header a.log.blocks a.log.count a.log.sum (a.log.count + k) x a.log.save) (c.count.ensures ∙ sym (length-group_entries a.group.now)) c.requires.sum_value in
    let o = resumed _ (listed a.settled.now a.log.count es) (last a.log es) (split a.log a.settled.now es) (group_count a.group.now + 1) 2 (group_count a.group.now + 3) (size a.settled.now a.log.count es (group_count a.group.now) (length-group_entries a.group.now)) (omega arith)
    (card_of a.settled.now a.waiting.now a.queue) _ (w.by_index a.settled.now) true w.happened_value refl
    _ _ (c.order.ensures.queue_after ∙ ap (λ (x : Header). run (header_write x ∷ flush ∷ []) (card_of a.settled.now c.write_list.new.waiting c.in_ok-listed.listed)) new) c.order.ensures.happened_value in
    record { happened_value = o.0; queue_after = o.1 }
