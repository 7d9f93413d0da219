-- `journal::header::Header::order` meets its contract.
use Rattle.std.proofs.Common.{rules, ◌≡◌, refl, true, false, [], ◌∷◌, arith}
use Rattle.std.specs.Prelude.{Ok}
use lib.Dec.{lit<}
use Rattle.card.specs.Card.{write, flush, blocks_in}
use Rattle.card.specs.CodeQueue.{card_of, left_queue}
use Rattle.journal.proofs.Headers.{length-encode}
use Rattle.journal.proofs.OrderLists.{header_entry}
use Rattle.journal.proofs.Phases.{stopped, resumed, write_below}
use Rattle.journal.proofs.header.Header.order.Goals as goal

pub returns-in_err-written-clause-queue_after : goal.returns-in_err-written-clause-queue_after
returns-in_err-written-clause-queue_after c =
    let a = c.args in
    let w = c.in_err-written in
    let left : left_queue c.from_residual.result ≡ w.field-0.0.queue = search rules in
    rw left (stopped _ (write (header_entry a.self) ∷ []) (flush ∷ []) refl 1 1 2 refl refl (card_of a.settled.now a.waiting.now a.q) _
    (rw c.fill.ensures at w.ensures.by_index a.settled.now) false w.ensures.happened_value refl).1

pub flush-requires-clause-below : goal.flush-requires-clause-below
flush-requires-clause-below c =
    let a = c.args in
    let w = c.in_ok-written in
    write_below (blocks_in a.settled.now) (header_entry a.self) a.settled.now a.waiting.now a.q c.write.new.waiting (Ok w.written) (rw c.fill.ensures at w.ensures.by_index a.settled.now) (omega arith) (length-encode a.self) (lit< tt) (omega arith) c.requires.below

pub returns : goal.returns
returns c =
    let a = c.args in
    let w = c.in_ok-written in
    let both = resumed _ (write (header_entry a.self) ∷ []) (flush ∷ []) refl 1 1 2 refl refl (card_of a.settled.now a.waiting.now a.q) _ (rw c.fill.ensures at w.ensures.by_index a.settled.now) true w.ensures.happened_value refl _ _ c.flush.ensures.queue_after c.flush.ensures.happened_value in
    record { happened_value = both.0; queue_after = both.1 }
