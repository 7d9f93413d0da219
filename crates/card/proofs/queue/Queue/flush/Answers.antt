-- `card::queue::Queue::flush` meets its contract.
use Rattle.std.proofs.Common.{rules, ◌≡◌, [], ◌∷◌, sym}
use Rattle.card.specs.Card.{flush, queue, order}
use Rattle.card.specs.CodeQueue.{card_of, left_queue}
use Rattle.card.proofs.Runs.{run_dead, run-one}
use Rattle.card.proofs.queue.Queue.flush.Goals as goal

pub returns-in_err-queue-clause-queue_after : goal.returns-in_err-queue-clause-queue_after
returns-in_err-queue-clause-queue_after c =
    let left : left_queue c.from_residual.result ≡ c.args.self = search rules in
    rw left (sym (run_dead (flush ∷ []) (card_of c.args.settled.now c.args.waiting.now c.args.self) c.in_err-queue.ensures.err.0))

pub returns-clause-queue_after : goal.returns-clause-queue_after
unfolding queue order
returns-clause-queue_after c =
    let live = c.in_ok-queue.ensures.ok in
    rw (live.1, c.settle_all.ensures) (sym (run-one flush (card_of c.args.settled.now c.args.waiting.now c.args.self) live.0))
