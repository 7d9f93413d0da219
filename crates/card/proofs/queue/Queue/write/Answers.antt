-- `card::queue::Queue::write` meets its contract.
use Rattle.std.proofs.Common.{rules, ◌≡◌, [], ◌∷◌, sym}
use Rattle.cells.specs.Entry.{Entry}
use Rattle.card.specs.Card.{write, order}
use Rattle.card.specs.CodeQueue.{card_of, left_queue}
use Rattle.card.proofs.Runs.{run_dead, run-one}
use Rattle.card.proofs.queue.Queue.write.Goals as goal

pub returns-in_err-queue-clause-by_index : goal.returns-in_err-queue-clause-by_index
returns-in_err-queue-clause-by_index c =
    let e : Entry = record { address = c.args.address; block = c.args.block.now } in
    let left : left_queue c.from_residual.result ≡ c.args.self = search rules in
    λ s. rw left (sym (run_dead (write e ∷ []) (card_of s c.args.waiting.now c.args.self) c.in_err-queue.ensures.err.0))

pub returns-clause-by_index : goal.returns-clause-by_index
unfolding order
returns-clause-by_index c =
    let e : Entry = record { address = c.args.address; block = c.args.block.now } in
    let live = c.in_ok-queue.ensures.ok in
    λ s. rw (live.1, c.set.ensures) (sym (run-one (write e) (card_of s c.args.waiting.now c.args.self) live.0))
