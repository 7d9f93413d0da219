-- `journal::fallback::fallback` meets its contract.
use mathlib.Core.Path.{ap, ◌∙◌}
use mathlib.Core.List.{[], ◌∷◌}
use Rattle.card.specs.Card.{run, flush}
use Rattle.card.specs.CodeQueue.{card_of}
use Rattle.journal.specs.declared.header.Header.{Header}
use Rattle.journal.specs.Orders.{header_write, fallback_orders}
use Rattle.journal.proofs.fallback.fallback.Goals as goal

pub returns-clause-queue_after : goal.returns-clause-queue_after
unfolding fallback_orders
returns-clause-queue_after c =
    let a = c.args in
    c.order.ensures.queue_after ∙ ap (λ (h : Header). run (header_write h ∷ flush ∷ []) (card_of a.settled.now a.waiting.now a.queue)) c.new.ensures
