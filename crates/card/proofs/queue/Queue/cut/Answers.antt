-- `card::queue::Queue::cut` meets its contract.
use mathlib.Core.Path.{ap}
use mathlib.Core.List.{List}
use Prim.Native.Nat.{ℕ}
use Rattle.card.specs.Card.{queue, cut}
use Rattle.card.specs.CodeQueue.{card_of}
use Rattle.card.proofs.queue.Queue.cut.Goals as goal

pub returns : goal.returns
unfolding queue cut
returns c =
    let a = c.args in
    ap (λ (s : List ℕ). card_of s a.waiting.now (record { waiting = 0; power = a.self.power })) c.settle_marked.ensures
