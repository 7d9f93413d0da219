-- The card as the code holds it: two lent buffers, and the counts by value.
use Rattle.std.specs.Prelude.{ℕ, ◌<◌, List, Result, Ok, Err}
use Rattle.cells.specs.Entry.{entry_at}
use Rattle.card.specs.Card.{Card}
use Rattle.card.specs.declared.queue.Queue.{Queue}
use Rattle.card.specs.declared.queue.PowerLost.{PowerLost}

abbrev pub card_of : List ℕ → List ℕ → Queue → Card
card_of settled waiting q = record { settled = settled; waiting = waiting; count = q.waiting; power = q.power }

-- the queue that an order leaves, whether it happened or not
abbrev pub left_queue : Result Queue PowerLost → Queue
left_queue (Ok q) = q
left_queue (Err lost) = lost.queue

-- the first k waiting writes are addressed below n
abbrev pub Below : ℕ → List ℕ → ℕ → Type 0
Below n waiting k = (i : ℕ) → i < k → (entry_at waiting i).address < n
