-- `card::queue::settle_all` meets its contract. The invariant: the first i waiting writes have settled.
use Rattle.std.proofs.Common.{◌≡◌}
use Rattle.cells.specs.Upto.{up_to}
use Rattle.cells.specs.Entry.{entry_at}
use Rattle.card.specs.Card.{settle}
use Rattle.card.proofs.queue.settle_all.Given as goal

abbrev pub invariant-loop-i : goal.invariant-loop-i
invariant-loop-i l = l.settled ≡ settle (up_to (entry_at l.waiting) l.i) l.initial.settled
