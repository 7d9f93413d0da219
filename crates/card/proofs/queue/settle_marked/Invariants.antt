-- `card::queue::settle_marked` meets its contract. The invariant: of the first i waiting writes the kept bytes have settled.
use Rattle.std.proofs.Common.{◌≡◌}
use Rattle.cells.specs.Upto.{up_to}
use Rattle.cells.specs.Entry.{entry_at}
use Rattle.card.specs.Card.{settle_kept}
use Rattle.card.proofs.queue.settle_marked.Given as goal

abbrev pub invariant-loop-i : goal.invariant-loop-i
invariant-loop-i l = l.settled ≡ settle_kept l.marks 0 (up_to (entry_at l.waiting) l.i) l.initial.settled
