-- `card::marks::copy_kept` meets its contract. The invariant: before i every byte is as the marks leave it, from i on as it was.
use Rattle.std.proofs.Common.{◌≡◌, take, drop}
use Rattle.card.specs.Card.{torn}
use Rattle.card.proofs.marks.copy_kept.Given as goal

abbrev pub invariant-loop-i : goal.invariant-loop-i
invariant-loop-i l = (take l.i l.dst ≡ take l.i (torn l.marks l.src l.initial.dst)) × (drop l.i l.dst ≡ drop l.i l.initial.dst)
