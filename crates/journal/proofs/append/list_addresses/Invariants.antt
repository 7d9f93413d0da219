-- `journal::append::list_addresses` meets its contract. The invariant: the first i addresses have been stored.
use Rattle.std.proofs.Common.{◌≡◌}
use Rattle.std.proofs.lemmas.List.Edits.{sets}
use Rattle.cells.specs.Upto.{up_to}
use Rattle.cells.specs.Entry.{entry_at}
use Rattle.journal.specs.Orders.{address_bytes}
use Rattle.journal.proofs.append.list_addresses.Given as goal

abbrev pub invariant-loop-i : goal.invariant-loop-i
invariant-loop-i l = l.block ≡ sets l.initial.block l.at (address_bytes (up_to (entry_at l.group) l.i))
