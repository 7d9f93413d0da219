-- `store::record::Record::put_entry` meets its contract.
use Rattle.std.proofs.Common.{rules, arith, sym, ◌∙◌}
use Rattle.journal.specs.Geometry.{trap}
use Rattle.store.proofs.Lookups.{find_at}
use Rattle.store.proofs.record.Record.put_entry.Goals as goal

pub overflow_add-self : goal.overflow_add-self
unfolding trap
overflow_add-self c = search rules

pub set-requires-2-clause-entry_bytes_in_bounds : goal.set-requires-2-clause-entry_bytes_in_bounds
set-requires-2-clause-entry_bytes_in_bounds c = let inside = find_at _ _ _ _ _ (sym c.find.ensures ∙ c.in-Some.is) in omega arith
