-- `store::record::Record::unlogged` meets its contract.
use Rattle.std.proofs.Common.{arith, sym, ◌∙◌}
use Rattle.journal.specs.Geometry.{trap}
use Rattle.store.proofs.Lookups.{find_at}
use Rattle.store.proofs.record.Record.unlogged.Goals as goal

pub place_of-requires : goal.place_of-requires
unfolding trap
place_of-requires c = let inside = find_at _ _ _ _ _ (sym c.find.ensures ∙ c.in-Some.is) in omega arith
