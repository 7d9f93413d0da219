-- `store::record::Record::fits` meets its contract.
use mathlib.Core.Path.{refl}
use Rattle.journal.specs.Geometry.{trap}
use borrow.Author.Rules.{rules}
use Rattle.store.proofs.record.Record.fits.Goals as goal

pub overflow_add-result : goal.overflow_add-result
unfolding trap
overflow_add-result c = search rules

pub returns : goal.returns
unfolding trap
returns c = refl
