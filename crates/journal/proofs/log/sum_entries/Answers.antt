-- `journal::log::sum_entries` meets its contract.
use Rattle.std.proofs.Common.{rules, tests, refl, ◌∙◌, arith, [], ◌∷◌}
use Rattle.std.proofs.lemmas.Iterator.{YieldsList-from_range}
use Rattle.std.proofs.lemmas.Iterator.Consumers.{fold_from_yields_List}
use Rattle.fnv.specs.Fnv.{start}
use Rattle.journal.specs.Geometry.{trap}
use Rattle.journal.specs.Log.{slot_entry, sum_of}
use Rattle.journal.proofs.Logs.{sum_of-fold, sum_slot}
use Rattle.journal.proofs.log.sum_entries.Goals as goal

pub returns : goal.returns
returns c =
    let a = c.args in
    fold_from_yields_List _ (λ sum i. sum_of sum (slot_entry trap a.settled.now i ∷ [])) start c.fold.result c.fold.ensures.ran (YieldsList-from_range 0 a.n a.n refl (omega arith))
    (λ sum i b q k. search (rules, tests, sum_slot trap a.settled))
    ∙ sum_of-fold (slot_entry trap a.settled.now) start a.n
