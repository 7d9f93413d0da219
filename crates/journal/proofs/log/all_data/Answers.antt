-- `journal::log::all_data` meets its contract.
use Rattle.std.proofs.Common.{rules, tests, refl, ◌∙◌, true, ◌&&◌, arith}
use Rattle.std.proofs.lemmas.Iterator.{YieldsList-from_range}
use Rattle.std.proofs.lemmas.Iterator.Consumers.{fold_from_yields_List}
use Rattle.journal.specs.Geometry.{trap}
use Rattle.journal.specs.Layout.{is_data}
use Rattle.journal.specs.Log.{slot_address}
use Rattle.journal.proofs.Logs.{data-fold}
use Rattle.journal.proofs.log.all_data.Goals as goal

pub returns : goal.returns
returns c =
    let a = c.args in
    fold_from_yields_List _ (λ all i. all && is_data trap a.blocks (slot_address a.settled.now i)) true c.fold.result c.fold.ensures.ran (YieldsList-from_range 0 a.n a.n refl (omega arith))
    (λ all i b q k. search (rules, tests))
    ∙ data-fold trap a.blocks a.settled.now a.n
