-- `store::check::strays` meets its contract: `any` of the places, one by one.
use Rattle.std.proofs.Common.{rules, tests, ◌∙◌, not, refl, arith}
use Rattle.std.proofs.lemmas.Iterator.{YieldsList-from_range}
use Rattle.std.proofs.lemmas.Iterator.Search.{any_from_yields_List}
use Rattle.journal.specs.Geometry.{trap}
use Rattle.journal.specs.Layout.{is_data}
use Rattle.store.specs.Lists.{listed}
use Rattle.store.proofs.Causes.{some_any}
use Rattle.store.proofs.check.strays.Goals as goal

pub returns : goal.returns
returns c =
    let a = c.args in
    any_from_yields_List (λ i. not (is_data trap a.blocks (listed a.work.now a.from i).address)) _ _ c.any.result c.any.ensures.ran (YieldsList-from_range 0 a.n a.n refl (omega arith))
    (λ x b q k. search (rules, tests))
    ∙ some_any _ a.n
