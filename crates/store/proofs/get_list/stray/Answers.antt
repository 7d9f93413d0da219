-- `store::get_list::stray` meets its contract: `any` of the places, one by one.
use Rattle.std.proofs.Common.{rules, tests, ◌∙◌, not, refl, ap, arith}
use Rattle.std.proofs.lemmas.Iterator.{YieldsList-from_range}
use Rattle.std.proofs.lemmas.Iterator.Search.{any_from_yields_List}
use Rattle.journal.specs.Geometry.{trap}
use Rattle.journal.specs.Layout.{is_data}
use Rattle.journal.specs.Wanted.{wanted_at}
use Rattle.store.specs.Causes.{some}
use Rattle.store.proofs.Causes.{some_any}
use Rattle.store.proofs.get_list.stray.Goals as goal

pub returns : goal.returns
returns c =
    let a = c.args in
    let n = c.count.result in
    any_from_yields_List (λ i. not (is_data trap a.size (wanted_at a.list.now i))) _ _ c.any.result c.any.ensures.ran (YieldsList-from_range 0 n n refl (omega arith))
    (λ x b q k. search (rules, tests))
    ∙ some_any _ n
    ∙ ap (some _) c.count.ensures
