-- `card::marks::filled` meets its contract: `all` is the definition's own recursion.
use Rattle.std.proofs.Common.{rules, tests, ◌∙◌, eqb}
use Rattle.std.proofs.lemmas.Iterator.{YieldsList-from_slice}
use Rattle.std.proofs.lemmas.Iterator.Search.{all_from_yields_List}
use Rattle.card.proofs.MarkLaws.{filled-all}
use Rattle.card.proofs.marks.filled.Goals as goal

pub returns : goal.returns
returns c =
    let xs = c.args.marks.now in
    all_from_yields_List (λ m. eqb m c.args.mark) _ _ c.all.result c.all.ensures.ran (YieldsList-from_slice xs cc) (λ x b q k. search (rules, tests)) ∙ filled-all _ xs
