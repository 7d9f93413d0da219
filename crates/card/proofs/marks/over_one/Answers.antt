-- `card::marks::over_one` meets its contract: `any` is the definition's own recursion.
use Rattle.std.proofs.Common.{rules, tests, ◌∙◌, ltb}
use Rattle.std.proofs.lemmas.Iterator.{YieldsList-from_slice}
use Rattle.std.proofs.lemmas.Iterator.Search.{any_from_yields_List}
use Rattle.card.proofs.MarkLaws.{over_one-any}
use Rattle.card.proofs.marks.over_one.Goals as goal

pub returns : goal.returns
returns c =
    let xs = c.args.marks.now in
    any_from_yields_List (ltb 1) _ _ c.any.result c.any.ensures.ran (YieldsList-from_slice xs cc) (λ x b q k. search (rules, tests)) ∙ over_one-any xs
