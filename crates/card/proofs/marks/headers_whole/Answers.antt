-- `card::marks::headers_whole` meets its contract: `all` of the places, one by one.
use Rattle.std.proofs.Common.{rules, tests, ◌∙◌, ◌||◌, not, eqb, refl, arith}
use Rattle.std.proofs.lemmas.Iterator.{YieldsList-from_range}
use Rattle.std.proofs.lemmas.Iterator.Search.{all_from_yields_List}
use Rattle.cells.specs.Entry.{entry_at}
use Rattle.card.specs.Marks.{whole_at, whole_block}
use Rattle.card.proofs.MarkLaws.{headers-all}
use Rattle.card.proofs.marks.headers_whole.Goals as goal

pub returns : goal.returns
returns c =
    let ms = c.args.marks.now in
    let f = entry_at c.args.waiting.now in
    all_from_yields_List (λ i. not (eqb (f i).address whole_block) || whole_at ms i) _ _ c.all.result c.all.ensures.ran (YieldsList-from_range 0 c.args.n c.args.n refl (omega arith))
    (λ x b q k. search (rules, tests))
    ∙ headers-all ms f c.args.n
