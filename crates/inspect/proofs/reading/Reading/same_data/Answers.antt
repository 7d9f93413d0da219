-- `inspect::reading::Reading::same_data` meets its contract: `all` of the data blocks, one by one.
use Rattle.std.proofs.Common.{rules, tests, ◌∙◌, refl}
use Rattle.std.proofs.lemmas.Iterator.{YieldsList-from_range, serves_from_Range}
use Rattle.std.proofs.lemmas.Iterator.Search.{all_from_yields_List}
use Rattle.cells.specs.Same.{same}
use Rattle.journal.specs.Geometry.{trap}
use Rattle.journal.specs.Layout.{first_data}
use Rattle.inspect.specs.Reading.{laid, data_blocks}
use Rattle.inspect.proofs.Comparisons.{data-all}
use Rattle.inspect.proofs.reading.Reading.same_data.Goals as goal

pub all-requires-clause-callable : goal.all-requires-clause-callable
unfolding trap
all-requires-clause-callable c = serves_from_Range (λ x q k. search rules) (λ x low high. search rules)

pub returns : goal.returns
unfolding trap
returns c =
    let g = c.args in
    let s = g.self.now.settled.now in
    let t = g.other.now.settled.now in
    let n = g.self.now.count in
    let d = laid trap s n in
    let e = laid trap t n in
    all_from_yields_List (λ x. same (d x) (e x)) _ _ c.all.result c.all.ensures.ran (YieldsList-from_range (first_data trap) g.self.now.blocks (data_blocks trap g.self.now.blocks) refl refl) (λ x t q k. search (rules, tests))
    ∙ data-all trap d e (data_blocks trap g.self.now.blocks)
