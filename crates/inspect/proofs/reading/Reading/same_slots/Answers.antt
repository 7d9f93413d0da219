-- `inspect::reading::Reading::same_slots` meets its contract: `all` of the slots, one by one.
use Rattle.std.proofs.Common.{rules, tests, ◌∙◌, refl, arith}
use Rattle.std.proofs.lemmas.Iterator.{YieldsList-from_range}
use Rattle.std.proofs.lemmas.Iterator.Search.{all_from_yields_List}
use Rattle.journal.specs.Geometry.{trap}
use Rattle.inspect.specs.Alike.{same_slot}
use Rattle.inspect.proofs.Comparisons.{slots-all}
use Rattle.inspect.proofs.reading.Reading.same_slots.Goals as goal

pub returns : goal.returns
returns c =
    let g = c.args in
    let s = g.self.now.settled.now in
    let t = g.other.now.settled.now in
    let n = g.self.now.count in
    all_from_yields_List (same_slot trap s t) _ _ c.all.result c.all.ensures.ran (YieldsList-from_range 0 n n refl (omega arith)) (λ x t q k. search (rules, tests))
    ∙ slots-all trap s t n
