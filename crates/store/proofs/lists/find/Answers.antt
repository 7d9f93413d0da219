-- `store::lists::find` meets its contract: `find` of the places from the last one down.
use Rattle.std.proofs.Common.{rules, tests, eqb}
use Rattle.std.proofs.lemmas.Iterator.Search.{find_from_yields_List}
use Rattle.store.specs.Lists.{listed}
use Rattle.store.proofs.Lookups.{places_down, last_find}
use Rattle.store.proofs.lists.find.Goals as goal

pub returns : goal.returns
returns c =
    let a = c.args in
    last_find (λ i. (listed a.work.now a.from i).address) a.a a.n c.find.result
    (find_from_yields_List (λ i. eqb (listed a.work.now a.from i).address a.a) _ _ c.find.result c.find.ensures.ran (places_down a.n c.rev.ensures.source) (λ x b q k. search (rules, tests)))
