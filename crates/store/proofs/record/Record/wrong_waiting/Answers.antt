-- `store::record::Record::wrong_waiting` meets its contract: `any` of the places, one by one.
use Rattle.std.proofs.Common.{rules, tests, ◌∙◌, not, ltb, refl, arith}
use Rattle.std.proofs.lemmas.Iterator.{YieldsList-from_range}
use Rattle.std.proofs.lemmas.Iterator.Search.{any_from_yields_List}
use Rattle.cells.specs.Entry.{entry_at}
use Rattle.store.specs.Causes.{wrong_waiting}
use Rattle.store.proofs.Causes.{some_any}
use Rattle.store.proofs.record.Record.wrong_waiting.Goals as goal

pub returns : goal.returns
unfolding wrong_waiting
returns c =
    let n = c.args.self.waiting in
    λ s k. any_from_yields_List (λ i. not (ltb (entry_at c.args.waiting.now i).address c.args.self.blocks)) _ _ c.any.result c.any.ensures.ran (YieldsList-from_range 0 n n refl (omega arith))
    (λ x b q k. search (rules, tests))
    ∙ some_any _ n
