-- `journal::append::sum_group` meets its contract.
use Rattle.std.proofs.Common.{ℕ, rules, tests, refl, ap, ◌∙◌, arith, [], ◌∷◌}
use Rattle.std.proofs.lemmas.Iterator.{YieldsList-from_range}
use Rattle.std.proofs.lemmas.Iterator.Consumers.{fold_from_yields_List}
use Rattle.cells.specs.Entry.{Entry, entry_at}
use Rattle.cells.specs.Upto.{up_to}
use Rattle.journal.specs.Log.{sum_of}
use Rattle.journal.proofs.Logs.{sum_of-fold, sum_listed}
use Rattle.journal.proofs.append.sum_group.Goals as goal

pub returns : goal.returns
returns c =
    let a = c.args in
    let f : ℕ → Entry = entry_at a.group.now in
    let n = c.count.result in
    fold_from_yields_List _ (λ sum i. sum_of sum (f i ∷ [])) a.h c.fold.result c.fold.ensures.ran (YieldsList-from_range 0 n n refl (omega arith))
    (λ sum i b q k. search (rules, tests, sum_listed a.group))
    ∙ sum_of-fold f a.h n
    ∙ ap (λ (k : ℕ). sum_of a.h (up_to f k)) c.count.ensures
