-- `inspect::tally::tally` meets its contract.
use Rattle.std.proofs.lemmas.Result.{err_from_is_err_and}
use Rattle.journal.specs.Geometry.{trap}
use Rattle.inspect.proofs.Sums.{tally_refused, tally_done}
use Rattle.inspect.proofs.tally.tally.Goals as goal

pub returns-in_err-card : goal.returns-in_err-card
returns-in_err-card c =
    let p = err_from_is_err_and c.from_residual.result c.from_residual.ensures.1 in
    rw (p.1, p.2) (tally_refused trap _ _ c.in_err-card.ensures)

pub returns : goal.returns
returns c = tally_done trap _ _ _ c.in_ok-card.ensures c.sum_data.ensures
