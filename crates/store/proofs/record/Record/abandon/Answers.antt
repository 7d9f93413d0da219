-- `store::record::Record::abandon` meets its contract.
use Rattle.std.proofs.Common.{rules, ◌≡◌, refl}
use Rattle.std.specs.Prelude.{Err}
use Rattle.store.specs.Abandon.{abandon_call}
use Rattle.store.proofs.Calls.{call_refused, call_done}
use Rattle.store.proofs.record.Record.abandon.Goals as goal

pub returns-in_err-check_open : goal.returns-in_err-check_open
unfolding abandon_call
returns-in_err-check_open c =
    let left : c.from_residual.result ≡ Err c.in_err-check_open.field-0.0 = search rules in
    rw left (call_refused _ _ _ _ c.in_err-check_open.ensures)

pub returns : goal.returns
unfolding abandon_call
returns c = rw c.with_opened.ensures (call_done _ _ _ _ c.in_ok-check_open.ensures refl)
