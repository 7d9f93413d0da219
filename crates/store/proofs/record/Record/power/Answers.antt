-- `store::record::Record::power` meets its contract.
use Rattle.std.proofs.Common.{rules, ◌≡◌, refl}
use Rattle.std.specs.Prelude.{Err}
use Rattle.store.specs.Power.{power_call}
use Rattle.store.proofs.Calls.{call_refused, call_done}
use Rattle.store.proofs.record.Record.power.Goals as goal

pub returns-in_err-check_record : goal.returns-in_err-check_record
unfolding power_call
returns-in_err-check_record c =
    let left : c.from_residual.result ≡ Err c.in_err-check_record.field-0.0 = search rules in
    rw left (call_refused _ _ _ _ c.in_err-check_record.ensures)

pub returns : goal.returns
unfolding power_call
returns c = rw c.with_queue.ensures (call_done _ _ _ _ c.in_ok-check_record.ensures refl)
