-- `store::record::Record::check_open` meets its contract.
use Rattle.std.proofs.Common.{rules, ◌≡◌, [], ◌∷◌}
use Rattle.std.specs.Prelude.{Err}
use Rattle.journal.specs.Geometry.{trap}
use Rattle.store.specs.State.{State}
use Rattle.store.specs.CodeState.{state_of}
use Rattle.store.specs.Causes.{closed_row, down_row}
use Rattle.store.proofs.Causes.{refused_2}
use Rattle.store.proofs.record.Record.check_open.Goals as goal

pub returns-in_err-check_record : goal.returns-in_err-check_record
returns-in_err-check_record c =
    let given : State = state_of c.args.self c.args.settled.now c.args.waiting.now c.args.work.now in
    let left : c.from_residual.result ≡ Err c.in_err-check_record.field-0.0 = search rules in
    rw left (refused_2 trap given _ (closed_row ∷ down_row ∷ []) c.in_err-check_record.ensures)
