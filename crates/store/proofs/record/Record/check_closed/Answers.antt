-- `store::record::Record::check_closed` meets its contract.
use Rattle.std.proofs.Common.{rules, ◌≡◌, [], ◌∷◌, ◌∙◌}
use Rattle.journal.specs.Geometry.{trap}
use Rattle.refusals.specs.Numbers.{answer, number_of}
use Rattle.store.specs.Causes.{down_row, open_row}
use Rattle.store.proofs.Causes.{refused_2}
use Rattle.store.proofs.record.Record.check_closed.Goals as goal

pub returns-in_err-check_record : goal.returns-in_err-check_record
returns-in_err-check_record c =
    let left : answer c.from_residual.result ≡ number_of c.in_err-check_record.field-0.0 = search rules in
    left ∙ refused_2 trap _ c.in_err-check_record.field-0.0 (down_row ∷ open_row ∷ []) c.in_err-check_record.ensures
