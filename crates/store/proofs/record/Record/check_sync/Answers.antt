-- `store::record::Record::check_sync` meets its contract.
use Rattle.std.proofs.Common.{rules, ◌≡◌, refl, ◌∙◌}
use Rattle.journal.specs.Geometry.{trap}
use Rattle.refusals.specs.Numbers.{answer, number_of}
use Rattle.store.specs.Request.{sync}
use Rattle.store.proofs.Causes.{own_rows, refused_4}
use Rattle.store.proofs.record.Record.check_sync.Goals as goal

pub returns-in_err-check_open : goal.returns-in_err-check_open
returns-in_err-check_open c =
    let left : answer c.from_residual.result ≡ number_of c.in_err-check_open.field-0.0 = search rules in
    left ∙ refused_4 trap _ c.in_err-check_open.field-0.0 (own_rows trap sync) _ refl c.in_err-check_open.ensures
