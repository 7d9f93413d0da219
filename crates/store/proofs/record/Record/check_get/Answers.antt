-- `store::record::Record::check_get` meets its contract.
use Rattle.std.proofs.Common.{rules, ◌≡◌, refl}
use Rattle.std.specs.Prelude.{Err, false}
use Rattle.journal.specs.Geometry.{trap}
use Rattle.store.specs.Request.{get}
use Rattle.store.proofs.Causes.{own_rows, cause_4, refused_4}
use Rattle.store.proofs.record.Record.check_get.Goals as goal

pub returns-in_err-check_open : goal.returns-in_err-check_open
returns-in_err-check_open c =
    let left : c.from_residual.result ≡ Err c.in_err-check_open.field-0.0 = search rules in
    rw left (refused_4 trap _ _ (own_rows trap (get c.args.address)) false refl c.in_err-check_open.ensures)

pub returns-then-not-is_data : goal.returns-then-not-is_data
returns-then-not-is_data c =
    rw (cause_4 trap _ 0 (own_rows trap (get c.args.address)) false refl c.in_ok-check_open.ensures, ← c.is_data.ensures, c.if-not-is_data.true)

pub returns : goal.returns
returns c =
    rw (cause_4 trap _ 0 (own_rows trap (get c.args.address)) false refl c.in_ok-check_open.ensures, ← c.is_data.ensures, c.if-not-is_data.false)
