-- `store::record::Record::check_list` meets its contract.
use Rattle.std.proofs.Common.{rules, ◌≡◌, sym, ◌∙◌}
use Rattle.std.specs.Prelude.{Err}
use Rattle.journal.specs.Geometry.{trap}
use Rattle.store.specs.Request.{get_list}
use Rattle.store.proofs.Causes.{own_rows, cause_4, refused_4}
use Rattle.store.proofs.record.Record.check_list.Goals as goal

pub returns-in_err-check_open : goal.returns-in_err-check_open
returns-in_err-check_open c =
    let right = sym c.wrong_list.ensures ∙ c.if-wrong_list.false in
    let left : c.from_residual.result ≡ Err c.in_err-check_open.field-0.0 = search rules in
    rw left (refused_4 trap _ _ (own_rows trap (get_list c.args.list.now c.args.blocks.now)) _ right c.in_err-check_open.ensures)

pub returns-then-stray : goal.returns-then-stray
returns-then-stray c =
    let right = sym c.wrong_list.ensures ∙ c.if-wrong_list.false in
    rw (cause_4 trap _ 0 (own_rows trap (get_list c.args.list.now c.args.blocks.now)) _ right c.in_ok-check_open.ensures, ← c.stray.ensures, c.if-stray.true)

pub returns : goal.returns
returns c =
    let right = sym c.wrong_list.ensures ∙ c.if-wrong_list.false in
    rw (cause_4 trap _ 0 (own_rows trap (get_list c.args.list.now c.args.blocks.now)) _ right c.in_ok-check_open.ensures, ← c.stray.ensures, c.if-stray.false)
