-- `store::record::Record::check_put` meets its contract.
use Rattle.std.proofs.Common.{rules, ◌≡◌, refl, ap, not, arith}
use Rattle.std.specs.Prelude.{Err}
use mathlib.Core.Bool.{and-false}
use borrow.Author.Tests.{eq-eqb, le-leb, lt-leb}
use Rattle.journal.specs.Geometry.{trap}
use Rattle.store.specs.Request.{put, abandon}
use Rattle.store.proofs.Causes.{own_rows, cause_4, refused_4, passes_sound}
use Rattle.store.proofs.record.Record.check_put.Goals as goal
use Rattle.store.proofs.record.Record.check_put.Goals.{then-self-lt-SLOTS-via-then-self-lt-SLOTS, then-self-lt-SLOTS-via-else-self-lt-SLOTS+then-holds}

pub returns-in_err-check_open : goal.returns-in_err-check_open
returns-in_err-check_open c =
    let left : c.from_residual.result ≡ Err c.in_err-check_open.field-0.0 = search rules in
    rw left (refused_4 trap _ _ (own_rows trap (put c.args.address c.args.block.now)) _ (ap not (eq-eqb _ _ c.if-block-ne-BLOCK.false)) c.in_err-check_open.ensures)

pub holds-requires : goal.holds-requires
holds-requires c =
    let s = passes_sound trap abandon _ 0 refl c.in_ok-check_open.ensures refl in
    omega arith

pub returns-then-self-lt-SLOTS : goal.returns-then-self-lt-SLOTS
unfolding trap
returns-then-self-lt-SLOTS c =
    let own = ap not (eq-eqb _ _ c.if-block-ne-BLOCK.false) in
    rw (cause_4 trap _ 0 (own_rows trap (put c.args.address c.args.block.now)) _ own c.in_ok-check_open.ensures, ← c.is_data.ensures, c.if-not-is_data.false)
    (elim c.then-self-lt-SLOTS.branch [
      | then-self-lt-SLOTS-via-then-self-lt-SLOTS w ↦ rw (lt-leb _ _ w.if-self-lt-SLOTS.true, and-false)
      | then-self-lt-SLOTS-via-else-self-lt-SLOTS+then-holds w ↦ rw (← w.holds.ensures, w.if-holds.true)
    ])

pub returns : goal.returns
unfolding trap
returns c =
    let own = ap not (eq-eqb _ _ c.if-block-ne-BLOCK.false) in
    rw (cause_4 trap _ 0 (own_rows trap (put c.args.address c.args.block.now)) _ own c.in_ok-check_open.ensures, ← c.is_data.ensures, c.if-not-is_data.false, ← c.holds.ensures, c.if-holds.false, le-leb _ _ c.if-self-lt-SLOTS.false)
