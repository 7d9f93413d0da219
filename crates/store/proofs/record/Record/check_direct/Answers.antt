-- `store::record::Record::check_direct` meets its contract.
use Rattle.std.proofs.Common.{rules, arith, ◌≡◌, refl, ap, ◌∙◌}
use mathlib.Core.Bool.{not}
use borrow.Author.Tests.{eq-eqb}
use Rattle.journal.specs.Geometry.{trap}
use Rattle.refusals.specs.Numbers.{answer, number_of}
use Rattle.store.specs.State.{State}
use Rattle.store.specs.CodeState.{state_of}
use Rattle.store.specs.Request.{direct, abandon}
use Rattle.store.proofs.Causes.{own_rows, cause_4, refused_4, passes_sound}
use Rattle.store.proofs.record.Record.check_direct.Goals as goal

pub returns-in_err-check_open : goal.returns-in_err-check_open
returns-in_err-check_open c =
    let refusal = c.in_err-check_open.field-0.0 in
    let left : answer c.from_residual.result ≡ number_of refusal = search rules in
    left ∙ refused_4 trap _ refusal (own_rows trap (direct c.args.address c.args.block.now)) _ (ap not (eq-eqb _ _ c.if-block-ne-BLOCK.false)) c.in_err-check_open.ensures

pub returns-then-not-is_data : goal.returns-then-not-is_data
returns-then-not-is_data c =
    let given : State = state_of c.args.self c.args.settled.now c.args.waiting.now c.args.work.now in
    let rows = own_rows trap (direct c.args.address c.args.block.now) in
    rw (cause_4 trap given 0 rows _ (ap not (eq-eqb _ _ c.if-block-ne-BLOCK.false)) c.in_ok-check_open.ensures, ← c.is_data.ensures, c.if-not-is_data.true)

pub lists-requires : goal.lists-requires
lists-requires c =
    let given : State = state_of c.args.self c.args.settled.now c.args.waiting.now c.args.work.now in
    let s = passes_sound trap abandon given 0 refl c.in_ok-check_open.ensures refl in
    record {
      trap_bound = omega arith;
      trap_in_bounds = omega arith;
      opened_le_slots = (s.counts.open_count, s.counts.group_count, s.counts.log_count);
    }
