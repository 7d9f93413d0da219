-- `store::record::Record::direct` meets its contract.
use Rattle.std.proofs.Common.{rules, arith, Err, ◌≡◌, refl, ◌∙◌}
use borrow.Author.Tests.{eqb-true, not-false}
use Rattle.journal.specs.Geometry.{trap}
use Rattle.store.specs.declared.saved.Stopped.TheVariants.{Refused}
use Rattle.store.specs.State.{State}
use Rattle.store.specs.CodeState.{state_of}
use Rattle.store.specs.Request.{Request, direct}
use Rattle.store.specs.Direct.{direct_call}
use Rattle.store.proofs.Calls.{call_refused, call_done}
use Rattle.store.proofs.Causes.{cause_passes}
use Rattle.store.proofs.Saves.{ready, carried-power, carried_ends}
use Rattle.store.proofs.record.Record.direct.Goals as goal

pub returns-in_err-check_direct : goal.returns-in_err-check_direct
unfolding direct_call
returns-in_err-check_direct c =
    let refusal = c.in_err-check_direct.field-0.0 in
    let left : c.from_residual.result ≡ Err (Refused refusal) = search rules in
    rw left (call_refused refusal _ _ _ c.in_err-check_direct.ensures)

pub written-requires : goal.written-requires
written-requires c =
    let given : State = state_of c.args.self c.args.settled.now c.args.waiting.now c.args.work.now in
    let request : Request = direct c.args.address c.args.block.now in
    let r = ready trap request given refl refl c.in_ok-check_direct.ensures in
    let p = cause_passes trap request given 0 c.in_ok-check_direct.ensures refl in
    record {
      waiting_le_direct = r.waiting;
      trap_in_bounds = omega arith;
      below = r.below;
      block_len = eqb-true _ _ (not-false _ p.block);
    }

pub saved-requires : goal.saved-requires
saved-requires c =
    let given : State = state_of c.args.self c.args.settled.now c.args.waiting.now c.args.work.now in
    let left = carried-power _ _ _ given _ _ _ _ (c.written.ensures c.args.work.now) in
    omega arith

pub returns : goal.returns
unfolding direct_call
returns c =
    let given : State = state_of c.args.self c.args.settled.now c.args.waiting.now c.args.work.now in
    let request : Request = direct c.args.address c.args.block.now in
    let r = ready trap request given refl refl c.in_ok-check_direct.ensures in
    c.saved.ensures _ _ _ ∙ carried_ends _ _ _ given r.live _ _ _ _ (c.written.ensures c.args.work.now) ∙ call_done _ _ _ _ c.in_ok-check_direct.ensures refl
