-- `store::record::Record::apply` meets its contract.
use Rattle.std.proofs.Common.{rules, arith, Err, [], ◌≡◌, refl, ap, sym, ◌∙◌}
use Rattle.journal.specs.Geometry.{trap}
use Rattle.store.specs.declared.saved.Stopped.TheVariants.{Refused}
use Rattle.store.specs.State.{State, Outcome}
use Rattle.store.specs.CodeState.{state_of}
use Rattle.store.specs.Request.{abandon}
use Rattle.store.specs.Saves.{apply_call}
use Rattle.store.proofs.Calls.{call_refused, call_done}
use Rattle.store.proofs.Saves.{ready, carried-power, carried_ends, carried_none, apply_none, apply_some}
use Rattle.store.proofs.record.Record.apply.Goals as goal

pub returns-in_err-check_open : goal.returns-in_err-check_open
unfolding apply_call
returns-in_err-check_open c =
    let refusal = c.in_err-check_open.field-0.0 in
    let left : c.from_residual.result ≡ Err (Refused refusal) = search rules in
    rw left (call_refused refusal _ _ _ c.in_err-check_open.ensures)

pub returns-then-self-eq0 : goal.returns-then-self-eq0
unfolding apply_call
returns-then-self-eq0 c =
    let given : State = state_of c.args.self c.args.settled.now c.args.waiting.now c.args.work.now in
    let r = ready trap abandon given refl refl c.in_ok-check_open.ensures in
    c.saved.ensures _ _ _
    ∙ carried_ends [] given.rec given.rec given r.live _ _ _ _ (sym (ap (λ (o : Outcome). o.state) (carried_none given.rec given.rec given)))
    ∙ carried_none given.rec given.rec given ∙ apply_none trap given c.if-self-eq0.true ∙ call_done _ _ _ _ c.in_ok-check_open.ensures refl

pub emptied-requires : goal.emptied-requires
emptied-requires c =
    let given : State = state_of c.args.self c.args.settled.now c.args.waiting.now c.args.work.now in
    let r = ready trap abandon given refl refl c.in_ok-check_open.ensures in
    record {
      trap_bound = omega arith;
      logged_le_slots = omega arith;
      by_index = r.homes;
      waiting_le_direct = r.waiting;
      trap_in_bounds = omega arith;
      below = r.below;
    }

pub saved-requires-2 : goal.saved-requires-2
saved-requires-2 c =
    let given : State = state_of c.args.self c.args.settled.now c.args.waiting.now c.args.work.now in
    let left = carried-power _ _ _ given _ _ _ _ (c.emptied.ensures c.args.work.now) in
    omega arith

pub returns : goal.returns
unfolding apply_call
returns c =
    let given : State = state_of c.args.self c.args.settled.now c.args.waiting.now c.args.work.now in
    let r = ready trap abandon given refl refl c.in_ok-check_open.ensures in
    c.saved-2.ensures _ _ _
    ∙ carried_ends _ _ _ given r.live _ _ _ _ (c.emptied.ensures given.work)
    ∙ apply_some trap given c.if-self-eq0.false ∙ call_done _ _ _ _ c.in_ok-check_open.ensures refl
