-- `store::record::Record::apply_cost` meets its contract.
use Rattle.std.proofs.Common.{rules, arith, Err, ◌≡◌, refl, sym, ◌∙◌}
use borrow.Author.Tests.{eqb-false}
use Rattle.journal.specs.Geometry.{trap}
use Rattle.refusals.proofs.Nonzero.{refusal_nonzero}
use Rattle.store.specs.State.{State}
use Rattle.store.specs.CodeState.{state_of}
use Rattle.store.specs.Save as Save
use Rattle.store.specs.Request.{abandon}
use Rattle.store.proofs.Saves.{ready}
use Rattle.store.proofs.Costs.{apply_cost_none, apply_cost_some, cost_refused, cost_served}
use Rattle.store.proofs.record.Record.apply_cost.Goals as goal

pub returns-in_err-check_open : goal.returns-in_err-check_open
returns-in_err-check_open c =
    let refusal = c.in_err-check_open.field-0.0 in
    let left : c.from_residual.result ≡ Err refusal = search rules in
    rw left (cost_refused trap _ Save.apply _ c.in_err-check_open.ensures (eqb-false _ _ (refusal_nonzero refusal)))

pub returns-then-self-eq0 : goal.returns-then-self-eq0
returns-then-self-eq0 c =
    let given : State = state_of c.args.self c.args.settled.now c.args.waiting.now c.args.work.now in
    rw c.cost.ensures (sym (apply_cost_none trap given c.if-self-eq0.true) ∙ cost_served trap given Save.apply _ c.in_ok-check_open.ensures refl)

pub overflow_add-self : goal.overflow_add-self
unfolding trap
overflow_add-self c =
    let given : State = state_of c.args.self c.args.settled.now c.args.waiting.now c.args.work.now in
    let r = ready trap abandon given refl refl c.in_ok-check_open.ensures in
    omega (arith, r.sound.counts.log_count)

pub overflow_add-self-2 : goal.overflow_add-self-2
unfolding trap
overflow_add-self-2 c =
    let given : State = state_of c.args.self c.args.settled.now c.args.waiting.now c.args.work.now in
    let r = ready trap abandon given refl refl c.in_ok-check_open.ensures in
    omega (arith, r.waiting, r.sound.counts.log_count)

pub returns : goal.returns
returns c =
    let given : State = state_of c.args.self c.args.settled.now c.args.waiting.now c.args.work.now in
    rw c.cost-2.ensures (sym (apply_cost_some trap given c.if-self-eq0.false) ∙ cost_served trap given Save.apply _ c.in_ok-check_open.ensures refl)
