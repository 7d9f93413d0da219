-- `store::record::Record::recover_cost` meets its contract.
use Rattle.std.proofs.Common.{rules, arith, Err, ◌≡◌, sym, ◌∙◌}
use borrow.Author.Tests.{eqb-false}
use Rattle.journal.specs.Geometry.{trap}
use Rattle.refusals.proofs.Nonzero.{refusal_nonzero}
use Rattle.store.specs.State.{State}
use Rattle.store.specs.CodeState.{state_of}
use Rattle.store.specs.Save as Save
use Rattle.store.proofs.Saves.{unopened, recover_barred}
use Rattle.store.proofs.Costs.{cost_refused, chosen_cost}
use Rattle.store.proofs.record.Record.recover_cost.Goals as goal

pub returns-in_err-check_closed : goal.returns-in_err-check_closed
returns-in_err-check_closed c =
    let refusal = c.in_err-check_closed.field-0.0 in
    let left : c.from_residual.result ≡ Err refusal = search rules in
    let barred = recover_barred trap _ refusal c.in_err-check_closed.ensures in
    rw left (cost_refused trap _ Save.recover _ barred (eqb-false _ _ (refusal_nonzero refusal)))

pub choose-requires : goal.choose-requires
choose-requires c =
    let given : State = state_of c.args.self c.args.settled.now c.args.waiting.now c.args.work.now in
    let s = (unopened trap given c.in_ok-check_closed.ensures).sound in
    omega arith

pub overflow_add-self : goal.overflow_add-self
overflow_add-self c =
    let given : State = state_of c.args.self c.args.settled.now c.args.waiting.now c.args.work.now in
    let u = unopened trap given c.in_ok-check_closed.ensures in
    omega (arith, u.waiting)

pub returns-in-Whole : goal.returns-in-Whole
returns-in-Whole c =
    let given : State = state_of c.args.self c.args.settled.now c.args.waiting.now c.args.work.now in
    rw c.cost.ensures (chosen_cost trap given _ c.in_ok-check_closed.ensures (sym c.choose.ensures ∙ c.in-Whole.is))

pub returns-in-Fallback : goal.returns-in-Fallback
returns-in-Fallback c =
    let given : State = state_of c.args.self c.args.settled.now c.args.waiting.now c.args.work.now in
    rw c.cost-in-Fallback.ensures (chosen_cost trap given _ c.in_ok-check_closed.ensures (sym c.choose.ensures ∙ c.in-Fallback.is))

pub returns-in-Foreign : goal.returns-in-Foreign
returns-in-Foreign c =
    let given : State = state_of c.args.self c.args.settled.now c.args.waiting.now c.args.work.now in
    chosen_cost trap given _ c.in_ok-check_closed.ensures (sym c.choose.ensures ∙ c.in-Foreign.is)

pub returns-in-Neither : goal.returns-in-Neither
returns-in-Neither c =
    let given : State = state_of c.args.self c.args.settled.now c.args.waiting.now c.args.work.now in
    chosen_cost trap given _ c.in_ok-check_closed.ensures (sym c.choose.ensures ∙ c.in-Neither.is)
