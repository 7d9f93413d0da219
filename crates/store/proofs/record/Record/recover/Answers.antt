-- `store::record::Record::recover` meets its contract.
use Rattle.std.proofs.Common.{rules, arith, Err, ◌≡◌, ap, ◌∙◌}
use Rattle.journal.specs.Geometry.{trap}
use Rattle.journal.specs.declared.choice.Choice.{Choice}
use Rattle.journal.specs.Choice.{choice_number}
use Rattle.store.specs.declared.saved.Stopped.TheVariants.{Refused}
use Rattle.store.specs.State.{State}
use Rattle.store.specs.CodeState.{state_of}
use Rattle.store.specs.Outcomes.{unless}
use Rattle.store.specs.Saves.{recovering, recover_call}
use Rattle.store.proofs.Calls.{call_refused}
use Rattle.store.proofs.Saves.{unopened, recover_barred, recover-call}
use Rattle.store.proofs.record.Record.recover.Goals as goal

pub returns-in_err-check_closed : goal.returns-in_err-check_closed
unfolding recover_call
returns-in_err-check_closed c =
    let refusal = c.in_err-check_closed.field-0.0 in
    let left : c.from_residual.result ≡ Err (Refused refusal) = search rules in
    rw left (call_refused refusal _ _ _ (recover_barred trap _ refusal c.in_err-check_closed.ensures))

pub choose-choice-requires : goal.choose-choice-requires
choose-choice-requires c =
    let given : State = state_of c.args.self c.args.settled.now c.args.waiting.now c.args.work.now in
    let s = (unopened trap given c.in_ok-check_closed.ensures).sound in
    omega arith

pub recovered-requires : goal.recovered-requires
recovered-requires c =
    let given : State = state_of c.args.self c.args.settled.now c.args.waiting.now c.args.work.now in
    let u = unopened trap given c.in_ok-check_closed.ensures in
    let s = u.sound in
    record {
      trap_bound = omega arith;
      waiting_value = u.waiting;
      trap_in_bounds = omega arith;
    }

pub returns : goal.returns
returns c =
    let given : State = state_of c.args.self c.args.settled.now c.args.waiting.now c.args.work.now in
    c.recovered.ensures given.work ∙ ap (λ (x : Choice). unless (choice_number x) given (recovering x given)) c.choose-choice.ensures
    ∙ recover-call trap given c.in_ok-check_closed.ensures
