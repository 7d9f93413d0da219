-- `store::record::Record::sync` meets its contract.
use Rattle.std.proofs.Common.{rules, arith, Err, ◌≡◌, refl, ◌∙◌}
use Rattle.journal.specs.Geometry.{trap}
use Rattle.store.specs.declared.saved.Stopped.TheVariants.{Refused}
use Rattle.store.specs.State.{State}
use Rattle.store.specs.CodeState.{state_of}
use Rattle.store.specs.Request.{sync}
use Rattle.store.specs.Saves.{sync_call}
use Rattle.store.proofs.Calls.{call_refused, call_done}
use Rattle.store.proofs.Saves.{ready, next_save, carried-power, sync_ends}
use Rattle.store.proofs.record.Record.sync.Goals as goal

pub returns-in_err-check_sync : goal.returns-in_err-check_sync
unfolding sync_call
returns-in_err-check_sync c =
    let refusal = c.in_err-check_sync.field-0.0 in
    let left : c.from_residual.result ≡ Err (Refused refusal) = search rules in
    rw left (call_refused refusal _ _ _ c.in_err-check_sync.ensures)

pub synced-requires : goal.synced-requires
synced-requires c =
    let given : State = state_of c.args.self c.args.settled.now c.args.waiting.now c.args.work.now in
    let r = ready trap sync given refl refl c.in_ok-check_sync.ensures in
    record {
      trap_bound = omega arith;
      mode_value = (r.mode, r.waiting);
      below = r.below;
      grouped_le_slots = omega arith;
      by_index = r.homes;
      trap_in_bounds = omega arith;
      save_nonzero = next_save trap given c.in_ok-check_sync.ensures;
    }

pub saved-requires : goal.saved-requires
saved-requires c =
    let given : State = state_of c.args.self c.args.settled.now c.args.waiting.now c.args.work.now in
    let left = carried-power _ _ _ given _ _ _ _ c.synced.ensures in
    omega arith

pub returns : goal.returns
unfolding sync_call
returns c =
    let given : State = state_of c.args.self c.args.settled.now c.args.waiting.now c.args.work.now in
    let r = ready trap sync given refl refl c.in_ok-check_sync.ensures in
    c.saved.ensures _ _ _ ∙ sync_ends trap given r.live _ _ _ _ c.synced.ensures ∙ call_done _ _ _ _ c.in_ok-check_sync.ensures refl
