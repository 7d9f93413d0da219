-- `store::record::Record::sync_cost` meets its contract.
use Rattle.std.proofs.Common.{rules, arith, ℕ, Bool, Err, ◌+◌, ◌≤◌, ◌<◌, ◌≡◌, refl, sym, ◌∙◌}
use borrow.Author.Tests.{eqb-false, leb-true, leb-false}
use Rattle.journal.specs.Geometry.{trap}
use Rattle.refusals.proofs.Nonzero.{refusal_nonzero}
use Rattle.store.specs.State.{State}
use Rattle.store.specs.CodeState.{state_of}
use Rattle.store.specs.Save as Save
use Rattle.store.specs.Request.{sync}
use Rattle.store.proofs.Saves.{ready}
use Rattle.store.proofs.Costs.{served, sync_cost_none, sync_cost_flush, sync_cost_room, sync_cost_full, cost_refused, cost_served}
use Rattle.store.proofs.record.Record.sync_cost.Goals as goal

-- figures that it has computed in the same way
same-figures : {o o' p p' : ℕ} (a : Bool) (st : State) → o ≡ o' → p ≡ p' → served o a p st ≡ served o' a p' st
same-figures a st e f = λ j. served (e j) a (f j) st

pub returns-in_err-check_sync : goal.returns-in_err-check_sync
returns-in_err-check_sync c =
    let refusal = c.in_err-check_sync.field-0.0 in
    let left : c.from_residual.result ≡ Err refusal = search rules in
    rw left (cost_refused trap _ Save.sync _ c.in_err-check_sync.ensures (eqb-false _ _ (refusal_nonzero refusal)))

pub returns-then-self-eq0-2 : goal.returns-then-self-eq0-2
returns-then-self-eq0-2 c =
    let given : State = state_of c.args.self c.args.settled.now c.args.waiting.now c.args.work.now in
    rw c.cost.ensures (same-figures _ given refl (sym c.if-self-eq0-2.true) ∙ sym (sync_cost_none trap given c.if-self-eq0.true c.if-self-eq0-2.true) ∙ cost_served trap given Save.sync _ c.in_ok-check_sync.ensures refl)

pub returns-then-self-eq0 : goal.returns-then-self-eq0
returns-then-self-eq0 c =
    let given : State = state_of c.args.self c.args.settled.now c.args.waiting.now c.args.work.now in
    rw c.cost-then-self-eq0.ensures (sym (sync_cost_flush trap given c.if-self-eq0.true c.if-self-eq0-2.false) ∙ cost_served trap given Save.sync _ c.in_ok-check_sync.ensures refl)

pub overflow_add-writes : goal.overflow_add-writes
unfolding trap
overflow_add-writes c =
    let given : State = state_of c.args.self c.args.settled.now c.args.waiting.now c.args.work.now in
    let r = ready trap sync given refl refl c.in_ok-check_sync.ensures in
    omega (arith, r.sound.counts.group_count)

pub overflow_add-writes-2 : goal.overflow_add-writes-2
unfolding trap
overflow_add-writes-2 c =
    let given : State = state_of c.args.self c.args.settled.now c.args.waiting.now c.args.work.now in
    let r = ready trap sync given refl refl c.in_ok-check_sync.ensures in
    omega (arith, r.sound.counts.group_count)

pub fits-requires : goal.fits-requires
fits-requires c =
    let given : State = state_of c.args.self c.args.settled.now c.args.waiting.now c.args.work.now in
    let r = ready trap sync given refl refl c.in_ok-check_sync.ensures in
    (r.sound.counts.group_count, r.sound.counts.log_count)

pub overflow_add-writes-then-fits : goal.overflow_add-writes-then-fits
unfolding trap
overflow_add-writes-then-fits c =
    let given : State = state_of c.args.self c.args.settled.now c.args.waiting.now c.args.work.now in
    let r = ready trap sync given refl refl c.in_ok-check_sync.ensures in
    omega (arith, r.sound.counts.group_count)

pub overflow_add-self : goal.overflow_add-self
unfolding trap
overflow_add-self c =
    let given : State = state_of c.args.self c.args.settled.now c.args.waiting.now c.args.work.now in
    let r = ready trap sync given refl refl c.in_ok-check_sync.ensures in
    omega (arith, r.waiting, r.sound.counts.group_count)

pub returns-then-fits : goal.returns-then-fits
unfolding trap
returns-then-fits c =
    let given : State = state_of c.args.self c.args.settled.now c.args.waiting.now c.args.work.now in
    let room : given.rec.logged + given.rec.grouped ≤ trap.slots = leb-true _ _ (sym c.fits.ensures ∙ c.if-fits.true) in
    rw c.cost-then-fits.ensures (same-figures _ given (omega arith) (omega arith) ∙ sym (sync_cost_room trap given c.if-self-eq0.false room) ∙ cost_served trap given Save.sync _ c.in_ok-check_sync.ensures refl)

pub overflow_add-self-2 : goal.overflow_add-self-2
unfolding trap
overflow_add-self-2 c =
    let given : State = state_of c.args.self c.args.settled.now c.args.waiting.now c.args.work.now in
    let r = ready trap sync given refl refl c.in_ok-check_sync.ensures in
    omega (arith, r.waiting, r.sound.counts.log_count)

pub overflow_add-self-3 : goal.overflow_add-self-3
unfolding trap
overflow_add-self-3 c =
    let given : State = state_of c.args.self c.args.settled.now c.args.waiting.now c.args.work.now in
    let r = ready trap sync given refl refl c.in_ok-check_sync.ensures in
    omega (arith, r.sound.counts.log_count)

pub overflow_add-writes-3 : goal.overflow_add-writes-3
unfolding trap
overflow_add-writes-3 c =
    let given : State = state_of c.args.self c.args.settled.now c.args.waiting.now c.args.work.now in
    let r = ready trap sync given refl refl c.in_ok-check_sync.ensures in
    omega (arith, r.sound.counts.group_count)

pub overflow_add-self-4 : goal.overflow_add-self-4
unfolding trap
overflow_add-self-4 c =
    let given : State = state_of c.args.self c.args.settled.now c.args.waiting.now c.args.work.now in
    let r = ready trap sync given refl refl c.in_ok-check_sync.ensures in
    omega (arith, r.sound.counts.group_count, r.sound.counts.log_count)

pub returns : goal.returns
unfolding trap
returns c =
    let given : State = state_of c.args.self c.args.settled.now c.args.waiting.now c.args.work.now in
    let over : trap.slots < given.rec.logged + given.rec.grouped = leb-false _ _ (sym c.fits.ensures ∙ c.if-fits.false) in
    rw c.cost-2.ensures (same-figures _ given (omega arith) (omega (arith, c.max-peak.ensures)) ∙ sym (sync_cost_full trap given c.if-self-eq0.false over) ∙ cost_served trap given Save.sync _ c.in_ok-check_sync.ensures refl)
