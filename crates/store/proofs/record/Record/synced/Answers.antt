-- `store::record::Record::synced` meets its contract.
use Prim.Native.Nat.{◌+◌, ◌≤◌, ◌<◌}
use mathlib.Core.Path.{ap, refl, sym, ◌∙◌}
use mathlib.Core.Logic.{◌≢◌}
use native.Mathlib.Omega.{arith}
use borrow.Author.Tests.{eqb-false, leb-true, leb-false}
use Rattle.journal.specs.Geometry.{trap}
use Rattle.store.specs.State.{State, Outcome, open_mode, down}
use Rattle.store.specs.CodeState.{state_of}
use Rattle.store.proofs.Saves.{sync_none, sync_room, sync_dead, sync_on, sync_live}
use Rattle.store.proofs.record.Record.synced.Goals as goal

pub returns-then-self-eq0 : goal.returns-then-self-eq0
returns-then-self-eq0 c =
    let given : State = state_of c.args.self c.args.settled.now c.args.waiting.now c.args.work.now in
    c.flushed.ensures c.args.work.now ∙ sync_none trap (given) c.if-self-eq0.true

pub returns-then-fits : goal.returns-then-fits
unfolding trap
returns-then-fits c =
    let room : let a = c.args in a.self.logged + a.self.grouped ≤ trap.slots = leb-true _ _ (sym c.fits.ensures ∙ c.if-fits.true) in
    let a = c.args in
    c.appended.ensures ∙ ap (λ (o : Outcome). o.state) (sync_room trap (state_of a.self a.settled.now a.waiting.now a.work.now) c.if-self-eq0.false (room))

pub returns-then-emptied-eq-DOWN : goal.returns-then-emptied-eq-DOWN
unfolding trap
returns-then-emptied-eq-DOWN c =
    let given : State = state_of c.args.self c.args.settled.now c.args.waiting.now c.args.work.now in
    let live : c.args.self.mode ≢ down = λ e. eqb-false open_mode down refl (sym c.requires.mode_value.0 ∙ e) in
    let over : let a = c.args in trap.slots < a.self.logged + a.self.grouped = leb-false _ _ (sym c.fits.ensures ∙ c.if-fits.false) in
    let left : State = state_of c.emptied-emptied.result c.emptied-emptied.new.settled c.emptied-emptied.new.waiting c.args.work.now in
    sync_dead trap (given) c.if-self-eq0.false (over) (live) (left) (c.emptied-emptied.ensures _) c.if-emptied-eq-DOWN.true

pub appended-requires-2 : goal.appended-requires-2
unfolding trap
appended-requires-2 c =
    let given : State = state_of c.args.self c.args.settled.now c.args.waiting.now c.args.work.now in
    let live : c.args.self.mode ≢ down = λ e. eqb-false open_mode down refl (sym c.requires.mode_value.0 ∙ e) in
    let over : let a = c.args in trap.slots < a.self.logged + a.self.grouped = leb-false _ _ (sym c.fits.ensures ∙ c.if-fits.false) in
    let left : State = state_of c.emptied-emptied.result c.emptied-emptied.new.settled c.emptied-emptied.new.waiting c.args.work.now in
    let x = sync_on trap (given) c.if-self-eq0.false (over) (live) (left) (c.emptied-emptied.ensures _) c.if-emptied-eq-DOWN.false in
    let free = c.requires.save_nonzero c.if-self-eq0.false in
    record {
      trap_bound = omega arith;
      grouped_bound = omega arith;
      waiting_le_direct = omega arith;
      trap_in_bounds = omega arith;
      below = λ i h. absurd (omega arith);
      trap_in_bounds_2 = omega arith;
      save_nonzero = λ e. free (sym x.2 ∙ e);
    }

pub returns : goal.returns
unfolding trap
returns c =
    let given : State = state_of c.args.self c.args.settled.now c.args.waiting.now c.args.work.now in
    let live : c.args.self.mode ≢ down = λ e. eqb-false open_mode down refl (sym c.requires.mode_value.0 ∙ e) in
    let over : let a = c.args in trap.slots < a.self.logged + a.self.grouped = leb-false _ _ (sym c.fits.ensures ∙ c.if-fits.false) in
    let left : State = state_of c.emptied-emptied.result c.emptied-emptied.new.settled c.emptied-emptied.new.waiting c.args.work.now in
    sync_live trap (given) c.if-self-eq0.false (over) (live) (left) (c.emptied-emptied.ensures _) c.if-emptied-eq-DOWN.false _ c.appended-2.ensures
