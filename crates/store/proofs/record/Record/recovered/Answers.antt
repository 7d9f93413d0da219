-- `store::record::Record::recovered` meets its contract.
use Rattle.std.proofs.Common.{arith, [], ◌≡◌, refl, ap, sym, ◌∙◌}
use borrow.Author.Tests.{eqb-false}
use Rattle.card.specs.declared.queue.Queue.{Queue}
use Rattle.journal.specs.Geometry.{trap}
use Rattle.journal.specs.Orders.{fallback_orders}
use Rattle.journal.specs.declared.choice.Choice.{Choice}
use Rattle.journal.specs.Choice.{choice_number}
use Rattle.journal.proofs.OrderLists.{length_fallback}
use Rattle.store.specs.declared.record.Record.{Record}
use Rattle.store.specs.State.{State, Outcome, open_mode, down}
use Rattle.store.specs.CodeState.{state_of}
use Rattle.store.specs.Outcomes.{unless}
use Rattle.store.specs.Saves.{reopened, recovering}
use Rattle.store.proofs.Saves.{given, carried-power, carried_ends, carried_none}
use Rattle.store.proofs.record.Record.recovered.Goals as goal

-- what it promises of a choice
abbrev by : State → Choice → Outcome
by st x = unless (choice_number x) st (recovering x st)

pub fallback-ordered-requires-clause-entry_bytes_in_bounds : goal.fallback-ordered-requires-clause-entry_bytes_in_bounds
unfolding trap
fallback-ordered-requires-clause-entry_bytes_in_bounds c =
    let none : c.queue.result.waiting ≡ 0 = ap (λ (q : Queue). q.waiting) c.queue.ensures ∙ c.requires.waiting_value in
    omega arith

pub saved-requires-in-Fallback : goal.saved-requires-in-Fallback
saved-requires-in-Fallback c =
    let a = c.args in
    let x = c.in-Fallback in
    let o = c.fallback-ordered.ensures in
    let st : State = state_of a.self a.settled.now a.waiting.now [] in
    let fell = given (fallback_orders a.self.blocks x.p x.sum x.save) 2 (reopened x.p x.sum x.save a.self) a.self st
    _ _ _ c.fallback-ordered.result _ _ (length_fallback a.self.blocks x.p x.sum x.save) c.queue.ensures o.happened_value o.queue_after c.reopened-in-Fallback.ensures c.after.ensures in
    let left = carried-power _ _ _ st _ _ _ _ fell in
    omega arith

pub returns-in-Whole : goal.returns-in-Whole
returns-in-Whole c =
    let a = c.args in
    let x = c.in-Whole in
    let done : Record = reopened x.n x.sum x.save a.self in
    λ k. let st : State = state_of a.self a.settled.now a.waiting.now k in
    c.saved.ensures _ _ _
    ∙ carried_ends [] done a.self st (eqb-false open_mode down refl) _ _ _ _
    (ap (λ (r : Record). state_of r st.settled st.waiting k) c.reopened.ensures ∙ sym (ap (λ (o : Outcome). o.state) (carried_none done a.self st)))
    ∙ ap (by st) (sym x.is)

pub returns-in-Fallback : goal.returns-in-Fallback
returns-in-Fallback c =
    let a = c.args in
    let x = c.in-Fallback in
    let o = c.fallback-ordered.ensures in
    λ k. let st : State = state_of a.self a.settled.now a.waiting.now k in
    let fell = given (fallback_orders a.self.blocks x.p x.sum x.save) 2 (reopened x.p x.sum x.save a.self) a.self st
    _ _ _ c.fallback-ordered.result _ _ (length_fallback a.self.blocks x.p x.sum x.save) c.queue.ensures o.happened_value o.queue_after c.reopened-in-Fallback.ensures c.after.ensures in
    c.saved-in-Fallback.ensures _ _ _ ∙ carried_ends _ _ _ st (eqb-false open_mode down refl) _ _ _ _ fell ∙ ap (by st) (sym x.is)
