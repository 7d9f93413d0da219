-- `store::record::Record::flushed` meets its contract.
use mathlib.Core.Path.{◌≡◌, ap, refl, sym, ◌∙◌}
use mathlib.Core.List.{List, [], ◌∷◌}
use native.Mathlib.Omega.{arith}
use Rattle.card.specs.declared.queue.Queue.{Queue}
use Rattle.card.specs.Card.{Order, flush}
use Rattle.journal.specs.Geometry.{trap}
use Rattle.store.specs.CodeState.{state_of}
use Rattle.store.specs.Saves.{carried}
use Rattle.store.proofs.Saves.{given, barrier-some, flush_none}
use Rattle.store.proofs.record.Record.flushed.Goals as goal

pub returns-then-self-eq0 : goal.returns-then-self-eq0
returns-then-self-eq0 c =
    let a = c.args in
    λ work. flush_none (state_of a.self a.settled.now a.waiting.now work) c.if-self-eq0.true

pub flush-requires-clause-waiting_in_bounds : goal.flush-requires-clause-waiting_in_bounds
unfolding trap
flush-requires-clause-waiting_in_bounds c =
    let same : c.queue.result.waiting ≡ c.args.self.waiting = ap (λ (q : Queue). q.waiting) c.queue.ensures in
    let few = c.requires.waiting_le_direct in
    omega arith

pub returns : goal.returns
returns c =
    let a = c.args in
    λ work. let st = state_of a.self a.settled.now a.waiting.now work in
    given (flush ∷ []) 1 a.self a.self st _ _ _ c.flush.result _ _ refl c.queue.ensures
    c.flush.ensures.happened_value c.flush.ensures.queue_after refl c.after.ensures
    ∙ ap (λ (os : List Order). (carried os a.self a.self st).state) (sym (barrier-some a.self.waiting c.if-self-eq0.false))
