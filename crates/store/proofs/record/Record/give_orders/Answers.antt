-- `store::record::Record::give_orders` meets its contract.
use Rattle.std.proofs.Common.{rules, arith, Err, ℕ, ◌≡◌, List, [], ◌∷◌, true, false, refl, ap}
use Rattle.card.specs.declared.queue.Queue.{Queue}
use Rattle.card.specs.Card.{flush}
use Rattle.journal.specs.Geometry.{trap}
use Rattle.journal.proofs.Phases.{stopped, resumed}
use Rattle.store.specs.State.{State}
use Rattle.store.specs.CodeState.{state_of}
use Rattle.store.specs.Direct.{direct_write}
use Rattle.store.proofs.Directs.{direct_room, direct_full, direct_given}
use Rattle.store.proofs.record.Record.give_orders.Goals as goal

pub write-requires-clause-entry_bytes_in_bounds : goal.write-requires-clause-entry_bytes_in_bounds
unfolding trap
write-requires-clause-entry_bytes_in_bounds c =
    let same : c.queue.result.waiting ≡ c.args.self.waiting = ap (λ (q : Queue). q.waiting) c.queue.ensures in
    let few = c.requires.waiting_le_direct in
    omega arith

pub returns-then-self-lt-DIRECT : goal.returns-then-self-lt-DIRECT
unfolding trap
returns-then-self-lt-DIRECT c =
    let a = c.args in
    let w = c.write.ensures in
    let given : List ℕ → State = λ k. state_of a.self a.settled.now a.waiting.now k in
    let both = λ (k : List ℕ).
    direct_given trap a.address a.block.now (given k) (direct_write a.address a.block.now ∷ []) (direct_room trap a.address a.block.now (given k) c.if-self-lt-DIRECT.true)
    _ _ _ c.write.result c.queue.ensures w.happened_value (w.by_index a.settled.now) in
    record { happened_value = λ k. (both k).0; queue_after = λ k. (both k).1 }

pub flush-requires-clause-waiting_in_bounds : goal.flush-requires-clause-waiting_in_bounds
unfolding trap
flush-requires-clause-waiting_in_bounds c =
    let same : c.queue-2.result.waiting ≡ c.args.self.waiting = ap (λ (q : Queue). q.waiting) c.queue-2.ensures in
    let few = c.requires.waiting_le_direct in
    omega arith

pub returns-in_err-flushed : goal.returns-in_err-flushed
unfolding trap
returns-in_err-flushed c =
    let a = c.args in
    let w = direct_write a.address a.block.now in
    let f = c.in_err-flushed.ensures in
    let same : c.from_residual.result ≡ Err c.in_err-flushed.field-0.0 = search rules in
    let end = stopped (flush ∷ w ∷ []) (flush ∷ []) (w ∷ []) refl 1 1 2 refl refl _ _ f.queue_after false f.happened_value refl in
    let given : List ℕ → State = λ k. state_of a.self a.settled.now a.waiting.now k in
    let both = λ (k : List ℕ).
    direct_given trap a.address a.block.now (given k) (flush ∷ w ∷ []) (direct_full trap a.address a.block.now (given k) c.requires.waiting_le_direct c.if-self-lt-DIRECT.false)
    _ _ _ (Err c.in_err-flushed.field-0.0) c.queue-2.ensures end.0 end.1 in
    rw same (record { happened_value = λ k. (both k).0; queue_after = λ k. (both k).1 })

pub write-requires-2 : goal.write-requires-2
unfolding trap
write-requires-2 c =
    let same : c.queue-2.result.waiting ≡ c.args.self.waiting = ap (λ (q : Queue). q.waiting) c.queue-2.ensures in
    let few = c.requires.waiting_le_direct in
    let left = c.in_ok-flushed.ensures.waiting_le_waiting in
    record {
      entry_bytes_in_bounds = omega arith;
      waiting_lt_most_places = omega arith;
      block_len = c.requires.block_len;
    }

pub returns : goal.returns
unfolding trap
returns c =
    let a = c.args in
    let w = direct_write a.address a.block.now in
    let f = c.in_ok-flushed.ensures in
    let o = c.write-2.ensures in
    let end = resumed (flush ∷ w ∷ []) (flush ∷ []) (w ∷ []) refl 1 1 2 refl refl _ _ f.queue_after true f.happened_value refl _ _ (o.by_index _) o.happened_value in
    let given : List ℕ → State = λ k. state_of a.self a.settled.now a.waiting.now k in
    let both = λ (k : List ℕ).
    direct_given trap a.address a.block.now (given k) (flush ∷ w ∷ []) (direct_full trap a.address a.block.now (given k) c.requires.waiting_le_direct c.if-self-lt-DIRECT.false)
    _ _ _ c.write-2.result c.queue-2.ensures end.0 end.1 in
    record { happened_value = λ k. (both k).0; queue_after = λ k. (both k).1 }
