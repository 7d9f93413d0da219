-- `store::record::Record::emptied` meets its contract.
use Prim.Native.Nat.{ℕ, ◌+◌}
use mathlib.Core.Path.{◌≡◌, ap, ◌∙◌}
use native.Mathlib.Omega.{arith}
use Rattle.card.specs.declared.queue.Queue.{Queue}
use Rattle.cells.specs.Upto.Laws.{length-up_to}
use Rattle.fnv.specs.Fnv.{start}
use Rattle.journal.specs.Geometry.{trap}
use Rattle.journal.specs.Log.{slot_entry, entries}
use Rattle.journal.specs.Orders.{checkpoint_orders}
use Rattle.journal.proofs.OrderLists.{length-checkpoint}
use Rattle.store.specs.State.{with_log}
use Rattle.store.specs.CodeState.{state_of}
use Rattle.store.proofs.Saves.{given}
use Rattle.store.proofs.record.Record.emptied.Goals as goal

pub checkpoint-ordered-requires : goal.checkpoint-ordered-requires
unfolding trap
checkpoint-ordered-requires c =
    let same : c.queue.result.waiting ≡ c.args.self.waiting = ap (λ (q : Queue). q.waiting) c.queue.ensures in
    let few = c.requires.waiting_le_direct in
    record {
      trap_bound = c.requires.trap_bound;
      n_le_slots = c.requires.logged_le_slots;
      by_index = c.requires.by_index;
      n_bound = omega arith;
      n_in_bounds = omega arith;
      entry_bytes_in_bounds = omega arith;
      below = rw same c.requires.below;
    }

pub returns : goal.returns
returns c =
    let a = c.args in
    let size = length-checkpoint a.self.blocks a.self.save (entries trap a.settled.now a.self.logged) ∙ ap (λ (n : ℕ). n + 3) (length-up_to (slot_entry trap a.settled.now) a.self.logged) in
    λ work. given (checkpoint_orders a.self.blocks a.self.save (entries trap a.settled.now a.self.logged)) (a.self.logged + 3) (with_log 0 start a.self) a.self
    (state_of a.self a.settled.now a.waiting.now work) _ _ _ c.checkpoint-ordered.result _ _ size c.queue.ensures
    c.checkpoint-ordered.ensures.happened_value c.checkpoint-ordered.ensures.queue_after c.with_log.ensures c.after.ensures
