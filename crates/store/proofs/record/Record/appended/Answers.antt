-- `store::record::Record::appended` meets its contract.
use Prim.Native.Nat.{ℕ, ◌+◌, ◌*◌, ◌-◌, ◌≤◌}
use mathlib.Core.List.{List}
use mathlib.Core.Path.{◌≡◌, ap, ap₂, ◌∙◌, sym}
use native.Mathlib.Omega.{arith}
use lib.ListN.{length, take, drop}
use Rattle.card.specs.declared.queue.Queue.{Queue}
use Rattle.cells.specs.Entry.{entry_bytes}
use Rattle.journal.specs.Geometry.{trap}
use Rattle.journal.specs.Geometry.Laws.{trap-descriptors}
use Rattle.journal.specs.Orders.{append_orders}
use Rattle.journal.specs.Log.{entries_from, group_count, group_entries, sum_of}
use Rattle.journal.proofs.Logs.{length-group_entries, group_part}
use Rattle.journal.proofs.OrderLists.{length-append_orders}
use Rattle.store.specs.declared.record.Record.{Record}
use Rattle.store.specs.State.{with_grouped, with_log, with_save}
use Rattle.store.specs.CodeState.{state_of}
use Rattle.store.specs.Saves.{group_of}
use Rattle.store.specs.Causes.{work_bytes}
use Rattle.store.proofs.Saves.{given, group_size}
use borrow.Author.Rules.{rules}
use Rattle.store.proofs.record.Record.appended.Goals as goal

-- the group's bytes in work memory
abbrev part : List ℕ → ℕ → List ℕ
part work m = take (entry_bytes * (32 + m) - 16512) (drop 16512 work)

part_entries : (work : List ℕ) (m : ℕ) → m ≤ 32 → work_bytes trap ≤ length work → group_entries (part work m) ≡ entries_from work 32 m
unfolding trap
part_entries work m few long =
    let size : entry_bytes * (32 + m) - 16512 ≡ entry_bytes * m = omega arith in
    ap (λ (n : ℕ). group_entries (take n (drop 16512 work))) size ∙ group_part work 32 m (omega arith)

pub slice_bounds-group-end : goal.slice_bounds-group-end
unfolding trap
slice_bounds-group-end c = omega (arith, c.requires.trap_in_bounds_2, c.requires.grouped_bound)

pub append-sum-requires : goal.append-sum-requires
unfolding trap
append-sum-requires c =
    let a = c.args in
    let same : c.queue.result.waiting ≡ a.self.waiting = ap (λ (q : Queue). q.waiting) c.queue.ensures in
    let room : a.self.logged + a.self.grouped ≤ 32 = c.requires.grouped_bound in
    let few = c.requires.waiting_le_direct in
    record {
      trap_bound = c.requires.trap_bound;
      count_bound = omega arith;
      count_bound_2 = omega arith;
      count_in_bounds = omega arith;
      below = rw same c.requires.below;
    }

pub overflow_add-self : goal.overflow_add-self
unfolding trap
overflow_add-self c =
    let room : c.args.self.logged + c.args.self.grouped ≤ trap.slots = c.requires.grouped_bound in
    search rules

pub returns : goal.returns
unfolding trap
returns c =
    let a = c.args in
    let st = state_of a.self a.settled.now a.waiting.now a.work.now in
    let room : a.self.logged + a.self.grouped ≤ 32 = c.requires.grouped_bound in
    let group : group_entries (part a.work.now a.self.grouped) ≡ group_of trap st = part_entries a.work.now a.self.grouped (omega arith) c.requires.trap_in_bounds_2 in
    let count : group_count (part a.work.now a.self.grouped) ≡ a.self.grouped =
    sym (length-group_entries (part a.work.now a.self.grouped)) ∙ ap length group ∙ group_size trap st in
    let size : length (append_orders trap a.self.blocks a.settled.now a.self.logged a.self.sum (a.self.save + 1) (group_of trap st)) ≡ a.self.grouped + 3 =
    length-append_orders trap a.self.blocks a.settled.now a.self.logged a.self.sum (a.self.save + 1) (group_of trap st) ∙ (omega (arith, trap-descriptors, group_size trap st)) in
    let whole = c.with_grouped-done.ensures
    ∙ ap (with_grouped 0) (c.with_log.ensures ∙ ap₂ (λ (h : ℕ) (x : Record). with_log (a.self.logged + a.self.grouped) h x) (c.append-sum.ensures.sum_value ∙ ap (sum_of a.self.sum) group) c.with_save.ensures) in
    given (append_orders trap a.self.blocks a.settled.now a.self.logged a.self.sum (a.self.save + 1) (group_of trap st)) (a.self.grouped + 3)
    (with_grouped 0 (with_log (a.self.logged + a.self.grouped) (sum_of a.self.sum (group_of trap st)) (with_save (a.self.save + 1) a.self))) a.self st
    _ _ _ c.append-sum.result.1 _ _ size c.queue.ensures
    (rw count at c.append-sum.ensures.done_value) (rw group at c.append-sum.ensures.queue_after) whole c.after.ensures
