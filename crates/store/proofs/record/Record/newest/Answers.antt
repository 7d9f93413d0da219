-- `store::record::Record::newest` meets its contract.
use Rattle.std.proofs.Common.{rules, arith, sym, ◌∙◌}
use Rattle.journal.specs.Geometry.{trap}
use Rattle.store.specs.Get.{newest}
use Rattle.store.proofs.Lookups.{last_at, find_at}
use Rattle.store.proofs.record.Record.newest.Goals as goal

pub find-requires-in_default : goal.find-requires-in_default
unfolding trap
find-requires-in_default c = search rules

pub returns-in_default-last_slot : goal.returns-in_default-last_slot
unfolding newest trap
returns-in_default-last_slot c =
    let a = c.args in
    rw (sym c.find.ensures ∙ c.in_default.is, sym c.find-in_default.ensures ∙ c.in_default-find.is, sym c.last_slot.ensures ∙ c.in_default-last_slot.is)
    (c.unlogged.ensures a.settled.now a.work.now)

pub overflow_add-result : goal.overflow_add-result
unfolding trap
overflow_add-result c = search (rules, last_at)

pub returns-in_default-find : goal.returns-in_default-find
unfolding newest trap
returns-in_default-find c = search rules

pub place_of-requires : goal.place_of-requires
unfolding trap
place_of-requires c = let inside = find_at _ _ _ _ _ (sym c.find-in_default.ensures ∙ c.in-Some-find.is) in omega arith

pub returns-in_default : goal.returns-in_default
unfolding newest trap
returns-in_default c = search rules

pub place_of-requires-2 : goal.place_of-requires-2
place_of-requires-2 c = let inside = find_at _ _ _ _ _ (sym c.find.ensures ∙ c.in-Some.is) in omega arith

pub returns : goal.returns
unfolding newest
returns c = search rules
