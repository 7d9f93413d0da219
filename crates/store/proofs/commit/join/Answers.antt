-- `store::commit::join` meets its contract.
use Rattle.std.specs.Prelude.{Option, Some, None, ℕ}
use Prim.Native.Nat.{◌<◌}
use mathlib.Core.Path.{◌≡◌, sym, ◌∙◌}
use native.Mathlib.Omega.{arith}
use Rattle.journal.specs.Geometry.{trap}
use Rattle.store.specs.Lists.{open_from, group_from, listed, find}
use Rattle.store.specs.Commit.{join}
use Rattle.store.proofs.Lookups.{find_at}
use borrow.Author.Rules.{rules}
use Rattle.store.proofs.commit.join.Goals as goal

pub find-requires : goal.find-requires
unfolding trap
find-requires c = search rules

pub copy_entry-requires : goal.copy_entry-requires
unfolding trap
copy_entry-requires c =
    let lookup : Option ℕ = find c.args.work.now (group_from trap) c.args.g (listed c.args.work.now open_from c.args.i).address in
    let missing : lookup ≡ None = rw (← c.address-a.ensures) (sym c.find.ensures ∙ c.in_default.is) in
    let less : c.args.g < trap.slots = c.requires.g_lt_slots (missing) in
    omega arith

pub overflow_add-result : goal.overflow_add-result
unfolding trap
overflow_add-result c = search rules

pub returns-in_default : goal.returns-in_default
unfolding join trap
returns-in_default c =
    let lookup : Option ℕ = find c.args.work.now (group_from trap) c.args.g (listed c.args.work.now open_from c.args.i).address in
    let missing : lookup ≡ None = rw (← c.address-a.ensures) (sym c.find.ensures ∙ c.in_default.is) in
    rw (c.copy_entry.ensures, missing)

pub copy_entry-requires-2 : goal.copy_entry-requires-2
unfolding trap
copy_entry-requires-2 c =
    let lookup : Option ℕ = find c.args.work.now (group_from trap) c.args.g (listed c.args.work.now open_from c.args.i).address in
    let found : lookup ≡ Some c.in-Some.j = rw (← c.address-a.ensures) (sym c.find.ensures ∙ c.in-Some.is) in
    let a = c.args in
    let inside = find_at a.work.now (group_from trap) a.g (listed a.work.now open_from a.i).address c.in-Some.j (found) in
    omega arith

pub returns : goal.returns
unfolding join trap
returns c =
    let lookup : Option ℕ = find c.args.work.now (group_from trap) c.args.g (listed c.args.work.now open_from c.args.i).address in
    let found : lookup ≡ Some c.in-Some.j = rw (← c.address-a.ensures) (sym c.find.ensures ∙ c.in-Some.is) in
    rw (c.copy_entry-2.ensures, found)
