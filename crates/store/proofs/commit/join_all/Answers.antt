-- `store::commit::join_all` meets its contract.
use Prim.Native.Nat.{ℕ, suc, ◌+◌, ◌≤◌, ◌<◌}
use mathlib.Core.Path.{◌≡◌, refl, ap, sym, ◌∙◌}
use native.Mathlib.Omega.{arith}
use mathlib.Core.List.{List}
use lib.ListN.{length}
use Rattle.cells.specs.Little.{Bytes}
use Rattle.cells.specs.Entry.{Entry}
use Rattle.journal.specs.Geometry.{trap}
use Rattle.store.specs.Lists.{open_from, listed}
use Rattle.store.specs.Causes.{work_bytes, newcomers}
use Rattle.store.specs.Commit.{Group, join, joined}
use Rattle.store.proofs.Commits.{newcomers_mono, joined_more, Joining, free, joining}
use Rattle.store.proofs.commit.join_all.Goals as goal

-- what the first i have left
held : (work : List ℕ) → Bytes work → work_bytes trap ≤ length work → (g n i : ℕ) → (g ≤ trap.slots) × (n ≤ trap.slots) × (g + newcomers trap work g n ≤ trap.slots) → i ≤ n
    → (now : Group) → now ≡ joined trap i (record { work = work; count = g }) → Joining trap work g i now
held work bytes long g n i fits h now e =
    let fewer = newcomers_mono trap work g i n h in
    rw e (joining trap work bytes long g i (omega (arith, fits.1)) (omega (arith, fits.2)))

pub loop-i-init : goal.loop-i-init
unfolding joined
loop-i-init c = refl

pub join-count-requires : goal.join-count-requires
join-count-requires c =
    let a = c.args in
    let i = c.loop-i.i in
    let bytes : Bytes a.work.now = λ k. (c.slice_known-1.given k).fits in
    let j = held a.work.now bytes c.requires.trap_in_bounds a.g a.n i c.requires.g_le_slots (omega arith) _ c.loop-i.invariant in
    let size : length c.loop-i.work ≡ length a.work.now = j.size in
    let fits = newcomers_mono trap a.work.now a.g (suc i) a.n (omega arith) in
    let few : i < trap.slots = omega arith in
    let room : a.g + newcomers trap a.work.now a.g (suc i) ≤ trap.slots = omega arith in
    let fewer = newcomers_mono trap a.work.now a.g i (suc i) (omega arith) in
    record {
      trap_in_bounds = omega arith;
      g_le_slots = (omega (arith, j.most), few);
      g_lt_slots = λ absent. free trap a.work.now bytes c.requires.trap_in_bounds a.g i few _ j room (rw (j.same_open i few) at absent);
    }

pub loop-i-preserved : goal.loop-i-preserved
loop-i-preserved c =
    let a = c.args in
    let l = c.loop-i in
    let j = held a.work.now (λ k. (c.slice_known-1.given k).fits) c.requires.trap_in_bounds a.g a.n l.i c.requires.g_le_slots (omega arith) _ l.invariant in
    c.join-count.ensures
    ∙ ap (λ (e : Entry). join trap e (record { work = l.work; count = l.count })) (j.same_open l.i (omega arith))
    ∙ ap (join trap (listed a.work.now open_from l.i)) l.invariant
    ∙ sym (joined_more trap l.i (record { work = a.work.now; count = a.g }))

pub shape_of-work : goal.shape_of-work
shape_of-work c =
    let a = c.args in
    (held a.work.now (λ k. (c.slice_known-1.given k).fits) c.requires.trap_in_bounds a.g a.n c.loop-i.i c.requires.g_le_slots (omega arith) _ c.loop-i.invariant).size
