-- `store::check::twice` meets its contract. The invariant: none of the first i is there twice, and each has marked its bucket.
use Prim.Native.Nat.{ℕ, zero, suc, ◌%◌, ◌<◌}
use mathlib.Core.Path.{◌≡◌, refl, ap, sym, ◌∙◌}
use mathlib.Core.Bool.{Bool, false, ◌&&◌}
use mathlib.Core.List.{List}
use native.Mathlib.Omega.{arith}
use lib.ListN.{get_or, length-set}
use Rattle.journal.specs.Lookup.{last_of}
use Rattle.store.proofs.Lookups.{Marked, mark_more, met-found}
use Rattle.store.proofs.Causes.{climb_none, climb_hit, climb_on}
use Rattle.store.specs.Lists.{find}
use Rattle.store.specs.Causes.{is_found, some, twice}
use Rattle.store.proofs.check.twice.Invariants.{addresses}
use Rattle.store.proofs.check.twice.Goals as goal

abbrev again : List ℕ → ℕ → ℕ → Bool
again work from i = is_found (find work from i (addresses work from i))

-- what the search by buckets answers
asked : (work : List ℕ) (from i : ℕ) (seen : List Bool) (a : ℕ) (r : Bool)
    → a ≡ addresses work from i
    → r ≡ (get_or seen (a % 128) false && is_found (find work from i a))
    → Marked (addresses work from) seen i
    → again work from i ≡ r
asked work from i seen a r e f marked =
    ap (λ (x : ℕ). is_found (find work from i x)) (sym e) ∙ sym (met-found (addresses work from) seen i a marked) ∙ sym f

-- a list of one or none
single : (work : List ℕ) (from n : ℕ) → n < 2 → false ≡ twice work from n
unfolding last_of some
single work from zero h = refl
single work from (suc zero) h = refl
single work from (suc (suc n)) h = absurd (omega arith)

pub returns-then-n-lt2 : goal.returns-then-n-lt2
returns-then-n-lt2 c = single c.args.work.now c.args.from c.args.n c.if-n-lt2.true

pub loop-i-init : goal.loop-i-init
loop-i-init c = (refl, climb_none (again c.args.work.now c.args.from), λ j h. absurd (omega arith))

pub returns-then-met : goal.returns-then-met
returns-then-met c =
    let l = c.loop-i in
    let a = c.args in
    let hit = asked a.work.now a.from l.i l.seen _ _ c.address-a.ensures c.met.ensures l.invariant.2 in
    climb_hit (again a.work.now a.from) l.i a.n (omega arith) (hit ∙ c.if-met.true)

pub loop-i-preserved : goal.loop-i-preserved
loop-i-preserved c =
    let l = c.loop-i in
    let a = c.args in
    let e = c.address-a.ensures in
    let missed = asked a.work.now a.from l.i l.seen _ _ e c.met.ensures l.invariant.2 in
    (simp length-set l.invariant.0, climb_on (again a.work.now a.from) l.i l.invariant.1 (missed ∙ c.if-met.false), mark_more (addresses a.work.now a.from) l.seen l.i _ l.invariant.0 e l.invariant.2)
