-- `powercut::tries::mark` meets its contract.
use Prim.Native.Nat.{ℕ, ◌-◌}
use mathlib.Core.Path.{◌≡◌, ap, sym, ◌∙◌}
use mathlib.Core.Bool.{true, false}
use borrow.Author.Tests.{lt-ltb, le-ltb}
use lib.Dec.{ltb}
use Rattle.powercut.specs.Sets.{set_count}
use Rattle.powercut.specs.Tears.{torn_mark}
use Rattle.powercut.specs.Tries.{try_mark}
use Rattle.powercut.proofs.tries.mark.Goals as goal

pub returns-then-attempt-sets : goal.returns-then-attempt-sets
unfolding try_mark
returns-then-attempt-sets c =
    let a = c.args in
    let set : ltb a.attempt (set_count a.n) ≡ true = ap (ltb a.attempt) (sym c.count-sets.ensures.0) ∙ lt-ltb _ _ c.if-attempt-sets.true in
    rw set c.mark.ensures

pub returns : goal.returns
unfolding try_mark
returns c =
    let a = c.args in
    let sets : c.count-sets.result ≡ set_count a.n = c.count-sets.ensures.0 in
    let tear : ltb a.attempt (set_count a.n) ≡ false = ap (ltb a.attempt) (sym sets) ∙ le-ltb _ _ c.if-attempt-sets.false in
    rw tear (c.mark-2.ensures ∙ ap (λ (m : ℕ). torn_mark a.k (a.attempt - m) a.i a.j) sets)
