-- `store::own_rows::newcomers` meets its contract.
use mathlib.Core.Path.{◌≡◌, refl, sym, ◌∙◌}
use mathlib.Core.Bool.{true, false}
use native.Mathlib.Omega.{arith}
use Rattle.journal.specs.Geometry.{trap}
use Rattle.store.specs.Lists.{open_from, group_from, listed, find}
use Rattle.store.specs.Causes.{is_found, newcomers}
use Rattle.store.proofs.Commits.{newcomers_more}
use Rattle.store.proofs.own_rows.newcomers.Goals as goal
use Rattle.store.proofs.own_rows.newcomers.Goals.{then-not-holds, else-not-holds}

pub loop-i-init : goal.loop-i-init
unfolding newcomers
loop-i-init c = (refl, omega arith)

pub holds-requires : goal.holds-requires
unfolding trap
holds-requires c = omega arith

pub loop-i-preserved : goal.loop-i-preserved
unfolding trap
loop-i-preserved c =
    let told : let a = c.args in
    is_found (find a.work.now (group_from trap) a.g (listed a.work.now open_from c.loop-i.i).address) ≡ c.holds.result = rw (← c.address.ensures) (sym c.holds.ensures) in
    let l = c.loop-i in
    let a = c.args in
    let more = newcomers_more trap a.work.now a.g l.i in
    elim c.if-not-holds.branch [
      | then-not-holds w ↦
          let new : is_found (find a.work.now (group_from trap) a.g (listed a.work.now open_from l.i).address) ≡ false = told ∙ w.if-not-holds.true in
          let one = rw new at more in
          omega arith
      | else-not-holds w ↦
          let old : is_found (find a.work.now (group_from trap) a.g (listed a.work.now open_from l.i).address) ≡ true = told ∙ w.if-not-holds.false in
          let none = rw old at more in
          omega arith
    ]
