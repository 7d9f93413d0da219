-- `store::commit::join_all` meets its contract.
use mathlib.Core.Path.{◌≡◌}
use Rattle.journal.specs.Geometry.{trap}
use Rattle.store.specs.Commit.{Group, joined}
use Rattle.store.proofs.commit.join_all.Given as goal

abbrev pub invariant-loop-i : goal.invariant-loop-i
invariant-loop-i l = ◌≡◌ {A = Group} (record { work = l.work; count = l.count }) (joined trap l.i (record { work = l.initial.work; count = l.g }))
