-- Up to 6 waiting writes the map tries every set of kept writes.
use Prim.Native.Nat.{zero, suc}
use mathlib.Core.Path.{refl}
use native.Mathlib.Omega.{arith}
use Rattle.powercut.specs.Sets.{EverySet, set_count, keeps, mark, marks, all_marks}

pub every_set : EverySet
unfolding set_count keeps mark marks all_marks
every_set zero h = refl
every_set (suc zero) h = refl
every_set (suc (suc zero)) h = refl
every_set (suc (suc (suc zero))) h = refl
every_set (suc (suc (suc (suc zero)))) h = refl
every_set (suc (suc (suc (suc (suc zero))))) h = refl
every_set (suc (suc (suc (suc (suc (suc zero)))))) h = refl
every_set (suc (suc (suc (suc (suc (suc (suc n))))))) h = absurd (omega arith)
