-- A call with its own arguments, as the table of causes tells them apart: format, a local call, a direct write (W-209), a save, or a cut.
use Rattle.std.specs.Prelude.{ℕ, List}
use Rattle.store.specs.Local.{Local}
use Rattle.store.specs.Save.{Save}

pub data Request : Type 0 where
  format : Request
  local : Local → Request
  direct : ℕ → List ℕ → Request
  save : Save → Request
  cut : List ℕ → Request

abbrev pub power : ℕ → Request
power k = local (Local.power k)

abbrev pub put : ℕ → List ℕ → Request
put a b = local (Local.put a b)

abbrev pub get : ℕ → Request
get a = local (Local.get a)

abbrev pub get_list : List ℕ → List ℕ → Request
get_list xs bs = local (Local.get_list xs bs)

abbrev pub commit : Request
commit = local Local.commit

abbrev pub abandon : Request
abandon = local Local.abandon

abbrev pub sync : Request
sync = save Save.sync

abbrev pub apply : Request
apply = save Save.apply

abbrev pub recover : Request
recover = save Save.recover
