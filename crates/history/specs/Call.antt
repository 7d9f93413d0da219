-- "The list holds power, put, get, commit, abandon, sync, apply, recover and cut in any order, with any arguments, refused ones too."
-- W-207: and lists of gets. W-209: and direct writes.
use Rattle.std.specs.Prelude.{ℕ, List}
use Rattle.store.specs.Local.{Local}
use Rattle.store.specs.Save.{Save}
use Rattle.store.specs.Request as Request

-- a call is local (power, put, get, a list of gets, commit, abandon), a direct write, a save (sync, apply, recover) or a cut
pub data Call : Type 0 where
  local : Local → Call
  direct : ℕ → List ℕ → Call
  save : Save → Call
  cut : List ℕ → Call

abbrev pub power : ℕ → Call
power k = local (Local.power k)

abbrev pub put : ℕ → List ℕ → Call
put a b = local (Local.put a b)

abbrev pub get : ℕ → Call
get a = local (Local.get a)

abbrev pub get_list : List ℕ → List ℕ → Call
get_list xs bs = local (Local.get_list xs bs)

abbrev pub commit : Call
commit = local Local.commit

abbrev pub abandon : Call
abandon = local Local.abandon

abbrev pub sync : Call
sync = save Save.sync

abbrev pub apply : Call
apply = save Save.apply

abbrev pub recover : Call
recover = save Save.recover

-- what a get has, of its address, and what every other call has
abbrev pub of_get : {A : Type 0} → Call → (ℕ → A) → A → A
of_get (local (Local.power k)) f x = x
of_get (local (Local.put a b)) f x = x
of_get (local (Local.get a)) f x = f a
of_get (local (Local.get_list xs bs)) f x = x
of_get (local Local.commit) f x = x
of_get (local Local.abandon) f x = x
of_get (direct a b) f x = x
of_get (save c) f x = x
of_get (cut ms) f x = x

-- likewise what a list of gets has, of its two buffers
abbrev pub of_list : {A : Type 0} → Call → (List ℕ → List ℕ → A) → A → A
of_list (local (Local.power k)) f x = x
of_list (local (Local.put a b)) f x = x
of_list (local (Local.get a)) f x = x
of_list (local (Local.get_list xs bs)) f x = f xs bs
of_list (local Local.commit) f x = x
of_list (local Local.abandon) f x = x
of_list (direct a b) f x = x
of_list (save c) f x = x
of_list (cut ms) f x = x

-- a call of the list with its own arguments: every call of the store but format
abbrev pub request_of : Call → Request.Request
request_of (local c) = Request.local c
request_of (direct a b) = Request.direct a b
request_of (save c) = Request.save c
request_of (cut ms) = Request.cut ms
