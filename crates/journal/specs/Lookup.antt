-- "get: the newest of open, group, log (its last slot with that address)".
use Rattle.std.specs.Prelude.{ℕ, zero, suc, cond, List, eqb, Option, Some, None}
use Rattle.journal.specs.Log.{slot_address}

-- the last of the first n places whose address is a. In a list that has no address twice it is the only one
unfoldable pub last_of : (ℕ → ℕ) → ℕ → ℕ → Option ℕ
last_of f a zero = None
last_of f a (suc k) = cond (eqb (f k) a) (Some k) (last_of f a k)

-- the log's last slot with an address
abbrev pub last_slot : List ℕ → ℕ → ℕ → Option ℕ
last_slot s a n = last_of (slot_address s) a n
