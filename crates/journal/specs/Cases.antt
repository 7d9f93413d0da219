-- "Cases": proved together from the definitions, as one statement over their table (proofs/Cases.antt).
use Rattle.std.specs.Prelude.{ℕ, ◌≡◌, Bool, true, false, List, [], ◌∷◌, length}
use Rattle.cells.specs.Entry.{Entry}
use Rattle.fnv.specs.Fnv.{step, sum}
use Rattle.journal.specs.Geometry.{trap}
use Rattle.journal.specs.Layout.{slot_at, is_data, place_of}
use Rattle.journal.specs.Orders.{sync_orders, apply_orders}

pub data Case : Type 0 where
  empty_sum : ℕ → Case
  sum_step : ℕ → ℕ → ℕ → Case
  sync_takes : ℕ → ℕ → ℕ → Case
  apply_takes : ℕ → ℕ → Case
  slot_starts : ℕ → ℕ → Case
  block_starts : ℕ → ℕ → Case
  address_is : ℕ → ℕ → Bool → Case

-- what a case claims, its last number being the value; orders are those on any card, with any sum and save number and any group of m
-- entries, where nothing waits
abbrev pub Claim : Case → Type 0
Claim (empty_sum v) = sum [] ≡ v
Claim (sum_step h b v) = step h b ≡ v
Claim (sync_takes n m v) = (N h c : ℕ) (s : List ℕ) (es : List Entry) → length es ≡ m → length (sync_orders trap N s 0 n h c es) ≡ v
Claim (apply_takes n v) = (N c : ℕ) (s : List ℕ) → length (apply_orders trap N s n c) ≡ v
Claim (slot_starts i v) = place_of (slot_at trap i) ≡ v
Claim (block_starts a v) = place_of a ≡ v
Claim (address_is N a v) = is_data trap N a ≡ v

abbrev pub RowsHold : List Case → Type 0
RowsHold [] = Unit {0}
RowsHold (c ∷ cs) = Claim c × RowsHold cs

-- the table of document 01
abbrev pub cases : List Case
cases =
    empty_sum 14695981039346656037
    ∷ sum_step 0 1 1099511628211
    ∷ sum_step 1 1 0
    ∷ sum_step 9223372036854775808 0 9223372036854775808
    ∷ sync_takes 0 1 4
    ∷ sync_takes 31 1 4
    ∷ sync_takes 32 1 39
    ∷ sync_takes 0 32 35
    ∷ sync_takes 1 32 39
    ∷ sync_takes 5 0 0
    ∷ apply_takes 0 0
    ∷ apply_takes 32 35
    ∷ slot_starts 31 16896
    ∷ block_starts 34 17408
    ∷ address_is 64 33 false
    ∷ address_is 64 64 false
    ∷ address_is 64 34 true
    ∷ address_is 64 63 true
    ∷ []
