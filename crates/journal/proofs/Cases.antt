-- The table of cases of document 01 holds: one test, computed over the table.
use Prim.Native.Nat.{◌*◌, ◌%◌, ◌^◌}
use mathlib.Core.Path.{◌≡◌, refl, ap, ◌∙◌}
use mathlib.Core.Bool.{Bool, true, false, ◌&&◌, beq}
use mathlib.Core.List.{List, [], ◌∷◌}
use lib.Bits.{bit_xor}
use lib.Dec.{T, eqb, eqb→eq}
use Rattle.fnv.specs.Fnv.{start, prime, step}
use Rattle.fnv.proofs.Laws.{sum_nil}
use Rattle.journal.specs.Geometry.{trap}
use Rattle.journal.specs.Layout.{slot_at, is_data, place_of}
use Rattle.journal.specs.Cases.{Case, empty_sum, sum_step, sync_takes, apply_takes, slot_starts, block_starts, address_is, Claim, RowsHold, cases}
use Rattle.journal.proofs.OrderLists.{apply_count, sync_count, length-apply, length-sync}

abbrev right : Case → Bool
right (empty_sum v) = eqb start v
right (sum_step h b v) = eqb (bit_xor h b * prime % 2 ^ 64) v
right (sync_takes n m v) = eqb (sync_count trap 0 n m) v
right (apply_takes n v) = eqb (apply_count n) v
right (slot_starts i v) = eqb (place_of (slot_at trap i)) v
right (block_starts a v) = eqb (place_of a) v
right (address_is N a v) = beq (is_data trap N a) v

same : (a b : Bool) → T (beq a b) → a ≡ b
same true true t = refl
same true false t = absurd t
same false true t = absurd t
same false false t = refl

claim : (c : Case) → T (right c) → Claim c
unfolding step
claim (empty_sum v) t = sum_nil ∙ eqb→eq start v t
claim (sum_step h b v) t = eqb→eq (bit_xor h b * prime % 2 ^ 64) v t
claim (sync_takes n m v) t = λ N h c s es e. length-sync trap N s 0 n h c es ∙ ap (sync_count trap 0 n) e ∙ eqb→eq (sync_count trap 0 n m) v t
claim (apply_takes n v) t = λ N c s. length-apply trap N s n c ∙ eqb→eq (apply_count n) v t
claim (slot_starts i v) t = eqb→eq (place_of (slot_at trap i)) v t
claim (block_starts a v) t = eqb→eq (place_of a) v t
claim (address_is N a v) t = same (is_data trap N a) v t

abbrev all : List Case → Bool
all [] = true
all (c ∷ cs) = right c && all cs

first : (a b : Bool) → T (a && b) → T a × T b
first true b t = (tt, t)
first false b t = absurd t

holds : (cs : List Case) → T (all cs) → RowsHold cs
holds [] t = tt
holds (c ∷ cs) t = let p = first (right c) (all cs) t in (claim c p.0, holds cs p.1)

pub cases_hold : RowsHold cases
unfolding trap
cases_hold = holds cases tt
