-- The laws of the checksum: it is below 2^64, and the sum of a run goes on from the sum of its first part.
use Rattle.std.proofs.Common.{◌≡◌, ℕ, ◌^◌, ◌<◌, List, [], ◌∷◌, ◌++◌, refl, mod-lt, lit<}
use Rattle.std.specs.List.{fold}
use Rattle.fnv.specs.Fnv.{start, step, sum_from, sum}

pub step_lt : (h b : ℕ) → step h b < 2 ^ 64
unfolding step
step_lt h b = mod-lt _ (lit< tt)

pub sum_from_nil : (h : ℕ) → sum_from h [] ≡ h
unfolding sum_from
sum_from_nil h = refl

-- a fold by the step
pub sum_from-fold : (h : ℕ) (bs : List ℕ) → fold step h bs ≡ sum_from h bs
unfolding sum_from
sum_from-fold h [] = refl
sum_from-fold h (b ∷ bs) = sum_from-fold (step h b) bs

pub sum_from-append : (h : ℕ) (a b : List ℕ) → sum_from h (a ++ b) ≡ sum_from (sum_from h a) b
unfolding sum_from
sum_from-append h [] b = refl
sum_from-append h (x ∷ a) b = sum_from-append (step h x) a b

pub sum_from_lt : (h : ℕ) (bs : List ℕ) → h < 2 ^ 64 → sum_from h bs < 2 ^ 64
unfolding sum_from
sum_from_lt h [] l = l
sum_from_lt h (b ∷ bs) l = sum_from_lt (step h b) bs (step_lt h b)

pub sum_nil : sum [] ≡ start
unfolding sum sum_from
sum_nil = refl
