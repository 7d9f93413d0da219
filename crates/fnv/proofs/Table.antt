-- The table's rule: a table that is written by a rule has it at every entry.
use Rattle.std.proofs.Common.{◌≡◌, ℕ, zero, suc, ◌+◌, ◌*◌, ◌<◌, List, [], ◌∷◌, get_or, sym, ap, ◌∙◌, add-zero, add-suc, suc-add, zero-add, arith}
use Rattle.fnv.specs.Fnv.{low, Multiples}

-- n entries: f i, f (i + 1), …
abbrev table_from : (ℕ → ℕ) → ℕ → ℕ → List ℕ
table_from f i zero = []
table_from f i (suc n) = f i ∷ table_from f (suc i) n

entry : (f : ℕ → ℕ) (i n k : ℕ) → k < n → get_or (table_from f i n) k 0 ≡ f (i + k)
entry f i zero k l = elim l [ ]
entry f i (suc n) zero l = ap f (sym (add-zero i))
entry f i (suc n) (suc k) l = entry f (suc i) n k (omega arith) ∙ ap f (suc-add i k ∙ sym (add-suc i k))

-- The sixteen multiples. This computes to the numbers that the code's table has.
abbrev multiples : List ℕ
multiples = table_from (λ i. i * low) 0 16

pub rule : Multiples multiples
rule k l = entry (λ i. i * low) 0 16 k (omega arith) ∙ ap (λ (i : ℕ). i * low) (zero-add k)
