-- A search of a list, by place.
use Rattle.std.specs.List.{list_any}
use Rattle.std.proofs.Common.{◌≡◌, refl, sym, ap, ◌∙◌, ℕ, zero, suc, ◌<◌, Bool, true, false, ◌||◌, List, [], ◌∷◌, length, get_or, arith}
use Rattle.store.specs.Causes.{some}

-- the first place, or one behind it
first-or-later : (f : ℕ → Bool) (n : ℕ) → some f (suc n) ≡ f 0 || some (λ i. f (suc i)) n
unfolding some
first-or-later f zero = go (f 0)
  where
    go : (t : Bool) → t ≡ t || false
    go true = refl
    go false = refl
first-or-later f (suc n) = ap (λ (t : Bool). t || f (suc n)) (first-or-later f n) ∙ go (f 0) (some (λ i. f (suc i)) n) (f (suc n))
  where
    go : (a b c : Bool) → (a || b) || c ≡ a || (b || c)
    go true b c = refl
    go false b c = refl

-- what the search finds, f says of its place
pub any-some : (p f : ℕ → Bool) (xs : List ℕ) → ((i : ℕ) → i < length xs → p (get_or xs i 0) ≡ f i) → list_any p xs ≡ some f (length xs)
unfolding some
any-some p f [] e = refl
any-some p f (x ∷ xs) e =
    ap (λ (t : Bool). t || list_any p xs) (e 0 (omega arith))
    ∙ ap (λ (t : Bool). f 0 || t) (any-some p (λ i. f (suc i)) xs (λ i h. e (suc i) (omega arith)))
    ∙ sym (first-or-later f (length xs))
