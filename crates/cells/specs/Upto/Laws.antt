-- The laws of a list given by its elements.
use Rattle.std.specs.Prelude.{ℕ, zero, suc, ◌+◌, ◌*◌, ◌≤◌, ◌<◌, ◌≡◌, refl, length, get_or, take, drop}
use Rattle.std.proofs.Common.{ap, ap₂, sym, ◌∙◌, add-one, add-suc, add-zero, mul-zero, mul-suc, mul-le-mul_left, arith, length-append, length-drop, take_all, take_at, drop_at, drop-drop}
use mathlib.Core.List.{List, [], ◌∷◌, ◌++◌, append_assoc}
use Rattle.std.proofs.Math.Decide.{ℕ_discrete}
use Rattle.std.proofs.Math.ListN.{get_or-append}
use Rattle.std.proofs.lemmas.List.{get_or_at, take-append-le, drop-append-le}
use Rattle.cells.specs.Upto.{up_to, joined}

pub length-up_to : {A : Type 0} (f : ℕ → A) (n : ℕ) → length (up_to f n) ≡ n
length-up_to f zero = refl
length-up_to f (suc n) = length-append (up_to f n) (f n ∷ []) ∙ ap (λ (k : ℕ). k + 1) (length-up_to f n) ∙ add-one n

pub get_or-up_to : {A : Type 0} (f : ℕ → A) (n i : ℕ) (d : A) → i < n → get_or (up_to f n) i d ≡ f i
get_or-up_to {A = A} f zero i d h = elim h [ ]
get_or-up_to {A} f (suc n) i d h = go (ℕ_discrete i n) (λ p. get_or-up_to f n i d p)
  where
    go : Dec (i ≡ n) → (i < n → get_or (up_to f n) i d ≡ f i) → get_or (up_to f n ++ (f n ∷ [])) i d ≡ f i
    go (yes e) below = rw e (get_or_at (up_to f n) (f n) [] d n (length-up_to f n))
    go (no e) below =
        let less : i < n = omega arith in
        let in-front : i < length (up_to f n) = rw (length-up_to) less in
        get_or-append (up_to f n) (f n ∷ []) d i in-front ∙ below less

-- equal elements make equal lists
pub ext_up_to : {A : Type 0} (f g : ℕ → A) (n : ℕ) → ((i : ℕ) → i < n → f i ≡ g i) → up_to f n ≡ up_to g n
ext_up_to f g zero h = refl
ext_up_to {A} f g (suc n) h =
    ap₂ (λ (a : List A) (x : A). a ++ (x ∷ [])) (ext_up_to f g n (λ i p. h i (omega arith))) (h n (omega arith))

pub take-up_to : {A : Type 0} (f : ℕ → A) (n k : ℕ) → k ≤ n → take k (up_to f n) ≡ up_to f k
take-up_to f zero k h = let e : k ≡ 0 = omega arith in rw e
take-up_to {A} f (suc n) k h = go (ℕ_discrete k (suc n)) (λ p. take-up_to f n k p)
  where
    go : Dec (k ≡ suc n) → (k ≤ n → take k (up_to f n) ≡ up_to f k) → take k (up_to f (suc n)) ≡ up_to f k
    go (yes e) below =
        let l : length (up_to f (suc n)) ≡ suc n = length-up_to f (suc n) in
        rw e (take_all (suc n) (up_to f (suc n)) (omega arith))
    go (no e) below =
        let less : k ≤ n = omega arith in
        take-append-le k (up_to f n) (f n ∷ []) (rw (length-up_to) less) ∙ below less

pub up_to_add : {A : Type 0} (f : ℕ → A) (n m : ℕ) → up_to f (n + m) ≡ up_to f n ++ up_to (λ i. f (n + i)) m
up_to_add f n zero = rw (add-zero, mathlib.Core.List.append-nil)
up_to_add {A} f n (suc m) =
    rw (add-suc) (ap (λ (l : List A). l ++ (f (n + m) ∷ [])) (up_to_add f n m) ∙ append_assoc (up_to f n) (up_to (λ i. f (n + i)) m) (f (n + m) ∷ []))

-- ---- lists one behind the other

pub ext_joined : {A : Type 0} (f g : ℕ → List A) (n : ℕ) → ((i : ℕ) → i < n → f i ≡ g i) → joined f n ≡ joined g n
ext_joined f g zero h = refl
ext_joined {A} f g (suc n) h = ap₂ (λ (x y : List A). x ++ y) (ext_joined f g n (λ i p. h i (omega arith))) (h n (omega arith))

-- each of length k
pub length-joined : {A : Type 0} (f : ℕ → List A) (k n : ℕ) → ((i : ℕ) → i < n → length (f i) ≡ k) → length (joined f n) ≡ k * n
length-joined f k zero h = sym (mul-zero k)
length-joined f k (suc n) h = length-append (joined f n) (f n) ∙ ap₂ (λ (x y : ℕ). x + y) (length-joined f k n (λ i p. h i (omega arith))) (h n (omega arith)) ∙ sym (mul-suc k n)

-- the i-th of them lies at k * i
pub joined_part : {A : Type 0} (f : ℕ → List A) (k n i : ℕ) → ((j : ℕ) → j < n → length (f j) ≡ k) → i < n → take k (drop (k * i) (joined f n)) ≡ f i
joined_part {A = A} f k zero i h less = elim less [ ]
joined_part {A} f k (suc n) i h less = go (ℕ_discrete i n) (λ p. joined_part f k n i (λ j q. h j (omega arith)) p)
  where
    front : length (joined f n) ≡ k * n
    front = length-joined f k n (λ j q. h j (omega arith))

    go : Dec (i ≡ n) → (i < n → take k (drop (k * i) (joined f n)) ≡ f i) → take k (drop (k * i) (joined f n ++ f n)) ≡ f i
    go (yes e) below =
        let size : length (f n) ≡ k = h n (omega arith) in
        rw (e, drop_at (joined f n) (f n) (k * n) front) (take_all k (f n) (omega arith))
    go (no e) below =
        let later : i < n = omega arith in
        let room : k * i + k ≤ k * n = rw (← mul-suc k i) (mul-le-mul_left k later) in
        let inside : k * i ≤ length (joined f n) = rw front (omega arith) in
        let rest : k ≤ length (drop (k * i) (joined f n)) = rw (length-drop, front) (omega arith) in
        rw (drop-append-le (k * i) (joined f n) (f n) inside) (take-append-le k (drop (k * i) (joined f n)) (f n) rest ∙ below later)

-- one more of length k, stored behind i of them
pub joined_more : {A : Type 0} (f : ℕ → List A) (k i n : ℕ) (old v : List A) → length (joined f i) ≡ k * i → n ≡ k → v ≡ f i
    → take (k * i) (joined f i ++ drop (k * i) old) ++ (v ++ drop n (drop (k * i) (joined f i ++ drop (k * i) old))) ≡ joined f (suc i) ++ drop (k * suc i) old
joined_more {A} f k i n old v size p e =
    rw (take_at (joined f i) (drop (k * i) old) (k * i) size, drop_at (joined f i) (drop (k * i) old) (k * i) size, p, e, drop-drop, mul-suc, append_assoc)
