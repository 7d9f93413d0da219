-- What holds of every element of a list, and of some.
use Prim.Native.Nat.{ℕ, zero, suc, ◌<◌}
use mathlib.Core.Path.{◌≡◌}
use mathlib.Core.Logic.{◌⊎◌}
use mathlib.Core.List.{List, [], ◌∷◌, ◌++◌}
use native.Mathlib.Omega.{arith}
use lib.ListN.{length, get_or, take}
use Rattle.cells.specs.Upto.{up_to}

abbrev pub All : {A : Type 0} → (A → Type 0) → List A → Type 0
All P [] = Unit {0}
All P (x ∷ xs) = P x × All P xs

pub all_append : {A : Type 0} (P : A → Type 0) (a b : List A) → All P a → All P b → All P (a ++ b)
all_append P [] b p q = q
all_append P (x ∷ a) b p q = (p.0, all_append P a b p.1 q)

pub all_left : {A : Type 0} (P : A → Type 0) (a b : List A) → All P (a ++ b) → All P a
all_left P [] b p = tt
all_left P (x ∷ a) b p = (p.0, all_left P a b p.1)

pub all_right : {A : Type 0} (P : A → Type 0) (a b : List A) → All P (a ++ b) → All P b
all_right P [] b p = p
all_right P (x ∷ a) b p = all_right P a b p.1

pub all_map : {A : Type 0} (P Q : A → Type 0) → ((x : A) → P x → Q x) → (l : List A) → All P l → All Q l
all_map P Q f [] p = tt
all_map P Q f (x ∷ l) p = (f x p.0, all_map P Q f l p.1)

pub all_take : {A : Type 0} (P : A → Type 0) (n : ℕ) (l : List A) → All P l → All P (take n l)
all_take P zero l p = tt
all_take P (suc n) [] p = tt
all_take P (suc n) (x ∷ l) p = (p.0, all_take P n l p.1)

pub all_at : {A : Type 0} (P : A → Type 0) (l : List A) (i : ℕ) (d : A) → i < length l → All P l → P (get_or l i d)
all_at P [] i d h p = absurd (omega arith)
all_at P (x ∷ l) zero d h p = p.0
all_at P (x ∷ l) (suc i) d h p = all_at P l i d (omega arith) p.1

pub all-up_to : {A : Type 0} (P : A → Type 0) (f : ℕ → A) (n : ℕ) → ((i : ℕ) → i < n → P (f i)) → All P (up_to f n)
all-up_to P f zero h = tt
all-up_to P f (suc n) h = all_append P (up_to f n) (f n ∷ []) (all-up_to P f n (λ i p. h i (omega arith))) (h n (omega arith), tt)

pub up_to-all : {A : Type 0} (P : A → Type 0) (f : ℕ → A) (n : ℕ) → All P (up_to f n) → (i : ℕ) → i < n → P (f i)
up_to-all {A = A} P f zero p i h = elim h [ ]
up_to-all P f (suc n) p i h = go (native.Mathlib.Decide.ℕ_discrete i n) (λ q. up_to-all P f n (all_left P (up_to f n) (f n ∷ []) p) i q)
  where
    go : Dec (i ≡ n) → (i < n → P (f i)) → P (f i)
    go (yes e) below = rw e (all_right P (up_to f n) (f n ∷ []) p).0
    go (no e) below = below (omega arith)

-- ---- some element

abbrev pub Any : {A : Type 0} → (A → Type 0) → List A → Type 0
Any P [] = ⊥
Any P (x ∷ xs) = P x ⊎ Any P xs

-- what follows from it for each element, follows
pub any_elim : {A : Type 0} {C : Type 0} (P : A → Type 0) (l : List A) → All (λ x. P x → C) l → Any P l → C
any_elim P [] f p = absurd p
any_elim P (x ∷ l) f (◌⊎◌.inl p) = f.0 p
any_elim P (x ∷ l) f (◌⊎◌.inr p) = any_elim P l f.1 p
