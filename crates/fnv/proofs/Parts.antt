-- A product from the parts of a factor: what `mul_prime` and `product` compute, a part at a time.
use Rattle.std.proofs.Common.{◌≡◌, ℕ, ◌+◌, ◌*◌, ◌/◌, ◌%◌, ◌^◌, ◌<◌, ap, ◌∙◌, mod-eq_of_lt, mul_assoc, mul_comm, add-mul, add_comm, div-add-mod', mul-add, arith}
use native.Mathlib.Nat.{add-mod, add-mod-mod}
use Rattle.fnv.specs.Fnv.{low}

-- two parts in base m, by any factor
two_parts : (m x k : ℕ) {p q : ℕ} → p ≡ x % m * k → q ≡ x / m * k → p + q * m ≡ x * k
two_parts m x k lower upper =
    rw (lower, upper, mul_assoc, mul_comm k m, ← mul_assoc, ← add-mul, add_comm, div-add-mod')

-- the upper part shifted by a wrapping shift: where the product fits, nothing is lost
pub two_fit : (m n x k : ℕ) {p q : ℕ} → p ≡ x % m * k → q ≡ x / m * k → x * k < n → p + q * m % n ≡ x * k
two_fit m n x k {p} {q} lower upper l =
    let whole : p + q * m ≡ x * k = two_parts m x k lower upper in
    ap (λ (z : ℕ). p + z) (mod-eq_of_lt (omega (arith, whole))) ∙ whole

-- and where it does not fit, the sum wraps as the product does
pub two_wrap : (m n x k : ℕ) {p q : ℕ} → p ≡ x % m * k → q ≡ x / m * k → (p + q * m % n) % n ≡ x * k % n
two_wrap m n x k {p} {q} lower upper =
    add-mod-mod p (q * m) n ∙ ap (λ (z : ℕ). z % n) (two_parts m x k lower upper)

-- two parts of the second factor
pub two_factors : (n x k j : ℕ) {p : ℕ} → p ≡ x * k % n → (p + x * j % n) % n ≡ x * (j + k) % n
two_factors n x k j e = rw (e, ← add-mod, mul-add, add_comm (x * j))

-- the four half bytes of 16 bits, in base 16
digits : (x : ℕ) → x % 16 * low + x / 16 % 16 * low * 2 ^ 4 + (x / 256 % 16 * low * 2 ^ 8 + x / 4096 * low * 2 ^ 12) ≡ x * low
digits x = omega arith

-- their products with the low part, each shifted to its place: nothing is shifted out of 32 bits
pub half-bytes : {x p q r s : ℕ}
    → p ≡ x % 16 * low → q ≡ x / 16 % 16 * low → r ≡ x / 256 % 16 * low → s ≡ x / 4096 * low → x < 2 ^ 16
    → p + q * 2 ^ 4 % 2 ^ 32 + (r * 2 ^ 8 % 2 ^ 32 + s * 2 ^ 12 % 2 ^ 32) ≡ x * low
half-bytes {x} {p} {q} {r} {s} p≡ q≡ r≡ s≡ l =
    let second : q * 2 ^ 4 % 2 ^ 32 ≡ q * 2 ^ 4 = omega arith in
    let third : r * 2 ^ 8 % 2 ^ 32 ≡ r * 2 ^ 8 = omega arith in
    let fourth : s * 2 ^ 12 % 2 ^ 32 ≡ s * 2 ^ 12 = omega arith in
    rw (second, third, fourth, p≡, q≡, r≡, s≡) (digits x)
