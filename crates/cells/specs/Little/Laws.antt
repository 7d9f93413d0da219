-- The laws of little-endian numbers, each once over the width.
use Rattle.std.specs.Prelude.{ℕ, zero, suc, ◌+◌, ◌*◌, ◌/◌, ◌%◌, ◌^◌, ◌≤◌, ◌<◌, ◌≡◌, refl, List, [], ◌∷◌, ◌++◌, length, get_or, take, drop}
use Rattle.std.proofs.Common.{ap, ap₂, sym, ◌∙◌, arith, add-one, pow-suc, zero-add, mul-add, mul_assoc, mul_comm, one-mul, div-one, mod-eq_of_lt, lit<, length-drop, take-add, drop-drop, drop-cons, length-take-le, suc-add}
use Rattle.std.proofs.Math.Nat.{mod-one, div-div-eq-div-mul}
use Rattle.std.proofs.Math.Arith.{mod-mul}
use Rattle.std.specs.Int.{Width, byte_len, byte_at, bytes_low_first, to_le_bytes}
use Rattle.cells.specs.Little.{le, num, Bytes}

pub le_zero : (n : ℕ) → le 0 n ≡ []
unfolding le
le_zero n = refl

pub le_suc : (w n : ℕ) → le (suc w) n ≡ n % 256 ∷ le w (n / 256)
unfolding le
le_suc w n = refl

pub num_nil : num [] ≡ 0
unfolding num
num_nil = refl

pub num_cons : (b : ℕ) (bs : List ℕ) → num (b ∷ bs) ≡ b + 256 * num bs
unfolding num
num_cons b bs = refl

pub length-le : (w n : ℕ) → length (le w n) ≡ w
unfolding le
length-le zero n = refl
length-le (suc w) n = ap suc (length-le w (n / 256))

pub num_lt : (bs : List ℕ) → Bytes bs → num bs < 256 ^ length bs
unfolding num
num_lt [] b = omega arith
num_lt (x ∷ bs) b =
    let h : num bs < 256 ^ length bs = num_lt bs (λ i. b (suc i)) in
    let x_lt : x < 256 = b 0 in
    rw (pow-suc) (omega arith)

-- the low w bytes of a number are the number modulo 256 ^ w
pub num-low : (w n : ℕ) → num (le w n) ≡ n % 256 ^ w
unfolding num le
num-low zero n = sym (mod-one n)
num-low (suc w) n =
    let q : num (le w (n / 256)) ≡ n / 256 % 256 ^ w = num-low w (n / 256) in
    let p : 0 < 256 ^ w = pow_pos_256 w in
    let r : n % (256 ^ w * 256) ≡ (n / 256 % 256 ^ w) * 256 + n % 256 = mod-mul n p (lit< tt) in
    rw (pow-suc, r, q) (omega arith)
  where
    pow_pos_256 : (w : ℕ) → 0 < 256 ^ w
    pow_pos_256 zero = lit< tt
    pow_pos_256 (suc w) = let p : 0 < 256 ^ w = pow_pos_256 w in rw (pow-suc) (omega arith)

-- a number that fits comes back from its bytes
pub num-le : (w n : ℕ) → n < 256 ^ w → num (le w n) ≡ n
num-le w n h = num-low w n ∙ mod-eq_of_lt h

-- and bytes from their number
pub le-num : (bs : List ℕ) → Bytes bs → le (length bs) (num bs) ≡ bs
unfolding num le
le-num [] b = refl
le-num (x ∷ bs) b =
    let x_lt : x < 256 = b 0 in
    let low : (x + 256 * num bs) % 256 ≡ x = omega arith in
    let high : (x + 256 * num bs) / 256 ≡ num bs = omega arith in
    rw (low, high) (ap (λ (l : List ℕ). x ∷ l) (le-num bs (λ i. b (suc i))))

-- ---- in parts

pub num-append : (a b : List ℕ) → num (a ++ b) ≡ num a + 256 ^ length a * num b
unfolding num
num-append [] b = rw (zero-add, one-mul)
num-append (x ∷ a) b =
    rw (num-append a b, pow-suc, mul_comm (256 ^ length a) 256, mul_assoc, mul-add) (omega arith)

-- the bytes as the library writes them, from byte i upward
le-low_first : (k i n : ℕ) → bytes_low_first i k n ≡ le k (n / 256 ^ i)
unfolding le
le-low_first zero i n = refl
le-low_first (suc k) i n =
    ap₂ (λ (b : ℕ) (bs : List ℕ). b ∷ bs) (first i) (le-low_first k (suc i) n ∙ ap (le k) (rw (pow-suc, ← div-div-eq-div-mul n (256 ^ i) 256)))
  where
    first : (i : ℕ) → byte_at i n ≡ n / 256 ^ i % 256
    first zero = rw (div-one n)
    first (suc i) = refl

pub le-to_le_bytes : (w : Width) (n : ℕ) → to_le_bytes w n ≡ le (byte_len w) n
le-to_le_bytes w n = le-low_first (byte_len w) 0 n ∙ ap (le (byte_len w)) (div-one n)

-- the number at an offset, its lowest byte first
pub num_byte : (w : ℕ) (s : List ℕ) (at : ℕ) → at < length s → num (take (suc w) (drop at s)) ≡ get_or s at 0 + 256 * num (take w (drop (at + 1) s))
unfolding num
num_byte w s at h = rw (drop-cons s at 0 h, add-one)

pub num_four : (s : List ℕ) (at : ℕ) → at + 4 ≤ length s
    → num (take 4 (drop at s)) ≡ get_or s at 0 + 256 * get_or s (at + 1) 0 + 65536 * (get_or s (at + 2) 0 + 256 * get_or s (at + 3) 0)
num_four s at h =
    let two : at + 1 + 1 ≡ at + 2 = omega arith in
    let three : at + 2 + 1 ≡ at + 3 = omega arith in
    rw (num_byte 3 s at (omega arith), num_byte 2 s (at + 1) (omega arith), two, num_byte 1 s (at + 2) (omega arith), three, num_byte 0 s (at + 3) (omega arith), num_nil)
    (omega arith)

-- and in two parts
pub num-parts : (a b : ℕ) (s : List ℕ) (at : ℕ) → at + a ≤ length s
    → num (take (a + b) (drop at s)) ≡ num (take a (drop at s)) + 256 ^ a * num (take b (drop (at + a) s))
num-parts a b s at h =
    let size : length (take a (drop at s)) ≡ a = length-take-le a (drop at s) (rw (length-drop) (omega arith)) in
    rw (take-add a b (drop at s), num-append, size, drop-drop)

-- ---- laws that nothing cites today

bytes_le : (w n : ℕ) → Bytes (le w n)
unfolding le
bytes_le zero n i = omega arith
bytes_le (suc w) n zero = omega arith
bytes_le (suc w) n (suc i) = bytes_le w (n / 256) i

-- only the low part of a number counts
le_low : (w n : ℕ) → le w (n % 256 ^ w) ≡ le w n
le_low w n = rw (← num-low w n) (ap (λ (k : ℕ). le k (num (le w n))) (sym (length-le w n)) ∙ le-num (le w n) (bytes_le w n))

le-append : (a b n : ℕ) → le (a + b) n ≡ le a n ++ le b (n / 256 ^ a)
unfolding le
le-append zero b n = rw (zero-add, div-one)
le-append (suc a) b n =
    rw (suc-add, pow-suc, mul_comm (256 ^ a) 256, ← div-div-eq-div-mul n 256 (256 ^ a))
    (ap (λ (l : List ℕ). n % 256 ∷ l) (le-append a b (n / 256)))
