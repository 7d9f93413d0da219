-- "FNV-1a 64, from its public definition: start 14695981039346656037; for each byte, xor it in, then multiply by
-- 1099511628211 modulo 2^64."
use Rattle.std.specs.Prelude.{◌≡◌, ℕ, ◌*◌, ◌%◌, ◌^◌, ◌<◌, List, [], ◌∷◌, bit_xor, slice_index}

-- "start 14695981039346656037"
abbrev pub start : ℕ
start = 14695981039346656037

-- "1099511628211"
abbrev pub prime : ℕ
prime = 1099511628211

-- "435, the low part of the FNV factor" (W-203)
abbrev pub low : ℕ
low = 435

-- "a table of its sixteen multiples 0 to 6,525" (W-203): entry i is i times the low part
abbrev pub Multiples : List ℕ → Type 0
Multiples t = (i : ℕ) → i < 16 → slice_index t i ≡ i * low

-- "xor it in, then multiply by 1099511628211 modulo 2^64". Callers leave it shut, and go by the laws of proofs/Laws.antt.
unfoldable pub step : ℕ → ℕ → ℕ
step h b = (bit_xor h b * prime) % 2 ^ 64

-- "for each byte", from h on
unfoldable pub sum_from : ℕ → List ℕ → ℕ
sum_from h [] = h
sum_from h (b ∷ bs) = sum_from (step h b) bs

-- the sum of a run of bytes
unfoldable pub sum : List ℕ → ℕ
sum bs = sum_from start bs
