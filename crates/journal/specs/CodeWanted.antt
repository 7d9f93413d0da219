-- A list of wanted addresses as the code holds it: chained by the low bits of each, and for each the last place that has it.
use Rattle.std.specs.Prelude.{ℕ, ◌+◌, ◌%◌, ◌<◌, ◌≡◌, List, length, get_or, Option, Some, None}
use Rattle.journal.specs.Lookup.{last_of}
use Rattle.journal.specs.Wanted.{wanted_count, wanted_at}

-- a place as a number: 0 for none, else one more than the place
abbrev pub numbered : Option ℕ → ℕ
numbered (Some k) = k + 1
numbered None = 0

-- the most addresses that are chained
abbrev pub most_chained : ℕ
most_chained = 255

-- the buckets that addresses fall into, by their low bits
abbrev pub buckets : ℕ
buckets = 128

-- the bucket of the i-th
abbrev pub bucket_at : List ℕ → ℕ → ℕ
bucket_at xs i = wanted_at xs i % buckets

-- of the first n: `last` has for each bucket the last place in it, `before` for each place the one before it in its bucket
pub record Chained (xs last before : List ℕ) (n : ℕ) : Type 0 where
  pub lasts : (b : ℕ) → b < buckets → get_or last b 0 ≡ numbered (last_of (bucket_at xs) b n)
  pub befores : (i : ℕ) → i < n → get_or before i 0 ≡ numbered (last_of (bucket_at xs) (bucket_at xs i) i)

-- the last place with the address a in a list of addresses
abbrev pub last_in : List ℕ → ℕ → Option ℕ
last_in l a = last_of (λ i. get_or l i 0) a (length l)

-- `met` has for each wanted address its last place in l
abbrev pub Met : List ℕ → List ℕ → List (Option ℕ) → Type 0
Met xs l met = (i : ℕ) → i < wanted_count xs → get_or met i None ≡ last_in l (wanted_at xs i)
