-- "Numbers have 1 to 10 digits and fit 4 bytes, or 1 for the byte; marks are one run of at least one digit, a digit each."
use Rattle.std.specs.Prelude.{ℕ, ◌+◌, ◌*◌, ◌-◌, ◌≤◌, Bool, true, cond, ◌&&◌, List, [], ◌∷◌, Option, Some, None, leb, length}

-- the digits that a number may have
abbrev pub number_digits : ℕ
number_digits = 10

-- the byte of the digit 0
abbrev pub zero_digit : ℕ
zero_digit = 48

abbrev pub is_digit : ℕ → Bool
is_digit b = leb zero_digit b && leb b 57

unfoldable pub all_digits : List ℕ → Bool
all_digits [] = true
all_digits (b ∷ s) = is_digit b && all_digits s

-- the number that digits make behind those of v
unfoldable pub value_from : ℕ → List ℕ → ℕ
value_from v [] = v
value_from v (b ∷ s) = value_from (10 * v + (b - zero_digit)) s

abbrev pub most4_bytes : ℕ
most4_bytes = 4294967295

abbrev pub most1_byte : ℕ
most1_byte = 255

-- a field as a number of at most `most`
unfoldable pub number_of : ℕ → List ℕ → Option ℕ
number_of most s =
    cond (leb 1 (length s) && leb (length s) number_digits && all_digits s && leb (value_from 0 s) most) (Some (value_from 0 s)) None

-- it is no more than that
abbrev pub AtMost : ℕ → Option ℕ → Type 0
AtMost most (Some n) = n ≤ most
AtMost most None = Unit {0}

-- a field as marks
abbrev pub is_marks : List ℕ → Bool
is_marks s = leb 1 (length s) && all_digits s
