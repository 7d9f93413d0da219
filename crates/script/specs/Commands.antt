-- What a line says.
use Rattle.std.specs.Prelude.{ℕ, suc, cond, List, [], ◌∷◌, Option, Some, None, ltb, length}
use Rattle.cells.specs.Same.{same}
use Rattle.script.specs.declared.command.Command.{Command}
use Rattle.script.specs.declared.command.Command.TheVariants.{Format, Power, Put, Get, Commit, Abandon, Sync, Apply, Recover, Cut, Bad}
use Rattle.script.specs.Fields.{fields}
use Rattle.script.specs.Words.{format_word, power_word, put_word, get_word, commit_word, abandon_word, sync_word, apply_word, recover_word, cut_word}
use Rattle.script.specs.Numbers.{most4_bytes, most1_byte, number_of, is_marks}

-- "lines of at most 80 bytes (a longer one is 11 …)"
abbrev pub line_bytes : ℕ
line_bytes = 80

-- one byte more is kept of a line, which tells that it is longer
abbrev pub kept_bytes : ℕ
kept_bytes = suc line_bytes

-- a word with no field. "A cut may lack its field"
unfoldable pub alone : List ℕ → Command
alone w =
    cond (same w format_word) Format
    (cond (same w commit_word) Commit
    (cond (same w abandon_word) Abandon
    (cond (same w sync_word) Sync
    (cond (same w apply_word) Apply
    (cond (same w recover_word) Recover
    (cond (same w cut_word) Cut
    Bad))))))

abbrev pub with_number : Option ℕ → (ℕ → Command) → Command
with_number (Some n) f = f n
with_number None f = Bad

-- "get: address; power: count; cut: marks"
unfoldable pub with_one : List ℕ → List ℕ → Command
with_one w x =
    cond (same w power_word) (with_number (number_of most4_bytes x) (λ k. Power k))
    (cond (same w get_word) (with_number (number_of most4_bytes x) (λ a. Get a))
    (cond (same w cut_word) (cond (is_marks x) Cut Bad)
    Bad))

-- "put: address, byte filling the block"
unfoldable pub with_two : List ℕ → List ℕ → List ℕ → Command
with_two w x y =
    cond (same w put_word) (with_number (number_of most4_bytes x) (λ a. with_number (number_of most1_byte y) (λ b. Put a b))) Bad

unfoldable pub understood : List (List ℕ) → Command
understood [] = Bad
understood (w ∷ []) = alone w
understood (w ∷ x ∷ []) = with_one w x
understood (w ∷ x ∷ y ∷ []) = with_two w x y
understood (w ∷ x ∷ y ∷ z ∷ fs) = Bad

unfoldable pub parse : List ℕ → Command
parse s = cond (ltb line_bytes (length s)) Bad (understood (fields s))
