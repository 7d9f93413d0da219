-- "Each line prints word (bad for 11), answer, and a third number", parted by tabs and ended by LF.
use Rattle.std.specs.Prelude.{ℕ, zero, suc, ◌+◌, ◌*◌, ◌/◌, ◌%◌, cond, List, [], ◌∷◌, ◌++◌, eqb}
use Rattle.script.specs.declared.command.Command.{Command}
use Rattle.script.specs.declared.command.Command.TheVariants.{Format, Power, Put, Get, Commit, Abandon, Sync, Apply, Recover, Cut, Bad}
use Rattle.script.specs.Fields.{tab}
use Rattle.script.specs.Words.{format_word, power_word, put_word, get_word, commit_word, abandon_word, sync_word, apply_word, recover_word, cut_word, bad_word}
use Rattle.script.specs.Numbers.{number_digits, zero_digit}

abbrev pub lf : ℕ
lf = 10

-- the longest of the words below, a tab and the longest number, and the longest answer
abbrev pub longest_word : ℕ
longest_word = 7

abbrev pub field_bytes : ℕ
field_bytes = suc number_digits

abbrev pub answer_bytes : ℕ
answer_bytes = longest_word + 2 * field_bytes + 1

-- the digits of n, highest first and at most k of them; none for 0
unfoldable pub digits : ℕ → ℕ → List ℕ
digits zero n = []
digits (suc k) n = cond (eqb n 0) [] (digits k (n / 10) ++ ((zero_digit + n % 10) ∷ []))

-- a number that fits 4 bytes: its last digit, and in front of it those of its tenth
unfoldable pub decimal : ℕ → List ℕ
decimal n = digits 9 (n / 10) ++ ((zero_digit + n % 10) ∷ [])

abbrev pub word_of : Command → List ℕ
word_of Format = format_word
word_of (Power k) = power_word
word_of (Put a b) = put_word
word_of (Get a) = get_word
word_of Commit = commit_word
word_of Abandon = abandon_word
word_of Sync = sync_word
word_of Apply = apply_word
word_of Recover = recover_word
word_of Cut = cut_word
word_of Bad = bad_word

unfoldable pub answer_line : Command → ℕ → ℕ → List ℕ
answer_line c answer third = word_of c ++ (tab ∷ decimal answer) ++ (tab ∷ decimal third) ++ (lf ∷ [])
