-- "The words are the names of the calls under that heading, and cut."
use Rattle.std.specs.Prelude.{ℕ, List, [], ◌∷◌}

abbrev pub format_word : List ℕ
format_word = 102 ∷ 111 ∷ 114 ∷ 109 ∷ 97 ∷ 116 ∷ []

abbrev pub power_word : List ℕ
power_word = 112 ∷ 111 ∷ 119 ∷ 101 ∷ 114 ∷ []

abbrev pub put_word : List ℕ
put_word = 112 ∷ 117 ∷ 116 ∷ []

abbrev pub get_word : List ℕ
get_word = 103 ∷ 101 ∷ 116 ∷ []

abbrev pub commit_word : List ℕ
commit_word = 99 ∷ 111 ∷ 109 ∷ 109 ∷ 105 ∷ 116 ∷ []

abbrev pub abandon_word : List ℕ
abandon_word = 97 ∷ 98 ∷ 97 ∷ 110 ∷ 100 ∷ 111 ∷ 110 ∷ []

abbrev pub sync_word : List ℕ
sync_word = 115 ∷ 121 ∷ 110 ∷ 99 ∷ []

abbrev pub apply_word : List ℕ
apply_word = 97 ∷ 112 ∷ 112 ∷ 108 ∷ 121 ∷ []

abbrev pub recover_word : List ℕ
recover_word = 114 ∷ 101 ∷ 99 ∷ 111 ∷ 118 ∷ 101 ∷ 114 ∷ []

abbrev pub cut_word : List ℕ
cut_word = 99 ∷ 117 ∷ 116 ∷ []

-- "bad for 11"
abbrev pub bad_word : List ℕ
bad_word = 98 ∷ 97 ∷ 100 ∷ []
