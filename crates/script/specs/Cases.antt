-- Lines at the edges of the grammar and what they say; proved over the table (proofs/Cases.antt).
use Rattle.std.specs.Prelude.{ℕ, ◌≡◌, List, [], ◌∷◌, ◌++◌, replicate}
use Rattle.script.specs.declared.command.Command.{Command}
use Rattle.script.specs.declared.command.Command.TheVariants.{Format, Put, Get, Cut, Bad}
use Rattle.script.specs.Fields.{tab}
use Rattle.script.specs.Words.{format_word, put_word, get_word, sync_word, cut_word}
use Rattle.script.specs.Numbers.{zero_digit}
use Rattle.script.specs.Commands.{parse}
use Rattle.script.specs.Answers.{decimal}

pub record Case : Type 0 where
  pub line : List ℕ
  pub says : Command

abbrev pub LinesSay : List Case → Type 0
LinesSay [] = Unit {0}
LinesSay (c ∷ cs) = (parse c.line ≡ c.says) × LinesSay cs

-- a field in decimal
abbrev field : ℕ → List ℕ
field n = tab ∷ decimal n

-- n zeros in front of a field's digits
abbrev padded : ℕ → ℕ → List ℕ
padded n k = tab ∷ (replicate n zero_digit ++ decimal k)

abbrev pub cases : List Case
cases =
    record { line = []; says = Bad }
    ∷ record { line = format_word; says = Format }
    ∷ record { line = format_word ++ (tab ∷ []); says = Bad }
    ∷ record { line = sync_word ++ field 1; says = Bad }
    ∷ record { line = put_word ++ field 40 ++ field 255; says = Put 40 255 }
    ∷ record { line = put_word ++ field 40 ++ field 256; says = Bad }
    ∷ record { line = put_word ++ field 40; says = Bad }
    ∷ record { line = put_word ++ field 40 ++ field 7 ++ field 7; says = Bad }
    ∷ record { line = get_word ++ field 4294967295; says = Get 4294967295 }
    ∷ record { line = get_word ++ field 4294967296; says = Bad }
    ∷ record { line = get_word ++ padded 8 40; says = Get 40 }
    ∷ record { line = get_word ++ padded 9 40; says = Bad }
    ∷ record { line = cut_word; says = Cut }
    ∷ record { line = cut_word ++ (tab ∷ []); says = Bad }
    ∷ record { line = cut_word ++ field 12; says = Cut }
    ∷ record { line = cut_word ++ padded 75 1; says = Cut }
    ∷ record { line = cut_word ++ padded 76 1; says = Bad }
    ∷ []
