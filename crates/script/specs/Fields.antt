-- "a word, then tab-parted fields"
use Rattle.std.specs.Prelude.{ℕ, suc, cond, List, [], ◌∷◌, Option, Some, None, eqb}
use Rattle.std.specs.Borrow.{Bor}

abbrev pub tab : ℕ
tab = 9

-- a byte in front of the first of some pieces
unfoldable pub push : ℕ → List (List ℕ) → List (List ℕ)
push b [] = (b ∷ []) ∷ []
push b (p ∷ ps) = (b ∷ p) ∷ ps

-- what the tabs of a line part; a tab at the end is followed by an empty field
unfoldable pub fields : List ℕ → List (List ℕ)
fields [] = [] ∷ []
fields (b ∷ s) = cond (eqb b tab) ([] ∷ fields s) (push b (fields s))

-- what stands behind a field's tab, in its fields; nothing where there is no tab
abbrev pub behind : Option (Bor (List ℕ)) → List (List ℕ)
behind None = []
behind (Some s) = fields s.now

-- how many bytes stand before the first tab
unfoldable pub to_tab : List ℕ → ℕ
to_tab [] = 0
to_tab (b ∷ s) = cond (eqb b tab) 0 (suc (to_tab s))
