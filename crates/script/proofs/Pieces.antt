-- The laws of fields, words and digits: a loop meets one byte at a time, the one in front of what is left.
use Prim.Native.Nat.{ℕ, suc, ◌+◌, ◌*◌, ◌-◌, ◌^◌, ◌≤◌, ◌<◌}
use mathlib.Core.Path.{◌≡◌, refl, ap, sym, ◌∙◌}
use mathlib.Core.Bool.{Bool, true, false, cond, not, ◌&&◌, and-eq-true_iff}
use mathlib.Core.List.{List, [], ◌∷◌}
use native.Mathlib.Omega.{arith}
use borrow.Author.Tests.{ltb-true, ltb-false, leb-true, lt-leb}
use lib.Dec.{eqb, ltb, leb}
use lib.ListN.{length, take, drop, get_or}
use lib.Seq.{drop-cons, drop-length}
use Rattle.std.specs.Prelude.{Option, Some, None, Result, Ok, Err, OkIff, MatchOption, unwrap_or, position}
use Rattle.std.specs.Result.{result_ok}
use Rattle.std.specs.Bool.{then_some}
use Rattle.std.specs.List.{position_or_len, list_all}
use Rattle.std.proofs.lemmas.List.Recursion.{is_position_or_len}
use Rattle.std.specs.Str.{bytes_eq}
use Rattle.std.specs.Char.{is_ascii_digit}
use Rattle.cells.specs.Same.Laws.{same-bytes_eq}
use Rattle.cells.specs.Same.{same}
use Rattle.script.specs.declared.command.Command.{Command}
use Rattle.script.specs.declared.command.Command.TheVariants.{Bad}
use Rattle.script.specs.Fields.{tab, push, fields, to_tab}
use Rattle.script.specs.Numbers.{zero_digit, is_digit, all_digits, value_from, AtMost}
use Rattle.script.specs.Commands.{with_number, understood}

-- ---- the first tab

to_tab-position : (s : List ℕ) → to_tab s ≡ position_or_len (λ b. eqb b tab) s
unfolding to_tab
to_tab-position s = is_position_or_len to_tab (λ b. eqb b tab) refl (λ b t. ap (λ (n : ℕ). cond (eqb b tab) 0 n) (omega arith)) s

to_tab-le : (s : List ℕ) → to_tab s ≤ length s
unfolding to_tab
to_tab-le [] = omega arith
to_tab-le (b ∷ s) = go (eqb b tab) (to_tab-le s)
  where
    go : (t : Bool) → to_tab s ≤ length s → cond t 0 (suc (to_tab s)) ≤ suc (length s)
    go true h = omega arith
    go false h = omega arith

-- where the library's search finds it, and where it finds none
pub tab_at : (s : List ℕ) (i : ℕ) → position (λ b. eqb b tab) s ≡ Some i → (i ≡ to_tab s) × (i < length s)
tab_at s i h = go (ltb (position_or_len (λ b. eqb b tab) s) (length s)) refl h
  where
    go : (t : Bool) → ltb (position_or_len (λ b. eqb b tab) s) (length s) ≡ t → cond t (Some (position_or_len (λ b. eqb b tab) s)) None ≡ Some i → (i ≡ to_tab s) × (i < length s)
    go true q e =
        let at : position_or_len (λ b. eqb b tab) s ≡ i = ap (λ (o : Option ℕ). unwrap_or o 0) e in
        (sym (to_tab-position s ∙ at), omega (arith, ltb-true _ _ q))
    go false q e = absurd (grind arith)

pub no_tab : (s : List ℕ) → position (λ b. eqb b tab) s ≡ None → to_tab s ≡ length s
no_tab s h = to_tab-position s ∙ go (ltb (position_or_len (λ b. eqb b tab) s) (length s)) refl h
  where
    go : (t : Bool) → ltb (position_or_len (λ b. eqb b tab) s) (length s) ≡ t → cond t (Some (position_or_len (λ b. eqb b tab) s)) None ≡ None → position_or_len (λ b. eqb b tab) s ≡ length s
    go true q e = absurd (grind arith)
    go false q e = omega (arith, ltb-false _ _ q, to_tab-position s, to_tab-le s)

-- ---- fields

-- no tab: one field
pub fields-one : (s : List ℕ) → to_tab s ≡ length s → fields s ≡ s ∷ []
unfolding to_tab fields push
fields-one [] h = refl
fields-one (b ∷ s) h = go (eqb b tab) h (λ p. fields-one s p)
  where
    go : (t : Bool) → cond t 0 (suc (to_tab s)) ≡ suc (length s) → (to_tab s ≡ length s → fields s ≡ s ∷ [])
        → cond t ([] ∷ fields s) (push b (fields s)) ≡ (b ∷ s) ∷ []
    go true e rest = absurd (omega arith)
    go false e rest = rw (rest (omega arith))

-- a tab: the field before it, and those behind it
pub fields_more : (s : List ℕ) → to_tab s < length s → fields s ≡ take (to_tab s) s ∷ fields (drop (suc (to_tab s)) s)
unfolding to_tab fields push
fields_more [] h = elim h [ ]
fields_more (b ∷ s) h = go (eqb b tab) h (λ p. fields_more s p)
  where
    go : (t : Bool) → cond t 0 (suc (to_tab s)) < suc (length s)
        → (to_tab s < length s → fields s ≡ take (to_tab s) s ∷ fields (drop (suc (to_tab s)) s))
        → cond t ([] ∷ fields s) (push b (fields s)) ≡ take (cond t 0 (suc (to_tab s))) (b ∷ s) ∷ fields (drop (suc (cond t 0 (suc (to_tab s)))) (b ∷ s))
    go true e rest = refl
    go false e rest = rw (rest (omega arith))

-- ---- digits

pub all_digits-list_all : (s : List ℕ) → list_all is_ascii_digit s ≡ all_digits s
unfolding all_digits
all_digits-list_all [] = refl
all_digits-list_all (b ∷ s) = ap (λ (t : Bool). is_digit b && t) (all_digits-list_all s)

pub digits_here : (s : List ℕ) (i : ℕ) → i < length s → all_digits (drop i s) ≡ true → is_digit (get_or s i 0) ≡ true
unfolding all_digits
digits_here s i h e = ((and-eq-true_iff _ _).0 (rw (drop-cons s i 0 h) at e)).0

pub digits-behind : (s : List ℕ) (i : ℕ) → i < length s → all_digits (drop i s) ≡ true → all_digits (drop (suc i) s) ≡ true
unfolding all_digits
digits-behind s i h e = ((and-eq-true_iff (is_digit (get_or s i 0)) _).0 (rw (drop-cons s i 0 h) at e)).1

pub digit_bounds : (b : ℕ) → is_digit b ≡ true → (48 ≤ b) × (b ≤ 57)
digit_bounds b h =
    let both = (and-eq-true_iff (leb 48 b) (leb b 57)).0 h in
    (leb-true 48 b both.0, leb-true b 57 both.1)

pub value_on : (s : List ℕ) (i v : ℕ) → i < length s → value_from v (drop i s) ≡ value_from (10 * v + (get_or s i 0 - zero_digit)) (drop (suc i) s)
unfolding value_from
value_on s i v h = rw (drop-cons s i 0 h)

pub value_over : (s : List ℕ) (i v : ℕ) → i ≡ length s → value_from v (drop i s) ≡ v
unfolding value_from
value_over s i v h = let p : drop i s ≡ [] = rw h (drop-length s) in rw p

-- what `filter` says, where the closure answers as p
pub filtered : (o r : Option ℕ) (P : ℕ → Bool → Type 0) (p : ℕ → Bool) → ((x : ℕ) (b : Bool) → P x b → b ≡ p x)
    → MatchOption o (r ≡ None) (λ x. (b : Bool) × P x b × (r ≡ then_some b x)) → MatchOption o (r ≡ None) (λ x. r ≡ cond (p x) (Some x) None)
filtered None r P p t h = h
filtered (Some x) r P p t h = go h.0 h.2 (t x h.0 h.1)
  where
    go : (b : Bool) → r ≡ then_some b x → b ≡ p x → r ≡ cond (p x) (Some x) None
    go true e q = rw (sym q) e
    go false e q = rw (sym q) e

-- a value that fits 4 bytes, if it is no more than most
pub number-fits : {E : Type 0} (most n : ℕ) (q : Result ℕ E) (r : Option ℕ) → most < 2 ^ 32 → OkIff q (n < 2 ^ 32) n
    → MatchOption (result_ok q) (r ≡ None) (λ x. r ≡ cond (leb x most) (Some x) None) → r ≡ cond (leb n most) (Some n) None
number-fits most n (Ok x) r m f h = rw (sym f.1) h
number-fits most n (Err e) r m f h = let over : most < n = grind arith in rw (lt-leb n most over) h

pub number_at_most : (most n : ℕ) (r : Option ℕ) → r ≡ cond (leb n most) (Some n) None → AtMost most r
number_at_most most n r h = go (leb n most) refl h
  where
    go : (t : Bool) → leb n most ≡ t → r ≡ cond t (Some n) None → AtMost most r
    go true q e = rw e (leb-true n most q)
    go false q e = rw e tt

-- ---- words

-- what the library's `==` and `!=` say of a word
pub same_is : (s t : List ℕ) (r b : Bool) → r ≡ bytes_eq s t → r ≡ b → same s t ≡ b
same_is s t r b h e = sym (same-bytes_eq s t) ∙ sym h ∙ e

pub not_same : (s t : List ℕ) (r b : Bool) → r ≡ not (bytes_eq s t) → r ≡ b → same s t ≡ not b
not_same s t r b h e = sym (same-bytes_eq s t) ∙ go (bytes_eq s t) (sym h ∙ e)
  where
    go : (t : Bool) → not t ≡ b → t ≡ not b
    go true q = ap not q
    go false q = ap not q

-- ---- numbers in a line

pub with_number-map_or : (o : Option ℕ) (f : ℕ → Command) (r : Command) → MatchOption o (r ≡ Bad) (λ n. r ≡ f n) → r ≡ with_number o f
with_number-map_or None f r h = h
with_number-map_or (Some n) f r h = h

-- ---- a line in its fields

-- four fields or more say nothing
pub understood_many : (w x y q : List ℕ) → understood (w ∷ x ∷ y ∷ fields q) ≡ Bad
unfolding understood fields push
understood_many w x y [] = refl
understood_many w x y (b ∷ q) = go (eqb b tab) (fields q)
  where
    go : (t : Bool) (ps : List (List ℕ)) → understood (w ∷ x ∷ y ∷ cond t ([] ∷ ps) (push b ps)) ≡ Bad
    go true ps = refl
    go false [] = refl
    go false (p ∷ ps) = refl
