-- The laws of what is written: digits, and bytes behind bytes.
use Prim.Native.Nat.{ℕ, zero, suc, ◌+◌, ◌*◌, ◌/◌, ◌%◌, ◌^◌, ◌≤◌, ◌<◌}
use mathlib.Core.Path.{◌≡◌, refl, sym, ap, ◌∙◌}
use mathlib.Core.Bool.{Bool, true, false, cond}
use mathlib.Core.List.{List, [], ◌∷◌, ◌++◌}
use native.Mathlib.Omega.{arith}
use native.Mathlib.Nat.{pow-suc, zero-add}
use native.Mathlib.Numerals.{add-one}
use borrow.Author.Tests.{eqb-true, eqb-false}
use lib.Dec.{eqb}
use lib.ListN.{length, length-append}
use lib.Seq.{sets}
use Rattle.std.specs.Fmt.{decimal as printed}
use Rattle.std.proofs.lemmas.Fmt.{decimal_digit, decimal_step}
use Rattle.script.specs.Numbers.{zero_digit}
use Rattle.cells.specs.Cell.Laws.{sets-append}
use Rattle.script.specs.Fields.{tab}
use Rattle.script.specs.Answers.{digits, decimal}

-- ---- digits

-- the library prints them
digits_printed : (k n : ℕ) → n < 10 ^ suc k → n < 2 ^ 64 → printed n ≡ digits k (n / 10) ++ ((zero_digit + n % 10) ∷ [])
unfolding digits
digits_printed zero n h l =
    let one : n < 10 = omega arith in
    let last : n % 10 ≡ n = omega arith in
    rw last (decimal_digit n one)
digits_printed (suc k) n h l = go (eqb (n / 10) 0) refl (λ m. digits_printed k (n / 10) m (omega arith))
  where
    go : (t : Bool) → eqb (n / 10) 0 ≡ t → (n / 10 < 10 ^ suc k → printed (n / 10) ≡ digits k (n / 10 / 10) ++ ((zero_digit + n / 10 % 10) ∷ []))
        → printed n ≡ cond t [] (digits k (n / 10 / 10) ++ ((zero_digit + n / 10 % 10) ∷ [])) ++ ((zero_digit + n % 10) ∷ [])
    go true q more =
        let none : n / 10 ≡ 0 = eqb-true _ _ q in
        let one : n < 10 = omega arith in
        let last : n % 10 ≡ n = omega arith in
        rw last (decimal_digit n one)
    go false q more =
        let some : n / 10 ≡ 0 → ⊥ = eqb-false _ _ q in
        let ten : 10 ≤ n = omega arith in
        let less : n < 10 ^ suc k * 10 = rw (pow-suc) at h in
        rw (← more (omega arith)) (decimal_step n ten l)

pub decimal_printed : (n : ℕ) → n < 2 ^ 32 → printed n ≡ decimal n
unfolding decimal
decimal_printed n h = digits_printed 9 n (omega arith) (omega arith)

-- ---- bytes behind bytes

-- a tab, then the digits
pub number_done : (at n r q : ℕ) (s t u d : List ℕ) → d ≡ decimal n → length d ≤ 10
    → r ≡ at + 1 → t ≡ sets s at (tab ∷ [])
    → q ≡ r + length d → u ≡ sets t r d
    → (q ≤ at + 11) × (q ≡ at + length (tab ∷ decimal n)) × (u ≡ sets s at (tab ∷ decimal n))
number_done at n r q s t u d hd l hr ht hq hu =
    let e : length d ≡ length (decimal n) = ap length hd in
    (omega arith, omega arith, hu ∙ rw (hd, ht, hr, add-one))

-- bytes behind those in front
sets-front : (u v s : List ℕ) → sets s 0 (u ++ v) ≡ sets (sets s 0 u) (length u) v
sets-front u v s = rw (sets-append u v s 0, zero-add)

-- the line
pub line_done : (w a b z s t u v x : List ℕ) (i j k m : ℕ) → i ≡ length w → t ≡ sets s 0 w
    → j ≡ i + length a → u ≡ sets t i a
    → k ≡ j + length b → v ≡ sets u j b
    → m ≡ k + length z → x ≡ sets v k z
    → (m ≡ length (w ++ a ++ b ++ z)) × (x ≡ sets s 0 (w ++ a ++ b ++ z))
line_done w a b z s t u v x i j k m hi ht hj hu hk hv hm hx = (
  rw (length-append, length-append, length-append) (omega arith),
  hx
      ∙ rw (hk, hv, hj, hu, hi, ht)
      (sym (rw (sets-front (w ++ a ++ b) z s, sets-front (w ++ a) b s, sets-front w a s, length-append (w ++ a) b, length-append w a))),
)
