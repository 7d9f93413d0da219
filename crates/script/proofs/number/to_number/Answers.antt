-- `script::number::to_number` meets its contract.
use Prim.Native.Nat.{◌<◌, ◌≤◌}
use mathlib.Core.Path.{◌≡◌, sym, ◌∙◌}
use mathlib.Core.Bool.{cond}
use native.Mathlib.Omega.{arith}
use borrow.Author.Tests.{le-leb, lt-leb}
use lib.Dec.{leb}
use lib.ListN.{length}
use Rattle.std.specs.Prelude.{Some, None}
use Rattle.std.proofs.Common.{rules, tests}
use Rattle.script.specs.Numbers.{number_of}
use Rattle.script.proofs.Pieces.{filtered, number-fits, number_at_most}
use Rattle.script.proofs.number.to_number.Goals.{then-is_empty-via-then-is_empty, then-is_empty-via-else-is_empty+then-s-gt-DIGITS, then-is_empty-via-else-is_empty+else-s-gt-DIGITS+then-not-all_digits}
use Rattle.script.proofs.number.to_number.Goals as goal

pub returns-then-is_empty : goal.returns-then-is_empty
unfolding number_of
returns-then-is_empty c =
    let n = length c.args.s.now in
    elim c.then-is_empty.branch [
      | then-is_empty-via-then-is_empty w ↦ let none : n < 1 = grind arith in (rw (lt-leb _ _ none), tt)
      | then-is_empty-via-else-is_empty+then-s-gt-DIGITS w ↦
          let some : 1 ≤ n = grind arith in
          let long : 10 < n = omega arith in
          (rw (le-leb _ _ some, lt-leb _ _ long), tt)
      | then-is_empty-via-else-is_empty+else-s-gt-DIGITS+then-not-all_digits w ↦
          let some : 1 ≤ n = grind arith in
          let short : n ≤ 10 = omega arith in
          (rw (le-leb _ _ some, le-leb _ _ short, sym w.all_digits.ensures ∙ w.if-not-all_digits.true), tt)
    ]

pub returns : goal.returns
unfolding number_of
returns c =
    let a = c.args in
    let n = length a.s.now in
    let some : 1 ≤ n = grind arith in
    let short : n ≤ 10 = omega arith in
    let kept = filtered c.ok.result c.filter.result _ (λ x. leb x a.most) (λ x b h. search (rules, tests)) c.filter.ensures in
    let fits : c.filter.result ≡ cond (leb c.value.result a.most) (Some c.value.result) None = number-fits a.most c.value.result c.try_from.result c.filter.result c.ranges.most.fits c.try_from.ensures (rw c.ok.ensures.value at kept) in
    (rw (le-leb _ _ some, le-leb _ _ short, sym c.all_digits.ensures ∙ c.if-not-all_digits.false, ← c.value.ensures) fits, number_at_most a.most c.value.result c.filter.result fits)
