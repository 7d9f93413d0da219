-- `script::number::value` meets its contract.
use mathlib.Core.Path.{sym, ◌∙◌}
use native.Mathlib.Omega.{arith}
use native.Mathlib.Numerals.{add-one}
use native.Mathlib.Nat.{pow-suc}
use lib.ListN.{get_or}
use Rattle.script.proofs.Pieces.{digits_here, digits-behind, digit_bounds, value_on, value_over}
use Rattle.script.proofs.number.value.Goals as goal

pub overflow_sub-b : goal.overflow_sub-b
overflow_sub-b c =
    let l = c.loop-b in
    let s = c.args.s.now in
    omega (arith, digit_bounds (get_or s l.b-index 0) (digits_here s l.b-index (omega arith) l.invariant.1))

pub loop-b-preserved : goal.loop-b-preserved
loop-b-preserved c =
    let l = c.loop-b in
    let s = c.args.s.now in
    let digit = digit_bounds (get_or s l.b-index 0) (digits_here s l.b-index (omega arith) l.invariant.1) in (
      rw (add-one, pow-suc) (omega (arith, digit.1)),
      rw (add-one) (digits-behind s l.b-index (omega arith) l.invariant.1),
      rw (add-one, c.from.ensures) (sym (value_on s l.b-index l.v (omega arith)) ∙ l.invariant.2),
    )

pub returns : goal.returns
returns c = let l = c.loop-b in sym (value_over c.args.s.now l.b-index l.v (omega arith)) ∙ l.invariant.2
