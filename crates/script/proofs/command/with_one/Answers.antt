-- `script::command::with_one` meets its contract.
use Prim.Native.Nat.{ℕ}
use mathlib.Core.Path.{sym, ◌∙◌}
use Rattle.script.specs.declared.command.Command.TheVariants.{Power, Get}
use Rattle.script.specs.Words.{power_word, get_word, cut_word}
use Rattle.script.specs.Commands.{with_one}
use Rattle.script.proofs.Pieces.{same_is, with_number-map_or}
use Rattle.script.proofs.command.with_one.Goals.{else-eq-3-via-then-eq-3+else-is_marks, else-eq-3-via-else-eq-3}
use Rattle.script.proofs.command.with_one.Goals as goal

pub returns-then-eq : goal.returns-then-eq
unfolding with_one
returns-then-eq c =
    let w = c.args.word.now in
    rw (same_is w power_word _ _ c.eq.ensures c.if-eq.true, ← c.to_number.ensures.0) (with_number-map_or _ (λ (k : ℕ). Power k) _ c.map_or.ensures)

pub returns-then-eq-2 : goal.returns-then-eq-2
unfolding with_one
returns-then-eq-2 c =
    let w = c.args.word.now in
    rw (same_is w power_word _ _ c.eq.ensures c.if-eq.false, same_is w get_word _ _ c.eq-2.ensures c.if-eq-2.true, ← c.to_number-then-eq-2.ensures.0) (with_number-map_or _ (λ (a : ℕ). Get a) _ c.map_or-then-eq-2.ensures)

pub returns-then-is_marks : goal.returns-then-is_marks
unfolding with_one
returns-then-is_marks c =
    let w = c.args.word.now in
    rw (same_is w power_word _ _ c.eq.ensures c.if-eq.false, same_is w get_word _ _ c.eq-2.ensures c.if-eq-2.false, same_is w cut_word _ _ c.eq-3.ensures c.if-eq-3.true, sym c.is_marks.ensures ∙ c.if-is_marks.true)

pub returns : goal.returns
unfolding with_one
returns c =
    let w = c.args.word.now in
    elim c.else-eq-3.branch [
      | else-eq-3-via-then-eq-3+else-is_marks v ↦
          rw (same_is w power_word _ _ c.eq.ensures c.if-eq.false, same_is w get_word _ _ c.eq-2.ensures c.if-eq-2.false, same_is w cut_word _ _ c.eq-3.ensures v.if-eq-3.true, sym v.is_marks.ensures ∙ v.if-is_marks.false)
      | else-eq-3-via-else-eq-3 v ↦
          rw (same_is w power_word _ _ c.eq.ensures c.if-eq.false, same_is w get_word _ _ c.eq-2.ensures c.if-eq-2.false, same_is w cut_word _ _ c.eq-3.ensures v.if-eq-3.false)
    ]
