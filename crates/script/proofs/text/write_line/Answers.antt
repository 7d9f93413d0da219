-- `script::text::write_line` meets its contract.
use Prim.Native.Nat.{ℕ}
use mathlib.Core.Path.{ap, ◌∙◌}
use mathlib.Core.List.{List, [], ◌∷◌}
use native.Mathlib.Nat.{zero-add}
use lib.ListN.{length}
use lib.Seq.{sets}
use native.Mathlib.Omega.{arith}
use Rattle.script.specs.Fields.{tab}
use Rattle.script.specs.Answers.{lf, decimal, word_of, answer_line}
use Rattle.script.proofs.Texts.{line_done}
use Rattle.script.proofs.text.write_line.Goals as goal

pub returns : goal.returns
unfolding answer_line
returns c =
    let a = c.args in
    let done = line_done (word_of a.command) (tab ∷ decimal a.answer) (tab ∷ decimal a.third) (lf ∷ []) a.out.now c.append-first.new.out c.append_number-second.new.out c.append_number-last.new.out c.append.new.out c.append-first.result c.append_number-second.result c.append_number-last.result c.append.result (c.append-first.ensures.0 ∙ zero-add _ ∙ ap length c.word.ensures.1) (c.append-first.ensures.1 ∙ ap (λ (w : List ℕ). sets a.out.now 0 w) c.word.ensures.1) c.append_number-second.ensures.1 c.append_number-second.ensures.2 c.append_number-last.ensures.1 c.append_number-last.ensures.2 c.append.ensures.0 c.append.ensures.1 in
    (omega (arith, c.append-first.ensures.0, c.word.ensures.0, c.append_number-second.ensures.0, c.append_number-last.ensures.0, c.append.ensures.0), done.0, done.1)
