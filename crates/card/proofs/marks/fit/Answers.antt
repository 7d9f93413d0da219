-- `card::marks::fit` meets its contract.
use Rattle.std.proofs.Common.{◌≡◌, ◌*◌, ◌∙◌, length, eq-eqb, ne_eqb, arith}
use Rattle.cells.specs.Upto.Laws.{length-up_to}
use Rattle.cells.specs.Entry.{block_bytes, entry_at}
use Rattle.card.specs.Marks.{marks_for, marks_fit}
use Rattle.card.proofs.marks.fit.Goals as goal
use Rattle.card.proofs.marks.fit.Goals.{then-marks-n, else-marks-n}

pub returns-then-not-over_one : goal.returns-then-not-over_one
unfolding marks_fit marks_for
returns-then-not-over_one c =
    let a = c.args in
    let counted : c.if-marks-n.value ≡ marks_for a.marks.now a.count = elim c.if-marks-n.branch [
      | then-marks-n w ↦ w.value-is ∙ rw (eq-eqb (length a.marks.now) (block_bytes * a.count) (omega arith), w.over_one.ensures)
      | else-marks-n w ↦ w.value-is ∙ rw (ne_eqb (length a.marks.now) (block_bytes * a.count) (λ e. omega arith))
    ] in
    rw (length-up_to (entry_at a.waiting.now) a.count, ← counted, c.if-not-over_one.true) c.headers_whole.ensures

pub returns-else-not-over_one : goal.returns-else-not-over_one
unfolding marks_fit marks_for
returns-else-not-over_one c =
    let a = c.args in
    let counted : c.if-marks-n.value ≡ marks_for a.marks.now a.count = elim c.if-marks-n.branch [
      | then-marks-n w ↦ w.value-is ∙ rw (eq-eqb (length a.marks.now) (block_bytes * a.count) (omega arith), w.over_one.ensures)
      | else-marks-n w ↦ w.value-is ∙ rw (ne_eqb (length a.marks.now) (block_bytes * a.count) (λ e. omega arith))
    ] in
    rw (length-up_to (entry_at a.waiting.now) a.count, ← counted, c.if-not-over_one.false)
