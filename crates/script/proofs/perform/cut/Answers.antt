-- `script::perform::cut` meets its contract.
use Prim.Native.Nat.{ℕ}
use mathlib.Core.Path.{sym, ap, ◌∙◌}
use mathlib.Core.List.{List}
use native.Mathlib.Omega.{arith}
use lib.Seq.{length-take-le}
use Rattle.store.specs.CodeState.{state_of}
use Rattle.store.specs.Cut.{cut_call}
use Rattle.journal.specs.Geometry.{trap}
use Rattle.script.specs.Replies.{called}
use Rattle.script.proofs.perform.cut.Goals as goal

pub slice_bounds-cut-end : goal.slice_bounds-cut-end
slice_bounds-cut-end c = sym (length-take-le c.read_marks-count.result c.read_marks-count.new.marks (omega (arith, c.read_marks-count.ensures.0, c.read_marks-count.auto.marks)))

pub returns : goal.returns
returns c =
    let a = c.args in
    let st = state_of a.rec a.settled.now a.waiting.now a.work.now in
    c.called.ensures _ _ _ ∙ (ap called (c.cut.ensures ∙ ap (λ (ms : List ℕ). cut_call trap ms st) c.read_marks-count.ensures.1))
