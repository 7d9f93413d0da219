-- `script::perform::read_marks` meets its contract.
use Prim.Native.Nat.{ℕ, ◌+◌, ◌*◌, ◌-◌}
use mathlib.Core.Path.{◌≡◌, ap, sym, ◌∙◌}
use native.Mathlib.Omega.{arith}
use lib.ListN.{take}
use Rattle.script.proofs.Replies.{marks_turn, marks_over}
use Rattle.script.proofs.perform.read_marks.Goals as goal

pub loop-i-preserved : goal.loop-i-preserved
loop-i-preserved c =
    let l = c.loop-i in
    let line = c.args.line.now in
    let at = 512 * l.i in
    marks_turn line l.marks c.fill.new.self l.i c.value_of.result (at + 512 - at) (omega arith) (omega arith) (omega arith) c.value_of.ensures (c.fill.ensures.after (λ y e. e)) ∙ l.invariant

pub returns : goal.returns
returns c =
    let l = c.loop-i in
    let line = c.args.line.now in
    let count = c.saturating_sub-count.result in
    let end : l.i ≡ count = omega arith in
    (omega arith, ap (λ (k : ℕ). take (512 * k) l.marks) (sym end) ∙ sym (marks_over line l.marks l.i (omega arith)) ∙ l.invariant)
