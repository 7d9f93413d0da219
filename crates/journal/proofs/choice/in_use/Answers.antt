-- `journal::choice::in_use` meets its contract.
use Rattle.std.proofs.Common.{sym, ◌∙◌}
use Rattle.journal.specs.Geometry.{trap}
use Rattle.journal.proofs.Choices.{foreign_unused, ours_used}
use Rattle.journal.proofs.choice.in_use.Goals as goal

pub returns-then-not-is_foreign : goal.returns-then-not-is_foreign
returns-then-not-is_foreign c =
    let a = c.args in
    sym (ours_used trap a.blocks a.settled.now c.header_of-head.result c.header_of-head.ensures (sym c.is_foreign.ensures ∙ c.if-not-is_foreign.true))

pub returns-else-not-is_foreign : goal.returns-else-not-is_foreign
returns-else-not-is_foreign c =
    let a = c.args in
    rw c.if-not-is_foreign.false
    (sym (foreign_unused trap a.blocks a.settled.now c.header_of-head.result c.header_of-head.ensures (sym c.is_foreign.ensures ∙ c.if-not-is_foreign.false)))
