-- `journal::choice::choose` meets its contract.
use mathlib.Core.Path.{◌≡◌, sym, ◌∙◌}
use mathlib.Core.Bool.{false}
use Rattle.journal.specs.Geometry.{trap}
use Rattle.journal.specs.Choice.{foreign}
use Rattle.journal.proofs.Choices.{choose-foreign, choose_whole, choose_fallback, choose-neither}
use Rattle.journal.proofs.choice.choose.Goals as goal

pub returns-then-is_foreign : goal.returns-then-is_foreign
returns-then-is_foreign c =
    let a = c.args in
    sym (choose-foreign trap a.blocks a.settled.now c.header_of-h.result c.header_of-h.ensures (sym c.is_foreign.ensures ∙ c.if-is_foreign.true))

pub returns-then-good : goal.returns-then-good
returns-then-good c =
    let accepted : foreign trap c.args.blocks c.header_of-h.result ≡ false = sym c.is_foreign.ensures ∙ c.if-is_foreign.false in
    let a = c.args in
    sym (choose_whole trap a.blocks a.settled.now c.header_of-h.result c.header_of-h.ensures (accepted) (sym c.good.ensures ∙ c.if-good.true))

pub returns-then-good-2 : goal.returns-then-good-2
returns-then-good-2 c =
    let accepted : foreign trap c.args.blocks c.header_of-h.result ≡ false = sym c.is_foreign.ensures ∙ c.if-is_foreign.false in
    let a = c.args in
    sym (choose_fallback trap a.blocks a.settled.now c.header_of-h.result c.header_of-h.ensures (accepted)
    (sym c.good.ensures ∙ c.if-good.false) (sym c.good-2.ensures ∙ c.if-good-2.true))

pub returns : goal.returns
returns c =
    let accepted : foreign trap c.args.blocks c.header_of-h.result ≡ false = sym c.is_foreign.ensures ∙ c.if-is_foreign.false in
    let a = c.args in
    sym (choose-neither trap a.blocks a.settled.now c.header_of-h.result c.header_of-h.ensures (accepted)
    (sym c.good.ensures ∙ c.if-good.false) (sym c.good-2.ensures ∙ c.if-good-2.false))
