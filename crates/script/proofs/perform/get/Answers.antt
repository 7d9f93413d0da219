-- `script::perform::get` meets its contract.
use mathlib.Core.Path.{refl, ◌∙◌}
use Rattle.store.specs.CodeState.{state_of}
use Rattle.script.proofs.Replies.{got-done}
use Rattle.script.proofs.perform.get.Goals as goal

pub returns : goal.returns
returns c =
    let a = c.args in
    let st = state_of a.rec a.settled.now a.waiting.now a.work.now in
    got-done a.address c.number-number.result c.first-third.result st c.get.result a.settled a.waiting a.work refl refl refl (c.number-number.ensures ∙ c.check_get.ensures) c.get.ensures c.first-third.ensures
