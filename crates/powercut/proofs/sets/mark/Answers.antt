-- `powercut::sets::mark` meets its contract.
use Rattle.std.proofs.Common.{◌≡◌, refl, ap, ◌∙◌, Bool, true, false, cond}
use mir.Val.{bool_byte}
use Rattle.powercut.specs.Sets as Sets
use Rattle.powercut.proofs.sets.mark.Goals as goal

-- a kept write's mark is 1
marked : (b : Bool) → bool_byte b ≡ cond b 1 0
marked true = refl
marked false = refl

pub returns : goal.returns
unfolding Sets.mark
returns c = c.from.ensures ∙ ap bool_byte c.keeps.ensures ∙ marked _
