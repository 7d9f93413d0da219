-- `firmware::costs::trapcard_apply_cost` meets its contract.
use Rattle.std.proofs.Common.{rules, ◌∙◌}
use Rattle.firmware.proofs.Faces.{asked-said}
use Rattle.firmware.proofs.costs.trapcard_apply_cost.Goals as goal

pub returns : goal.returns
returns c = c.tell.ensures ∙ asked-said _ _ _ _ _ _ _ _ (λ x p. search rules) c.decode.ensures c.and_then-apply_cost.ensures
