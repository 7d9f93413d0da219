-- `script::perform::put` meets its contract.
use mathlib.Core.Path.{ap, ◌∙◌}
use Rattle.script.specs.Replies.{called}
use Rattle.script.proofs.perform.put.Goals as goal

pub returns : goal.returns
returns c = c.called.ensures _ _ _ ∙ (ap called c.put.ensures)
