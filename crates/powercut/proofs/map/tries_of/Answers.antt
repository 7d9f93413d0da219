-- `powercut::map::tries_of` meets its contract.
use mathlib.Core.Path.{ap, ◌∙◌}
use native.Mathlib.Omega.{arith}
use Rattle.journal.specs.Geometry.{trap}
use Rattle.powercut.specs.Tries.{try_count}
use Rattle.powercut.proofs.map.tries_of.Goals as goal

pub returns-then-n-gt-PLACES : goal.returns-then-n-gt-PLACES
unfolding trap
returns-then-n-gt-PLACES c p = absurd (omega (arith, p))

pub returns : goal.returns
returns c p = c.count.ensures ∙ ap (try_count _) c.tearable.ensures.0
