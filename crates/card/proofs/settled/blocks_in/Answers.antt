-- `card::settled::blocks_in` meets its contract.
use mathlib.Core.Path.{refl}
use Rattle.card.proofs.settled.blocks_in.Goals as goal

pub returns : goal.returns
returns c = refl
