-- `firmware::reads::trapcard_alike` meets its contract.
use Rattle.journal.specs.Geometry.{trap}
use Rattle.firmware.proofs.Faces.{compared-said}
use Rattle.firmware.proofs.reads.trapcard_alike.Goals as goal

pub returns : goal.returns
returns c = compared-said trap _ _ _ _ _ _ c.alike-alike.ensures c.number.ensures c.unwrap_or.ensures c.from.ensures
