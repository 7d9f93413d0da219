-- `cells::bytes::same` meets its contract: `==` answers by the same recursion.
use Rattle.std.proofs.Common.{◌∙◌}
use Rattle.cells.specs.Same.Laws.{same-bytes_eq}
use Rattle.cells.proofs.bytes.same.Goals as goal

pub returns : goal.returns
returns c = c.eq.ensures ∙ same-bytes_eq _ _
