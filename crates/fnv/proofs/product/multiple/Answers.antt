-- `fnv::product::multiple` meets its contract: by the table's rule.
use Rattle.std.proofs.Common.{arith}
use Rattle.fnv.proofs.product.multiple.Goals as goal

pub overflow_cast-result-2 : goal.overflow_cast-result-2
overflow_cast-result-2 c = record { fits = omega (arith, c.requires.0 c.args.digit c.requires.1) }

pub returns : goal.returns
returns c = c.requires.0 c.args.digit c.requires.1
