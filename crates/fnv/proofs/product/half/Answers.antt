-- `fnv::product::half` meets its contract: the two quarters make up the whole.
use Rattle.std.proofs.Common.{◌^◌, arith}
use Rattle.fnv.specs.Fnv.{low}
use Rattle.fnv.proofs.Parts.{two_fit}
use Rattle.fnv.proofs.product.half.Goals as goal

pub returns : goal.returns
returns c = two_fit (2 ^ 16) (2 ^ 64) c.args.x low c.quarter-q0.ensures c.quarter-q1.ensures (omega arith)
