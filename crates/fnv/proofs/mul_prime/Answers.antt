-- `fnv::mul_prime` meets its contract: the two parts of the factor make up the whole, wrapped.
use Rattle.std.proofs.Common.{◌^◌}
use Rattle.fnv.specs.Fnv.{low}
use Rattle.fnv.proofs.Parts.{two_factors}
use Rattle.fnv.proofs.mul_prime.Goals as goal

pub returns : goal.returns
returns c = two_factors (2 ^ 64) c.args.a low (2 ^ 40) c.mul_wrap.ensures
