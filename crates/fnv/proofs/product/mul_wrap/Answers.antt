-- `fnv::product::mul_wrap` meets its contract: the two halves make up the whole, wrapped.
use Rattle.std.proofs.Common.{◌^◌, arith}
use Rattle.fnv.specs.Fnv.{low}
use Rattle.fnv.proofs.Table.{rule}
use Rattle.fnv.proofs.Parts.{two_wrap}
use Rattle.fnv.proofs.product.mul_wrap.Goals as goal

pub half-h0-requires : goal.half-h0-requires
half-h0-requires c = (rule, omega arith)

pub half-h1-requires : goal.half-h1-requires
half-h1-requires c = (rule, omega arith)

pub returns : goal.returns
returns c = two_wrap (2 ^ 32) (2 ^ 64) c.args.a low c.half-h0.ensures c.half-h1.ensures
