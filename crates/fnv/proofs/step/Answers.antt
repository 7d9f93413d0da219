-- `fnv::step` meets its contract: a step is the wrapped product.
use Rattle.fnv.specs.Fnv.{step}
use Rattle.fnv.proofs.step.Goals as goal

pub returns : goal.returns
unfolding step
returns c = c.mul_prime.ensures
