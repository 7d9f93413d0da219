-- `fnv::product::quarter` meets its contract: the four multiples at their places make up the whole.
use Rattle.fnv.proofs.Parts.{half-bytes}
use Rattle.fnv.proofs.product.quarter.Goals as goal

pub returns : goal.returns
returns c =
    half-bytes
    c.multiple-p0.ensures
    c.multiple-p1.ensures
    c.multiple-p2.ensures
    c.multiple-p3.ensures
    c.requires.1
