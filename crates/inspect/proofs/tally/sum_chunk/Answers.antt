-- `inspect::tally::sum_chunk` meets its contract: the library's `sum` of the bytes.
use Rattle.std.proofs.Common.{rules, arith, ◌≡◌, ◌∙◌}
use Rattle.std.proofs.iter.runs.Sources.{sums}
use Rattle.std.specs.List.{sum}
use Rattle.inspect.proofs.Sums.{bytes-sum, bytes_bound}
use Rattle.inspect.proofs.tally.sum_chunk.Goals as goal

pub sum-requires-clause-fits : goal.sum-requires-clause-fits
sum-requires-clause-fits c = search (rules, sums)

pub returns : goal.returns
returns c =
    let all : c.sum.result ≡ sum c.args.chunk.now = search rules in
    let value = all ∙ bytes-sum c.args.chunk.now in
    let most = bytes_bound c.args.chunk.now (λ i l. c.fits-chunk i) in
    record { value = value; upper_bound = omega (arith, value, c.told-chunk) }
