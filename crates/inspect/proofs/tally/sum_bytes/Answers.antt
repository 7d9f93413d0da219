-- `inspect::tally::sum_bytes` meets its contract: the sums of the chunks add up.
use Rattle.std.proofs.Common.{rules, ◌≡◌, ◌∙◌, arith, ◌/◌, ◌^◌, length}
use Rattle.std.proofs.lemmas.Iterator.{YieldsList-from_slice}
use Rattle.std.proofs.lemmas.Iterator.Adapters.{fits_from_length, at_most_from_yields_List}
use Rattle.std.specs.List.{sum_by}
use Rattle.std.specs.Simd.{first_chunks}
use Rattle.inspect.specs.Tally.{sum_bytes}
use Rattle.inspect.proofs.Sums.{chunks-sum, bytes_bound}
use Rattle.inspect.proofs.tally.sum_bytes.Goals as goal

pub sum-sum-requires-clause-fits : goal.sum-sum-requires-clause-fits
sum-sum-requires-clause-fits c =
    fits_from_length _ _ 8 (2 ^ 32) (at_most_from_yields_List (YieldsList-from_slice c.as_chunks.result.0.now cc) (omega (arith, c.as_chunks.ensures.front_len))) c.map.ensures.closure (omega arith)
    (λ x r q k. search rules)

pub returns : goal.returns
returns c =
    let b = c.args.block.now in
    let all : c.sum-sum.result ≡ sum_by sum_bytes (first_chunks 64 (length b / 64) b) = search rules in
    let value = all ∙ chunks-sum (length b / 64) b (omega arith) in
    let most = bytes_bound b (λ i l. omega (arith, c.type_inv.block i)) in
    record { value = value; upper_bound = omega (arith, value) }
