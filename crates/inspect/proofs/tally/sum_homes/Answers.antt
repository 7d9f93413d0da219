-- `inspect::tally::sum_homes` meets its contract: the library's `sum` of the data blocks' sums.
use Rattle.std.proofs.Common.{rules, ◌≡◌, ◌∙◌, ◌-◌, ◌*◌, ◌^◌, arith, refl}
use Rattle.std.proofs.lemmas.Iterator.{YieldsList-from_range, YieldsList-from_map}
use Rattle.std.proofs.lemmas.Iterator.Adapters.{fits_from_length, at_most_from_yields_List}
use Rattle.std.proofs.lemmas.Iterator.Consumers.{sum_from_yields_List}
use Rattle.std.proofs.lemmas.List.FromFn.{length-range_with_len}
use Rattle.cells.specs.Entry.{block_bytes}
use Rattle.card.specs.Card.{block_at}
use Rattle.journal.specs.Geometry.{trap}
use Rattle.inspect.specs.Tally.{sum_bytes, sum_data}
use Rattle.inspect.proofs.Sums.{homes-sum, homes_bound, block_bound}
use Rattle.inspect.proofs.tally.sum_homes.Goals as goal

pub sum-requires-clause-fits : goal.sum-requires-clause-fits
unfolding trap
sum-requires-clause-fits c =
    let n = c.args.blocks in
    let few = length-range_with_len 34 (n - 34) in
    let small = c.ranges.blocks.fits in
    fits_from_length _ _ (2 ^ 32) (2 ^ 64) (at_most_from_yields_List (YieldsList-from_range 34 n (n - 34) c.map.ensures.source refl) (omega arith)) c.map.ensures.closure (omega arith) (λ x r q k. search rules)

pub returns : goal.returns
unfolding trap
returns c =
    let n = c.args.blocks in
    let s = c.args.settled.now in
    let value : c.sum.result ≡ sum_data trap (block_at s) (n - 34) =
    sum_from_yields_List c.map.result _ c.sum.ensures.ran
    (YieldsList-from_map _ (λ a. sum_bytes (block_at s a)) (YieldsList-from_range 34 n (n - 34) c.map.ensures.source refl) c.map.ensures.closure (λ x r q k. search rules))
    ∙ homes-sum trap (block_at s) (n - 34) in
    let most = homes_bound trap (block_at s) (n - 34) (255 * block_bytes) (λ i l. block_bound s _ (λ j. omega (arith, c.type_inv.settled j)) (omega arith)) in
    record { value = value; upper_bound = omega (arith, value) }
