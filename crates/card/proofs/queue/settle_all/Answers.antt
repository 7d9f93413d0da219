-- `card::queue::settle_all` meets its contract. The invariant: the first i waiting writes have settled.
use mathlib.Core.Path.{◌≡◌, refl, ap, sym, ◌∙◌}
use native.Mathlib.Omega.{arith}
use mathlib.Core.List.{[], ◌∷◌}
use lib.ListN.{length}
use Rattle.cells.specs.Upto.{up_to}
use Rattle.cells.specs.Entry.{entry_at}
use Rattle.card.specs.Card.{settle}
use Rattle.card.proofs.Runs.{settle_more, length-settle}
use Rattle.card.proofs.queue.settle_all.Goals as goal

pub loop-i-init : goal.loop-i-init
unfolding settle
loop-i-init c = refl

pub settle_one-requires : goal.settle_one-requires
settle_one-requires c =
    let same : length c.loop-i.settled ≡ length c.args.settled.now = let a = c.args in
    ap length c.loop-i.invariant ∙ length-settle (up_to (entry_at a.waiting.now) c.loop-i.i) a.settled.now in
    let size = same in
    record {
      entry_bytes_in_bounds = omega arith;
      i_bound = omega (arith, c.requires.below c.loop-i.i c.loop-i-test.true);
    }

pub loop-i-preserved : goal.loop-i-preserved
loop-i-preserved c =
    let a = c.args in
    let f = entry_at a.waiting.now in
    c.settle_one.ensures ∙ ap (settle (f c.loop-i.i ∷ [])) c.loop-i.invariant ∙ sym (settle_more f c.loop-i.i a.settled.now)

pub shape_of-settled : goal.shape_of-settled
shape_of-settled c =
    let same : length c.loop-i.settled ≡ length c.args.settled.now = let a = c.args in
    ap length c.loop-i.invariant ∙ length-settle (up_to (entry_at a.waiting.now) c.loop-i.i) a.settled.now in
    same

pub returns : goal.returns
returns c =
    let a = c.args in
    let all : c.loop-i.i ≡ a.n = omega arith in
    c.loop-i.invariant ∙ rw all
