-- `card::queue::settle_marked` meets its contract. The invariant: of the first i waiting writes the kept bytes have settled.
use mathlib.Core.Path.{◌≡◌, refl, ap, sym, ◌∙◌}
use mathlib.Core.List.{[], ◌∷◌}
use native.Mathlib.Omega.{arith}
use lib.ListN.{length}
use Rattle.cells.specs.Upto.{up_to}
use Rattle.cells.specs.Entry.{entry_at}
use Rattle.card.specs.Card.{settle_kept}
use Rattle.card.proofs.Torn.{settle_kept_more, length-settle_kept}
use Rattle.card.proofs.queue.settle_marked.Goals as goal

pub loop-i-init : goal.loop-i-init
unfolding settle_kept
loop-i-init c = refl

pub settle_bytes-requires : goal.settle_bytes-requires
settle_bytes-requires c =
    let same : length c.loop-i.settled ≡ length c.args.settled.now = let a = c.args in
    ap length c.loop-i.invariant ∙ length-settle_kept a.marks.now 0 (up_to (entry_at a.waiting.now) c.loop-i.i) a.settled.now in
    let size = same in
    record {
      entry_bytes_in_bounds = omega arith;
      i_bound = omega (arith, c.requires.below c.loop-i.i c.loop-i-test.true);
      block_bytes_in_bounds = omega arith;
    }

pub loop-i-preserved : goal.loop-i-preserved
loop-i-preserved c =
    let a = c.args in
    let i = c.loop-i.i in
    let f = entry_at a.waiting.now in
    c.settle_bytes.ensures ∙ ap (settle_kept a.marks.now i (f i ∷ [])) c.loop-i.invariant ∙ sym (settle_kept_more a.marks.now f i a.settled.now)

pub shape_of-settled : goal.shape_of-settled
shape_of-settled c =
    let same : length c.loop-i.settled ≡ length c.args.settled.now = let a = c.args in
    ap length c.loop-i.invariant ∙ length-settle_kept a.marks.now 0 (up_to (entry_at a.waiting.now) c.loop-i.i) a.settled.now in
    same

pub returns : goal.returns
returns c =
    let a = c.args in
    let all : c.loop-i.i ≡ a.n = omega arith in
    c.loop-i.invariant ∙ rw all
