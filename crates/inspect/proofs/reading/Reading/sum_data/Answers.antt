-- `inspect::reading::Reading::sum_data` meets its contract. The invariant: the sum is that of the home blocks with each slot below i laid over
-- that is the last with its address, and at most a block's bytes have come on top for each.
use mathlib.Core.Path.{◌≡◌, sym, ◌∙◌}
use mathlib.Core.Bool.{true≢false}
use native.Mathlib.Omega.{arith}
use Rattle.journal.specs.Geometry.{trap}
use Rattle.journal.specs.Log.{slot_address}
use Rattle.journal.proofs.Logs.{data_bounds}
use Rattle.inspect.proofs.Corrections.{Decides, sum_none, sum-all, home_counted, slot_corrected, slot_passed}
use Rattle.inspect.proofs.reading.Reading.sum_data.Goals.{then-decides, else-decides}
use Rattle.inspect.proofs.reading.Reading.sum_data.Goals as goal

pub loop-i-init : goal.loop-i-init
loop-i-init c =
    let a = c.args.self.now in
    (c.sum_homes-sum.ensures.value ∙ sum_none trap a.settled.now a.blocks a.count, omega arith)

pub corrected-sum-requires : goal.corrected-sum-requires
corrected-sum-requires c =
    let decided : let a = c.args.self.now in Decides trap a.settled.now a.blocks a.count c.loop-i.i = c.decides.ensures.0 c.if-decides.true in
    let d = decided in
    let l = c.loop-i in
    let a = c.args.self.now in
    let b = data_bounds trap a.blocks (slot_address a.settled.now l.i) d.0 in
    let home = home_counted trap a.settled.now a.blocks a.count l.i d in
    record {
      i_lt_slots = omega arith;
      i_bound = omega arith;
      i_bound_2 = omega arith;
      block_bytes_bound = omega arith;
    }

pub loop-i-preserved : goal.loop-i-preserved
loop-i-preserved c =
    let l = c.loop-i in
    let a = c.args.self.now in
    let s = a.settled.now in
    let told = c.decides.ensures in
    elim c.if-decides.branch [
      | then-decides w ↦ (w.sum-is ∙ slot_corrected trap s a.blocks a.count l.i l.sum _ (told.0 w.if-decides.true) l.invariant.0 w.corrected-sum.ensures.i_value, omega (arith, w.sum-is, w.corrected-sum.ensures.upper_bound))
      | else-decides w ↦ (w.sum-is ∙ l.invariant.0 ∙ slot_passed trap s a.blocks a.count l.i (λ d. true≢false (sym (told.1 d) ∙ w.if-decides.false)), omega (arith, w.sum-is))
    ]

pub returns : goal.returns
returns c =
    let l = c.loop-i in
    let a = c.args.self.now in
    let over : l.i ≡ a.count = omega arith in
    rw over at l.invariant.0 ∙ sum-all trap a.settled.now a.blocks a.count
