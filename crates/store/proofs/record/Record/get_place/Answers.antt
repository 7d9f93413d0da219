-- `store::record::Record::get_place` meets its contract.
use Rattle.std.proofs.Common.{◌∙◌, sym, refl, arith}
use Rattle.refusals.proofs.Nonzero.{answer_err, answer_ok}
use Rattle.journal.specs.Geometry.{trap}
use Rattle.store.specs.Request.{get}
use Rattle.store.specs.Get.{get_place}
use Rattle.store.proofs.Causes.{passes_sound, passes_waits}
use Rattle.store.proofs.record.Record.get_place.Goals as goal

pub returns-then-is_err : goal.returns-then-is_err
unfolding get_place
returns-then-is_err c = rw (← c.check_get.ensures, answer_err c.check_get.result (sym c.is_err.ensures.value ∙ c.if-is_err.true))

pub newest-requires : goal.newest-requires
newest-requires c =
    let passed = answer_ok c.check_get.result (sym c.is_err.ensures.value ∙ c.if-is_err.false) in
    let s = passes_sound trap (get c.args.address) _ _ refl c.check_get.ensures passed in
    let few = passes_waits trap (get c.args.address) _ _ refl refl c.check_get.ensures passed in
    omega (arith, trap.queued)

pub returns : goal.returns
unfolding get_place
returns c = rw (← c.check_get.ensures, answer_ok c.check_get.result (sym c.is_err.ensures.value ∙ c.if-is_err.false)) c.newest.ensures
