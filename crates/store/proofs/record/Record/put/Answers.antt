-- `store::record::Record::put` meets its contract.
use Rattle.std.proofs.Common.{rules, arith, ◌≡◌, ◌∙◌, refl, ap}
use Rattle.std.specs.Prelude.{Err}
use Rattle.journal.specs.Geometry.{trap}
use Rattle.store.specs.Request.{put}
use Rattle.store.specs.Outcomes.{completed}
use Rattle.store.specs.Put.{put_call}
use Rattle.store.proofs.Calls.{call_refused, call_done}
use Rattle.store.proofs.Causes.{passes_sound}
use Rattle.store.proofs.record.Record.put.Goals as goal

pub returns-in_err-check_put : goal.returns-in_err-check_put
unfolding put_call
returns-in_err-check_put c =
    let left : c.from_residual.result ≡ Err c.in_err-check_put.field-0.0 = search rules in
    rw left (call_refused _ _ _ _ c.in_err-check_put.ensures)

pub put_entry-requires-clause-slots_in_bounds : goal.put_entry-requires-clause-slots_in_bounds
put_entry-requires-clause-slots_in_bounds c =
    let s = passes_sound trap (put c.args.address c.args.block.now) _ 0 refl c.in_ok-check_put.ensures refl in
    omega arith

pub put_entry-requires-clause-opened_le_slots : goal.put_entry-requires-clause-opened_le_slots
put_entry-requires-clause-opened_le_slots c =
    let s = passes_sound trap (put c.args.address c.args.block.now) _ 0 refl c.in_ok-check_put.ensures refl in
    omega arith

pub returns : goal.returns
unfolding put_call
returns c = ap completed (c.put_entry.ensures _ _) ∙ call_done _ _ _ _ c.in_ok-check_put.ensures refl
