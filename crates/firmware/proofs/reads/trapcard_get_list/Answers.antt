-- `firmware::reads::trapcard_get_list` meets its contract.
use Rattle.std.proofs.Common.{ap, ◌∙◌}
use Rattle.journal.specs.Geometry.{trap}
use Rattle.store.specs.declared.record.Record.{Record}
use Rattle.store.specs.CodeState.{state_of}
use Rattle.store.specs.GetList.{listing}
use Rattle.firmware.proofs.Faces.{listed-length, listed-listing, told_slots}
use Rattle.firmware.proofs.reads.trapcard_get_list.Goals as goal

pub returns-in-Err : goal.returns-in-Err
returns-in-Err c = rw (c.into.ensures, c.in-Err.ensures.1) (listed-length trap _ _ _ _ _ _ c.in-Err.ensures.0)

pub returns : goal.returns
returns c =
    let a = c.args in
    told_slots _ _ _ _ c.number.ensures c.unwrap_or.ensures
    ∙ c.get_list-listed.ensures
    ∙ ap (λ (r : Record). listing trap a.addresses.now a.blocks.now (state_of r a.settled.now a.waiting.now a.work.now)) c.in-Ok.ensures.1
    ∙ listed-listing trap _ _ _ _ _ _ c.in-Ok.ensures.0
