-- `firmware::reads::trapcard_get` meets its contract. A place that is named was not refused, so its number is not asked for.
use Rattle.std.proofs.Common.{◌∙◌}
use Rattle.journal.specs.Geometry.{trap}
use Rattle.firmware.proofs.Faces.{got-length, got_named, got-done}
use Rattle.firmware.proofs.reads.trapcard_get.Goals as goal

pub returns-in-Err : goal.returns-in-Err
returns-in-Err c = rw (c.into.ensures, c.in-Err.ensures.1) (got-length trap _ _ _ _ _ c.in-Err.ensures.0)

pub returns-then-buffer-ne-NOWHERE : goal.returns-then-buffer-ne-NOWHERE
returns-then-buffer-ne-NOWHERE c = got_named trap _ _ _ _ _ _ _ _ _ c.in-Ok.ensures.0 c.in-Ok.ensures.1 c.get_place-place.ensures c.buffer_number.ensures c.buffer_offset.ensures c.if-buffer-ne-NOWHERE.true

pub returns : goal.returns
returns c = got-done trap _ _ _ _ _ _ _ _ _ _ c.in-Ok.ensures.0 c.in-Ok.ensures.1 c.get_place-place.ensures c.buffer_number.ensures c.buffer_offset.ensures (c.number.ensures ∙ c.check_get.ensures)
