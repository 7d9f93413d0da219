-- `firmware::calls::trapcard_cut` meets its contract.
use Rattle.firmware.proofs.Faces.{faced-length, faced-told}
use Rattle.firmware.proofs.calls.trapcard_cut.Goals as goal

pub returns-in-Err : goal.returns-in-Err
returns-in-Err c = rw (c.into.ensures, c.in-Err.ensures.1) (faced-length _ _ _ _ _ c.in-Err.ensures.0)

pub returns : goal.returns
returns c = faced-told _ _ _ _ _ _ _ _ c.in-Ok.ensures.0 c.in-Ok.ensures.1 c.cut-cut.ensures (c.told.ensures _ _ _)
