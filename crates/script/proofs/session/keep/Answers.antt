-- `script::session::keep` meets its contract.
use native.Mathlib.Omega.{arith}
use Rattle.script.proofs.Sessions.{keep_room, keep_full}
use Rattle.script.proofs.session.keep.Goals as goal

pub returns-then-len-eq-KEPT : goal.returns-then-len-eq-KEPT
returns-then-len-eq-KEPT c =
    let a = c.args in
    (omega arith, keep_full a.len a.byte a.line.now (omega arith) (omega arith))

pub returns : goal.returns
returns c =
    let a = c.args in
    (omega arith, keep_room a.len a.byte a.line.now (omega arith) (omega arith))
