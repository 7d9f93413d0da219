-- `script::session::Session::answer` meets its contract.
use Prim.Native.Nat.{◌≤◌}
use mathlib.Core.Path.{refl, sym}
use native.Mathlib.Omega.{arith}
use lib.ListN.{length, take}
use lib.Seq.{length-take-le}
use Rattle.store.specs.CodeState.{state_of}
use Rattle.script.specs.CodeSession.{reply_of}
use Rattle.script.proofs.Sessions.{answered-step}
use Rattle.script.proofs.session.Session.answer.Goals as goal

pub slice_bounds-whole-end : goal.slice_bounds-whole-end
slice_bounds-whole-end c =
    let a = c.args in
    sym (length-take-le a.self.len a.line.now (omega arith))

pub perform-number-requires : goal.perform-number-requires
perform-number-requires c =
    let a = c.args in
    let fits : a.self.len ≤ length a.line.now = omega arith in
    rw (length-take-le a.self.len a.line.now fits) c.requires.len_le_kept_bytes.0

pub returns : goal.returns
returns c =
    let a = c.args in
    let st = state_of a.self.rec a.settled.now a.waiting.now a.work.now in
    let r = reply_of c.perform-number.result.number c.perform-number.result.third c.perform-number.result.rec c.perform-number.new.settled c.perform-number.new.waiting c.perform-number.new.work in
    (refl, c.write_line-print.ensures.0, answered-step c.parse-command.result (take a.self.len a.line.now) a.out.now c.write_line-print.new.out a.line.now c.write_line-print.result st r c.parse-command.ensures c.perform-number.ensures c.requires.answer_bytes_in_bounds c.write_line-print.ensures.0 c.write_line-print.ensures.1 c.write_line-print.ensures.2)
