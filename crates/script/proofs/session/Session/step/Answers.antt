-- `script::session::Session::step` meets its contract.
use native.Mathlib.Omega.{arith}
use lib.ListN.{take}
use Rattle.store.specs.CodeState.{state_of}
use Rattle.script.proofs.Sessions.{feed-lf, feed_byte}
use Rattle.script.proofs.session.Session.step.Goals as goal

pub returns-then-byte-eq10 : goal.returns-then-byte-eq10
returns-then-byte-eq10 c =
    let a = c.args in
    let st = state_of a.self.rec a.settled.now a.waiting.now a.work.now in (
      omega (arith, c.answer.ensures.0),
      c.answer.ensures.1,
      feed-lf a.byte _ (record { kept = take a.self.len a.line.now; state = st }) c.if-byte-eq10.true c.answer.ensures.2,
    )

pub returns : goal.returns
returns c =
    let a = c.args in
    let st = state_of a.self.rec a.settled.now a.waiting.now a.work.now in
    (c.keep-len.ensures.0, omega arith, feed_byte a.byte c.keep-len.result a.out.now c.keep-len.new.line (take a.self.len a.line.now) st c.if-byte-eq10.false c.keep-len.ensures.1)
