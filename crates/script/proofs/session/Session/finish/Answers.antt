-- `script::session::Session::finish` meets its contract.
use Prim.Native.Nat.{min}
use mathlib.Core.Path.{◌≡◌, ap, ◌∙◌}
use native.Mathlib.Omega.{arith}
use lib.ListN.{length}
use Rattle.store.specs.CodeState.{state_of}
use Rattle.script.specs.declared.session.Session.{Session}
use Rattle.script.specs.Commands.{kept_bytes}
use Rattle.script.specs.Steps.{answer}
use Rattle.script.specs.CodeSession.{session_of}
use Rattle.script.proofs.Sessions.{finish_none, finish-some, answer_within}
use Rattle.script.proofs.session.Session.finish.Goals as goal

pub returns-then-self-eq0 : goal.returns-then-self-eq0
returns-then-self-eq0 c =
    let a = c.args in
    (omega arith, finish_none a.printed.now a.line.now a.self.len (state_of a.self.rec a.settled.now a.waiting.now a.work.now) c.if-self-eq0.true)

pub answer-requires : goal.answer-requires
answer-requires c =
    let a = c.args in
    let len : c.within.result.len ≡ min a.self.len kept_bytes = ap (λ (s : Session). s.len) c.within.ensures in
    record {
      len_le_kept_bytes = (omega arith, omega (arith, c.answer-arg-1.given));
      answer_bytes_in_bounds = omega (arith, c.answer-arg-5-1.given);
    }

pub returns : goal.returns
returns c =
    let a = c.args in
    let line : length a.line.now ≡ kept_bytes = c.answer-arg-1.given in
    let st = state_of a.self.rec a.settled.now a.waiting.now a.work.now in
    (omega (arith, c.answer.ensures.1), finish-some a.self.len a.line.now _ st c.if-self-eq0.false line (c.answer.ensures.2 ∙ ap (λ (s : Session). answer (session_of s.len a.line.now s.rec a.settled.now a.waiting.now a.work.now)) c.within.ensures ∙ answer_within a.self.len a.line.now st line))
