-- `script::session::Session::feed` meets its contract.
use Prim.Native.Nat.{min}
use mathlib.Core.Path.{◌≡◌, ap, ◌∙◌}
use native.Mathlib.Omega.{arith}
use lib.ListN.{length, take}
use Rattle.store.specs.CodeState.{state_of}
use Rattle.script.specs.declared.session.Session.{Session}
use Rattle.script.specs.Commands.{kept_bytes}
use Rattle.script.specs.Steps.{fed_bytes, fed}
use Rattle.script.specs.CodeSession.{session_of}
use Rattle.script.proofs.Sessions.{fed_within}
use Rattle.script.proofs.session.Session.feed.Goals as goal

pub run-requires : goal.run-requires
run-requires c =
    let a = c.args in
    let len : c.within.result.len ≡ min a.self.len kept_bytes = ap (λ (s : Session). s.len) c.within.ensures in
    record {
      len_le_kept_bytes = (omega arith, omega (arith, c.run-arg-2-1.given));
      count_in_bounds = (omega (arith, c.min-end.ensures, c.run-arg-1.given), omega (arith, c.min-end.ensures, c.run-arg-6-1.given));
    }

pub returns : goal.returns
returns c =
    let a = c.args in
    let bytes : length a.bytes.now ≡ fed_bytes = c.run-arg-1.given in
    let line : length a.line.now ≡ kept_bytes = c.run-arg-2-1.given.0.1 in (
      omega (arith, c.run.ensures.0, c.min-end.ensures),
      c.run.ensures.1
          ∙ ap (λ (s : Session). fed (take c.min-end.result a.bytes.now) (session_of s.len a.line.now s.rec a.settled.now a.waiting.now a.work.now)) c.within.ensures
          ∙ fed_within c.min-end.result a.count a.self.len a.bytes.now a.line.now (state_of a.self.rec a.settled.now a.waiting.now a.work.now) c.min-end.ensures bytes line,
    )
