-- `script::session::Session::run` meets its contract.
use Prim.Native.Nat.{◌+◌, ◌≤◌}
use mathlib.Core.Path.{◌≡◌, refl, ◌∙◌, ap}
use mathlib.Core.List.{List}
use Prim.Native.Nat.{ℕ}
use native.Mathlib.Omega.{arith}
use lib.ListN.{length, take}
use lib.Seq.{length-take-le, take_all}
use Rattle.script.specs.Answers.{answer_bytes}
use Rattle.script.specs.Steps.{fed}
use Rattle.script.specs.CodeSession.{session_of}
use Rattle.script.proofs.Sessions.{fed_none, fed_turn}
use Rattle.script.proofs.session.Session.run.Goals as goal

pub loop-byte-init : goal.loop-byte-init
loop-byte-init c =
    let a = c.args in
    (omega arith, c.requires.len_le_kept_bytes.0, refl, fed_none a.printed.now a.bytes.now _)

pub loop-byte-preserved : goal.loop-byte-preserved
loop-byte-preserved c =
    let a = c.args in
    let l = c.loop-byte in
    let part = take a.count a.bytes.now in
    let whole : length part ≡ a.count = length-take-le a.count a.bytes.now c.requires.count_in_bounds.0 in
    let size : length c.step-next.new.out ≡ answer_bytes = c.step-next.auto.out ∙ l.invariant.2 in
    let fits : c.step-next.result.print ≤ length c.step-next.new.out = omega (arith, size, c.step-next.ensures.1) in
    let room : l.at + c.step-next.result.print ≤ length l.printed = omega (arith, whole, c.step-next.ensures.1, l.invariant.0, l.auto.printed, c.loop-byte-test.true, c.requires.count_in_bounds.1) in
    let text : length (take c.step-next.result.print c.step-next.new.out) ≡ c.step-next.result.print = length-take-le c.step-next.result.print c.step-next.new.out fits in (
      omega (arith, c.append-at.ensures.0, text, c.step-next.ensures.1, l.invariant.0),
      c.step-next.ensures.0,
      size,
      fed_turn part l.printed c.append-at.new.out c.step-next.new.out l.byte-index l.at c.step-next.result.print c.append-at.result _ _ _ c.loop-byte-test.true room fits l.invariant.3 c.step-next.ensures.2 c.append-at.ensures.0 c.append-at.ensures.1,
    )

pub returns : goal.returns
returns c =
    let a = c.args in
    let l = c.loop-byte in
    let part = take a.count a.bytes.now in
    let whole : length part ≡ a.count = length-take-le a.count a.bytes.now c.requires.count_in_bounds.0 in
    (omega (arith, whole, l.invariant.0, l.auto.byte-index-end), l.invariant.3 ∙ ap (λ (p : List ℕ). fed p (session_of a.self.len a.line.now a.self.rec a.settled.now a.waiting.now a.work.now)) (take_all l.byte-index part c.loop-byte-test.false))
