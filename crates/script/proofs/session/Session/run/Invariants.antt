-- `script::session::Session::run` meets its contract.
use Prim.Native.Nat.{◌*◌, ◌≤◌}
use mathlib.Core.Path.{◌≡◌}
use lib.ListN.{length, take}
use Rattle.script.specs.Commands.{kept_bytes}
use Rattle.script.specs.Answers.{answer_bytes}
use Rattle.script.specs.Steps.{fed}
use Rattle.script.specs.CodeSession.{session_of, step_of}
use Rattle.script.proofs.session.Session.run.Given as goal

abbrev pub invariant-loop-byte : goal.invariant-loop-byte
invariant-loop-byte l = (l.at ≤ answer_bytes * l.byte-index) × (l.next.len ≤ kept_bytes) × (length l.out ≡ answer_bytes) × (step_of l.at l.printed (session_of l.next.len l.line l.next.rec l.settled l.waiting l.work) ≡ fed (take l.byte-index l.byte-items) (session_of l.initial.next.len l.initial.line l.initial.next.rec l.initial.settled l.initial.waiting l.initial.work))
