-- A reply and a session as the code holds them.
use Rattle.std.specs.Prelude.{ℕ, List, take}
use Rattle.store.specs.declared.record.Record.{Record}
use Rattle.store.specs.CodeState.{state_of}
use Rattle.script.specs.Replies.{Reply}
use Rattle.script.specs.Steps.{Session, Step}

abbrev pub reply_of : ℕ → ℕ → Record → List ℕ → List ℕ → List ℕ → Reply
reply_of number third r settled waiting work = record { answer = number; third = third; state = state_of r settled waiting work }

-- the first len bytes of the line's buffer are kept
abbrev pub session_of : ℕ → List ℕ → Record → List ℕ → List ℕ → List ℕ → Session
session_of len line r settled waiting work = record { kept = take len line; state = state_of r settled waiting work }

-- the first n bytes of the output's buffer are printed
abbrev pub step_of : ℕ → List ℕ → Session → Step
step_of n out s = record { print = take n out; next = s }
