-- The transcript byte by byte, in bounded memory.
use Rattle.std.specs.Prelude.{ℕ, ◌*◌, cond, List, [], ◌∷◌, ◌++◌, eqb, ltb, length}
use Rattle.store.specs.State.{State}
use Rattle.script.specs.Commands.{kept_bytes}
use Rattle.script.specs.Answers.{lf, answer_bytes}
use Rattle.script.specs.Transcript.{reply, printed, beginning}

-- what is kept of the line so far, and the store
pub record Session : Type 0 where
  pub kept : List ℕ
  pub state : State

-- one byte more of a line: one beyond the 80 tells that it is too long, and the rest of it is dropped
unfoldable pub keep : List ℕ → ℕ → List ℕ
keep k b = cond (ltb (length k) kept_bytes) (k ++ (b ∷ [])) k

-- a step: what it prints, and what is kept then
pub record Step : Type 0 where
  pub print : List ℕ
  pub next : Session

-- the line that is kept, carried out
unfoldable pub answer : Session → Step
answer s = record { print = printed s.kept s.state; next = record { kept = []; state = (reply s.kept s.state).state } }

unfoldable pub feed : ℕ → Session → Step
feed b s = cond (eqb b lf) (answer s) (record { print = []; next = record { kept = keep s.kept b; state = s.state } })

-- a run of bytes
unfoldable pub fed : List ℕ → Session → Step
fed [] s = record { print = []; next = s }
fed (b ∷ bs) s = record { print = (feed b s).print ++ (fed bs (feed b s).next).print; next = (fed bs (feed b s).next).next }

-- the input's end: a last line that lacks its LF
unfoldable pub finish : Session → Step
finish s = cond (eqb (length s.kept) 0) (record { print = []; next = s }) (answer s)

-- what a whole input prints
unfoldable pub steps : List ℕ → Session → List ℕ
steps bs s = (fed bs s).print ++ (finish (fed bs s).next).print

-- an input in parts, each fed at once
unfoldable pub joined : List (List ℕ) → List ℕ
joined [] = []
joined (p ∷ ps) = p ++ joined ps

unfoldable pub parts : List (List ℕ) → Session → List ℕ
parts [] s = (finish s).print
parts (p ∷ ps) s = (fed p s).print ++ parts ps (fed p s).next

abbrev pub fresh : Session
fresh = record { kept = []; state = beginning }

-- the bytes that are fed at once, at the most, and those that they can print
abbrev pub fed_bytes : ℕ
fed_bytes = 4096

abbrev pub printed_bytes : ℕ
printed_bytes = answer_bytes * fed_bytes
