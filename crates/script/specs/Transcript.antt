-- The exact output for an input.
use Rattle.std.specs.Prelude.{ℕ, ◌*◌, cond, List, [], ◌∷◌, ◌++◌, eqb, replicate}
use Rattle.cells.specs.Entry.{block_bytes}
use Rattle.store.specs.State.{State, closed, with_mode, with_queue}
use Rattle.store.specs.CodeState.{state_of, fresh}
use Rattle.store.specs.Causes.{waiting_bytes, work_bytes}
use Rattle.journal.specs.Geometry.{trap}
use Rattle.script.specs.Fields.{push}
use Rattle.script.specs.Commands.{parse}
use Rattle.script.specs.Answers.{lf}
use Rattle.script.specs.Replies.{Reply, perform, answered}

-- "each ended by LF, which the last may lack": nothing behind the last LF is no line
unfoldable pub lines_of : List ℕ → List (List ℕ)
lines_of [] = []
lines_of (b ∷ s) = cond (eqb b lf) ([] ∷ lines_of s) (push b (lines_of s))

-- what a line does
abbrev pub reply : List ℕ → State → Reply
reply l st = perform (parse l) l st

-- and what it prints
abbrev pub printed : List ℕ → State → List ℕ
printed l st = answered (parse l) (reply l st)

unfoldable pub said : List (List ℕ) → State → List ℕ
said [] st = []
said (l ∷ ls) st = printed l st ++ said ls (reply l st).state

-- "N = 64, starts closed with all bytes and counts 0 and the empty list's sum"
unfoldable pub beginning : State
beginning =
    state_of (with_mode closed (with_queue 0 0 (fresh 64))) (replicate (block_bytes * 64) 0) (replicate (waiting_bytes trap) 0) (replicate (work_bytes trap) 0)

unfoldable pub transcript : List ℕ → List ℕ
transcript input = said (lines_of input) beginning
