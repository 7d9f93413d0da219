-- What a line does to the store, and the numbers that answer it.
use Rattle.std.specs.Prelude.{ℕ, ◌*◌, ◌-◌, cond, List, [], ◌∷◌, eqb, drop, get_or, replicate}
use Rattle.cells.specs.Entry.{block_bytes}
use Rattle.card.specs.Marks.{spread}
use Rattle.store.specs.State.{State, Outcome}
use Rattle.store.specs.Request.{get}
use Rattle.store.specs.Causes.{cause}
use Rattle.store.specs.Format.{format_call}
use Rattle.store.specs.Power.{power_call}
use Rattle.store.specs.Put.{put_call}
use Rattle.store.specs.Abandon.{abandon_call}
use Rattle.store.specs.Get.{get_place, bytes_at}
use Rattle.store.specs.Commit.{commit_call}
use Rattle.store.specs.Saves.{sync_call, apply_call, recover_call}
use Rattle.store.specs.Cut.{cut_call}
use Rattle.journal.specs.Geometry.{trap}
use Rattle.script.specs.declared.command.Command.{Command}
use Rattle.script.specs.declared.command.Command.TheVariants.{Format, Power, Put, Get, Commit, Abandon, Sync, Apply, Recover, Cut, Bad}
use Rattle.script.specs.Numbers.{zero_digit}
use Rattle.script.specs.Commands.{kept_bytes}
use Rattle.script.specs.Answers.{answer_line}

-- the answer, the third number, and what is left
pub record Reply : Type 0 where
  pub answer : ℕ
  pub third : ℕ
  pub state : State

-- "a third number: orders for sync, apply, recover"
abbrev pub saved : Outcome → Reply
saved o = record { answer = o.answer; third = o.orders; state = o.state }

-- "first byte for a get whose answer is 0"
abbrev pub got : ℕ → State → Reply
got a st =
    record {
      answer = cause trap (get a) st;
      third = cond (eqb (cause trap (get a) st) 0) (get_or (bytes_at (get_place trap a st) st) 0 0) 0;
      state = st;
    }

-- "else 0"
abbrev pub called : Outcome → Reply
called o = record { answer = o.answer; third = 0; state = o.state }

-- "a digit each"
unfoldable pub values : List ℕ → List ℕ
values [] = []
values (b ∷ s) = (b - zero_digit) ∷ values s

-- a cut's digits, behind its word of three and a tab. A lacking field "gives no marks"
abbrev pub digits : List ℕ → List ℕ
digits line = values (drop 4 line)

-- W-204: "The script's single mark stands for 512 equal ones."
abbrev pub marks : List ℕ → List ℕ
marks line = spread (digits line)

-- the most digits and marks that the kept bytes of a line can give
abbrev pub most_digits : ℕ
most_digits = kept_bytes - 4

abbrev pub most_marks : ℕ
most_marks = block_bytes * most_digits

unfoldable pub perform : Command → List ℕ → State → Reply
perform Format line st = called (format_call trap st)
perform (Power k) line st = called (power_call trap k st)
perform (Put a b) line st = called (put_call trap a (replicate block_bytes b) st)
perform (Get a) line st = got a st
perform Commit line st = called (commit_call trap st)
perform Abandon line st = called (abandon_call trap st)
perform Sync line st = saved (sync_call trap st)
perform Apply line st = saved (apply_call trap st)
perform Recover line st = saved (recover_call trap st)
perform Cut line st = called (cut_call trap (marks line) st)
perform Bad line st = record { answer = 11; third = 0; state = st }

-- the line that says so
abbrev pub answered : Command → Reply → List ℕ
answered c r = answer_line c r.answer r.third
