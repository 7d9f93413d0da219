-- The script by the same table: a line that is understood is a call, and a script from a format on is a list of calls. So the
-- statements speak of scripts too.
use Rattle.std.specs.Prelude.{ℕ, ◌≡◌, ◌⊎◌, cond, List, [], ◌∷◌, ◌++◌, eqb, get_or, replicate}
use Rattle.cells.specs.Entry.{block_bytes}
use Rattle.store.specs.Request as Request
use Rattle.store.specs.State.{State}
use Rattle.store.specs.Outcomes.{refused}
use Rattle.store.specs.Format.{format_call}
use Rattle.script.specs.declared.command.Command.{Command}
use Rattle.script.specs.declared.command.Command.TheVariants.{Format, Power, Put, Get, Commit, Abandon, Sync, Apply, Recover, Cut, Bad}
use Rattle.script.specs.Commands.{parse}
use Rattle.script.specs.Answers.{answer_line}
use Rattle.script.specs.Replies.{marks}
use Rattle.script.specs.Transcript.{lines_of, reply, printed, said, beginning, transcript}
use Rattle.journal.specs.Geometry.{trap}
use Rattle.history.specs.Call.{Call, direct, local, save, cut, power, put, get, commit, abandon, sync, apply, recover, of_get}
use Rattle.store.specs.Get.{block_of}
use Rattle.history.specs.Dispatch.{called, dispatch}
use Rattle.history.specs.History.{World, begun, next, after}

-- ---- a line

-- what a line says: nothing that is understood, a format, which begins a list of calls, or a call of one
pub data Says : Type 0 where
  nothing : Says
  begins : Says
  asks : Call → Says

-- "put: address, byte filling the block; get: address; power: count; cut: marks"
abbrev pub says_of : Command → List ℕ → Says
says_of Format l = begins
says_of (Power k) l = asks (power k)
says_of (Put a b) l = asks (put a (replicate block_bytes b))
says_of (Get a) l = asks (get a)
says_of Commit l = asks commit
says_of Abandon l = asks abandon
says_of Sync l = asks sync
says_of Apply l = asks apply
says_of Recover l = asks recover
says_of Cut l = asks (cut (marks l))
says_of Bad l = nothing

abbrev pub says : List ℕ → Says
says l = says_of (parse l) l

-- "a third number: orders for sync, apply, recover; first byte for a get whose answer is 0; else 0"
abbrev pub third_of : Call → State → ℕ
third_of (local c) st = of_get (local c) (λ a. cond (eqb (dispatch trap (get a) st).answer 0) (get_or (block_of trap a st) 0 0) 0) 0
third_of (direct a b) st = (dispatch trap (direct a b) st).orders
third_of (save c) st = (dispatch trap (save c) st).orders
third_of (cut ms) st = 0

-- "bad", 11, 0, parted by tabs and ended by LF
abbrev pub bad_line : List ℕ
bad_line = 98 ∷ 97 ∷ 100 ∷ 9 ∷ 49 ∷ 49 ∷ 9 ∷ 48 ∷ 10 ∷ []

abbrev pub line_of : Says → Command → State → List ℕ
line_of nothing c st = bad_line
line_of begins c st = answer_line c (called trap Request.format st).answer 0
line_of (asks q) c st = answer_line c (dispatch trap q st).answer (third_of q st)

abbrev pub left_by : Says → State → State
left_by nothing st = st
left_by begins st = (called trap Request.format st).state
left_by (asks q) st = (dispatch trap q st).state

-- "script line not understood": 11, printed, and everything is left; every other line is its call
pub record ByCall (l : List ℕ) (st : State) : Type 0 where
  pub prints : printed l st ≡ line_of (says l) (parse l) st
  pub leaves : (reply l st).state ≡ left_by (says l) st

-- ---- a script

-- what lines leave, one after the other
unfoldable pub left_after : List (List ℕ) → State → State
left_after [] st = st
left_after (l ∷ ls) st = left_after ls (reply l st).state

-- a line along a list of calls: a format that answers 0 begins another; one that is turned down (W-205) leaves everything
abbrev pub world_by : Says → World → World
world_by nothing w = w
world_by begins w = cond (eqb (called trap Request.format w.store).answer 0) (begun trap w.store) w
world_by (asks c) w = next trap c w

-- what lines print so
unfoldable pub told : List (List ℕ) → World → List ℕ
told [] w = []
told (l ∷ ls) w = line_of (says l) (parse l) w.store ++ told ls (world_by (says l) w)

-- the world behind some lines
unfoldable pub world_after : List (List ℕ) → World → World
world_after [] w = w
world_after (l ∷ ls) w = world_after ls (world_by (says l) w)

-- one of the lines, from a state on, is a format that answered 0
abbrev pub ServedIn : State → List (List ℕ) → Type 0
ServedIn st ls = (ks : List (List ℕ)) × (f : List ℕ) × (js : List (List ℕ)) × (ls ≡ ks ++ (f ∷ js)) × (says f ≡ begins) × ((format_call trap (left_after ks st)).answer ≡ 0)

-- the calls that lines ask for
abbrev pub asked_by : Says → List Call → List Call
asked_by nothing cs = cs
asked_by begins cs = cs
asked_by (asks c) cs = c ∷ cs

unfoldable pub asked : List (List ℕ) → List Call
asked [] = []
asked (l ∷ ls) = asked_by (says l) (asked ls)

-- For every input: a format answers 0 or, W-205, is turned down as 13, and then one before it answered 0, so the first answers 0. Behind one
-- that answers 0 the lines print what their calls come to along a world whose store is what the lines left; and up to the next such format,
-- which begins another, it is the world of the calls of these lines, from this format on
pub record ScriptRun (ls ms : List (List ℕ)) : Type 0 where
  pub formats : ((format_call trap (left_after ls beginning)).answer ≡ 0) ⊎ (format_call trap (left_after ls beginning) ≡ refused 13 (left_after ls beginning))
  pub first : format_call trap (left_after ls beginning) ≡ refused 13 (left_after ls beginning) → ServedIn beginning ls
  pub prints : (f : List ℕ) → parse f ≡ Format → (format_call trap (left_after ls beginning)).answer ≡ 0 → (input : List ℕ) → lines_of input ≡ ls ++ (f ∷ ms)
      → transcript input ≡ said ls beginning ++ (answer_line Format 0 0 ++ told ms (begun trap (left_after ls beginning)))
  pub states : (f : List ℕ) → parse f ≡ Format → (format_call trap (left_after ls beginning)).answer ≡ 0
      → left_after (f ∷ ms) (left_after ls beginning) ≡ (world_after ms (begun trap (left_after ls beginning))).store
  pub lists : (format_call trap (left_after ls beginning)).answer ≡ 0 → (ServedIn (begun trap (left_after ls beginning)).store ms → ⊥)
      → world_after ms (begun trap (left_after ls beginning)) ≡ after trap (asked ms) (begun trap (left_after ls beginning))

abbrev pub ScriptsAreHistories : Type 0
ScriptsAreHistories = (ls ms : List (List ℕ)) → ScriptRun ls ms
