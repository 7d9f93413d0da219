-- The cut, of any state whatever: which marks it takes, mark by mark, and what it leaves, byte by byte; that with equal marks it is document
-- 01's; and that what it can leave is what the data sheet allows, no more and no less.
use Rattle.std.specs.Prelude.{ℕ, ◌<◌, ◌≡◌, ◌≢◌, ◌⊎◌, false, not, ◌&&◌, List, [], ◌∷◌, length, get_or}
use lib.Dec.{eqb}
use Rattle.cells.specs.Entry.{block_bytes}
use Rattle.card.specs.Card.{queue, block_at, blocks_in}
use Rattle.card.specs.Marks.{over_one, spread}
use Rattle.card.specs.Torn.{RightMarks, newest_byte, byte_of, whole_cut}
use Rattle.journal.specs.Geometry.{Geometry}
use Rattle.store.specs.State.{State, Outcome, with_queue, with_record, with_card, card_in}
use Rattle.store.specs.Causes.{Row, of_record, cause_by}
use Rattle.store.specs.Outcomes.{refused, completed, unless}
use Rattle.store.specs.Cut.{shut}
use Rattle.history.specs.Call.{cut}
use Rattle.history.specs.Dispatch.{dispatch}

-- document 01's row 10: "cut: marks not as many as waiting, or a mark over 1"
abbrev pub whole_marks_row : List ℕ → Row
whole_marks_row ms = record { number = 10; behind = lib.Dec.lit< tt; test = λ st. not (eqb (length ms) st.rec.waiting && not (over_one ms)) }

module _ (geo : Geometry) where
  -- document 01's cut: "It takes one mark for each waiting write, 1 kept or 0 lost. Kept writes settle, oldest first, whole."
  unfoldable pub whole_cut_call : List ℕ → State → Outcome
  whole_cut_call ms st =
      unless (cause_by geo (of_record false (whole_marks_row ms ∷ [])) st) st
      (completed (with_card (whole_cut ms (card_in st)) (with_record (shut st.rec) st)))

  -- the number of rows 1 and 2, 0 if they do not refuse: "power and cut 1 and 2"
  abbrev pub first_rows : State → ℕ
  first_rows st = cause_by geo (of_record false []) st

  -- the settled bytes behind a cut
  abbrev pub settled_behind : List ℕ → State → List ℕ
  settled_behind ms st = (dispatch geo (cut ms) st).state.settled

  -- ---- the cut with any marks

  pub record Cuts (st : State) (ms : List ℕ) : Type 0 where
    -- "The first cause in table order is given": rows 1 and 2 come before the marks
    pub early : first_rows st ≢ 0 → dispatch geo (cut ms) st ≡ refused (first_rows st) st
    -- W-204: else the marks are right and the cut is accepted, or they are not and "the cut is refused as 10"
    pub row : first_rows st ≡ 0
        → (RightMarks ms (queue (card_in st)) × ((dispatch geo (cut ms) st).answer ≡ 0)) ⊎ ((RightMarks ms (queue (card_in st)) → ⊥) × (dispatch geo (cut ms) st ≡ refused 10 st))
    -- W-204: "byte by byte the newest kept write wins": of the waiting writes to its block the newest whose mark for it is 1, else the settled
    -- byte stays
    pub bytes : (dispatch geo (cut ms) st).answer ≡ 0 → (a j : ℕ) → a < blocks_in st.settled → j < block_bytes
        → get_or (block_at (settled_behind ms st) a) j 0 ≡ newest_byte ms 0 a j (queue (card_in st)) (get_or (block_at st.settled a) j 0)
    -- "The queue is emptied, the record closed, its open, group and log counts 0, its sum the empty list's. N and the power count stay." Every
    -- other byte stays too, and the settled bytes are as many
    pub rest : (dispatch geo (cut ms) st).answer ≡ 0
        → dispatch geo (cut ms) st ≡ completed (record { rec = with_queue 0 st.rec.power (shut st.rec); settled = settled_behind ms st; waiting = st.waiting; work = st.work })
    pub size : length (settled_behind ms st) ≡ length st.settled
    -- W-204: "The script's single mark stands for 512 equal ones": so marked, a cut is document 01's, refusals included
    pub whole : dispatch geo (cut (spread ms)) st ≡ whole_cut_call ms st

  abbrev pub AllCuts : Type 0
  AllCuts = (st : State) (ms : List ℕ) → Cuts st ms

-- ---- the data sheet: "each byte of another block is its settled one or that of any waiting write to that block"

-- byte j of block a comes from the write at place `from a j` of the queue; or it stays, if no write to that block waits at this place, as none
-- does at a place behind the last
abbrev pub Mixture : (ℕ → ℕ → ℕ) → State → List ℕ → Type 0
Mixture from st s =
    (a j : ℕ) → a < blocks_in st.settled → j < block_bytes → get_or (block_at s a) j 0 ≡ byte_of (from a j) a j (queue (card_in st)) (get_or (block_at st.settled a) j 0)

-- "whole-block settling": block 0 comes from one place
abbrev pub WholeHeader : (ℕ → ℕ → ℕ) → Type 0
WholeHeader from = (j : ℕ) → j < block_bytes → from 0 j ≡ from 0 0

module _ (geo : Geometry) where
  -- an accepted cut leaves such a mixture; and where rows 1 and 2 do not refuse, every one is left by some cut that is accepted
  pub record Mixtures (st : State) : Type 0 where
    pub only : (ms : List ℕ) → (dispatch geo (cut ms) st).answer ≡ 0 → (from : ℕ → ℕ → ℕ) × WholeHeader from × Mixture from st (settled_behind geo ms st)
    pub every : first_rows geo st ≡ 0 → (from : ℕ → ℕ → ℕ) → WholeHeader from
        → (ms : List ℕ) × ((dispatch geo (cut ms) st).answer ≡ 0) × Mixture from st (settled_behind geo ms st)

  abbrev pub AllMixtures : Type 0
  AllMixtures = (st : State) → Mixtures st
