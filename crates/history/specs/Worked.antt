-- "Around it", document 01's two worked scripts on a card of 64 blocks, as lists of calls: "format / put 40 7 / commit / sync / put 40 9 /
-- commit / power 3 / sync / cut 101 / power 100 / recover / get 40", and the same with cut 111. W-204: and the same with cuts that tear the log
-- block, the descriptor, or the header, which is refused. W-205: and a format in the midst of them. W-209: and two with a direct
-- write.
use Rattle.std.specs.Prelude.{ℕ, ◌+◌, ◌≡◌, Bool, true, false, List, [], ◌∷◌, ◌++◌, map, replicate}
use Rattle.cells.specs.Entry.{block_bytes, Entry}
use Rattle.card.specs.Card.{blocks_in}
use Rattle.card.specs.Marks.{spread, marks_of}
use Rattle.store.specs.State.{State}
use Rattle.store.specs.Outcomes.{refused}
use Rattle.script.specs.Replies.{marks}
use Rattle.store.specs.Format.{format_call}
use Rattle.journal.specs.Geometry.{trap}
use Rattle.history.specs.Call.{Call, power, put, get, commit, direct, sync, apply, recover, cut}
use Rattle.history.specs.Plain.{among}
use Rattle.store.specs.Get.{block_of}
use Rattle.history.specs.Dispatch.{dispatch}
use Rattle.history.specs.History.{World, begun, next, after, store_next, found_written, accepted_cut, exception}
use Rattle.history.specs.Linked.{AllPassable}
use Rattle.history.specs.Statements.{EndsFinished, none_finished, quiet, decided, known, fate, groups_laid, number_found, no_cut, no_photo, photo}

-- "byte filling the block"
unfoldable pub sevens : List ℕ
sevens = replicate block_bytes 7

unfoldable pub nines : List ℕ
nines = replicate block_bytes 9

abbrev pub at40 : List ℕ → Entry
at40 b = record { address = 40; block = b }

-- "put 40 7 / commit / sync"
abbrev pub filed : List Call
filed = put 40 sevens ∷ commit ∷ sync ∷ []

-- "put 40 9 / commit / power 3 / sync"
abbrev pub halted : List Call
halted = put 40 nines ∷ commit ∷ power 3 ∷ sync ∷ []

-- the marks of "cut 101" and of "cut 111": "1 kept or 0 lost", each "stands for 512 equal ones"
abbrev pub cut101 : List ℕ
cut101 = marks_of (true ∷ false ∷ true ∷ [])

abbrev pub cut111 : List ℕ
cut111 = marks_of (true ∷ true ∷ true ∷ [])

-- of the log block the first half is kept; descriptor and header are kept
abbrev pub half : List ℕ
half = replicate 256 1 ++ replicate 256 0

abbrev pub cut_half : List ℕ
cut_half = half ++ marks_of (true ∷ true ∷ [])

-- of the descriptor the fifth byte alone is kept, the first of the new slot's address; log block and header are kept
abbrev pub fifth : List ℕ
fifth = replicate 4 0 ++ (1 ∷ replicate 507 0)

abbrev pub cut_fifth : List ℕ
cut_fifth = replicate block_bytes 1 ++ (fifth ++ marks_of (true ∷ []))

-- of the header the first half is kept
abbrev pub cut_header : List ℕ
cut_header = replicate block_bytes 1 ++ (replicate block_bytes 1 ++ half)

-- "cut", a tab and digits
abbrev pub cut_line : List ℕ → List ℕ
cut_line digits = 99 ∷ 117 ∷ 116 ∷ 9 ∷ digits

-- then "cut […] / power 100"
abbrev pub crashed : List ℕ → List Call
crashed ms = halted ++ (cut ms ∷ power 100 ∷ [])

-- what the cut meets, and what "recover" meets
abbrev pub met_by_cut : State → World
met_by_cut st = after trap halted (after trap filed (begun trap st))

abbrev pub met_by_recover : List ℕ → State → World
met_by_recover ms st = after trap (crashed ms) (after trap filed (begun trap st))

-- what each call of a list comes to: its answer and its orders
unfoldable pub answers : List Call → World → List (ℕ × ℕ)
answers [] w = []
answers (c ∷ cs) w = ((dispatch trap c w.store).answer, (dispatch trap c w.store).orders) ∷ answers cs (next trap c w)

-- a script with the marks ms: its lines, k being the orders of "recover"; what crash atomicity, log read back and C ask of it; `same`, which the plain disk
-- is fed at the cut; the fate of the sync cut short; the save number c that "recover" hands back, the groups laid along the calls; and the
-- block b that "get 40" hands out
pub record Script (st : State) (ms : List ℕ) (same new all : Bool) (k c : ℕ) (b : List ℕ) : Type 0 where
  pub lines : answers (filed ++ (crashed ms ++ (recover ∷ get 40 ∷ []))) (begun trap st)
      ≡ (0, 0) ∷ (0, 0) ∷ (0, 4) ∷ (0, 0) ∷ (0, 0) ∷ (0, 0) ∷ (4, 3) ∷ (0, 0) ∷ (0, 0) ∷ (0, k) ∷ (0, 0) ∷ []
  pub ends : EndsFinished trap filed (begun trap st)
  pub none : none_finished trap (crashed ms) (after trap filed (begun trap st)) ≡ true
  pub accepted : accepted_cut trap (cut ms) (met_by_cut st) ≡ true
  pub found : found_written trap (cut ms) (met_by_cut st) ≡ same
  pub usual : exception trap (cut ms) (met_by_cut st) ≡ false
  pub passed : AllPassable (filed ++ crashed ms)
  pub last : no_cut trap (power 100 ∷ []) (next trap (cut ms) (met_by_cut st)) ≡ true
  pub clean : (met_by_recover ms st).excepted ≡ false
  pub answer : (dispatch trap recover (met_by_recover ms st).store).answer ≡ 0
  pub orders : (dispatch trap recover (met_by_recover ms st).store).orders ≡ k
  pub fated : fate trap (crashed ms) (after trap filed (begun trap st)) (known quiet) ≡ known (decided (at40 nines ∷ []) new all)
  pub number : number_found trap (met_by_recover ms st) ≡ c
  pub groups : groups_laid trap (filed ++ crashed ms) (begun trap st) (known quiet) ≡ c
  pub block : block_of trap 40 (store_next trap recover (met_by_recover ms st)) ≡ b

-- ---- W-209: a direct write

-- "direct 50 7"
abbrev pub drawn : List Call
drawn = direct 50 sevens ∷ []

-- then a cut that keeps the first half of the write that waits, and "power 100"
abbrev pub drawn_half : List Call
drawn_half = direct 50 sevens ∷ cut half ∷ power 100 ∷ []

-- or a sync, whose group is empty, then a cut at which nothing waits, and "power 100"
abbrev pub drawn_whole : List Call
drawn_whole = direct 50 sevens ∷ sync ∷ cut [] ∷ power 100 ∷ []

-- behind the cut of the write block 50 is loose: before the write S had zeros there, and "recover" finds it half written
pub record Photographed (st : State) : Type 0 where
  pub lines : answers (drawn_half ++ (recover ∷ get 50 ∷ [])) (begun trap st) ≡ (0, 1) ∷ (0, 0) ∷ (0, 0) ∷ (0, 0) ∷ (0, 0) ∷ []
  pub accepted : accepted_cut trap (cut half) (after trap drawn (begun trap st)) ≡ true
  pub shot : photo trap 50 drawn (begun trap st) no_photo ≡ record { before = replicate block_bytes 0; blocks = sevens ∷ [] }
  pub clean : (after trap drawn_half (begun trap st)).excepted ≡ false
  pub loose : among 50 (after trap drawn_half (begun trap st)).plain.loose ≡ true
  pub block : block_of trap 50 (store_next trap recover (after trap drawn_half (begun trap st))) ≡ replicate 256 7 ++ replicate 256 0

-- behind the sync, which is one order, it is not, and "recover" finds the write
pub record Barred (st : State) : Type 0 where
  pub lines : answers (drawn_whole ++ (recover ∷ get 50 ∷ [])) (begun trap st) ≡ (0, 1) ∷ (0, 1) ∷ (0, 0) ∷ (0, 0) ∷ (0, 0) ∷ (0, 0) ∷ []
  pub accepted : accepted_cut trap (cut []) (after trap (drawn ++ (sync ∷ [])) (begun trap st)) ≡ true
  pub clean : (after trap drawn_whole (begun trap st)).excepted ≡ false
  pub firm : among 50 (after trap drawn_whole (begun trap st)).plain.loose ≡ false
  pub block : block_of trap 50 (store_next trap recover (after trap drawn_whole (begun trap st))) ≡ sevens

-- cut 101 loses the new descriptor: another log than the one written, no collision, old, save 1; cut 111 keeps every write: new, save 2. Where
-- half of the log block is kept: again another log, no collision, old, save 1; where of the descriptor just the byte is kept that is new: the
-- log written, new, save 2, though not every write was kept. A torn header is refused, and leaves everything. The digits of any line, "0" being
-- byte 48, are spread into the marks of its cut, the first digit's first. W-205: behind the first sync a format is turned down, and behind cut
-- 101, where the header needs a fallback; behind an apply it is not. W-209: a direct
-- write that a cut tears leaves its block loose, one that a sync settled does not. There is such a card
pub record Worked : Type 0 where
  pub lost : (st : State) → (format_call trap st).answer ≡ 0 → blocks_in st.settled ≡ 64 → Script st cut101 false false false 2 1 sevens
  pub whole : (st : State) → (format_call trap st).answer ≡ 0 → blocks_in st.settled ≡ 64 → Script st cut111 true true true 0 2 nines
  pub halved : (st : State) → (format_call trap st).answer ≡ 0 → blocks_in st.settled ≡ 64 → Script st cut_half false false false 2 1 sevens
  pub harmless : (st : State) → (format_call trap st).answer ≡ 0 → blocks_in st.settled ≡ 64 → Script st cut_fifth true true false 0 2 nines
  pub header : (st : State) → (format_call trap st).answer ≡ 0 → blocks_in st.settled ≡ 64
      → dispatch trap (cut cut_header) (met_by_cut st).store ≡ record { answer = 10; orders = 0; state = (met_by_cut st).store }
  pub digits : (ds : List ℕ) → marks (cut_line (map (λ d. 48 + d) ds)) ≡ spread ds
  pub spreads : (spread (1 ∷ 0 ∷ 1 ∷ []) ≡ cut101) × (spread (1 ∷ 1 ∷ 1 ∷ []) ≡ cut111) × (spread (1 ∷ 1 ∷ 0 ∷ []) ≡ replicate block_bytes 1 ++ (replicate block_bytes 1 ++ replicate block_bytes 0))
  pub turned : (st : State) → (format_call trap st).answer ≡ 0 → blocks_in st.settled ≡ 64
      → format_call trap (after trap filed (begun trap st)).store ≡ refused 13 (after trap filed (begun trap st)).store
  pub fallback : (st : State) → (format_call trap st).answer ≡ 0 → blocks_in st.settled ≡ 64 → format_call trap (met_by_recover cut101 st).store ≡ refused 13 (met_by_recover cut101 st).store
  pub applied : (st : State) → (format_call trap st).answer ≡ 0 → blocks_in st.settled ≡ 64 → (format_call trap (after trap (apply ∷ []) (after trap filed (begun trap st))).store).answer ≡ 0
  pub photographed : (st : State) → (format_call trap st).answer ≡ 0 → blocks_in st.settled ≡ 64 → Photographed st
  pub barred : (st : State) → (format_call trap st).answer ≡ 0 → blocks_in st.settled ≡ 64 → Barred st
  pub card : (st : State) × ((format_call trap st).answer ≡ 0) × (blocks_in st.settled ≡ 64)
