-- Format, of any state whatever: which cards it turns down (W-205), by the bytes of block 0; that recover, tally and alike call foreign by the
-- same bytes; that every size has cards on which it answers 0; and when it turns down a card that a list of calls left.
use Rattle.std.specs.Prelude.{ℕ, ◌*◌, ◌≤◌, ◌<◌, ◌≡◌, ◌≢◌, ◌⊎◌, true, false, List, length, replicate}
use Rattle.cells.specs.Entry.{block_bytes}
use Rattle.card.specs.Card.{block_at, blocks_in}
use Rattle.journal.specs.Geometry.{Geometry, most_blocks}
use Rattle.journal.specs.Layout.{header_at, least_blocks, wrong_size}
use Rattle.journal.specs.Ours.{number_at, OurHeader, CountsEntries}
use Rattle.store.specs.declared.record.Record.{Record}
use Rattle.store.specs.Request as Request
use Rattle.store.specs.State.{State, closed, open_mode, down, with_record}
use Rattle.store.specs.CodeState.{state_of}
use Rattle.store.specs.Causes.{waiting_bytes, work_bytes, wrong_sizes}
use Rattle.store.specs.Outcomes.{refused, completed}
use Rattle.store.specs.Format.{formatted, format_call}
use Rattle.inspect.specs.Reading.{inspection}
use Rattle.history.specs.Call.{Call, sync}
use Rattle.history.specs.Dispatch.{called, dispatch}
use Rattle.history.specs.Cuts.{first_rows}
use Rattle.history.specs.History.{World, begun, after}

-- block 0 of a card, and its count n
abbrev pub header_block : List ℕ → List ℕ
header_block s = block_at s header_at

abbrev pub count_in : List ℕ → ℕ
count_in s = number_at 12 4 (header_block s)

-- ---- any state

-- P and A, or not P and B: where A and B exclude each other, as they do in all that follows, A exactly if P, and else B
abbrev pub Exactly : Type 0 → Type 0 → Type 0 → Type 0
Exactly P A B = (P × A) ⊎ ((P → ⊥) × B)

module _ (geo : Geometry) where
  -- the header is not foreign, judged with the N of the buffer
  abbrev pub Known : List ℕ → Type 0
  Known s = OurHeader geo (blocks_in s) (header_block s)

  -- "a card that recover would not call foreign and whose header count is above 0"
  abbrev pub Used : List ℕ → Type 0
  Used s = CountsEntries geo (blocks_in s) (header_block s)

  -- format turns the card down exactly if P, "leaving everything", and else makes it anew
  abbrev pub TurnedDownIf : Type 0 → State → Type 0
  TurnedDownIf P st = Exactly P (called geo Request.format st ≡ refused 13 st) (called geo Request.format st ≡ completed (formatted st))

  pub record Formats (st : State) : Type 0 where
    -- 13 is "format's last check after 1"
    pub early : wrong_sizes geo st ≡ true → called geo Request.format st ≡ refused 1 st
    -- "Format shall turn down" such a card; every other is formatted
    pub row : wrong_sizes geo st ≡ false → TurnedDownIf (Used st.settled) st
    -- what the record holds plays no part: with another one the number is the same, and so is what a format that is served leaves
    pub blind : (r : Record) → (called geo Request.format (with_record r st)).answer ≡ (called geo Request.format st).answer
    pub blank : (r : Record) → (called geo Request.format st).answer ≡ 0 → called geo Request.format (with_record r st) ≡ called geo Request.format st
    -- "a card that recover would not call foreign": recover of any closed record that passes 1 and 2 (`boots`: there is one)
    pub recovers : (r : Record) → r.mode ≡ closed → first_rows geo (with_record r st) ≡ 0
        → Exactly (Known st.settled) ((called geo Request.recover (with_record r st)).answer ≢ 8) (called geo Request.recover (with_record r st) ≡ refused 8 (with_record r st))
    -- the request's sentence by what that recover itself answers, and n by its bytes
    pub turns : (r : Record) → r.mode ≡ closed → first_rows geo (with_record r st) ≡ 0
        → TurnedDownIf (((called geo Request.recover (with_record r st)).answer ≢ 8) × (0 < count_in st.settled)) st
    -- for every card of a right size there is such a record
    pub boots : wrong_sizes geo st ≡ false → (r : Record) × (r.mode ≡ closed) × (first_rows geo (with_record r st) ≡ 0)
    -- tally and alike call a card foreign by the same bytes
    pub inspects : wrong_size geo st.settled ≡ false → Exactly (Known st.settled) (inspection geo st.settled ≢ 8) (inspection geo st.settled ≡ 8)

  -- ---- a format that is served

  -- the card s at a service counter: format of it with any record, and with any waiting and work bytes of the right lengths
  abbrev pub AtCounter : List ℕ → (State → Type 0) → Type 0
  AtCounter s P = (r : Record) (w k : List ℕ) → length w ≡ waiting_bytes geo → length k ≡ work_bytes geo → P (state_of r s w k)

  -- "A history begins with a format that succeeded": there is one, for every N, on the card of zeros and on any that format itself left
  pub record Begins : Type 0 where
    pub zeros : (N : ℕ) → least_blocks geo ≤ N → N ≤ most_blocks → AtCounter (replicate (block_bytes * N) 0) (λ st. (format_call geo st).answer ≡ 0)
    -- a card is given up on purpose by zeros over block 0, whatever else it holds
    pub given_up : (s : List ℕ) → wrong_size geo s ≡ false → header_block s ≡ replicate block_bytes 0 → AtCounter s (λ st. (format_call geo st).answer ≡ 0)
    pub again : (st : State) → (format_call geo st).answer ≡ 0 → AtCounter (format_call geo st).state.settled (λ t. (format_call geo t).answer ≡ 0)

  -- ---- a card that a list of calls left

  -- exceptions included: its header is never foreign, so format turns the card down exactly if the header's count is above 0. When open that
  -- count is the record's n; so after a sync of a nonempty group it is turned down
  pub record Guards (w : World) : Type 0 where
    pub known : Known w.store.settled
    pub turned : 0 < count_in w.store.settled → AtCounter w.store.settled (λ st. format_call geo st ≡ refused 13 st)
    pub served : count_in w.store.settled ≡ 0 → AtCounter w.store.settled (λ st. format_call geo st ≡ completed (formatted st))
    pub open_count : w.store.rec.mode ≡ open_mode → count_in w.store.settled ≡ w.store.rec.logged
    pub saved : w.store.rec.grouped ≢ 0 → (dispatch geo sync w.store).answer ≡ 0
        → AtCounter (dispatch geo sync w.store).state.settled (λ st. format_call geo st ≡ refused 13 st)

  -- no exception before, and not down: that count is the plain disk's n, or above it if the header needs a fallback
  pub record GuardsPlain (w : World) : Type 0 where
    pub whole : w.plain.F ≡ false → count_in w.store.settled ≡ w.plain.n
    pub fallback : w.plain.F ≡ true → w.plain.n < count_in w.store.settled

  pub record AllFormats : Type 0 where
    pub any : (st : State) → Formats st
    pub begins : Begins
    pub guards : (st : State) → (format_call geo st).answer ≡ 0 → (cs : List Call) → Guards (after geo cs (begun geo st))
    pub guards_plain : (st : State) → (format_call geo st).answer ≡ 0 → (cs : List Call)
        → (after geo cs (begun geo st)).excepted ≡ false → (after geo cs (begun geo st)).store.rec.mode ≢ down → GuardsPlain (after geo cs (begun geo st))
