-- "The record: mode (0 closed, 1 open, 2 down), N, open count, group count, log count n, waiting count, power count, the log's
-- sum. Work memory is 33,024 bytes: 32 open entries, then 32 group entries, 516 bytes each." W-201: the save number too.
use Rattle.std.specs.Prelude.{ℕ, List}
use Rattle.card.specs.Card.{Card}
use Rattle.store.specs.declared.record.Record.{Record}

abbrev pub closed : ℕ
closed = 0

abbrev pub open_mode : ℕ
open_mode = 1

abbrev pub down : ℕ
down = 2

-- what a call is given and what it leaves: the record and every lent byte
pub record State : Type 0 where
  pub rec : Record
  pub settled : List ℕ
  pub waiting : List ℕ
  pub work : List ℕ

-- what a call comes to: the number, the orders carried out, what it leaves
pub record Outcome : Type 0 where
  pub answer : ℕ
  pub orders : ℕ
  pub state : State

-- ---- one or two fields set, the others as they are

abbrev pub with_mode : ℕ → Record → Record
with_mode m r = record { mode = m; blocks = r.blocks; opened = r.opened; grouped = r.grouped; logged = r.logged; waiting = r.waiting; power = r.power; sum = r.sum; save = r.save }

abbrev pub with_opened : ℕ → Record → Record
with_opened k r = record { mode = r.mode; blocks = r.blocks; opened = k; grouped = r.grouped; logged = r.logged; waiting = r.waiting; power = r.power; sum = r.sum; save = r.save }

abbrev pub with_grouped : ℕ → Record → Record
with_grouped k r = record { mode = r.mode; blocks = r.blocks; opened = r.opened; grouped = k; logged = r.logged; waiting = r.waiting; power = r.power; sum = r.sum; save = r.save }

abbrev pub with_log : ℕ → ℕ → Record → Record
with_log n h r = record { mode = r.mode; blocks = r.blocks; opened = r.opened; grouped = r.grouped; logged = n; waiting = r.waiting; power = r.power; sum = h; save = r.save }

-- W-201: "The record carries it too"
abbrev pub with_save : ℕ → Record → Record
with_save c r = record { mode = r.mode; blocks = r.blocks; opened = r.opened; grouped = r.grouped; logged = r.logged; waiting = r.waiting; power = r.power; sum = r.sum; save = c }

abbrev pub with_queue : ℕ → ℕ → Record → Record
with_queue w p r = record { mode = r.mode; blocks = r.blocks; opened = r.opened; grouped = r.grouped; logged = r.logged; waiting = w; power = p; sum = r.sum; save = r.save }

abbrev pub with_record : Record → State → State
with_record r st = record { rec = r; settled = st.settled; waiting = st.waiting; work = st.work }

abbrev pub with_work : List ℕ → State → State
with_work w st = record { rec = st.rec; settled = st.settled; waiting = st.waiting; work = w }

-- ---- the card in a state

abbrev pub card_in : State → Card
card_in st = record { settled = st.settled; waiting = st.waiting; count = st.rec.waiting; power = st.rec.power }

-- the state with another card, and the record's counts of it
abbrev pub with_card : Card → State → State
with_card c st = record { rec = with_queue c.count c.power st.rec; settled = c.settled; waiting = c.waiting; work = st.work }
