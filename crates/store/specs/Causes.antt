-- The table of causes: "The first cause in table order is given, and each is given whenever it applies." Its rows first, in table order;
-- then which rows each call has.
use Rattle.std.specs.Prelude.{ℕ, zero, suc, ◌+◌, ◌*◌, ◌%◌, ◌<◌, Bool, true, false, cond, not, ◌&&◌, ◌||◌, List, [], ◌∷◌, length, Option, Some, None}
use lib.Dec.{eqb, leb, ltb}
use Rattle.cells.specs.Entry.{block_bytes, entry_bytes, entry_at}
use Rattle.card.specs.Card.{blocks_in, queue}
use Rattle.card.specs.Marks.{marks_fit}
use Rattle.journal.specs.Geometry.{Geometry}
use Rattle.journal.specs.Layout.{is_data, wrong_size}
use Rattle.journal.specs.Header.{most_save}
use Rattle.journal.specs.Log.{entries, all_data}
use Rattle.journal.specs.Wanted.{wanted_bytes, wanted_count, wanted_at}
use Rattle.journal.specs.Lookup.{last_slot}
use Rattle.journal.specs.Choice.{choose, in_use, choice_number}
use Rattle.store.specs.State.{State, closed, open_mode, down, card_in}
use Rattle.store.specs.Lists.{open_from, group_from, listed, find}
use Rattle.store.specs.Local as Local
use Rattle.store.specs.Save as Save
use Rattle.store.specs.Request.{Request, format, local, direct, save, cut}

-- ---- the sizes

module _ (geo : Geometry) where
  -- "places of 516 bytes"; W-209: "66 places (34,056 bytes)"
  abbrev pub waiting_bytes : ℕ
  waiting_bytes = entry_bytes * geo.places

  -- "Work memory is 33,024 bytes: 32 open entries, then 32 group entries"
  abbrev pub work_bytes : ℕ
  work_bytes = entry_bytes * (geo.slots + geo.slots)

-- ---- 1: "a lent buffer's length is wrong, N out of bounds"

module _ (geo : Geometry) where
  unfoldable pub wrong_sizes : State → Bool
  wrong_sizes st =
      wrong_size geo st.settled
      || not (eqb (length st.waiting) (waiting_bytes geo))
      || not (eqb (length st.work) (work_bytes geo))

  -- the lent buffers, and what the call's own arguments have wrong: "a put block not 512 bytes"; else as the rest says
  abbrev pub size_row : Bool → State → ℕ → ℕ
  size_row own st rest = cond (wrong_sizes st || own) 1 rest

-- W-207: "More than 32 addresses or a buffer of another length is refused as 1"
abbrev pub most_wanted : ℕ
most_wanted = 32

unfoldable pub wrong_list : List ℕ → List ℕ → Bool
wrong_list xs bs =
    not (eqb (length xs % wanted_bytes) 0)
    || ltb most_wanted (wanted_count xs)
    || not (eqb (length bs) (block_bytes * wanted_count xs))

-- ---- 2

-- some i below n has f i
unfoldable pub some : (ℕ → Bool) → ℕ → Bool
some f zero = false
some f (suc n) = some f n || f n

module _ (geo : Geometry) where
  -- W-209: "An open record may have up to 32 waiting writes, a down one up to 66; closed stays 0."
  abbrev pub most_waiting : ℕ → ℕ
  most_waiting mode = cond (eqb mode closed) 0 (cond (eqb mode open_mode) geo.direct geo.places)

  -- "mode over 2, open, group or log count over 32, waiting over" what the mode allows, "N not the buffer's"
  unfoldable pub wrong_counts : State → Bool
  wrong_counts st =
      ltb down st.rec.mode
      || ltb geo.slots st.rec.opened
      || ltb geo.slots st.rec.grouped
      || ltb geo.slots st.rec.logged
      || ltb (most_waiting st.rec.mode) st.rec.waiting
      || not (eqb st.rec.blocks (blocks_in st.settled))

-- "a listed or waiting address out of place": "waiting ones below N"
unfoldable pub wrong_waiting : State → Bool
wrong_waiting st = some (λ i. not (ltb (entry_at st.waiting i).address st.rec.blocks)) st.rec.waiting

module _ (geo : Geometry) where
  -- "open, group and log addresses must be data blocks"
  abbrev pub strays : List ℕ → ℕ → ℕ → ℕ → Bool
  strays work N from n = some (λ i. not (is_data geo N (listed work from i).address)) n

-- "an address twice in open or twice in group"
abbrev pub is_found : Option ℕ → Bool
is_found (Some i) = true
is_found None = false

abbrev pub twice : List ℕ → ℕ → ℕ → Bool
twice work from n = some (λ i. is_found (find work from i (listed work from i).address)) n

module _ (geo : Geometry) where
  -- "read when open"
  unfoldable pub wrong_lists : State → Bool
  wrong_lists st =
      strays geo st.work st.rec.blocks open_from st.rec.opened
      || strays geo st.work st.rec.blocks (group_from geo) st.rec.grouped
      || not (all_data geo st.rec.blocks (entries geo st.settled st.rec.logged))
      || twice st.work open_from st.rec.opened
      || twice st.work (group_from geo) st.rec.grouped

  abbrev pub wrong_record : State → Bool
  wrong_record st = wrong_counts geo st || wrong_waiting st || (eqb st.rec.mode open_mode && wrong_lists st)

  abbrev pub record_row : State → ℕ → ℕ
  record_row st rest = cond (wrong_record st) 2 rest

-- a row behind these two: its number and its test
pub record Row : Type 0 where
  pub number : ℕ
  pub behind : 2 < number
  pub test : State → Bool

-- ---- 3: "mode closed (put, get, commit, abandon, sync, apply)"; W-209: "A direct write refuses as put does up to 6"

abbrev pub closed_row : Row
closed_row = record { number = 3; behind = lib.Dec.lit< tt; test = λ st. eqb st.rec.mode closed }

-- ---- 4: "mode down (those and recover)"

abbrev pub down_row : Row
down_row = record { number = 4; behind = lib.Dec.lit< tt; test = λ st. eqb st.rec.mode down }

-- ---- 5: "recover when open"

abbrev pub open_row : Row
open_row = record { number = 5; behind = lib.Dec.lit< tt; test = λ st. eqb st.rec.mode open_mode }

-- ---- 6: "put or get address not a data block"

module _ (geo : Geometry) where
  abbrev pub address_row : ℕ → Row
  address_row a = record { number = 6; behind = lib.Dec.lit< tt; test = λ st. not (is_data geo st.rec.blocks a) }

  -- W-207: "a wrong address as 6": any of the list
  abbrev pub addresses_row : List ℕ → Row
  addresses_row xs = record { number = 6; behind = lib.Dec.lit< tt; test = λ st. some (λ i. not (is_data geo st.rec.blocks (wanted_at xs i))) (wanted_count xs) }

  -- ---- 7: "put of a new address with 32 open"

  abbrev pub open_full_row : ℕ → Row
  open_full_row a = record { number = 7; behind = lib.Dec.lit< tt; test = λ st. not (is_found (find st.work open_from st.rec.opened a)) && leb geo.slots st.rec.opened }

  -- "commit giving over 32"

  -- how many of the first n open entries have an address that the group lacks
  unfoldable pub newcomers : List ℕ → ℕ → ℕ → ℕ
  newcomers work g zero = 0
  newcomers work g (suc n) = newcomers work g n + cond (is_found (find work (group_from geo) g (listed work open_from n).address)) 0 1

  abbrev pub group_full_row : Row
  group_full_row = record { number = 7; behind = lib.Dec.lit< tt; test = λ st. ltb geo.slots (st.rec.grouped + newcomers st.work st.rec.grouped st.rec.opened) }

  -- ---- 8: "recover: format not [the format number], other N, n over 32 or p over n"; W-201: "save number 0 and unlike counts or sums"

  abbrev pub foreign_row : Row
  foreign_row = record { number = 8; behind = lib.Dec.lit< tt; test = λ st. eqb (choice_number (choose geo st.rec.blocks st.settled)) 8 }

  -- ---- 9: "recover: neither list good"

  abbrev pub unsound_row : Row
  unsound_row = record { number = 9; behind = lib.Dec.lit< tt; test = λ st. eqb (choice_number (choose geo st.rec.blocks st.settled)) 9 }

-- ---- 10: "cut: marks not as many as waiting, or a mark over 1". W-204: "for each waiting write, 512 marks"; "the marks of each write to
-- block 0 must be all 0 or all 1, or the cut is refused as 10"

abbrev pub marks_row : List ℕ → Row
marks_row ms = record { number = 10; behind = lib.Dec.lit< tt; test = λ st. not (marks_fit ms (queue (card_in st))) }

-- ---- 12: W-201: "when a nonempty sync meets the largest save number, checked after 4 and before any order"

abbrev pub last_save_row : Row
last_save_row = record { number = 12; behind = lib.Dec.lit< tt; test = λ st. not (eqb st.rec.grouped 0) && eqb st.rec.save most_save }

-- ---- 13: W-205: "a card that recover would not call foreign and whose header count is above 0". N is the buffer's: format reads no record

module _ (geo : Geometry) where
  abbrev pub in_use_row : Row
  in_use_row = record { number = 13; behind = lib.Dec.lit< tt; test = λ st. in_use geo (blocks_in st.settled) st.settled }

-- ---- 14: W-209: "when a direct write's address is in open, group or log, checked after 6"

module _ (geo : Geometry) where
  abbrev pub listed_row : ℕ → Row
  listed_row a = record {
    number = 14;
    behind = lib.Dec.lit< tt;
    test = λ st.
        is_found (find st.work open_from st.rec.opened a)
        || is_found (find st.work (group_from geo) st.rec.grouped a)
        || is_found (last_slot st.settled a st.rec.logged);
  }

-- ---- the rows of a call

-- what a call has of the rows that calls share, by what it reads; with it, what its own arguments have wrong in row 1, and the rows that
-- come behind the shared ones
pub data Rules : Type 0 where
  of_bytes : Bool → List Row → Rules
  of_record : Bool → List Row → Rules
  of_open : Bool → List Row → Rules

module _ (geo : Geometry) where
  abbrev pub rules : Request → Rules
  rules format = of_bytes false (in_use_row geo ∷ [])
  rules (local (Local.power k)) = of_record false []
  rules (local (Local.put a b)) = of_open (not (eqb (length b) block_bytes)) (address_row geo a ∷ open_full_row geo a ∷ [])
  rules (local (Local.get a)) = of_open false (address_row geo a ∷ [])
  rules (local (Local.get_list xs bs)) = of_open (wrong_list xs bs) (addresses_row geo xs ∷ [])
  rules (local Local.commit) = of_open false (group_full_row geo ∷ [])
  rules (local Local.abandon) = of_open false []
  rules (direct a b) = of_open (not (eqb (length b) block_bytes)) (address_row geo a ∷ listed_row geo a ∷ [])
  rules (save Save.sync) = of_open false (last_save_row ∷ [])
  rules (save Save.apply) = of_open false []
  rules (save Save.recover) = of_record false (down_row ∷ open_row ∷ foreign_row geo ∷ unsound_row geo ∷ [])
  rules (cut ms) = of_record false (marks_row ms ∷ [])

-- the call's own arguments have a wrong size: "a put block not 512 bytes", and a direct write's; W-207: a list of addresses or its buffer
abbrev pub own_size : Rules → Bool
own_size (of_bytes own rest) = own
own_size (of_record own rest) = own
own_size (of_open own rest) = own

module _ (geo : Geometry) where
  abbrev pub wrong_block : Request → Bool
  wrong_block q = own_size (rules geo q)

-- ---- the cause: the first row that applies, 0 for none

abbrev pub first : List Row → State → ℕ
first [] st = 0
first (r ∷ rs) st = cond (r.test st) r.number (first rs st)

module _ (geo : Geometry) where
  -- "Format checks 1 only; power and cut 1 and 2."; W-205: 13 is "format's last check after 1". A call that needs an open record has 3 and 4 as well
  abbrev pub cause_by : Rules → State → ℕ
  cause_by (of_bytes own rest) st = size_row geo own st (first rest st)
  cause_by (of_record own rest) st = size_row geo own st (record_row geo st (first rest st))
  cause_by (of_open own rest) st = size_row geo own st (record_row geo st (first (closed_row ∷ down_row ∷ rest) st))

  abbrev pub cause : Request → State → ℕ
  cause q st = cause_by (rules geo q) st
