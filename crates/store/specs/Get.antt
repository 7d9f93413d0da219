-- "get: the newest of open, group, log (its last slot with that address), home block. It is handed out as a part of work memory
-- or of the card, never a copy. A refused get hands out a part of no bytes; its number comes from a question with the same inputs."
-- W-209: "get reads waiting writes, newest first, after the log and before the home block, and may hand out a part of the queue."
use Rattle.std.specs.Prelude.{ℕ, ◌+◌, ◌*◌, cond, List, [], eqb, take, drop, Option, Some, None}
use Rattle.std.specs.Borrow.{Bor}
use Rattle.cells.specs.Entry.{block_bytes, entry_bytes}
use Rattle.cells.specs.Part.{View, part_of}
use Rattle.journal.specs.Geometry.{Geometry}
use Rattle.journal.specs.Layout.{slot_at, place_of}
use Rattle.journal.specs.Lookup.{last_slot}
use Rattle.store.specs.declared.place.Place.{Place}
use Rattle.store.specs.declared.place.Place.TheVariants.{Settled, Waiting, Work, Nowhere}
use Rattle.store.specs.State.{State}
use Rattle.store.specs.Lists.{open_from, group_from, find}
use Rattle.store.specs.Request.{get}
use Rattle.store.specs.Causes.{cause}

-- where the block of a listed entry starts in work memory, or in the waiting bytes
abbrev pub listed_place : ℕ → ℕ → ℕ
listed_place from i = entry_bytes * (from + i) + 4

-- the waiting writes are a list from the first place on, "oldest first": its last entry with an address is the newest
abbrev pub waiting_from : ℕ
waiting_from = 0

abbrev pub find_waiting : State → ℕ → Option ℕ
find_waiting st a = find st.waiting waiting_from st.rec.waiting a

abbrev pub home_place : ℕ → Place
home_place a = Settled (place_of a)

abbrev pub waiting_place : Option ℕ → Place → Place
waiting_place (Some i) older = Waiting (listed_place waiting_from i)
waiting_place None older = older

module _ (geo : Geometry) where
  -- in the log's last slot with that address
  abbrev pub log_place : Option ℕ → Place → Place
  log_place (Some i) older = Settled (place_of (slot_at geo i))
  log_place None older = older

  abbrev pub group_place : Option ℕ → Place → Place
  group_place (Some i) older = Work (listed_place (group_from geo) i)
  group_place None older = older

abbrev pub open_place : Option ℕ → Place → Place
open_place (Some i) older = Work (listed_place open_from i)
open_place None older = older

module _ (geo : Geometry) where
  -- the newest
  unfoldable pub newest : ℕ → State → Place
  newest a st =
      open_place (find st.work open_from st.rec.opened a)
      (group_place geo (find st.work (group_from geo) st.rec.grouped a)
      (log_place geo (last_slot st.settled a st.rec.logged)
      (waiting_place (find_waiting st a) (home_place a))))

  unfoldable pub get_place : ℕ → State → Place
  get_place a st = cond (eqb (cause geo (get a) st) 0) (newest a st) Nowhere

-- the bytes at a place
abbrev pub bytes_at : Place → State → List ℕ
bytes_at (Settled o) st = take block_bytes (drop o st.settled)
bytes_at (Waiting o) st = take block_bytes (drop o st.waiting)
bytes_at (Work o) st = take block_bytes (drop o st.work)
bytes_at Nowhere st = []

module _ (geo : Geometry) where
  -- the block that a get hands out
  abbrev pub block_of : ℕ → State → List ℕ
  block_of a st = bytes_at (get_place geo a st) st

-- the part handed out: of the settled bytes, of the waiting ones, of work memory, or no bytes at the start of the settled ones
abbrev pub part_at : Place → Bor (List ℕ) → Bor (List ℕ) → Bor (List ℕ) → View
part_at (Settled o) settled waiting work = part_of settled o block_bytes
part_at (Waiting o) settled waiting work = part_of waiting o block_bytes
part_at (Work o) settled waiting work = part_of work o block_bytes
part_at Nowhere settled waiting work = part_of settled 0 0
