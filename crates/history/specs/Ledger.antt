-- "The log written is the list from which the header left by the cut took its sum of n: empty for format's or an apply's, for a
-- sync's own the log as it then stood and its group, for a recover's the list it took. The log found is the first n entries after
-- the cut, by that header." The lists are computed from the calls, the states that they met and the orders they carried out.
use Rattle.std.specs.Prelude.{ℕ, ◌+◌, suc, cond, List, [], ◌∷◌, ◌++◌, eqb, leb}
use Rattle.cells.specs.Entry.{Entry}
use Rattle.card.specs.Marks.{kept_at}
use Rattle.journal.specs.Geometry.{Geometry}
use Rattle.journal.specs.Log.{header_of, entries}
-- equal logs, and a checksum collision: another list than the one written, as long, with the same sum
unfoldable pub use Rattle.crash.specs.Found.{same_log, collides}
use Rattle.journal.specs.Choice.{choose, taken_count}
use Rattle.store.specs.Save.{Save}
use Rattle.store.specs.State.{State}
use Rattle.store.specs.Saves.{group_of, applies}
use Rattle.history.specs.Call.{Call, local, direct, save, cut}
use Rattle.history.specs.Dispatch.{dispatch}

-- a header that a call writes: which of the call's orders writes it (the next one flushes), its place in the queue then, and the
-- list from which it takes its sum of n
pub record PlannedHeader : Type 0 where
  pub at : ℕ
  pub place : ℕ
  pub list : List Entry

module _ (geo : Geometry) where
  -- the log as a sync's own part meets it: the first n entries, none after its apply
  abbrev pub standing : State → List Entry
  standing st = cond (applies geo st) [] (entries geo st.settled st.rec.logged)

  -- the orders of the apply inside
  abbrev pub inner : State → ℕ
  inner st = cond (applies geo st) (st.rec.logged + 3) 0

abbrev pub apply_header : State → PlannedHeader
apply_header st = record { at = st.rec.logged + 1; place = 0; list = [] }

module _ (geo : Geometry) where
  -- W-209: the writes that wait where a sync's own part begins: none after its apply
  abbrev pub waiting_met : State → ℕ
  waiting_met st = cond (applies geo st) 0 st.rec.waiting

  -- behind these, the log blocks and the descriptor
  abbrev pub own_header : State → PlannedHeader
  own_header st = record { at = inner geo st + (st.rec.grouped + geo.descriptors); place = waiting_met st + (st.rec.grouped + geo.descriptors); list = standing geo st ++ group_of geo st }

  -- the list that a recovery takes
  abbrev pub taken : State → List Entry
  taken st = entries geo st.settled (taken_count (choose geo st.rec.blocks st.settled))

  -- the headers that a sync, an apply and a recover write if all their orders happen, in turn; a sync with an empty group writes none
  unfoldable pub sync_headers : State → List PlannedHeader
  sync_headers st = cond (eqb st.rec.grouped 0) [] (cond (applies geo st) (apply_header st ∷ own_header st ∷ []) (own_header st ∷ []))

unfoldable pub apply_headers : State → List PlannedHeader
apply_headers st = apply_header st ∷ []

module _ (geo : Geometry) where
  unfoldable pub recover_headers : State → List PlannedHeader
  recover_headers st = record { at = 0; place = 0; list = taken geo st } ∷ []

  -- those of a save
  abbrev pub headers_of : Save → State → List PlannedHeader
  headers_of Save.sync st = sync_headers geo st
  headers_of Save.apply st = apply_headers st
  headers_of Save.recover st = recover_headers st

-- a header that waits: its place and its list
pub data Pending : Type 0 where
  nothing : Pending
  waits : ℕ → List Entry → Pending

-- of the headers given so far: the list of the one that is settled, and the one that waits
pub record Ledger : Type 0 where
  pub written : List Entry
  pub pending : Pending

-- a header is settled, and none waits
abbrev pub settled_by : List Entry → Ledger
settled_by list = record { written = list; pending = nothing }

-- a header waits
abbrev pub waits_behind : ℕ → List Entry → Ledger → Ledger
waits_behind place list l = record { written = l.written; pending = waits place list }

-- "empty for format's"
abbrev pub fresh_ledger : Ledger
fresh_ledger = settled_by []

-- k orders of a call carried out: a header is written at its order, and settled by the next
unfoldable pub noted : List PlannedHeader → ℕ → Ledger → Ledger
noted [] k l = l
noted (h ∷ hs) k l =
    cond (leb k h.at) l
    (cond (eqb k (suc h.at)) (waits_behind h.place h.list l)
    (noted hs k (settled_by h.list)))

-- an accepted cut: the header that waits is the card's if it is kept, all of it
unfoldable pub resolved : List ℕ → Pending → List Entry → List Entry
resolved ms nothing written = written
resolved ms (waits place list) written = cond (kept_at ms place) list written

module _ (geo : Geometry) where
  -- a call of the list, with what it came to
  unfoldable pub entered : Call → State → Ledger → Ledger
  entered (local c) st l = l
  entered (direct a b) st l = l
  entered (save c) st l = noted (headers_of geo c st) (dispatch geo (save c) st).orders l
  entered (cut ms) st l =
      cond (eqb (dispatch geo (cut ms) st).answer 0) (settled_by (resolved ms l.pending l.written)) l

  -- ---- the log found, and the exception

  -- the first n entries, by the header on the card
  unfoldable pub log_found : State → List Entry
  log_found st = entries geo st.settled (header_of st.settled).count
