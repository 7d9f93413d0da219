-- "commit: each open entry, in turn, replaces or joins the group; open becomes empty."
use Rattle.std.specs.Prelude.{ℕ, zero, suc, ◌+◌, List, Option, Some, None}
use Rattle.cells.specs.Entry.{Entry, set_entry}
use Rattle.journal.specs.Geometry.{Geometry}
use Rattle.store.specs.State.{State, Outcome, with_opened, with_grouped, with_record, with_work}
use Rattle.store.specs.Lists.{open_from, group_from, listed, find}
use Rattle.store.specs.Request.{commit}
use Rattle.store.specs.Causes.{cause}
use Rattle.store.specs.Outcomes.{completed, unless}

-- work memory and how many entries its group has
pub record Group : Type 0 where
  pub work : List ℕ
  pub count : ℕ

module _ (geo : Geometry) where
  abbrev pub join_at : Option ℕ → Entry → Group → Group
  join_at (Some i) e g = record { work = set_entry g.work (group_from geo + i) e; count = g.count }
  join_at None e g = record { work = set_entry g.work (group_from geo + g.count) e; count = g.count + 1 }

  -- one entry replaces the group's entry of its address or joins at the end
  unfoldable pub join : Entry → Group → Group
  join e g = join_at (find g.work (group_from geo) g.count e.address) e g

  -- the first n open entries, in turn
  unfoldable pub joined : ℕ → Group → Group
  joined zero g = g
  joined (suc n) g = join (listed g.work open_from n) (joined n g)

  abbrev pub committed : State → State
  committed st =
      let g = joined st.rec.opened (record { work = st.work; count = st.rec.grouped }) in
      with_record (with_opened 0 (with_grouped g.count st.rec)) (with_work g.work st)

  unfoldable pub commit_call : State → Outcome
  commit_call st = unless (cause geo commit st) st (completed (committed st))
