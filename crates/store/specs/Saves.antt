-- The calls that give orders: sync, apply, recover.
use Rattle.std.specs.Prelude.{ℕ, ◌+◌, min, Bool, cond, not, ◌&&◌, List, [], eqb, leb, length}
use Rattle.cells.specs.Entry.{Entry}
use Rattle.fnv.specs.Fnv.{start}
use Rattle.card.specs.Card.{Order, run}
use Rattle.journal.specs.Geometry.{Geometry}
use Rattle.journal.specs.declared.choice.Choice.{Choice}
use Rattle.journal.specs.Log.{entries, sum_of}
use Rattle.journal.specs.Orders.{checkpoint_orders, append_orders, apply_orders, sync_orders}
use Rattle.journal.specs.Choice.{choose, taken_count, taken_sum, taken_save, recover_orders}
use Rattle.store.specs.declared.record.Record.{Record}
use Rattle.store.specs.State.{State, Outcome, open_mode, down, with_mode, with_opened, with_grouped, with_log, with_save, with_record, card_in, with_card}
use Rattle.store.specs.Lists.{group_from, list_of}
use Rattle.store.specs.Save.{Save}
use Rattle.store.specs.Request.{sync, apply, recover}
use Rattle.store.specs.Causes.{cause}
use Rattle.store.specs.Outcomes.{completed, unless}

-- a call that gives the orders os: done with the record `done`, or "the call ends with 4 and the record is down", with `gone`
unfoldable pub carried : List Order → Record → Record → State → Outcome
carried os done gone st =
    let whole = leb (length os) st.rec.power in
    record {
      answer = cond whole 0 4;
      orders = min (length os) st.rec.power;
      state = with_card (run os (card_in st)) (with_record (cond whole done (with_mode down gone)) st);
    }

-- ---- the steps, each as it goes on from the state that it is given

module _ (geo : Geometry) where
  -- "n home blocks in slot order, flush, an empty log's header, flush": the log is empty then. W-201: "apply keeps" the save number, in
  -- header and record
  abbrev pub emptying : State → Outcome
  emptying st =
      carried (checkpoint_orders st.rec.blocks st.rec.save (entries geo st.settled st.rec.logged))
      (with_log 0 start st.rec)
      st.rec
      st

  abbrev pub group_of : State → List Entry
  group_of st = list_of st.work (group_from geo) st.rec.grouped

  -- the group is appended to the log: "The group becomes empty; open stays. Sums continue from the record's." W-201: the save number is
  -- "one more with each sync that writes its own header"
  abbrev pub appending : State → Outcome
  appending st =
      carried (append_orders geo st.rec.blocks st.settled st.rec.logged st.rec.sum (st.rec.save + 1) (group_of st))
      (with_grouped 0 (with_log (st.rec.logged + st.rec.grouped) (sum_of st.rec.sum (group_of st)) (with_save (st.rec.save + 1) st.rec)))
      st.rec
      st

-- ---- the orders of each call, one list computed from the state that it is given

module _ (geo : Geometry) where
  abbrev pub save_orders : Save → State → List Order
  save_orders Save.sync st = sync_orders geo st.rec.blocks st.settled st.rec.waiting st.rec.logged st.rec.sum st.rec.save (group_of geo st)
  save_orders Save.apply st = apply_orders geo st.rec.blocks st.settled st.rec.logged st.rec.save
  save_orders Save.recover st = recover_orders st.rec.blocks (choose geo st.rec.blocks st.settled)

-- "Done, the mode is open, open and group are empty, n and sum those of the list taken." W-201: "recover hands back in it the number found"
abbrev pub reopened : ℕ → ℕ → ℕ → Record → Record
reopened n sum c r = with_mode open_mode (with_opened 0 (with_grouped 0 (with_log n sum (with_save c r))))

-- the list of a choice is taken
abbrev pub recovering : Choice → State → Outcome
recovering c st = carried (recover_orders st.rec.blocks c) (reopened (taken_count c) (taken_sum c) (taken_save c) st.rec) st.rec st

-- ---- sync

-- the record's save number when it is done: one more, if it wrote its own header
abbrev pub saved_as : State → ℕ
saved_as st = cond (eqb st.rec.grouped 0) st.rec.save (st.rec.save + 1)

module _ (geo : Geometry) where
  -- "If n+m > 32, apply runs first"
  abbrev pub applies : State → Bool
  applies st = not (eqb st.rec.grouped 0) && not (leb (st.rec.logged + st.rec.grouped) geo.slots)

  -- the record's n and sum as the sync's own part meets them
  abbrev pub met_by_append : State → Record
  met_by_append st = cond (applies st) (with_log 0 start st.rec) st.rec

  -- the orders of the apply inside
  abbrev pub inner_orders : State → List Order
  inner_orders st = cond (applies st) (checkpoint_orders st.rec.blocks st.rec.save (entries geo st.settled st.rec.logged)) []

  -- "The group becomes empty; open stays. Sums continue from the record's." Cut short, the record keeps n and sum "as before the
  -- call, or as a sync's apply left them if all that apply's orders happened"; its save number stays: "a call cut short leaves it"
  abbrev pub syncing : State → Outcome
  syncing st =
      let r = met_by_append st in
      carried (save_orders geo Save.sync st)
      (with_grouped 0 (with_log (r.logged + st.rec.grouped) (sum_of r.sum (group_of geo st)) (with_save (saved_as st) r)))
      (cond (leb (length (inner_orders st)) st.rec.power) r st.rec)
      st

  unfoldable pub sync_call : State → Outcome
  sync_call st = unless (cause geo sync st) st (syncing st)

  -- ---- apply

  -- "n = 0: done, no orders."
  abbrev pub applying : State → Outcome
  applying st = cond (eqb st.rec.logged 0) (completed st) (emptying geo st)

  unfoldable pub apply_call : State → Outcome
  apply_call st = unless (cause geo apply st) st (applying st)

  -- ---- recover

  unfoldable pub recover_call : State → Outcome
  recover_call st = unless (cause geo recover st) st (recovering (choose geo st.rec.blocks st.settled) st)
