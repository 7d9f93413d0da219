-- What is settled under the log of an open store, and the direct writes that wait: a call keeps both; or a direct write waits behind them; or
-- what waited has settled, and then what is settled is S.
use Rattle.std.specs.Prelude.{Option, Some, None}
use Prim.Native.Nat.{ℕ, ◌≤◌, ◌<◌}
use mathlib.Core.Path.{◌≡◌, refl, ap, sym, ◌∙◌}
use mathlib.Core.Logic.{◌≢◌}
use mathlib.Core.Bool.{Bool, true, false, cond}
use mathlib.Core.List.{List, [], ◌∷◌, ◌++◌}
use native.Mathlib.Omega.{arith}
use native.Mathlib.Decide.{dec_le}
use borrow.Author.Tests.{eq-eqb, ne_eqb, eqb-true, lt-leb, not-false}
use lib.Dec.{eqb, leb}
use lib.ListN.{length}
use Rattle.cells.specs.Entry.{Entry}
use Rattle.card.specs.Disk.{overlay}
use Rattle.card.specs.Card.{Card, Order, flush, queue, order, run, block_at}
use Rattle.card.proofs.Runs.{Whole, NarrowAddress, queue_write, run_live, run-one, writes_settled}
use Rattle.journal.specs.Geometry.{Geometry}
use Rattle.journal.specs.Layout.{is_data}
use Rattle.journal.specs.Log.{entries}
use Rattle.crash.proofs.Batches.{no_queue}
use Rattle.crash.proofs.Logs.{entries_disk, data_below}
use Rattle.store.specs.Local.{Local}
use Rattle.store.specs.Request as Request
use Rattle.store.specs.State.{State, open_mode, down, with_mode, card_in}
use Rattle.store.specs.Lists.{open_from, find}
use Rattle.store.specs.Causes.{cause}
use Rattle.store.specs.Outcomes.{completed}
use Rattle.store.specs.Put.{put_at}
use Rattle.store.specs.Saves.{carried, applying}
use Rattle.store.specs.Direct.{direct_write, direct_orders}
use Rattle.history.specs.Call.{local, direct, apply}
use Rattle.history.specs.Plain.{Plain, Done, of_sync, of_apply, still, done, spent, flushed, cut_short, apply_takes, apply_waits, sync_takes, sync_waits, synced, cleared, plain_barrier, plain_sync, plain_apply}
use Rattle.history.specs.Dispatch.{called, dispatch, served_local}
use Rattle.history.specs.Ledger.{Ledger}
use Rattle.history.proofs.Relation.CauseLaws.{IsOpen, few_wait, cause_passes, cause_opened}
use Rattle.history.proofs.Relation.Forms.{unless_either}
use Rattle.history.proofs.Relation.Sim.{flushed_bytes, OpenSim}
use Rattle.history.proofs.Steps.Ends.{flushed_none}

module _ (geo : Geometry) where
  abbrev pub beneath : State → ℕ → List ℕ
  beneath st x = overlay (entries geo st.settled st.rec.logged) (block_at st.settled) x

  -- t has the settled bytes s and the waiting writes q, and N and n of st, which was open if t is
  pub record Holds (s : List ℕ) (q : List Entry) (st t : State) : Type 0 where
    pub settled : t.settled ≡ s
    pub waits : queue (card_in t) ≡ q
    pub n : t.rec.logged ≡ st.rec.logged
    pub N : t.rec.blocks ≡ st.rec.blocks
    pub opened : t.rec.mode ≡ open_mode → st.rec.mode ≡ open_mode

  -- both are those of st
  abbrev pub Keeps : State → State → Type 0
  Keeps st t = Holds st.settled (queue (card_in st)) st t

  -- itself
  pub itself : (st : State) → Keeps st st
  itself st = record { settled = refl; waits = refl; n = refl; N = refl; opened = λ e. e }

  pub beneath-kept : (st t : State) (q : List Entry) → Holds st.settled q st t → (x : ℕ) → beneath t x ≡ beneath st x
  beneath-kept st t q k x = λ i. overlay (entries geo (k.settled i) (k.n i)) (block_at (k.settled i)) x

  -- once what waits has settled it is S
  module _ (st : State) (l : Ledger) (d : Plain) (o : OpenSim geo st l d) where
    pub beneath-flushed : (t : State) (q : List Entry) → Holds (flushed_bytes geo st) q st t → (x : ℕ) → is_data geo st.rec.blocks x ≡ true → beneath t x ≡ d.S.disk x
    beneath-flushed t q k x h =
        (λ i. overlay (entries geo (k.settled i) (k.n i)) (block_at (k.settled i)) x)
        ∙ ap (λ (es : List Entry). overlay es (block_at (flushed_bytes geo st)) x) (entries_disk geo (flushed_bytes geo st) st.rec.logged)
        ∙ sym (o.card.disk x h tt)

    pub beneath_none : st.rec.waiting ≡ 0 → (x : ℕ) → is_data geo st.rec.blocks x ≡ true → beneath st x ≡ d.S.disk x
    beneath_none z = beneath-flushed st (queue (card_in st)) (record { settled = sym (flushed_none (card_in st) (no_queue (card_in st) z)); waits = refl; n = refl; N = refl; opened = λ e. e })

  -- ---- the calls

  module _ (st : State) where
    local_kept : (c : Local) → Keeps st (served_local geo c st)
    unfolding queue
    local_kept (Local.power k) = record { settled = refl; waits = refl; n = refl; N = refl; opened = λ e. e }
    local_kept (Local.put a b) = go (find st.work open_from st.rec.opened a)
      where
        go : (r : Option ℕ) → Keeps st (put_at r (record { address = a; block = b }) st)
        go (Some i) = record { settled = refl; waits = refl; n = refl; N = refl; opened = λ e. e }
        go None = record { settled = refl; waits = refl; n = refl; N = refl; opened = λ e. e }
    local_kept (Local.get a) = record { settled = refl; waits = refl; n = refl; N = refl; opened = λ e. e }
    local_kept (Local.get_list xs bs) = record { settled = refl; waits = refl; n = refl; N = refl; opened = λ e. e }
    local_kept Local.commit = record { settled = refl; waits = refl; n = refl; N = refl; opened = λ e. e }
    local_kept Local.abandon = record { settled = refl; waits = refl; n = refl; N = refl; opened = λ e. e }

    pub local_holds : (c : Local) → Keeps st (dispatch geo (local c) st).state
    unfolding called
    local_holds c = unless_either (λ o. Keeps st o.state) (cause geo (Request.local c) st) st (completed (served_local geo c st)) (λ e. local_kept c) (itself st)

    -- an apply of an empty log
    pub apply-holds : st.rec.logged ≡ 0 → Keeps st (dispatch geo apply st).state
    unfolding called
    apply-holds z = unless_either (λ o. Keeps st o.state) (cause geo Request.apply st) st (applying geo st) (λ e. rw (eq-eqb st.rec.logged 0 z) (itself st)) (itself st)

    -- a call that keeps its record, carried out or cut short
    carried-holds : (s : List ℕ) (q : List Entry) (os : List Order) → (run os (card_in st)).settled ≡ s → queue (run os (card_in st)) ≡ q → Holds s q st (carried os st.rec st.rec st).state
    unfolding carried
    carried-holds s q os e f = record { settled = e; waits = f; n = (go (leb (length os) st.rec.power)).0; N = (go (leb (length os) st.rec.power)).1; opened = (go (leb (length os) st.rec.power)).2 }
      where
        go : (t : Bool)
            → ((cond t st.rec (with_mode down st.rec)).logged ≡ st.rec.logged)
            × ((cond t st.rec (with_mode down st.rec)).blocks ≡ st.rec.blocks)
            × ((cond t st.rec (with_mode down st.rec)).mode ≡ open_mode → st.rec.mode ≡ open_mode)
        go true = (refl, refl, λ e. e)
        go false = (refl, refl, λ e. absurd (omega arith))

    -- it was carried out if the record is open
    open_enough : (os : List Order) → (carried os st.rec st.rec st).state.rec.mode ≡ open_mode → length os ≤ st.rec.power
    unfolding carried
    open_enough os m = go (dec_le (length os) st.rec.power)
      where
        go : Dec (length os ≤ st.rec.power) → length os ≤ st.rec.power
        go (yes l) = l
        go (no l) = absurd (let k : leb (length os) st.rec.power ≡ false = lt-leb (length os) st.rec.power (omega arith) in let q : ◌≡◌ {A = ℕ} 2 1 = sym (ap (λ (t : Bool). (cond t st.rec (with_mode down st.rec)).mode) k) ∙ m in omega arith)

    -- a direct write that is not refused
    module _ (a : ℕ) (b : List ℕ) (h : cause geo (Request.direct a b) st ≡ 0) where
      abbrev e : Entry
      e = record { address = a; block = b }

      o : IsOpen geo st
      o = cause_opened geo (Request.direct a b) st refl refl h

      whole : Whole e
      whole = eqb-true _ _ (not-false _ (cause_passes geo (Request.direct a b) st h).block)

      narrow : NarrowAddress e
      narrow =
          let k : a < st.rec.blocks = data_below geo st.rec.blocks a (not-false _ (cause_passes geo (Request.direct a b) st h).own.0) in
          omega (arith, o.facts.sizes.most, o.facts.counts.blocks)

      -- one write settles nothing, and waits behind the others
      one_write : (c : Card) → length c.waiting ≡ length st.waiting → c.count ≤ geo.direct → 1 ≤ c.power
          → ((run (direct_write a b ∷ []) c).settled ≡ c.settled) × (queue (run (direct_write a b ∷ []) c) ≡ queue c ++ (e ∷ []))
      one_write c size few l = (
        writes_settled (e ∷ []) c,
        ap queue (run-one (direct_write a b) c l) ∙ queue_write e c (omega (arith, o.facts.sizes.waiting, geo.queued)) whole narrow,
      )

      -- a flush before it settles all that waits
      flush_write : (c : Card) → length c.waiting ≡ length st.waiting → 2 ≤ c.power
          → ((run (flush ∷ direct_write a b ∷ []) c).settled ≡ (order flush c).settled) × (queue (run (flush ∷ direct_write a b ∷ []) c) ≡ e ∷ [])
      unfolding order
      flush_write c size l =
          let r = one_write (order flush c) size (omega arith) (omega arith) in
          let at : run (flush ∷ direct_write a b ∷ []) c ≡ run (direct_write a b ∷ []) (order flush c) = run_live flush (direct_write a b ∷ []) c (omega arith) in
          (ap (λ (x : Card). x.settled) at ∙ r.0, ap queue at ∙ r.1 ∙ ap (λ (q : List Entry). q ++ (e ∷ [])) (no_queue (order flush c) refl))

      pub direct_holds : eqb st.rec.waiting geo.direct ≡ false → (dispatch geo (direct a b) st).state.rec.mode ≡ open_mode
          → Holds st.settled (queue (card_in st) ++ (e ∷ [])) st (dispatch geo (direct a b) st).state
      unfolding called direct_orders
      direct_holds z = rw (eq-eqb (cause geo (Request.direct a b) st) 0 h, z) go
        where
          go : (carried (direct_write a b ∷ []) st.rec st.rec st).state.rec.mode ≡ open_mode
              → Holds st.settled (queue (card_in st) ++ (e ∷ [])) st (carried (direct_write a b ∷ []) st.rec st.rec st).state
          go m = let r = one_write (card_in st) refl (few_wait geo st o.facts.counts o.mode) (open_enough (direct_write a b ∷ []) m) in carried-holds _ _ (direct_write a b ∷ []) r.0 r.1

      pub direct_flushes : eqb st.rec.waiting geo.direct ≡ true → (dispatch geo (direct a b) st).state.rec.mode ≡ open_mode
          → Holds (flushed_bytes geo st) (e ∷ []) st (dispatch geo (direct a b) st).state
      unfolding called direct_orders order
      direct_flushes z = rw (eq-eqb (cause geo (Request.direct a b) st) 0 h, z) go
        where
          go : (carried (flush ∷ direct_write a b ∷ []) st.rec st.rec st).state.rec.mode ≡ open_mode
              → Holds (flushed_bytes geo st) (e ∷ []) st (carried (flush ∷ direct_write a b ∷ []) st.rec st.rec st).state
          go m = let r = flush_write (card_in st) refl (open_enough (flush ∷ direct_write a b ∷ []) m) in carried-holds _ _ (flush ∷ direct_write a b ∷ []) r.0 r.1

-- ---- the plain disk behind a sync or an apply: open, nothing waits

module _ (geo : Geometry) (d : Plain) where
  abbrev Empties : Done → Type 0
  Empties o = o.plain.mode ≡ 1 → o.plain.waiting ≡ 0

  short_empties : (z : ℕ) → ◌≡◌ {A = ℕ} 2 1 → z ≡ 0
  short_empties z e = absurd (omega arith)

  barrier_empties : Empties (plain_barrier geo d)
  unfolding plain_barrier
  barrier_empties = go (eqb d.waiting 0) (leb 1 d.power) refl
    where
      go : (s t : Bool) → eqb d.waiting 0 ≡ s → Empties (cond s (still d) (cond t (done 1 (flushed (spent 1 d))) (cut_short geo (of_sync d.power) d.waiting d)))
      go true t e m = eqb-true _ _ e
      go false true e m = refl
      go false false e m = short_empties d.waiting m

  pub sync_empties : Empties (plain_sync geo d)
  unfolding plain_sync
  sync_empties = go (eqb (length d.G) 0) (leb (sync_takes geo d.n (length d.G)) d.power)
    where
      go : (s t : Bool) → Empties (cond s (plain_barrier geo d) (cond t (done (sync_takes geo d.n (length d.G)) (synced geo d)) (cut_short geo (of_sync d.power) (sync_waits geo d.waiting d.n (length d.G) d.power) d)))
      go true t m = barrier_empties m
      go false true m = refl
      go false false m = short_empties _ m

  pub apply_empties : d.n ≢ 0 → Empties (plain_apply geo d)
  unfolding plain_apply
  apply_empties z = rw (ne_eqb d.n 0 z) (go (leb (apply_takes d.n) d.power))
    where
      go : (t : Bool) → Empties (cond t (done (apply_takes d.n) (cleared d)) (cut_short geo (of_apply d.power) (apply_waits d.waiting d.n d.power) d))
      go true m = refl
      go false m = short_empties _ m
