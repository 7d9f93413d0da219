-- The inquiries: each figure is what the call carries out.
use Prim.Native.Nat.{ℕ, ◌+◌, ◌≤◌, ◌<◌}
use mathlib.Core.Path.{◌≡◌, refl, ap, sym, subst, ◌∙◌}
use mathlib.Core.Logic.{◌≢◌}
use mathlib.Core.Bool.{Bool, true, false, cond, not, false≢true}
use mathlib.Core.List.{List, [], ◌∷◌, ◌++◌}
use native.Mathlib.Omega.{arith}
use native.Mathlib.Decide.{ℕ_discrete, dec_le}
use borrow.Author.Tests.{eq-eqb, ne_eqb, eqb-false, le-leb, lt-leb, leb-false, not-true}
use lib.Dec.{eqb, leb}
use lib.ListN.{length}
use Rattle.fnv.specs.Fnv.{start}
use Rattle.card.specs.Card.{Card, Order, run}
use Rattle.card.specs.Peak.{peak}
use Rattle.card.proofs.Peaks.{peak-from, run-peak, peak-met}
use Rattle.journal.specs.Geometry.{Geometry}
use Rattle.journal.specs.declared.choice.Choice.{Choice}
use Rattle.journal.specs.declared.choice.Choice.TheVariants.{Whole, Fallback}
use Rattle.journal.specs.Log.{sum_of}
use Rattle.journal.specs.Orders.{append_orders}
use Rattle.journal.specs.Choice.{choose, choice_number}
use Rattle.journal.proofs.Choices.{both}
use Rattle.store.specs.declared.record.Record.{Record}
use Rattle.store.specs.Save.{Save}
use Rattle.store.specs.Request.{save, sync, apply, recover}
use Rattle.store.specs.State.{State, Outcome, with_grouped, with_log, with_save, card_in}
use Rattle.store.specs.Causes.{wrong_sizes, wrong_counts, wrong_waiting, wrong_lists, cause}
use Rattle.store.specs.Outcomes.{refused, unless}
use Rattle.store.specs.Power.{powered}
use Rattle.store.specs.Saves.{carried, group_of, save_orders, applies, met_by_append, saved_as, inner_orders, syncing}
use Rattle.store.specs.Cost.{Cost, checkpoint_first, figures, no_figures, cost_of}
use Rattle.store.proofs.Calls.{call_done}
use Rattle.store.proofs.Saves.{apply-carried}
use Rattle.store.proofs.Costs as Costs
use Rattle.history.specs.Dispatch.{called}
use Rattle.history.specs.Costs.{made_with, ApplyFirst, Foretold, Foretells, Takes, ClosedForms}
use Rattle.history.proofs.Relation.CauseLaws.{cause_opened}
use Rattle.history.proofs.Boundary.Refusals.{recover_idle}
use Rattle.history.proofs.Relation.Forms.{called-refused, apply_other, recover_other}
use Rattle.history.proofs.Steps.CallEnds.{carried-done, carried-short}

module _ (geo : Geometry) where
  -- ---- the power plays no part in what refuses a call, nor in its orders

  cause-powered : (c : Save) (k : ℕ) (st : State) → cause geo (save c) (powered k st) ≡ cause geo (save c) st
  unfolding wrong_sizes wrong_counts wrong_waiting wrong_lists
  cause-powered Save.sync k st = refl
  cause-powered Save.apply k st = refl
  cause-powered Save.recover k st = refl

  orders_powered : (c : Save) (k : ℕ) (st : State) → save_orders geo c (powered k st) ≡ save_orders geo c st
  orders_powered Save.sync k st = refl
  orders_powered Save.apply k st = refl
  orders_powered Save.recover k st = refl

  -- ---- a call that nothing refuses carries out its orders

  carries : (c : Save) (st : State) → (done : Record) × (gone : Record) × (called geo (save c) st ≡ unless (cause geo (save c) st) st (carried (save_orders geo c st) done gone st))
  unfolding called
  carries Save.sync st = (_, _, refl)
  carries Save.apply st = (_, _, ap (λ (o : Outcome). unless (cause geo apply st) st o) (apply-carried geo st))
  carries Save.recover st = (_, _, refl)

-- what an outcome shows of the orders: they were carried out as far as the power went
record Carried (os : List Order) (st : State) (o : Outcome) : Type 0 where
  card : card_in o.state ≡ run os (card_in st)
  done : length os ≤ st.rec.power → (o.answer ≡ 0) × (o.orders ≡ length os)
  gone : st.rec.power < length os → o.answer ≡ 4

carried_shows : (os : List Order) (done gone : Record) (st : State) → Carried os st (carried os done gone st)
unfolding carried
carried_shows os done gone st = record {
  card = refl;
  done = λ h. (ap (λ (o : Outcome). o.answer) (carried-done os done gone st h), ap (λ (o : Outcome). o.orders) (carried-done os done gone st h));
  gone = λ h. ap (λ (o : Outcome). o.answer) (carried-short os done gone st h);
}

-- a list that goes on
nonempty : (os : List Order) → 0 < length os → (o : Order) × (ps : List Order) × (os ≡ o ∷ ps)
nonempty [] h = absurd (omega arith)
nonempty (o ∷ os) h = (o, os, refl)

-- an empty log, or the same
met_logged : (t : Bool) (r : Record) → (cond t (with_log 0 start r) r).logged ≡ cond t 0 r.logged
met_logged true r = refl
met_logged false r = refl

module _ (geo : Geometry) where
  module _ (c : Save) (st : State) (z : cause geo (save c) st ≡ 0) where
    abbrev os : List Order
    os = save_orders geo c st

    -- the figures are those of its orders
    told : cost_of geo c st ≡ figures os (card_in st)
    told = sym (Costs.cost_served geo st c 0 (sym z) refl)

    -- with whatever power
    shows : (k : ℕ) → Carried os (powered k st) (made_with geo k c st)
    shows k =
        let z' : cause geo (save c) (powered k st) ≡ 0 = cause-powered geo c k st ∙ z in
        let (done, gone, e) = carries geo c (powered k st) in
        subst (Carried os (powered k st))
        (sym (e ∙ sym (call_done _ _ _ _ refl z') ∙ ap (λ (l : List Order). carried l done gone (powered k st)) (orders_powered geo c k st)))
        (carried_shows os done gone (powered k st))

    waits : (k : ℕ) → (made_with geo k c st).state.rec.waiting ≡ (run os (card_in (powered k st))).count
    waits k = ap (λ (x : Card). x.count) (shows k).card

    same-peak : (k : ℕ) → peak os (card_in (powered k st)) ≡ peak os (card_in st)
    same-peak k = peak-from os (card_in (powered k st)) ∙ sym (peak-from os (card_in st))

    orders_told : (cost_of geo c st).orders ≡ length os
    orders_told = ap (λ (x : Cost). x.orders) told

    peak-told : (cost_of geo c st).peak ≡ peak os (card_in st)
    peak-told = ap (λ (x : Cost). x.peak) told

    applies-told : (cost_of geo c st).applies ≡ checkpoint_first os
    applies-told = ap (λ (x : Cost). x.applies) told

    reaches_told : (cost_of geo c st).reaches ≡ leb (length os) st.rec.power
    reaches_told = ap (λ (x : Cost). x.reaches) told

    reached : leb (length os) st.rec.power ≡ not (eqb (called geo (save c) st).answer 4)
    reached = go (dec_le (length os) st.rec.power)
      where
        go : Dec (length os ≤ st.rec.power) → leb (length os) st.rec.power ≡ not (eqb (called geo (save c) st).answer 4)
        go (yes h) = le-leb _ _ h ∙ ap (λ (n : ℕ). not (eqb n 4)) (sym ((shows st.rec.power).done h).0)
        go (no h) =
            let short : st.rec.power < length os = omega arith in
            lt-leb _ _ short ∙ ap (λ (n : ℕ). not (eqb n 4)) (sym ((shows st.rec.power).gone short))

    -- orders that go on behind a checkpoint
    checkpoint-first : ApplyFirst geo c st → checkpoint_first os ≡ true
    checkpoint-first (o, ps, e) = ap checkpoint_first e ∙ Costs.checkpoint-first _ _ _ (o ∷ ps)

  -- ---- an apply comes first

  -- the test by which a sync applies
  overfull : (st : State) → applies geo st ≡ true → (st.rec.grouped ≢ 0) × (geo.slots < st.rec.logged + st.rec.grouped)
  overfull st a =
      let (some, over) = both _ _ a in
      (eqb-false _ _ (not-true _ some), leb-false _ _ (not-true _ over))

  first : (c : Save) (st : State) → checkpoint_first (save_orders geo c st) ≡ true → ApplyFirst geo c st
  first Save.sync st e =
      let (some, over) = overfull st (sym (Costs.sync-first geo st) ∙ e) in
      let own = append_orders geo st.rec.blocks st.settled 0 start (st.rec.save + 1) (group_of geo st) in
      let (o, ps, q) = nonempty own (omega (arith, Costs.length-own geo st 0 start)) in
      (o, ps, Costs.sync-list_full geo st some over ∙ ap (λ (l : List Order). Costs.checkpoint geo st ++ l) q)
  first Save.apply st e = absurd (false≢true (sym (Costs.apply-first geo st) ∙ e))
  first Save.recover st e = absurd (false≢true (sym (Costs.recover-first st.rec.blocks (choose geo st.rec.blocks st.settled)) ∙ e))

  never : (c : Save) (st : State) → c ≢ Save.sync → checkpoint_first (save_orders geo c st) ≡ false
  never Save.sync st h = absurd (h refl)
  never Save.apply st h = Costs.apply-first geo st
  never Save.recover st h = Costs.recover-first st.rec.blocks (choose geo st.rec.blocks st.settled)

  -- the log that a sync leaves
  sync-log : (st : State) (k : ℕ) → cause geo sync st ≡ 0 → length (save_orders geo Save.sync st) ≤ k
      → (made_with geo k Save.sync st).state.rec.logged ≡ cond (checkpoint_first (save_orders geo Save.sync st)) 0 st.rec.logged + st.rec.grouped
  unfolding called
  sync-log st k z h =
      let q = powered k st in
      let r = met_by_append geo q in
      let done = with_grouped 0 (with_log (r.logged + st.rec.grouped) (sum_of r.sum (group_of geo st)) (with_save (saved_as st) r)) in
      let gone = cond (leb (length (inner_orders geo q)) k) r q.rec in
      ap (λ (o : Outcome). o.state.rec.logged) (sym (call_done _ _ q (syncing geo q) refl (cause-powered geo Save.sync k st ∙ z)) ∙ carried-done (save_orders geo Save.sync st) done gone q h)
      ∙ ap (λ (n : ℕ). n + st.rec.grouped) (met_logged (applies geo st) (powered k st).rec)
      ∙ ap (λ (t : Bool). cond t 0 st.rec.logged + st.rec.grouped) (sym (Costs.sync-first geo st))

  log : (c : Save) (st : State) → c ≡ Save.sync → (k : ℕ) → cause geo (save c) st ≡ 0 → length (save_orders geo c st) ≤ k
      → (made_with geo k c st).state.rec.logged ≡ cond (checkpoint_first (save_orders geo c st)) 0 st.rec.logged + st.rec.grouped
  log Save.sync st e k z h = sync-log st k z h
  log Save.apply st e k z h = absurd (apply_other (ap save e))
  log Save.recover st e k z h = absurd (recover_other (ap save e))

  foretold : (c : Save) (st : State) → cause geo (save c) st ≡ 0 → Foretold geo c st
  foretold c st z =
      let same : (cost_of geo c st).orders ≡ length (save_orders geo c st) = orders_told c st z in
      let top : (cost_of geo c st).peak ≡ peak (save_orders geo c st) (card_in st) = peak-told c st z in
      record {
        number = ap (λ (x : Cost). x.number) (told c st z);
        orders = λ k h. let d = (shows c st z k).done (omega (arith, same, h)) in (d.0, d.1 ∙ sym same);
        most = λ k. omega (arith, waits c st z k, run-peak (save_orders geo c st) (card_in (powered k st)), same-peak c st z k, top);
        met = let (k, l, e) = peak-met (save_orders geo c st) (card_in st) in (k, omega (arith, same, l), waits c st z k ∙ e ∙ sym top);
        runs = λ k. (shows c st z k).card;
        first = λ a. first c st (sym (applies-told c st z) ∙ a);
        not_first = λ a b. false≢true (sym a ∙ applies-told c st z ∙ checkpoint-first c st z b);
        log = λ e k h. log c st e k z (omega (arith, same, h)) ∙ ap (λ (t : Bool). cond t 0 st.rec.logged + st.rec.grouped) (sym (applies-told c st z));
        never = λ h. applies-told c st z ∙ never c st h;
        enough = reaches_told c st z ∙ ap (λ (n : ℕ). leb n st.rec.power) (sym same);
        reached = reaches_told c st z ∙ reached c st z;
      }

  pub foretells : (c : Save) (st : State) → Foretells geo c st
  foretells c st = record {
    refuses = λ h k.
        let turned : made_with geo k c st ≡ refused (cause geo (save c) st) (powered k st) = called-refused geo (save c) (powered k st) (λ e. h (sym (cause-powered geo c k st) ∙ e)) ∙ ap (λ (n : ℕ). refused n (powered k st)) (cause-powered geo c k st) in
        (sym (Costs.cost_refused geo st c _ refl h) ∙ ap no_figures (sym (ap (λ (o : Outcome). o.answer) turned)), turned);
    serves = foretold c st;
  }

  -- ---- in closed form

  -- o orders, a whether an apply comes first, p at the peak
  takes : (c : Save) (st : State) (o p : ℕ) (a : Bool) → cause geo (save c) st ≡ 0 → figures (save_orders geo c st) (card_in st) ≡ Costs.served o a p st → Takes geo c st o a p
  takes c st o p a z e = let x = told c st z ∙ e in (ap (λ (y : Cost). y.orders) x, ap (λ (y : Cost). y.applies) x, ap (λ (y : Cost). y.peak) x)

  -- a recovery's by its choice, where nothing waits
  recovers : (st : State) (x : Choice) (o p : ℕ) (a : Bool) → cause geo recover st ≡ 0 → choose geo st.rec.blocks st.settled ≡ x → choice_number x ≡ 0
      → Costs.cost_by x st ≡ Costs.served o a p st → Takes geo Save.recover st o a p
  recovers st x o p a z e k f =
      let y : cost_of geo Save.recover st ≡ Costs.served o a p st = sym (Costs.recover-cost geo st x e (z ∙ sym k)) ∙ f in
      (ap (λ (y : Cost). y.orders) y, ap (λ (y : Cost). y.applies) y, ap (λ (y : Cost). y.peak) y)

  pub forms : (st : State) → ClosedForms geo st
  forms st = record {
    sync_none = λ z h. sync_empty z h (ℕ_discrete st.rec.waiting 0);
    sync_room = λ z h l. takes Save.sync st _ _ _ z (Costs.sync_cost_room geo st h l);
    sync-applies = λ z l.
        let few = (cause_opened geo sync st refl refl z).facts.counts.log_count in
        takes Save.sync st _ _ _ z (Costs.sync_cost_full geo st (λ e. omega (arith, few)) l);
    apply_none = λ z h. takes Save.apply st _ _ _ z (Costs.apply_cost_none geo st h);
    apply_some = λ z h. takes Save.apply st _ _ _ z (Costs.apply_cost_some geo st h);
    recover_whole = λ n h c z e. recovers st (Whole n h c) 0 0 false z e refl (ap (λ (w : ℕ). Costs.served 0 false w st) (none z));
    recover_back = λ p h c z e. recovers st (Fallback p h c) 2 1 false z e refl (ap (λ (w : ℕ). Costs.served 2 false (w + 1) st) (none z));
  }
    where
      none : cause geo recover st ≡ 0 → st.rec.waiting ≡ 0
      none z = recover_idle geo st z

      -- nothing waits, or a flush
      sync_empty : cause geo sync st ≡ 0 → st.rec.grouped ≡ 0 → Dec (st.rec.waiting ≡ 0) → Takes geo Save.sync st (cond (eqb st.rec.waiting 0) 0 1) false st.rec.waiting
      sync_empty z h (yes e) = rw (eq-eqb _ _ e) (takes Save.sync st _ _ _ z (Costs.sync_cost_none geo st h e))
      sync_empty z h (no e) = rw (ne_eqb _ _ e) (takes Save.sync st _ _ _ z (Costs.sync_cost_flush geo st h e))
