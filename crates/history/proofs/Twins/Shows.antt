-- What twins show: every call comes to the same, and while open their cards are alike.
use Prim.Native.Nat.{ℕ, ◌+◌, ◌≤◌, ◌<◌}
use mathlib.Core.Path.{◌≡◌, refl, ap, sym, ◌∙◌}
use mathlib.Core.Logic.{◌≢◌}
use mathlib.Core.Bool.{false}
use mathlib.Core.List.{List}
use native.Mathlib.Omega.{arith}
use native.Mathlib.Decide.{ℕ_discrete, dec_le}
use lib.ListN.{get_or}
use Rattle.cells.specs.Upto.Laws.{get_or-up_to}
use Rattle.cells.specs.Entry.{Entry}
use Rattle.fnv.specs.Fnv.{start}
use Rattle.card.specs.Disk.{overlay}
use Rattle.card.specs.Card.{blocks_in, block_at}
use Rattle.journal.specs.Geometry.{Geometry}
use Rattle.journal.specs.Header.{most_save}
use Rattle.journal.specs.Layout.{is_data, wrong_size}
use Rattle.journal.specs.Log.{slot_entry, entries, sum_of}
use Rattle.journal.specs.declared.choice.Choice.TheVariants.{Whole}
use Rattle.journal.specs.Choice.{choose, taken_count}
use Rattle.store.specs.Request as Request
use Rattle.store.specs.State.{State, open_mode, with_save, card_in}
use Rattle.store.specs.Causes.{wrong_sizes, cause}
use Rattle.store.specs.Outcomes.{completed}
use Rattle.store.specs.Power.{powered}
use Rattle.store.specs.Get.{block_of}
use Rattle.store.specs.Save.{Save}
use Rattle.store.specs.Saves.{save_orders}
use Rattle.store.specs.Cost.{figures, no_figures, cost_of}
use Rattle.store.proofs.Costs.{sync_cost_none, sync_cost_flush, sync_cost_room, sync_cost_full, apply_cost_none, apply_cost_some, cost_refused, cost_served}
use Rattle.inspect.specs.Reading as Reading
use Rattle.inspect.specs.Reading.{inspection, chosen_count, laid_over}
use Rattle.journal.proofs.Logs.{neither}
use Rattle.inspect.proofs.Readings.{right-chosen}
use Rattle.inspect.proofs.Comparisons.{alike_yes}
use Rattle.history.specs.Call.{Call, save, power, get}
use Rattle.history.specs.Plain.{plain_get, plain_listing}
use Rattle.history.specs.Dispatch.{called, dispatch}
use Rattle.history.specs.History.{World}
use Rattle.history.specs.AlikeCards.{SameAt, StillAlike}
use Rattle.history.proofs.Relation.CauseLaws.{record_facts, cause_passes}
use Rattle.history.proofs.Relation.Forms.{unless_either}
use Rattle.history.proofs.Relation.Sim.{OpenSim, Sim}
use Rattle.history.proofs.Relation.OpenFacts as Facts
use Rattle.history.proofs.Steps.Shown.{small_N, choose_whole}
use Rattle.history.proofs.Steps.Local.{is_open, get_plain, list_plain}
use Rattle.history.proofs.Twins.Regrouped.{same-get, same-listing}
use Rattle.history.proofs.Twins.LastNumber.{recover-refused}
use Rattle.history.proofs.Twins.Homes.{beneath}
use Rattle.history.proofs.Twins.Pairs.{Twins, as_first, same_mode, same-waiting, same_power, same_size, first_open, second_open, same_logged, same_log_lem, same_grouped, same_opened, same_row, same_end}
use Rattle.history.proofs.Boundary.FaceRefusals.{parts}

module _ (geo : Geometry) where
  pub right-one : (st : State) → wrong_sizes geo st ≡ false → wrong_size geo st.settled ≡ false
  unfolding wrong_sizes
  right-one st h = (neither _ _ (neither _ _ h).0).0

  -- equal logs are equal slot by slot
  pub slots_of : (s t : List ℕ) (n : ℕ) → entries geo s n ≡ entries geo t n → (i : ℕ) → i < n → slot_entry geo s i ≡ slot_entry geo t i
  slots_of s t n e i l =
      let d = slot_entry geo s i in
      sym (get_or-up_to (slot_entry geo s) n i d l) ∙ ap (λ (es : List Entry). get_or es i d) e ∙ get_or-up_to (slot_entry geo t) n i d l

  pub power-keeps : (k : ℕ) (st : State) → (dispatch geo (power k) st).state.rec.save ≡ st.rec.save
  unfolding called
  power-keeps k st = unless_either (λ x. x.state.rec.save ≡ st.rec.save) (cause geo (Request.power k) st) st (completed (powered k st)) (λ e. refl) refl

-- ---- the figures of a sync go by n, the group's count, what waits and the power; those of an apply likewise, the group apart

module _ (geo : Geometry) (a b : State) (n : a.rec.logged ≡ b.rec.logged) where
  sync_counted : a.rec.grouped ≡ b.rec.grouped → a.rec.waiting ≡ b.rec.waiting → a.rec.power ≡ b.rec.power
      → figures (save_orders geo Save.sync a) (card_in a) ≡ figures (save_orders geo Save.sync b) (card_in b)
  sync_counted m w p = go (ℕ_discrete a.rec.grouped 0) (dec_le (a.rec.logged + a.rec.grouped) geo.slots)
    where
      none : a.rec.grouped ≡ 0 → Dec (a.rec.waiting ≡ 0) → figures (save_orders geo Save.sync a) (card_in a) ≡ figures (save_orders geo Save.sync b) (card_in b)
      none z (yes k) = sync_cost_none geo a z k ∙ rw (w, p) (sym (sync_cost_none geo b (sym m ∙ z) (sym w ∙ k)))
      none z (no k) = sync_cost_flush geo a z k ∙ rw (w, p) (sym (sync_cost_flush geo b (sym m ∙ z) (λ e. k (w ∙ e))))

      go : Dec (a.rec.grouped ≡ 0) → Dec (a.rec.logged + a.rec.grouped ≤ geo.slots) → figures (save_orders geo Save.sync a) (card_in a) ≡ figures (save_orders geo Save.sync b) (card_in b)
      go (yes z) l = none z (ℕ_discrete a.rec.waiting 0)
      go (no z) (yes l) =
          sync_cost_room geo a z l ∙ rw (m, w, p) (sym (sync_cost_room geo b (λ e. z (m ∙ e)) (omega (arith, n, m))))
      go (no z) (no l) =
          sync_cost_full geo a z (omega arith) ∙ rw (n, m, w, p) (sym (sync_cost_full geo b (λ e. z (m ∙ e)) (omega (arith, n, m))))

  apply_counted : a.rec.waiting ≡ b.rec.waiting → a.rec.power ≡ b.rec.power → figures (save_orders geo Save.apply a) (card_in a) ≡ figures (save_orders geo Save.apply b) (card_in b)
  apply_counted w p = go (ℕ_discrete a.rec.logged 0)
    where
      go : Dec (a.rec.logged ≡ 0) → figures (save_orders geo Save.apply a) (card_in a) ≡ figures (save_orders geo Save.apply b) (card_in b)
      go (yes z) = apply_cost_none geo a z ∙ rw (w, p) (sym (apply_cost_none geo b (sym n ∙ z)))
      go (no z) = apply_cost_some geo a z ∙ rw (n, w, p) (sym (apply_cost_some geo b (λ e. z (n ∙ e))))

-- ---- what a call shows on twins

module _ (geo : Geometry) (w v : World) (t : Twins geo w v) (x : w.store.rec.save ≢ most_save) (y : v.store.rec.save ≢ most_save) where
  same_block : (a : ℕ) → block_of geo a w.store ≡ block_of geo a v.store
  same_block a = go (ℕ_discrete (cause geo (Request.get a) w.store) 0)
    where
      row : cause geo (Request.get a) w.store ≡ cause geo (Request.get a) v.store
      row = same_row geo w v t x y (get a)

      go : Dec (cause geo (Request.get a) w.store ≡ 0) → block_of geo a w.store ≡ block_of geo a v.store
      go (no h) = (parts geo a w.store).block h ∙ sym ((parts geo a v.store).block (λ z. h (row ∙ z)))
      go (yes h) =
          get_plain geo a w.store w.ledger w.plain t.first h
          ∙ sym (as_first geo w v t (plain_get a) ∙ same-get geo t.groups w.plain a)
          ∙ sym (get_plain geo a v.store v.ledger v.plain t.second (sym row ∙ h))

  -- the figures of an inquiry about a call that is not refused
  served-figures : (q : Save) → cause geo (Request.save q) w.store ≡ 0 → figures (save_orders geo q w.store) (card_in w.store) ≡ figures (save_orders geo q v.store) (card_in v.store)
  served-figures Save.sync h =
      let e = (is_open geo w.store w.ledger w.plain t.first Request.sync refl (cause_passes geo Request.sync w.store h)).mode in
      sync_counted geo w.store v.store (same_logged geo w v t e) (same_grouped geo w v t e) (same-waiting geo w v t) (same_power geo w v t)
  served-figures Save.apply h =
      let e = (is_open geo w.store w.ledger w.plain t.first Request.apply refl (cause_passes geo Request.apply w.store h)).mode in
      apply_counted geo w.store v.store (same_logged geo w v t e) (same-waiting geo w v t) (same_power geo w v t)
  served-figures Save.recover h = absurd (recover-refused geo w.store t.first_mode h)

  same-figures : (q : Save) → cost_of geo q w.store ≡ cost_of geo q v.store
  same-figures q = go (ℕ_discrete (cause geo (Request.save q) w.store) 0)
    where
      row : cause geo (Request.save q) w.store ≡ cause geo (Request.save q) v.store
      row = same_row geo w v t x y (save q)

      go : Dec (cause geo (Request.save q) w.store ≡ 0) → cost_of geo q w.store ≡ cost_of geo q v.store
      go (no h) = sym (cost_refused geo w.store q _ refl h) ∙ ap no_figures row ∙ cost_refused geo v.store q _ refl (λ z. h (row ∙ z))
      go (yes h) = sym (cost_served geo w.store q _ refl h) ∙ served-figures q h ∙ cost_served geo v.store q _ refl (sym row ∙ h)

  pub same_at : (c : Call) → SameAt geo c w.store v.store
  same_at c = record {
    answer = (same_end geo w v t x y c).0;
    orders = (same_end geo w v t x y c).1;
    block = same_block;
    figures = same-figures;
    list = λ xs bs.
        list_plain geo xs bs w.store w.ledger w.plain t.first
        ∙ sym (as_first geo w v t (plain_listing geo xs bs) ∙ same-listing geo t.groups w.plain xs bs)
        ∙ sym (list_plain geo xs bs v.store v.ledger v.plain t.second);
  }

-- ---- an open store's card, read by itself

module _ (geo : Geometry) (w : World) (m : Sim geo w.store w.ledger w.plain) (o : OpenSim geo w.store w.ledger w.plain) where
  abbrev s : List ℕ
  s = w.store.settled

  pub open_size : w.store.rec.blocks ≡ blocks_in s
  open_size = (record_facts geo w.store m.basics.counts).blocks

  open_choice : Reading.chosen geo s ≡ Whole w.store.rec.logged (sum_of start (entries geo s w.store.rec.logged)) w.plain.S.groups
  open_choice =
      ap (λ (N : ℕ). choose geo N s) (sym open_size)
      ∙ choose_whole geo w.store.rec.blocks s (small_N geo w.store w.plain m.basics) w.ledger.written w.plain.S w.store.rec.logged (Facts.behind geo w.store w.ledger w.plain m.basics o).card

  pub open_accepted : inspection geo s ≡ 0
  open_accepted = right-chosen geo s _ (right-one geo w.store m.basics.sizes) open_choice

  pub open_count : chosen_count geo s ≡ w.store.rec.logged
  open_count = ap taken_count open_choice

  pub open_laid : (x : ℕ) → laid_over geo s x ≡ beneath geo w.store x
  open_laid x = ap (λ (k : ℕ). overlay (entries geo s k) (block_at s) x) open_count

-- ---- so twins that are open are alike

module _ (geo : Geometry) (w v : World) (t : Twins geo w v) (e : w.store.rec.mode ≡ open_mode) where
  abbrev p : OpenSim geo w.store w.ledger w.plain
  p = first_open geo w v t e

  abbrev q : OpenSim geo v.store v.ledger v.plain
  q = second_open geo w v t e

  same_blocks : blocks_in w.store.settled ≡ blocks_in v.store.settled
  same_blocks = sym (open_size geo w t.first p) ∙ same_size geo w v t ∙ open_size geo v t.second q

  same_count : chosen_count geo w.store.settled ≡ chosen_count geo v.store.settled
  same_count = open_count geo w t.first p ∙ same_logged geo w v t e ∙ sym (open_count geo v t.second q)

  same-slots : (i : ℕ) → i < chosen_count geo w.store.settled → slot_entry geo w.store.settled i ≡ slot_entry geo v.store.settled i
  same-slots i l =
      slots_of geo w.store.settled v.store.settled w.store.rec.logged (same_log_lem geo w v t e ∙ ap (entries geo v.store.settled) (sym (same_logged geo w v t e))) i
      (rw (← open_count geo w t.first p) l)

  same_records : with_save 0 w.store.rec ≡ with_save 0 v.store.rec
  same_records = λ i. record {
    mode = same_mode geo w v t i;
    blocks = same_size geo w v t i;
    opened = same_opened geo w v t e i;
    grouped = same_grouped geo w v t e i;
    logged = same_logged geo w v t e i;
    waiting = same-waiting geo w v t i;
    power = same_power geo w v t i;
    sum = (p.sum ∙ ap (sum_of start) (same_log_lem geo w v t e) ∙ sym q.sum) i;
    save = 0;
  }

  pub still_alike : StillAlike geo w.store v.store
  still_alike = record {
    alike = (alike_yes geo w.store.settled v.store.settled).1
        (record {
          first = open_accepted geo w t.first p;
          second = open_accepted geo v t.second q;
          blocks = same_blocks;
          count = same_count;
          slots = same-slots;
          laid = λ x y.
              open_laid geo w t.first p x
              ∙ (t.homes e).0 x (ap (λ (N : ℕ). is_data geo N x) (open_size geo w t.first p) ∙ y)
              ∙ sym (open_laid geo v t.second q x);
        });
    rec = same_records;
    queue = (t.homes e).1;
  }
