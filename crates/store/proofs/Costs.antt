-- The figures of the calls that give orders, in closed form.
use Prim.Native.Nat.{ℕ, ◌+◌, ◌≤◌, ◌<◌, max}
use mathlib.Core.Path.{◌≡◌, refl, ap, sym, ◌∙◌}
use mathlib.Core.Bool.{Bool, true, false, cond}
use mathlib.Core.Logic.{◌≢◌}
use mathlib.Core.List.{List, [], ◌∷◌, ◌++◌, map, append_assoc, append-nil}
use native.Mathlib.Omega.{arith}
use native.Mathlib.Decide.{ℕ_discrete, dec_le}
use borrow.Author.Tests.{eq-eqb, ne_eqb, le-leb, lt-leb, eqb-false}
use lib.Dec.{eqb, leb}
use lib.ListN.{length, length-append}
use Rattle.cells.specs.Upto.Laws.{length-up_to}
use Rattle.cells.specs.Entry.{Entry}
use Rattle.fnv.specs.Fnv.{start}
use Rattle.card.specs.Card.{Order, write, flush}
use Rattle.card.specs.Peak.{peak}
use Rattle.card.proofs.Peaks.{peak_from, peak-from, peak_none, peak-batch}
use Rattle.journal.specs.Geometry.{Geometry}
use Rattle.journal.specs.declared.choice.Choice.{Choice}
use Rattle.journal.specs.declared.choice.Choice.TheVariants.{Whole, Fallback, Foreign, Neither}
use Rattle.journal.specs.Header.{header, empty_header}
use Rattle.journal.specs.Log.{slot_entry, entries}
use Rattle.journal.specs.Orders.{barrier, checkpoint_orders, append_orders, fallback_orders, apply_orders, sync_orders}
use Rattle.journal.specs.Choice.{choice_number, choose, recover_orders}
use Rattle.journal.proofs.OrderLists.{header_entry, append_writes, append-writes, fallback_writes, length-append_orders, length-checkpoint, length_fallback}
use Rattle.journal.proofs.Peaks.{peak-append, peak-checkpoint, peak_fallback}
use Rattle.store.specs.State.{State, card_in}
use Rattle.store.specs.Save.{Save}
use Rattle.store.specs.Request.{save, recover}
use Rattle.store.specs.Causes.{down_row, open_row, of_record, cause_by, cause}
use Rattle.store.specs.Saves.{group_of, save_orders, applies}
use Rattle.store.specs.Cost.{Cost, behind_flush, goes_on, checkpoint_first, figures, no_figures, cost_of}
use Rattle.store.proofs.Saves.{barrier_none, barrier-some, group_size, recover-cause}

-- ---- whether a checkpoint comes first

behind-batch : (es : List Entry) (os : List Order) → behind_flush (map write es ++ (flush ∷ os)) ≡ os
unfolding behind_flush
behind-batch [] os = refl
behind-batch (e ∷ es) os = behind-batch es os

behind_none : behind_flush [] ≡ []
unfolding behind_flush
behind_none = refl

-- no orders; one batch of writes
none_first : checkpoint_first [] ≡ false
none_first = rw (behind_none, behind_none)

batch-first : (es : List Entry) → checkpoint_first (map write es ++ (flush ∷ [])) ≡ false
batch-first es = rw (behind-batch es [], behind_none)

-- a checkpoint, and further orders behind it
pub checkpoint-first : (N c : ℕ) (es : List Entry) (os : List Order) → checkpoint_first (checkpoint_orders N c es ++ os) ≡ goes_on os
unfolding checkpoint_orders
checkpoint-first N c es os =
    rw (append_assoc (map write es) (flush ∷ write (header_entry (empty_header N c)) ∷ flush ∷ []) os, behind-batch es (write (header_entry (empty_header N c)) ∷ flush ∷ os), behind-batch (header_entry (empty_header N c) ∷ []) os)

append-first : (geo : Geometry) (N : ℕ) (s : List ℕ) (n h c : ℕ) (es : List Entry) → checkpoint_first (append_orders geo N s n h c es) ≡ false
append-first geo N s n h c es = rw (append-writes geo N s n h c es) (batch-first (append_writes geo N s n h c es))

fallback_first : (N p h c : ℕ) → checkpoint_first (fallback_orders N p h c) ≡ false
fallback_first N p h c = rw (fallback_writes N p h c) (batch-first (header_entry (header N p h p h c) ∷ []))

barrier-first : (w : ℕ) → checkpoint_first (barrier w) ≡ false
unfolding barrier
barrier-first w = go (eqb w 0)
  where
    go : (t : Bool) → checkpoint_first (cond t [] (flush ∷ [])) ≡ false
    go true = none_first
    go false = batch-first []

-- there are orders behind it
goes_on_lem : (os : List Order) → 0 < length os → goes_on os ≡ true
goes_on_lem [] h = absurd (omega arith)
goes_on_lem (o ∷ os) h = refl

-- ---- the figures

-- o orders, whether an apply comes first, p writes at the peak
abbrev pub served : ℕ → Bool → ℕ → State → Cost
served o a p st = record { number = 0; orders = o; applies = a; peak = p; reaches = leb o st.rec.power }

measured : (os : List Order) (st : State) (o : ℕ) (a : Bool) (p : ℕ) → length os ≡ o → checkpoint_first os ≡ a → peak_from os st.rec.waiting ≡ p → figures os (card_in st) ≡ served o a p st
measured os st o a p e f g =
    let peaks : peak os (card_in st) ≡ p = peak-from os (card_in st) ∙ g in
    λ j. record { number = 0; orders = e j; applies = f j; peak = peaks j; reaches = leb (e j) st.rec.power }

no_orders : (st : State) → figures [] (card_in st) ≡ served 0 false st.rec.waiting st
no_orders st = measured [] st 0 false st.rec.waiting refl none_first (peak_none st.rec.waiting)

module _ (geo : Geometry) (st : State) where
  -- ---- sync: its list, and its figures

  abbrev pub checkpoint : List Order
  checkpoint = checkpoint_orders st.rec.blocks st.rec.save (entries geo st.settled st.rec.logged)

  abbrev own : ℕ → ℕ → List Order
  own n h = append_orders geo st.rec.blocks st.settled n h (st.rec.save + 1) (group_of geo st)

  pub length-own : (n h : ℕ) → length (own n h) ≡ st.rec.grouped + geo.descriptors + 2
  length-own n h = length-append_orders geo st.rec.blocks st.settled n h (st.rec.save + 1) (group_of geo st) ∙ ap (λ (k : ℕ). k + geo.descriptors + 2) (group_size geo st)

  length-inner : length checkpoint ≡ st.rec.logged + 3
  length-inner = length-checkpoint st.rec.blocks st.rec.save (entries geo st.settled st.rec.logged) ∙ ap (λ (k : ℕ). k + 3) (length-up_to (slot_entry geo st.settled) st.rec.logged)

  peak-own : (n h w : ℕ) → peak_from (own n h) w ≡ w + (st.rec.grouped + geo.descriptors + 1)
  peak-own n h w = peak-append geo st.rec.blocks st.settled n h (st.rec.save + 1) (group_of geo st) w ∙ ap (λ (k : ℕ). w + (k + geo.descriptors + 1)) (group_size geo st)

  -- a checkpoint, and further orders behind it
  peak-inner : (os : List Order) → peak_from (checkpoint ++ os) st.rec.waiting ≡ max (st.rec.waiting + st.rec.logged) (max 1 (peak_from os 0))
  peak-inner os =
      peak-checkpoint st.rec.blocks st.rec.save (entries geo st.settled st.rec.logged) os st.rec.waiting
      ∙ ap (λ (k : ℕ). max (st.rec.waiting + k) (max 1 (peak_from os 0))) (length-up_to (slot_entry geo st.settled) st.rec.logged)

  sync-list_none : st.rec.grouped ≡ 0 → save_orders geo Save.sync st ≡ barrier st.rec.waiting
  unfolding sync_orders
  sync-list_none none = rw (group_size geo st, eq-eqb _ _ none)

  sync-list_room : st.rec.grouped ≢ 0 → st.rec.logged + st.rec.grouped ≤ geo.slots → save_orders geo Save.sync st ≡ own st.rec.logged st.rec.sum
  unfolding sync_orders
  sync-list_room some room = rw (group_size geo st, ne_eqb _ _ some, le-leb _ _ room)

  pub sync-list_full : st.rec.grouped ≢ 0 → geo.slots < st.rec.logged + st.rec.grouped → save_orders geo Save.sync st ≡ checkpoint ++ own 0 start
  unfolding sync_orders
  sync-list_full some over = rw (group_size geo st, ne_eqb _ _ some, lt-leb _ _ over)

  -- the test by which an apply comes first
  pub sync-first : checkpoint_first (save_orders geo Save.sync st) ≡ applies geo st
  sync-first = go (ℕ_discrete st.rec.grouped 0) (dec_le (st.rec.logged + st.rec.grouped) geo.slots)
    where
      go : Dec (st.rec.grouped ≡ 0) → Dec (st.rec.logged + st.rec.grouped ≤ geo.slots) → checkpoint_first (save_orders geo Save.sync st) ≡ applies geo st
      go (yes none) d = ap checkpoint_first (sync-list_none none) ∙ barrier-first st.rec.waiting ∙ rw (eq-eqb _ _ none)
      go (no some) (yes room) = ap checkpoint_first (sync-list_room some room) ∙ append-first geo _ _ _ _ _ _ ∙ rw (ne_eqb _ _ some, le-leb _ _ room)
      go (no some) (no over) =
          let more : 0 < length (own 0 start) = omega (arith, length-own 0 start) in
          let full : geo.slots < st.rec.logged + st.rec.grouped = omega arith in
          ap checkpoint_first (sync-list_full some full) ∙ checkpoint-first _ _ _ (own 0 start) ∙ goes_on_lem (own 0 start) more ∙ rw (ne_eqb _ _ some, lt-leb _ _ full)

  -- no group, and nothing waits or something does; room for it; an apply first
  pub sync_cost_none : st.rec.grouped ≡ 0 → st.rec.waiting ≡ 0 → figures (save_orders geo Save.sync st) (card_in st) ≡ served 0 false st.rec.waiting st
  sync_cost_none none idle = ap (λ (os : List Order). figures os (card_in st)) (sync-list_none none ∙ barrier_none _ idle) ∙ no_orders st

  pub sync_cost_flush : st.rec.grouped ≡ 0 → st.rec.waiting ≢ 0 → figures (save_orders geo Save.sync st) (card_in st) ≡ served 1 false st.rec.waiting st
  sync_cost_flush none busy =
      let top : peak_from (flush ∷ []) st.rec.waiting ≡ st.rec.waiting = peak-batch [] [] st.rec.waiting ∙ (omega (arith, peak_none 0)) in
      ap (λ (os : List Order). figures os (card_in st)) (sync-list_none none ∙ barrier-some _ busy) ∙ measured (flush ∷ []) st 1 false _ refl (batch-first []) top

  pub sync_cost_room : st.rec.grouped ≢ 0 → st.rec.logged + st.rec.grouped ≤ geo.slots
      → figures (save_orders geo Save.sync st) (card_in st) ≡ served (st.rec.grouped + geo.descriptors + 2) false (st.rec.waiting + (st.rec.grouped + geo.descriptors + 1)) st
  sync_cost_room some room =
      ap (λ (os : List Order). figures os (card_in st)) (sync-list_room some room)
      ∙ measured (own st.rec.logged st.rec.sum) st _ false _ (length-own _ _) (append-first geo _ _ _ _ _ _) (peak-own _ _ _)

  pub sync_cost_full : st.rec.grouped ≢ 0 → geo.slots < st.rec.logged + st.rec.grouped
      → figures (save_orders geo Save.sync st) (card_in st)
      ≡ served (st.rec.logged + 3 + (st.rec.grouped + geo.descriptors + 2)) true (max (st.rec.waiting + st.rec.logged) (st.rec.grouped + geo.descriptors + 1)) st
  sync_cost_full some over =
      let long : length (checkpoint ++ own 0 start) ≡ st.rec.logged + 3 + (st.rec.grouped + geo.descriptors + 2) = rw (length-append checkpoint (own 0 start), length-inner, length-own 0 start) in
      let more : 0 < length (own 0 start) = omega (arith, length-own 0 start) in
      ap (λ (os : List Order). figures os (card_in st)) (sync-list_full some over)
      ∙ measured (checkpoint ++ own 0 start) st _ true _ long (checkpoint-first _ _ _ (own 0 start) ∙ goes_on_lem (own 0 start) more) (peak-inner (own 0 start) ∙ (omega (arith, peak-own 0 start 0)))

  -- ---- apply

  apply-list_none : st.rec.logged ≡ 0 → save_orders geo Save.apply st ≡ []
  unfolding apply_orders
  apply-list_none none = rw (eq-eqb _ _ none)

  apply-list-some : st.rec.logged ≢ 0 → save_orders geo Save.apply st ≡ checkpoint ++ []
  unfolding apply_orders
  apply-list-some some = rw (ne_eqb _ _ some) (sym (append-nil checkpoint))

  pub apply-first : checkpoint_first (save_orders geo Save.apply st) ≡ false
  apply-first = go (ℕ_discrete st.rec.logged 0)
    where
      go : Dec (st.rec.logged ≡ 0) → checkpoint_first (save_orders geo Save.apply st) ≡ false
      go (yes none) = ap checkpoint_first (apply-list_none none) ∙ none_first
      go (no some) = ap checkpoint_first (apply-list-some some) ∙ checkpoint-first _ _ _ []

  pub apply_cost_none : st.rec.logged ≡ 0 → figures (save_orders geo Save.apply st) (card_in st) ≡ served 0 false st.rec.waiting st
  apply_cost_none none = ap (λ (os : List Order). figures os (card_in st)) (apply-list_none none) ∙ no_orders st

  pub apply_cost_some : st.rec.logged ≢ 0 → figures (save_orders geo Save.apply st) (card_in st) ≡ served (st.rec.logged + 3) false (st.rec.waiting + st.rec.logged) st
  apply_cost_some some =
      let long : length (checkpoint ++ []) ≡ st.rec.logged + 3 = ap length (append-nil checkpoint) ∙ length-inner in
      ap (λ (os : List Order). figures os (card_in st)) (apply-list-some some)
      ∙ measured (checkpoint ++ []) st _ false _ long (checkpoint-first _ _ _ []) (peak-inner [] ∙ (omega (arith, peak_none 0)))

  -- ---- what an inquiry comes to, n being the number that was computed

  pub cost_refused : (c : Save) (n : ℕ) → n ≡ cause geo (save c) st → n ≢ 0 → no_figures n ≡ cost_of geo c st
  unfolding cost_of
  cost_refused c n e h = rw (← e, ne_eqb n 0 h)

  pub cost_served : (c : Save) (n : ℕ) → n ≡ cause geo (save c) st → n ≡ 0 → figures (save_orders geo c st) (card_in st) ≡ cost_of geo c st
  unfolding cost_of
  cost_served c n e h = rw (← e, eq-eqb n 0 h)

-- ---- recover

fallback_cost : (N p h c : ℕ) (st : State) → figures (fallback_orders N p h c) (card_in st) ≡ served 2 false (st.rec.waiting + 1) st
fallback_cost N p h c st = measured (fallback_orders N p h c) st 2 false _ (length_fallback N p h c) (fallback_first N p h c) (peak_fallback N p h c st.rec.waiting)

pub recover-first : (N : ℕ) (x : Choice) → checkpoint_first (recover_orders N x) ≡ false
recover-first N (Whole n h c) = none_first
recover-first N (Fallback p h c) = fallback_first N p h c
recover-first N Foreign = none_first
recover-first N Neither = none_first

-- by its choice
abbrev pub cost_by : Choice → State → Cost
cost_by (Whole n h c) st = served 0 false st.rec.waiting st
cost_by (Fallback p h c) st = served 2 false (st.rec.waiting + 1) st
cost_by Foreign st = no_figures 8
cost_by Neither st = no_figures 9

module _ (geo : Geometry) (st : State) where
  pub recover-cost : (x : Choice) → choose geo st.rec.blocks st.settled ≡ x → cause geo recover st ≡ choice_number x → cost_by x st ≡ cost_of geo Save.recover st
  recover-cost (Whole n h c) e k =
      sym (no_orders st) ∙ ap (λ (x : Choice). figures (recover_orders st.rec.blocks x) (card_in st)) (sym e) ∙ cost_served geo st Save.recover 0 (sym k) refl
  recover-cost (Fallback p h c) e k =
      sym (fallback_cost st.rec.blocks p h c st) ∙ ap (λ (x : Choice). figures (recover_orders st.rec.blocks x) (card_in st)) (sym e) ∙ cost_served geo st Save.recover 0 (sym k) refl
  recover-cost Foreign e k = cost_refused geo st Save.recover 8 (sym k) (eqb-false 8 0 refl)
  recover-cost Neither e k = cost_refused geo st Save.recover 9 (sym k) (eqb-false 9 0 refl)

  -- the figures of its choice, where neither the record nor its mode refuses it
  pub chosen_cost : (x : Choice) → 0 ≡ cause_by geo (of_record false (down_row ∷ open_row ∷ [])) st → choose geo st.rec.blocks st.settled ≡ x → cost_by x st ≡ cost_of geo Save.recover st
  chosen_cost x e taken = recover-cost x taken (recover-cause geo st e ∙ ap choice_number taken)
