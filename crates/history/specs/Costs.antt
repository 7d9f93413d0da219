-- W-202: what the inquiries promise of any state whatever. "Each figure must equal what the call carries out when it is made next on the
-- same bytes and record but for power enough; the power reaches exactly if it is at least those orders."
use Rattle.std.specs.Prelude.{ℕ, ◌+◌, ◌≤◌, ◌<◌, max, ◌≡◌, ◌≢◌, Bool, true, false, cond, not, List, ◌∷◌, ◌++◌, eqb, leb}
use Rattle.card.specs.Card.{Order, run}
use Rattle.journal.specs.Geometry.{Geometry}
use Rattle.journal.specs.declared.choice.Choice.TheVariants.{Whole, Fallback}
use Rattle.journal.specs.Log.{entries}
use Rattle.journal.specs.Orders.{checkpoint_orders}
use Rattle.journal.specs.Choice.{choose}
use Rattle.store.specs.Save.{Save}
use Rattle.store.specs.Request.{save}
use Rattle.store.specs.State.{State, Outcome, card_in}
use Rattle.store.specs.Causes.{cause}
use Rattle.store.specs.Outcomes.{refused}
use Rattle.store.specs.Power.{powered}
use Rattle.store.specs.Saves.{save_orders}
use Rattle.store.specs.Cost.{no_figures, cost_of}
use Rattle.history.specs.Dispatch.{called}

module _ (geo : Geometry) where
  -- the call made next on the same bytes and record, but with power for k orders
  abbrev pub made_with : ℕ → Save → State → Outcome
  made_with k c st = called geo (save c) (powered k st)

  -- an apply comes first: the orders are a checkpoint of the log, and further ones behind it
  abbrev pub ApplyFirst : Save → State → Type 0
  ApplyFirst c st =
      (o : Order) × (os : List Order) × (save_orders geo c st ≡ checkpoint_orders st.rec.blocks st.rec.save (entries geo st.settled st.rec.logged) ++ (o ∷ os))

  -- an inquiry about a call that no cause refuses
  pub record Foretold (c : Save) (st : State) : Type 0 where
    pub number : (cost_of geo c st).number ≡ 0
    -- with power enough the call is done, and hands back these orders
    pub orders : (k : ℕ) → (cost_of geo c st).orders ≤ k → ((made_with k c st).answer ≡ 0) × ((made_with k c st).orders ≡ (cost_of geo c st).orders)
    -- "how many writes wait at its peak, earlier ones included": a call with power for k orders stops behind the k-th, and its record has
    -- what waits there. It is never more than the peak, and at some moment of the call it is the peak
    pub most : (k : ℕ) → (made_with k c st).state.rec.waiting ≤ (cost_of geo c st).peak
    pub met : (k : ℕ) × (k ≤ (cost_of geo c st).orders) × ((made_with k c st).state.rec.waiting ≡ (cost_of geo c st).peak)
    -- "whether an apply comes first", by the orders, which are those that the call carries out; and by the log that a sync leaves. "for
    -- apply and for recover, […] no apply comes first"
    pub runs : (k : ℕ) → card_in (made_with k c st).state ≡ run (save_orders geo c st) (card_in (powered k st))
    pub first : (cost_of geo c st).applies ≡ true → ApplyFirst c st
    pub not_first : (cost_of geo c st).applies ≡ false → ApplyFirst c st → ⊥
    pub log : c ≡ Save.sync → (k : ℕ) → (cost_of geo c st).orders ≤ k
        → (made_with k c st).state.rec.logged ≡ cond (cost_of geo c st).applies 0 st.rec.logged + st.rec.grouped
    pub never : c ≢ Save.sync → (cost_of geo c st).applies ≡ false
    -- "the power reaches exactly if it is at least those orders": exactly if the call, with the power there is, does not answer 4
    pub enough : (cost_of geo c st).reaches ≡ leb (cost_of geo c st).orders st.rec.power
    pub reached : (cost_of geo c st).reaches ≡ not (eqb (called geo (save c) st).answer 4)

  -- "It refuses as that call does, power gone aside": by the same cause, with whatever power
  pub record Foretells (c : Save) (st : State) : Type 0 where
    pub refuses : cause geo (save c) st ≢ 0 → (k : ℕ) → (cost_of geo c st ≡ no_figures (made_with k c st).answer) × (made_with k c st ≡ refused (cause geo (save c) st) (powered k st))
    pub serves : cause geo (save c) st ≡ 0 → Foretold c st

  -- ---- in closed form

  -- a call's orders, whether an apply comes first, and the peak
  abbrev pub Takes : Save → State → ℕ → Bool → ℕ → Type 0
  Takes c st orders applies peak = ((cost_of geo c st).orders ≡ orders) × ((cost_of geo c st).applies ≡ applies) × ((cost_of geo c st).peak ≡ peak)

  -- n entries in the log, m in the group: "m+3 orders" of a sync, "n+3 orders" of an apply, one descriptor block at the trap. W-209: a sync
  -- with an empty group is a flush if anything waits; of a sync that applies the apply's flush settles what waited before
  pub record ClosedForms (st : State) : Type 0 where
    pub sync_none : cause geo (save Save.sync) st ≡ 0 → st.rec.grouped ≡ 0 → Takes Save.sync st (cond (eqb st.rec.waiting 0) 0 1) false st.rec.waiting
    pub sync_room : cause geo (save Save.sync) st ≡ 0 → st.rec.grouped ≢ 0 → st.rec.logged + st.rec.grouped ≤ geo.slots
        → Takes Save.sync st (st.rec.grouped + geo.descriptors + 2) false (st.rec.waiting + (st.rec.grouped + geo.descriptors + 1))
    pub sync-applies : cause geo (save Save.sync) st ≡ 0 → geo.slots < st.rec.logged + st.rec.grouped
        → Takes Save.sync st (st.rec.logged + 3 + (st.rec.grouped + geo.descriptors + 2)) true (max (st.rec.waiting + st.rec.logged) (st.rec.grouped + geo.descriptors + 1))
    pub apply_none : cause geo (save Save.apply) st ≡ 0 → st.rec.logged ≡ 0 → Takes Save.apply st 0 false st.rec.waiting
    pub apply_some : cause geo (save Save.apply) st ≡ 0 → st.rec.logged ≢ 0 → Takes Save.apply st (st.rec.logged + 3) false (st.rec.waiting + st.rec.logged)
    pub recover_whole : (n h c : ℕ) → cause geo (save Save.recover) st ≡ 0 → choose geo st.rec.blocks st.settled ≡ Whole n h c → Takes Save.recover st 0 false 0
    pub recover_back : (p h c : ℕ) → cause geo (save Save.recover) st ≡ 0 → choose geo st.rec.blocks st.settled ≡ Fallback p h c → Takes Save.recover st 2 false 1

  pub record Costs : Type 0 where
    pub inquiries : (c : Save) (st : State) → Foretells c st
    pub forms : (st : State) → ClosedForms st
