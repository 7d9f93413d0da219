-- The laws of calls that give orders.
use Prim.Native.Nat.{ℕ, ◌+◌, ◌-◌, ◌≤◌, ◌<◌, min}
use Rattle.std.specs.Prelude.{Result, is_ok}
use mathlib.Core.Path.{◌≡◌, refl, ap, ap₂, sym, ◌∙◌}
use mathlib.Core.Bool.{Bool, true, false, cond, not}
use mathlib.Core.Logic.{◌≢◌}
use mathlib.Core.List.{List, [], ◌∷◌, ◌++◌, map, append_assoc}
use native.Mathlib.Omega.{arith}
use borrow.Author.Tests.{eq-eqb, ne_eqb, le-leb, lt-leb, leb-true, leb-false, eqb-false}
use lib.Dec.{eqb, leb}
use lib.ListN.{length, length-append}
use Rattle.cells.specs.Upto.{up_to}
use Rattle.cells.specs.Upto.Laws.{length-up_to}
use Rattle.cells.specs.Entry.{Entry, entry_at}
use Rattle.fnv.specs.Fnv.{start}
use Rattle.card.specs.declared.queue.Queue.{Queue}
use Rattle.card.specs.declared.queue.PowerLost.{PowerLost}
use Rattle.card.specs.Card as Card
use Rattle.card.specs.Card.{Card, Order, write, flush, order, run, blocks_in}
use Rattle.card.specs.CodeQueue.{card_of, left_queue, Below}
use Rattle.card.proofs.Runs.{run_nil, run-one, run-append, run-power}
use Rattle.journal.specs.Geometry.{Geometry}
use Rattle.journal.specs.declared.choice.Choice.{Choice}
use Rattle.journal.specs.declared.choice.Choice.TheVariants.{Whole, Fallback, Foreign, Neither}
use Rattle.journal.specs.Header.{most_save, empty_header}
use Rattle.journal.specs.Log.{slot_address, entries, sum_of}
use Rattle.journal.specs.Orders.{barrier, checkpoint_orders, append_orders, apply_orders, sync_orders}
use Rattle.journal.specs.Choice.{choice_number, choose}
use Rattle.journal.proofs.Logs.{sum_of_nil}
use Rattle.journal.proofs.OrderLists.{header_entry, checkpoint_writes, append_afresh}
use Rattle.journal.proofs.Phases.{stopped, resumed}
use Rattle.refusals.specs.Numbers.{number_of}
use Rattle.refusals.specs.declared.Refusal.{Refusal}
use Rattle.refusals.proofs.Nonzero.{refusal_nonzero}
use Rattle.store.specs.declared.record.Record.{Record}
use Rattle.store.specs.State.{State, Outcome, closed, open_mode, down, with_mode, with_grouped, with_log, with_save, with_queue, with_record, card_in, with_card}
use Rattle.store.specs.CodeState.{state_of, outcome_of}
use Rattle.store.specs.Lists.{group_from, listed}
use Rattle.store.specs.Request.{Request, sync, recover}
use Rattle.store.specs.Causes.{down_row, open_row, foreign_row, unsound_row, of_record, cause_by, cause}
use Rattle.store.specs.Outcomes.{completed, unless}
use Rattle.store.specs.Saves.{carried, emptying, group_of, appending, recovering, applies, syncing, recover_call}
use Rattle.store.proofs.Causes as Causes
use Rattle.store.proofs.Causes.{Checked, reads_record, needs_open, other, rules_pass, cause_passes, passes_sound, cause_5, open_waits, closed_waits}
use Rattle.store.proofs.Places.{data_lt}

-- ---- orders that the card carried out

-- the state that they leave: q is the queue that they were given, o what they came to, d the record if all of them happened
pub given : (os : List Order) (j : ℕ) (done gone : Record) (st : State) (q : Queue) (s w : List ℕ) (o : Result Queue PowerLost) (d r : Record)
    → length os ≡ j → q ≡ record { waiting = st.rec.waiting; power = st.rec.power }
    → is_ok o ≡ leb j q.power → card_of s w (left_queue o) ≡ run os (card_of st.settled st.waiting q)
    → d ≡ done → r ≡ with_queue (left_queue o).waiting (left_queue o).power (cond (is_ok o) d (with_mode down gone))
    → state_of r s w st.work ≡ (carried os done gone st).state
unfolding carried
given os j done gone st q s w o d r size queue told card whole e =
    let all : is_ok o ≡ leb (length os) st.rec.power = told ∙ ap₂ leb (sym size) (ap (λ (x : Queue). x.power) queue) in
    rw (e, whole, all)
    (ap (λ (c : Card). with_card c (with_record (cond (leb (length os) st.rec.power) done (with_mode down gone)) st))
    (card ∙ ap (λ (x : Queue). run os (card_of st.settled st.waiting x)) queue))

module _ (os : List Order) (done gone : Record) (st : State) where
  -- no power comes back
  pub carried-power : (r : Record) (s w k : List ℕ) → state_of r s w k ≡ (carried os done gone st).state → r.power ≡ st.rec.power - length os
  unfolding carried
  carried-power r s w k e = ap (λ (x : State). x.rec.power) e ∙ run-power os (card_in st)

  -- the number and the orders, by the record that is left: it is down if power was gone
  pub carried_ends : done.mode ≢ down → (r : Record) (s w k : List ℕ) → state_of r s w k ≡ (carried os done gone st).state
      → outcome_of (cond (eqb r.mode down) 4 0) (st.rec.power - r.power) r s w k ≡ carried os done gone st
  unfolding carried
  carried_ends live r s w k e =
      ap (λ (x : State). record { answer = cond (eqb x.rec.mode down) 4 0; orders = st.rec.power - x.rec.power; state = x }) e
      ∙ ap₂ (λ (n m : ℕ). record { answer = n; orders = m; state = (carried os done gone st).state }) (number (leb (length os) st.rec.power)) used
    where
      number : (t : Bool) → ◌≡◌ {A = ℕ} (cond (eqb (cond t done (with_mode down gone)).mode down) 4 0) (cond t 0 4)
      number true = rw (ne_eqb done.mode down live)
      number false = refl

      used : st.rec.power - (run os (card_in st)).power ≡ min (length os) st.rec.power
      used = rw (run-power) (omega arith)

  -- it is not down: all orders happened
  pub carried_live : (x : State) → x ≡ (carried os done gone st).state → x.rec.mode ≢ down
      → (length os ≤ st.rec.power) × (x ≡ with_card (run os (card_in st)) (with_record done st))
  unfolding carried
  carried_live x e live = go (leb (length os) st.rec.power) refl e
    where
      go : (t : Bool) → leb (length os) st.rec.power ≡ t → x ≡ with_card (run os (card_in st)) (with_record (cond t done (with_mode down gone)) st)
          → (length os ≤ st.rec.power) × (x ≡ with_card (run os (card_in st)) (with_record done st))
      go true q f = (leb-true _ _ q, f)
      go false q f = absurd (live (ap (λ (y : State). y.rec.mode) f))

  -- it is down: power was gone
  pub carried_dead : done.mode ≢ down → (x : State) → x ≡ (carried os done gone st).state → x.rec.mode ≡ down
      → (st.rec.power < length os) × (x ≡ with_card (run os (card_in st)) (with_record (with_mode down gone) st))
  unfolding carried
  carried_dead live x e dead = go (leb (length os) st.rec.power) refl e
    where
      go : (t : Bool) → leb (length os) st.rec.power ≡ t → x ≡ with_card (run os (card_in st)) (with_record (cond t done (with_mode down gone)) st)
          → (st.rec.power < length os) × (x ≡ with_card (run os (card_in st)) (with_record (with_mode down gone) st))
      go true q f = absurd (live (sym (ap (λ (y : State). y.rec.mode) f) ∙ dead))
      go false q f = (leb-false _ _ q, f)

-- a call without orders
pub carried_none : (done gone : Record) (st : State) → carried [] done gone st ≡ completed (with_record (with_queue st.rec.waiting st.rec.power done) st)
unfolding carried
carried_none done gone st =
    let none : min 0 st.rec.power ≡ 0 = omega arith in
    rw (run_nil, le-leb 0 st.rec.power (omega arith), none)

-- ---- a barrier

pub barrier_none : (w : ℕ) → w ≡ 0 → barrier w ≡ []
unfolding barrier
barrier_none w idle = rw (eq-eqb _ _ idle)

pub barrier-some : (w : ℕ) → w ≢ 0 → barrier w ≡ flush ∷ []
unfolding barrier
barrier-some w busy = rw (ne_eqb _ _ busy)

-- nothing waits
pub flush_none : (st : State) → st.rec.waiting ≡ 0 → st ≡ (carried (barrier st.rec.waiting) st.rec st.rec st).state
flush_none st idle =
    sym (ap (λ (o : Outcome). o.state) (ap (λ (os : List Order). carried os st.rec st.rec st) (barrier_none st.rec.waiting idle) ∙ carried_none st.rec st.rec st))

-- ---- orders in two steps, a and then b

module _ (a b : List Order) (st : State) (done gone : Record) where
  -- the first runs out of power
  pub step_dead : st.rec.power < length a → with_card (run a (card_in st)) (with_record (with_mode down gone) st) ≡ (carried (a ++ b) done gone st).state
  unfolding carried
  step_dead short =
      let both = stopped (a ++ b) a b refl (length a) (length b) (length (a ++ b)) refl (sym (length-append a b)) (card_in st) (run a (card_in st)) refl false (sym (lt-leb _ _ short)) refl in
      rw (← both.0, ← both.1)

  -- the second goes on with the card that the first left, and with any record
  pub step_live : length a ≤ st.rec.power → (x : Record) → (carried b done gone (with_card (run a (card_in st)) (with_record x st))).state ≡ (carried (a ++ b) done gone st).state
  unfolding carried
  step_live enough x =
      let both = resumed (a ++ b) a b refl (length a) (length b) (length (a ++ b)) refl (sym (length-append a b)) (card_in st) (run a (card_in st)) refl true (sym (le-leb _ _ enough)) refl _ _ refl refl in
      rw (← both.0, ← both.1)

-- the counts of the queue in the two records play no part
pub same_counts : (os : List Order) (st : State) (x y : Record) (w p : ℕ) → (carried os (with_queue w p x) (with_queue w p y) st).state ≡ (carried os x y st).state
unfolding carried
same_counts os st x y w p = go (leb (length os) st.rec.power)
  where
    go : (t : Bool) → with_card (run os (card_in st)) (with_record (cond t (with_queue w p x) (with_mode down (with_queue w p y))) st)
        ≡ with_card (run os (card_in st)) (with_record (cond t x (with_mode down y)) st)
    go true = refl
    go false = refl

-- ---- apply

module _ (geo : Geometry) where
  pub apply_none : (st : State) → st.rec.logged ≡ 0 → completed st ≡ cond (eqb st.rec.logged 0) (completed st) (emptying geo st)
  apply_none st n = rw (eq-eqb _ _ n)

  pub apply_some : (st : State) → st.rec.logged ≢ 0 → emptying geo st ≡ cond (eqb st.rec.logged 0) (completed st) (emptying geo st)
  apply_some st n = rw (ne_eqb _ _ n)

  -- with a log or without, its orders are carried out
  pub apply-carried : (st : State) → cond (eqb st.rec.logged 0) (completed st) (emptying geo st)
      ≡ carried (apply_orders geo st.rec.blocks st.settled st.rec.logged st.rec.save) (cond (eqb st.rec.logged 0) st.rec (with_log 0 start st.rec)) st.rec st
  unfolding apply_orders
  apply-carried st = go (eqb st.rec.logged 0)
    where
      go : (t : Bool) → cond t (completed st) (emptying geo st)
          ≡ carried (cond t [] (checkpoint_orders st.rec.blocks st.rec.save (entries geo st.settled st.rec.logged))) (cond t st.rec (with_log 0 start st.rec)) st.rec st
      go true = sym (carried_none st.rec st.rec st)
      go false = refl

-- ---- sync

-- with power for all of it, a checkpoint leaves nothing waiting
checkpoint_idle : (N k : ℕ) (es : List Entry) (c : Card) → length (checkpoint_orders N k es) ≤ c.power → (run (checkpoint_orders N k es) c).count ≡ 0
unfolding order
checkpoint_idle N k es c h =
    let front = (map write es ++ (flush ∷ [])) ++ (write (header_entry (empty_header N k)) ∷ []) in
    let ends : checkpoint_orders N k es ≡ front ++ (flush ∷ []) = checkpoint_writes N k es ∙ sym (append_assoc (map write es ++ (flush ∷ [])) (write (header_entry (empty_header N k)) ∷ []) (flush ∷ [])) in
    let size : length (checkpoint_orders N k es) ≡ length front + 1 = ap length ends ∙ length-append front (flush ∷ []) in
    let live : 0 < (run front c).power = rw (run-power) (omega arith) in
    ap (λ (os : List Order). (run os c).count) ends ∙ ap (λ (x : Card). x.count) (run-append front (flush ∷ []) c ∙ run-one flush (run front c) live)

module _ (geo : Geometry) where
  -- the orders of an apply
  abbrev checkpoint : State → List Order
  checkpoint st = checkpoint_orders st.rec.blocks st.rec.save (entries geo st.settled st.rec.logged)

  -- what they leave when all of them happened
  abbrev checkpointed : State → State
  checkpointed st = with_card (run (checkpoint st) (card_in st)) (with_record (with_log 0 start st.rec) st)

  module _ (st : State) where
    pub group_size : length (group_of geo st) ≡ st.rec.grouped
    group_size = length-up_to (listed st.work (group_from geo)) st.rec.grouped

    -- no group: a barrier
    pub sync_none : st.rec.grouped ≡ 0 → (carried (barrier st.rec.waiting) st.rec st.rec st).state ≡ (syncing geo st).state
    unfolding sync_orders
    sync_none none =
        rw (group_size, eq-eqb _ _ none, le-leb 0 st.rec.power (omega arith))
        (λ j. (carried (barrier st.rec.waiting) (with_grouped (none j) (with_log (more j) (sum j) st.rec)) st.rec st).state)
      where
        more : st.rec.logged ≡ st.rec.logged + st.rec.grouped
        more = omega arith

        sum : st.rec.sum ≡ sum_of st.rec.sum (group_of geo st)
        sum = sym (ap (λ (m : ℕ). sum_of st.rec.sum (up_to (listed st.work (group_from geo)) m)) none ∙ sum_of_nil st.rec.sum)

    -- its number and its orders
    pub sync_ends : st.rec.mode ≢ down → (r : Record) (s w k : List ℕ) → state_of r s w k ≡ (syncing geo st).state
        → outcome_of (cond (eqb r.mode down) 4 0) (st.rec.power - r.power) r s w k ≡ syncing geo st
    sync_ends live r s w k e = carried_ends _ _ _ st (λ m. live (sym (mode (applies geo st)) ∙ m)) r s w k e
      where
        mode : (t : Bool) → (cond t (with_log 0 start st.rec) st.rec).mode ≡ st.rec.mode
        mode true = refl
        mode false = refl

    module _ (some : st.rec.grouped ≢ 0) where
      -- room for it
      pub sync_room : st.rec.logged + st.rec.grouped ≤ geo.slots → appending geo st ≡ syncing geo st
      unfolding sync_orders
      sync_room room = rw (group_size, ne_eqb _ _ some, le-leb _ _ room, le-leb 0 st.rec.power (omega arith))

      module _ (over : geo.slots < st.rec.logged + st.rec.grouped) (live : st.rec.mode ≢ down) (x : State) (first : x ≡ (emptying geo st).state) where
        -- the apply runs out of power
        pub sync_dead : x.rec.mode ≡ down → x ≡ (syncing geo st).state
        unfolding sync_orders
        sync_dead dead =
            let end = carried_dead (checkpoint st) (with_log 0 start st.rec) st.rec st live x first dead in
            rw (group_size, ne_eqb _ _ some, lt-leb _ _ over, lt-leb _ _ end.0) (end.1 ∙ step_dead _ _ st _ st.rec end.0)

        -- it does not, and the group meets an empty log
        pub sync_on : x.rec.mode ≢ down → (x.rec.logged ≡ 0) × (x.rec.grouped ≡ st.rec.grouped) × (x.rec.save ≡ st.rec.save) × (x.rec.waiting ≡ 0)
        sync_on on =
            let end = carried_live (checkpoint st) (with_log 0 start st.rec) st.rec st x first on in (
              ap (λ (y : State). y.rec.logged) end.1,
              ap (λ (y : State). y.rec.grouped) end.1,
              ap (λ (y : State). y.rec.save) end.1,
              ap (λ (y : State). y.rec.waiting) end.1 ∙ checkpoint_idle st.rec.blocks st.rec.save (entries geo st.settled st.rec.logged) (card_in st) end.0,
            )

        pub sync_live : x.rec.mode ≢ down → (y : State) → y ≡ (appending geo x).state → y ≡ (syncing geo st).state
        unfolding sync_orders
        sync_live on y next =
            let end = carried_live (checkpoint st) (with_log 0 start st.rec) st.rec st x first on in
            let q = run (checkpoint st) (card_in st) in
            let own = append_orders geo st.rec.blocks st.settled 0 start (st.rec.save + 1) (group_of geo st) in
            let done = with_grouped 0 (with_log (0 + st.rec.grouped) (sum_of start (group_of geo st)) (with_save (st.rec.save + 1) st.rec)) in
            rw (group_size, ne_eqb _ _ some, lt-leb _ _ over, le-leb _ _ end.0)
            (next
            ∙ ap (λ (z : State). (appending geo z).state) end.1
            ∙ ap (λ (os : List Order). (carried os (with_queue q.count q.power done) (checkpointed st).rec (checkpointed st)).state) (append_afresh geo st.rec.blocks q.settled st.settled start (st.rec.save + 1) (group_of geo st))
            ∙ step_live (checkpoint st) own st (with_queue q.count q.power done) (checkpointed st).rec end.0 (with_log 0 start st.rec)
            ∙ same_counts (checkpoint st ++ own) st done (with_log 0 start st.rec) q.count q.power)

  -- ---- recover

  module _ (st : State) where
    -- what the rows of the record and of the mode refuse, it refuses
    pub recover_barred : (e : Refusal) → number_of e ≡ cause_by geo (of_record false (down_row ∷ open_row ∷ [])) st → number_of e ≡ cause geo recover st
    recover_barred e h = sym (cause_5 geo st (number_of e) (foreign_row geo ∷ unsound_row geo ∷ []) h ∙ rw (refusal_nonzero e))

    -- they refuse nothing
    module _ (passed : 0 ≡ cause_by geo (of_record false (down_row ∷ open_row ∷ [])) st) where
      -- its cause is that of its choice
      pub recover-cause : cause geo recover st ≡ choice_number (choose geo st.rec.blocks st.settled)
      recover-cause = cause_5 geo st 0 (foreign_row geo ∷ unsound_row geo ∷ []) passed ∙ go (choose geo st.rec.blocks st.settled)
        where
          go : (c : Choice) → cond (eqb (choice_number c) 8) 8 (cond (eqb (choice_number c) 9) 9 0) ≡ choice_number c
          go (Whole k h c) = refl
          go (Fallback k h c) = refl
          go Foreign = refl
          go Neither = refl

      pub recover-call : unless (choice_number (choose geo st.rec.blocks st.settled)) st (recovering (choose geo st.rec.blocks st.settled) st) ≡ recover_call geo st
      unfolding recover_call
      recover-call = ap (λ (k : ℕ). unless k st (recovering (choose geo st.rec.blocks st.settled) st)) (sym recover-cause)

-- ---- cut

pub cut_state : (ms : List ℕ) (done : Record) (st : State) (q : Queue) (s : List ℕ) (p : Queue) (d r : Record)
    → q ≡ record { waiting = st.rec.waiting; power = st.rec.power }
    → card_of s st.waiting p ≡ Card.cut ms (card_of st.settled st.waiting q)
    → d ≡ done → r ≡ with_queue p.waiting p.power d
    → state_of r s st.waiting st.work ≡ with_card (Card.cut ms (card_in st)) (with_record done st)
cut_state ms done st q s p d r queue card whole e =
    rw (e, whole)
    (ap (λ (c : Card.Card). with_card c (with_record done st)) (card ∙ ap (λ (x : Queue). Card.cut ms (card_of st.settled st.waiting x)) queue))

-- ---- a call that no row refuses

module _ (geo : Geometry) where
  -- what the calls that give orders to an open record may count on
  pub record Ready (st : State) : Type 0 where
    pub sound : Checked geo st
    pub mode : st.rec.mode ≡ open_mode
    pub live : st.rec.mode ≢ down
    pub waiting : st.rec.waiting ≤ geo.direct
    pub below : Below (blocks_in st.settled) st.waiting st.rec.waiting
    pub homes : (i : ℕ) → i < st.rec.logged → slot_address st.settled i < blocks_in st.settled

  pub ready : (q : Request) (st : State) → reads_record geo q ≡ true → needs_open geo q ≡ true → 0 ≡ cause geo q st → Ready st
  ready q st reads needs e =
      let p = cause_passes geo q st 0 e refl in
      let s = passes_sound geo q st 0 reads e refl in
      let live : st.rec.mode ≢ down = eqb-false _ _ (other _ _ p.not_down needs) in
      let mode : st.rec.mode ≡ open_mode = only st.rec.mode s.counts.mode (eqb-false _ _ (other _ _ p.not-closed needs)) live in
      record {
        sound = s;
        mode = mode;
        live = live;
        waiting = open_waits geo st s.counts mode;
        below = λ i h. let low : (entry_at st.waiting i).address < st.rec.blocks = s.waiting_below i h in omega (arith, s.counts.blocks);
        homes = λ i h. let inside = data_lt geo st.rec.blocks (slot_address st.settled i) ((s.lists mode).log_data i h) in omega (arith, s.counts.blocks);
      }
    where
      only : (m : ℕ) → m ≤ down → m ≢ closed → m ≢ down → m ≡ open_mode
      only m l c d = omega arith

  -- what recover may count on
  pub record Unopened (st : State) : Type 0 where
    pub sound : Checked geo st
    pub waiting : st.rec.waiting ≡ 0

  pub unopened : (st : State) → 0 ≡ cause_by geo (of_record false (down_row ∷ open_row ∷ [])) st → Unopened st
  unopened st e =
      let p = rules_pass geo (of_record false (down_row ∷ open_row ∷ [])) st (sym e) in
      let s = Causes.sound geo st p.sizes p.counts in
      let mode : st.rec.mode ≡ closed = only st.rec.mode s.counts.mode (eqb-false _ _ p.own.0) (eqb-false _ _ p.own.1.0) in
      record { sound = s; waiting = closed_waits geo st s.counts mode }
    where
      only : (m : ℕ) → m ≤ down → m ≢ down → m ≢ open_mode → m ≡ closed
      only m l d o = omega arith

  -- a sync of a nonempty group that passes row 12 has a number to give
  pub next_save : (st : State) → 0 ≡ cause geo sync st → st.rec.grouped ≢ 0 → st.rec.save ≢ most_save
  next_save st e some = eqb-false _ _ (other _ _ (cause_passes geo sync st 0 e refl).own.0 (ap not (ne_eqb _ _ some)))
