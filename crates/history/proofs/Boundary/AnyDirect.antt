-- What a direct write, a get with writes waiting, and a sync with an empty group promise of any state. The statements stand in specs/Directs.antt.
use Prim.Native.Nat.{ℕ, ◌+◌, ◌*◌, ◌-◌, ◌≤◌, ◌<◌, min}
use mathlib.Core.Path.{◌≡◌, refl, ap, ap₂, sym, ◌∙◌}
use mathlib.Core.Logic.{◌≢◌, ◌⊎◌}
use mathlib.Core.Bool.{Bool, true, false, cond, not, ◌||◌, or_assoc, true≢false}
use mathlib.Core.List.{List, [], ◌∷◌, ◌++◌}
use native.Mathlib.Omega.{arith}
use native.Mathlib.Decide.{ℕ_discrete}
use borrow.Author.Tests.{eq-eqb, ne_eqb, eqb-true, leb-true, not-false}
use lib.Dec.{eqb, leb}
use lib.ListN.{length}
use Rattle.cells.specs.Upto.{up_to}
use Rattle.cells.specs.Entry.{entry_bytes, Entry, entry_at}
use Rattle.card.specs.Card.{Card, Order, write, flush, order, run, queue, settle}
use Rattle.card.proofs.Runs.{queue_write, run_nil, run-one, run_live, run-power}
use Rattle.journal.specs.Geometry.{Geometry}
use Rattle.journal.specs.Layout.{is_data}
use Rattle.journal.specs.Orders.{barrier, sync_orders}
use Rattle.store.specs.Save as Save
use Rattle.store.specs.Request.{put, direct, sync}
use Rattle.store.specs.State.{State, Outcome, closed, down, card_in, with_queue, with_card}
use Rattle.store.specs.Lists.{open_from, group_from}
use Rattle.store.specs.Causes.{wrong_sizes, wrong_record, open_full_row, listed_row, wrong_block, cause}
use Rattle.store.specs.Outcomes.{refused}
use Rattle.store.specs.Saves.{carried, group_of, save_orders, syncing}
use Rattle.store.specs.Direct.{direct_write, direct_orders}
use Rattle.store.proofs.Saves.{group_size, barrier_none, barrier-some, sync_none}
use Rattle.store.proofs.Places.{data_lt}
use Rattle.store.proofs.Listings.{get-newest}
use Rattle.history.specs.Plain.{among, addresses}
use Rattle.history.specs.Dispatch.{called}
use Rattle.history.specs.Formats.{Exactly}
use Rattle.history.specs.Directs.{open_of, log_of, fully_waits, Directs, GetsWaiting, AllDirects}
use Rattle.history.proofs.Relation.Lists.{find-has, has-among, slot_among, among-append, addresses-append}
use Rattle.history.proofs.Relation.WorkLists.{newest-get}
use Rattle.history.proofs.Relation.CauseLaws.{cause_passes, cause_opened, few_wait}
use Rattle.history.proofs.Relation.Forms.{called-refused}
use Rattle.history.proofs.Steps.CallEnds.{carried-done, carried-short}

-- ---- rows

-- rows 1 to 6, which a put and a direct write share, and the rest
abbrev up_to_six : Bool → Bool → Bool → Bool → Bool → ℕ → ℕ
up_to_six s r c d n rest = cond s 1 (cond r 2 (cond c 3 (cond d 4 (cond n 6 rest))))

-- they give what the rest doesn't
six_gives : (s r c d n : Bool) (x y : ℕ) → up_to_six s r c d n x ≢ x → up_to_six s r c d n y ≡ up_to_six s r c d n x
six_gives true r c d n x y h = refl
six_gives false true c d n x y h = refl
six_gives false false true d n x y h = refl
six_gives false false false true n x y h = refl
six_gives false false false false true x y h = refl
six_gives false false false false false x y h = absurd (h refl)

-- they pass
six_passes : (s r c d n : Bool) (x y k : ℕ) → up_to_six s r c d n x ≡ k → k ≢ 1 → k ≢ 2 → k ≢ 3 → k ≢ 4 → k ≢ 6 → up_to_six s r c d n y ≡ y
six_passes true r c d n x y k e o p q u v = absurd (o (sym e))
six_passes false true c d n x y k e o p q u v = absurd (p (sym e))
six_passes false false true d n x y k e o p q u v = absurd (q (sym e))
six_passes false false false true n x y k e o p q u v = absurd (u (sym e))
six_passes false false false false true x y k e o p q u v = absurd (v (sym e))
six_passes false false false false false x y k e o p q u v = refl

module _ (geo : Geometry) (a : ℕ) (b : List ℕ) (st : State) where
  -- row 7 of a put, and 14
  abbrev seven : Bool
  seven = (open_full_row geo a).test st

  abbrev fourteen : Bool
  fourteen = (listed_row geo a).test st

  shared : ℕ → ℕ
  shared x = up_to_six (wrong_sizes geo st || wrong_block geo (put a b)) (wrong_record geo st) (eqb st.rec.mode closed) (eqb st.rec.mode down) (not (is_data geo st.rec.blocks a)) x

  put_rows : cause geo (put a b) st ≡ shared (cond seven 7 0)
  unfolding shared
  put_rows = refl

  direct_rows : cause geo (direct a b) st ≡ shared (cond fourteen 14 0)
  unfolding shared
  direct_rows = refl

  shared_gives : (x y : ℕ) → shared x ≢ x → shared y ≡ shared x
  unfolding shared
  shared_gives x y h = six_gives (wrong_sizes geo st || wrong_block geo (put a b)) (wrong_record geo st) (eqb st.rec.mode closed) (eqb st.rec.mode down) (not (is_data geo st.rec.blocks a)) x y h

  shared_passes : (x y k : ℕ) → shared x ≡ k → (k ≡ 0) ⊎ (k ≡ 7) → shared y ≡ y
  unfolding shared
  shared_passes x y k e h =
      six_passes (wrong_sizes geo st || wrong_block geo (put a b)) (wrong_record geo st) (eqb st.rec.mode closed) (eqb st.rec.mode down) (not (is_data geo st.rec.blocks a)) x y k e
      (not_these 1 h (λ z. omega arith) (λ z. omega arith)) (not_these 2 h (λ z. omega arith) (λ z. omega arith)) (not_these 3 h (λ z. omega arith) (λ z. omega arith))
      (not_these 4 h (λ z. omega arith) (λ z. omega arith)) (not_these 6 h (λ z. omega arith) (λ z. omega arith))
    where
      not_these : (j : ℕ) → (k ≡ 0) ⊎ (k ≡ 7) → j ≢ 0 → j ≢ 7 → k ≢ j
      not_these j (◌⊎◌.inl z) n m e = n (sym e ∙ z)
      not_these j (◌⊎◌.inr z) n m e = m (sym e ∙ z)

  refuses_by : (k : ℕ) → cause geo (direct a b) st ≡ k → k ≢ 0 → called geo (direct a b) st ≡ refused k st
  refuses_by k e n = called-refused geo (direct a b) st (λ z. n (sym e ∙ z)) ∙ ap (λ (j : ℕ). refused j st) e

  as_put : cause geo (put a b) st ≢ 0 → cause geo (put a b) st ≢ 7 → called geo (direct a b) st ≡ refused (cause geo (put a b) st) st
  as_put h k = refuses_by (cause geo (put a b) st) (direct_rows ∙ shared_gives (cond seven 7 0) (cond fourteen 14 0) (other seven h k) ∙ sym put_rows) h
    where
      other : (t : Bool) → cause geo (put a b) st ≢ 0 → cause geo (put a b) st ≢ 7 → shared (cond seven 7 0) ≢ cond t 7 0
      other true h k e = k (put_rows ∙ e)
      other false h k e = h (put_rows ∙ e)

  -- the address is in open, group or log
  listed-among : fourteen ≡ among a (addresses (open_of st ++ (group_of geo st ++ log_of geo st)))
  listed-among =
      let o = find-has st.work open_from st.rec.opened a ∙ has-among a (open_of st) in
      let g = find-has st.work (group_from geo) st.rec.grouped a ∙ has-among a (group_of geo st) in
      let l = slot_among geo st.settled a st.rec.logged in
      (λ i. (o i || g i) || l i)
      ∙ or_assoc (among a (addresses (open_of st))) (among a (addresses (group_of geo st))) (among a (addresses (log_of geo st)))
      ∙ ap (λ (t : Bool). among a (addresses (open_of st)) || t) (sym (joined (group_of geo st) (log_of geo st)))
      ∙ sym (joined (open_of st) (group_of geo st ++ log_of geo st))
    where
      joined : (x y : List Entry) → among a (addresses (x ++ y)) ≡ among a (addresses x) || among a (addresses y)
      joined x y = ap (among a) (addresses-append x y) ∙ among-append a (addresses x) (addresses y)

  row : (cause geo (put a b) st ≡ 0) ⊎ (cause geo (put a b) st ≡ 7)
      → Exactly (among a (addresses (open_of st ++ (group_of geo st ++ log_of geo st))) ≡ true) (called geo (direct a b) st ≡ refused 14 st) (cause geo (direct a b) st ≡ 0)
  row h = go fourteen refl
    where
      is : cause geo (direct a b) st ≡ cond fourteen 14 0
      is = direct_rows ∙ shared_passes (cond seven 7 0) (cond fourteen 14 0) (cause geo (put a b) st) (sym put_rows) h

      go : (t : Bool) → fourteen ≡ t → Exactly (among a (addresses (open_of st ++ (group_of geo st ++ log_of geo st))) ≡ true) (called geo (direct a b) st ≡ refused 14 st) (cause geo (direct a b) st ≡ 0)
      go true e = ◌⊎◌.inl (sym listed-among ∙ e, refuses_by 14 (is ∙ ap (λ (t : Bool). cond t 14 0) e) (λ z. omega arith))
      go false e = ◌⊎◌.inr ((λ z. true≢false (sym z ∙ sym listed-among ∙ e)), is ∙ ap (λ (t : Bool). cond t 14 0) e)

  -- ---- a direct write that no cause refuses

  abbrev takes : ℕ
  takes = cond (fully_waits geo st) 2 1

  call : cause geo (direct a b) st ≡ 0 → called geo (direct a b) st ≡ carried (direct_orders geo a b st) st.rec st.rec st
  unfolding called
  call z = rw (eq-eqb _ 0 z)

  orders_length : length (direct_orders geo a b st) ≡ takes
  unfolding direct_orders
  orders_length = go (fully_waits geo st)
    where
      go : (t : Bool) → length (cond t (flush ∷ direct_write a b ∷ []) (direct_write a b ∷ [])) ≡ cond t 2 1
      go true = refl
      go false = refl

  answers : cause geo (direct a b) st ≡ 0 → (called geo (direct a b) st).answer ≡ cond (leb takes st.rec.power) 0 4
  unfolding carried
  answers z = ap (λ (o : Outcome). o.answer) (call z) ∙ ap (λ (k : ℕ). cond (leb k st.rec.power) 0 4) orders_length

  -- done: no cause, and power for its orders
  passed : (called geo (direct a b) st).answer ≡ 0 → (cause geo (direct a b) st ≡ 0) × (takes ≤ st.rec.power)
  passed h = go (ℕ_discrete (cause geo (direct a b) st) 0)
    where
      whole : (t : Bool) → leb takes st.rec.power ≡ t → ◌≡◌ {A = ℕ} (cond t 0 4) 0 → takes ≤ st.rec.power
      whole true e z = leb-true _ _ e
      whole false e z = absurd (omega arith)

      go : Dec (cause geo (direct a b) st ≡ 0) → (cause geo (direct a b) st ≡ 0) × (takes ≤ st.rec.power)
      go (yes z) = (z, whole (leb takes st.rec.power) refl (sym (answers z) ∙ h))
      go (no n) = absurd (n (sym (ap (λ (o : Outcome). o.answer) (called-refused geo (direct a b) st n)) ∙ h))

  ends : (called geo (direct a b) st).answer ≡ 0
      → called geo (direct a b) st ≡ record { answer = 0; orders = takes; state = with_card (run (direct_orders geo a b st) (card_in st)) st }
  ends h =
      let (z, enough) = passed h in
      call z ∙ carried-done (direct_orders geo a b st) st.rec st.rec st (omega (arith, orders_length))
      ∙ ap (λ (k : ℕ). record { answer = 0; orders = k; state = with_card (run (direct_orders geo a b st) (card_in st)) st }) orders_length

  e : Entry
  e = record { address = a; block = b }

  -- the card with nothing waiting, or as it is
  flushed : Card
  flushed = record {
    settled = cond (fully_waits geo st) (settle (queue (card_in st)) st.settled) st.settled;
    waiting = st.waiting;
    count = cond (fully_waits geo st) 0 st.rec.waiting;
    power = cond (fully_waits geo st) (st.rec.power - 1) st.rec.power;
  }

  runs : takes ≤ st.rec.power → run (direct_orders geo a b st) (card_in st) ≡ order (write e) flushed
  unfolding direct_orders e flushed order
  runs = go (fully_waits geo st)
    where
      go : (t : Bool) → cond t 2 1 ≤ st.rec.power → run (cond t (flush ∷ direct_write a b ∷ []) (direct_write a b ∷ [])) (card_in st)
          ≡ order (write e) (record { settled = cond t (settle (queue (card_in st)) st.settled) st.settled; waiting = st.waiting; count = cond t 0 st.rec.waiting; power = cond t (st.rec.power - 1) st.rec.power })
      go true h = run_live flush (direct_write a b ∷ []) (card_in st) (omega arith) ∙ run-one (direct_write a b) (order flush (card_in st)) (omega arith)
      go false h = run-one (direct_write a b) (card_in st) (omega arith)

  -- what the write meets
  flushed-queue : queue flushed ≡ cond (fully_waits geo st) [] (queue (card_in st))
  unfolding queue flushed
  flushed-queue = go (fully_waits geo st)
    where
      go : (t : Bool) → queue (record { settled = st.settled; waiting = st.waiting; count = cond t 0 st.rec.waiting; power = st.rec.power }) ≡ cond t [] (queue (card_in st))
      go true = refl
      go false = refl

  flushed-few : st.rec.waiting ≤ geo.direct → flushed.count ≤ geo.direct
  unfolding flushed
  flushed-few h = go (fully_waits geo st)
    where
      go : (t : Bool) → cond t 0 st.rec.waiting ≤ geo.direct
      go true = omega arith
      go false = h

  flushed-waiting : flushed.waiting ≡ st.waiting
  unfolding flushed
  flushed-waiting = refl

  written-queue : cause geo (direct a b) st ≡ 0 → queue (order (write e) flushed) ≡ cond (fully_waits geo st) [] (queue (card_in st)) ++ (e ∷ [])
  unfolding e
  written-queue z =
      let p = cause_passes geo (direct a b) st z in
      let o = cause_opened geo (direct a b) st refl refl z in
      let below : a < st.rec.blocks = data_lt geo st.rec.blocks a (not-false _ p.own.0) in
      let few : flushed.count ≤ geo.direct = flushed-few (few_wait geo st o.facts.counts o.mode) in
      let room : length flushed.waiting ≡ entry_bytes * geo.places = ap length flushed-waiting ∙ o.facts.sizes.waiting in
      queue_write e flushed (omega (arith, geo.queued)) (eqb-true _ _ (not-false _ p.block)) (omega (arith, o.facts.sizes.most, o.facts.counts.blocks))
      ∙ ap (λ (q : List Entry). q ++ (e ∷ [])) flushed-queue

  waits : (called geo (direct a b) st).answer ≡ 0
      → queue (card_in (called geo (direct a b) st).state) ≡ cond (fully_waits geo st) [] (queue (card_in st)) ++ (record { address = a; block = b } ∷ [])
  unfolding e
  waits h =
      let (z, enough) = passed h in
      ap (λ (o : Outcome). queue (card_in o.state)) (ends h) ∙ ap queue (runs enough) ∙ written-queue z

  settles : (called geo (direct a b) st).answer ≡ 0 → (called geo (direct a b) st).state.settled ≡ cond (fully_waits geo st) (settle (queue (card_in st)) st.settled) st.settled
  unfolding order flushed
  settles h = ap (λ (o : Outcome). o.state.settled) (ends h) ∙ ap (λ (c : Card). c.settled) (runs (passed h).1)

  counts : (order (write e) flushed).count ≡ cond (fully_waits geo st) 0 st.rec.waiting + 1
  unfolding order flushed
  counts = refl

  power : (run (direct_orders geo a b st) (card_in st)).power ≡ st.rec.power - takes
  power = run-power (direct_orders geo a b st) (card_in st) ∙ ap (λ (k : ℕ). st.rec.power - k) orders_length

  rest : (called geo (direct a b) st).answer ≡ 0
      → ((called geo (direct a b) st).state.work ≡ st.work)
      × ((called geo (direct a b) st).state.rec ≡ with_queue (cond (fully_waits geo st) 0 st.rec.waiting + 1) (st.rec.power - takes) st.rec)
  rest h = (
    ap (λ (o : Outcome). o.state.work) (ends h),
    ap (λ (o : Outcome). o.state.rec) (ends h) ∙ ap₂ (λ (w p : ℕ). with_queue w p st.rec) (ap (λ (c : Card). c.count) (runs (passed h).1) ∙ counts) power,
  )

module _ (geo : Geometry) where
  directs : (a : ℕ) (b : List ℕ) (st : State) → Directs geo a b st
  directs a b st = record {
    as_put = as_put geo a b st;
    row = row geo a b st;
    answers = answers geo a b st;
    orders = λ h. ap (λ (o : Outcome). o.orders) (ends geo a b st h);
    waits = waits geo a b st;
    settles = settles geo a b st;
    rest = rest geo a b st;
  }

  -- ---- get

  gets : (a : ℕ) (st : State) → GetsWaiting geo a st
  gets a st z = get-newest geo a st z ∙ newest-get geo a st

  -- ---- a sync with an empty group

  module _ (st : State) where
    abbrev one : ℕ
    one = cond (eqb st.rec.waiting 0) 0 1

    barrier-length : length (barrier st.rec.waiting) ≡ one
    unfolding barrier
    barrier-length = go (eqb st.rec.waiting 0)
      where
        go : (t : Bool) → length (cond {A = List Order} t [] (flush ∷ [])) ≡ cond t 0 1
        go true = refl
        go false = refl

    empty : st.rec.waiting ≡ 0 → st.settled ≡ settle (queue (card_in st)) st.settled
    unfolding queue settle
    empty e = sym (ap (λ (k : ℕ). settle (up_to (entry_at st.waiting) k) st.settled) e)

    -- with power for it, it settles all that waits
    barrier_runs : one ≤ st.rec.power
        → run (barrier st.rec.waiting) (card_in st) ≡ record { settled = settle (queue (card_in st)) st.settled; waiting = st.waiting; count = 0; power = st.rec.power - one }
    unfolding order
    barrier_runs h = go (ℕ_discrete st.rec.waiting 0)
      where
        go : Dec (st.rec.waiting ≡ 0)
            → run (barrier st.rec.waiting) (card_in st) ≡ record { settled = settle (queue (card_in st)) st.settled; waiting = st.waiting; count = 0; power = st.rec.power - one }
        go (yes e) =
            let kept : st.rec.power ≡ st.rec.power - one = rw (eq-eqb _ 0 e) (omega arith) in
            ap (λ (os : List Order). run os (card_in st)) (barrier_none _ e) ∙ run_nil (card_in st) ∙ (λ i. record { settled = empty e i; waiting = st.waiting; count = e i; power = kept i })
        go (no e) =
            let some : one ≡ 1 = rw (ne_eqb _ 0 e) in
            ap (λ (os : List Order). run os (card_in st)) (barrier-some _ e) ∙ run-one flush (card_in st) (omega arith)
            ∙ ap (λ (k : ℕ). record { settled = settle (queue (card_in st)) st.settled; waiting = st.waiting; count = 0; power = st.rec.power - k }) (sym some)

    module _ (z : cause geo sync st ≡ 0) (none : st.rec.grouped ≡ 0) where
      sync-orders : save_orders geo Save.sync st ≡ barrier st.rec.waiting
      unfolding sync_orders
      sync-orders = let size : length (group_of geo st) ≡ 0 = group_size geo st ∙ none in rw (eq-eqb _ 0 size)

      sync-served : called geo sync st ≡ syncing geo st
      unfolding called
      sync-served = rw (eq-eqb _ 0 z)

      -- it is a barrier, and the record stays
      sync-call : called geo sync st ≡ carried (barrier st.rec.waiting) st.rec st.rec st
      unfolding carried
      sync-call = sync-served
          ∙ (λ i. record {
            answer = cond (leb (length (sync-orders i)) st.rec.power) 0 4;
            orders = min (length (sync-orders i)) st.rec.power;
            state = sym (sync_none geo st none) i;
          })

      sync-done : one ≤ st.rec.power
          → called geo sync st
          ≡ record {
            answer = 0;
            orders = one;
            state = record { rec = with_queue 0 (st.rec.power - one) st.rec; settled = settle (queue (card_in st)) st.settled; waiting = st.waiting; work = st.work };
          }
      sync-done h =
          sync-call ∙ carried-done (barrier st.rec.waiting) st.rec st.rec st (omega (arith, barrier-length))
          ∙ ap₂ (λ (k : ℕ) (c : Card). record { answer = 0; orders = k; state = with_card c st }) barrier-length (barrier_runs h)

      sync_gone : st.rec.power < one → (called geo sync st).answer ≡ 4
      sync_gone h = ap (λ (o : Outcome). o.answer) (sync-call ∙ carried-short (barrier st.rec.waiting) st.rec st.rec st (omega (arith, barrier-length)))

  pub all_directs : AllDirects geo
  all_directs = record { directs = directs; gets = gets; syncs = λ st. record { done = sync-done st; gone = sync_gone st } }
