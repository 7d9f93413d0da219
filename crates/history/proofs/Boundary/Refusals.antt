-- Refusals, of the ten calls, of lists of gets and of direct writes on any inputs whatever. A call comes to its refusal, to an outcome without orders, or to its
-- orders carried out: batches that fit the queue behind what waits, or a direct write.
use Prim.Native.Nat.{ℕ, ◌+◌, ◌-◌, ◌≤◌, ◌<◌}
use mathlib.Core.Path.{◌≡◌, refl, ap, ap₂, sym, ◌∙◌}
use mathlib.Core.Logic.{◌≢◌}
use mathlib.Core.Bool.{Bool, true, false, cond, ◌&&◌}
use mathlib.Core.List.{List, [], ◌∷◌, ◌++◌, append-nil}
use native.Mathlib.Omega.{arith}
use native.Mathlib.Decide.{dec_le}
use borrow.Author.Tests.{eqb-false, leb-true, leb-false, lt-leb, not-true}
use lib.Dec.{eqb, leb, lit<}
use lib.ListN.{length, take, length-append, length-map}
use lib.Seq.{take-append-add}
use Rattle.cells.specs.Upto.Laws.{length-up_to}
use Rattle.cells.specs.Entry.{Entry}
use Rattle.fnv.specs.Fnv.{start}
use Rattle.card.specs.Card.{Card, Order, write, flush, queue, order, run, block_at}
use Rattle.card.proofs.All.{All, all_append, all_map}
use Rattle.card.proofs.Runs.{NarrowAddress, take_more, run_nil, run_step, run_dead, run-append, run-power, writes_settled, settle_other}
use Rattle.journal.specs.Geometry.{Geometry}
use Rattle.journal.specs.declared.header.Header.{Header}
use Rattle.journal.specs.declared.choice.Choice.{Choice}
use Rattle.journal.specs.declared.choice.Choice.TheVariants.{Whole, Fallback, Foreign, Neither}
use Rattle.journal.specs.Layout.{most_blocks}
use Rattle.journal.specs.Header.{header, empty_header}
use Rattle.journal.specs.Log.{entries, slot_entry}
use Rattle.journal.specs.Orders.{barrier, append_orders, checkpoint_orders, apply_orders, sync_orders}
use Rattle.journal.specs.Choice.{choose, recover_orders}
use Rattle.journal.proofs.Logs.{from_whole, entries_whole}
use Rattle.journal.proofs.Choices.{both}
use Rattle.journal.proofs.Headers.{length-encode}
use Rattle.journal.proofs.OrderLists.{header_entry, append_writes, append-writes, checkpoint_writes, fallback_writes, length_fallback, length-append_writes}
use Rattle.crash.proofs.Batches.{batch, Room, queued_short, queued_done}
use Rattle.crash.proofs.Plans.{Plan, planned, planned-append}
use Rattle.crash.proofs.Appends.{writes_whole, writes_below}
use Rattle.store.specs.declared.record.Record.{Record}
use Rattle.store.specs.State.{State, Outcome, open_mode, down, with_mode, with_log, with_record, card_in, with_card}
use Rattle.store.specs.Lists.{group_from, listed}
use Rattle.store.specs.Save.{Save}
use Rattle.store.specs.Request.{Request, format, local, direct, save, cut, sync, apply, recover}
use Rattle.store.specs.Causes.{waiting_bytes, cause}
use Rattle.store.specs.Outcomes.{completed}
use Rattle.store.specs.Saves.{carried, group_of, applies}
use Rattle.store.specs.Direct.{direct_orders}
use Rattle.store.proofs.Calls.{call_done}
use Rattle.store.proofs.Causes.{sizes_facts}
use Rattle.history.specs.Dispatch.{called}
use Rattle.history.specs.Refusals.{orders_of, besides, untouched, inner_done, Gone, Answers}
use Rattle.history.proofs.Relation.WorkLists.{data_short}
use Rattle.history.proofs.Relation.CauseLaws.{idle, few_wait, record_facts, cause_passes, IsOpen, cause_opened}
use Rattle.history.proofs.Relation.Forms.{left, AppliedFirst, Form, quiet, gives, unless_either, form, called-refused}
use Rattle.history.proofs.Steps.CallEnds.{carried-done, carried-short}

-- ---- batches in a row leave a block alone that none of them writes to and to which nothing waited before them

besides-all : (x : ℕ) (q : List Entry) → besides x q ≡ true → All (λ e. x ≢ e.address) q
unfolding besides
besides-all x [] h = tt
besides-all x (e ∷ q) h = let p = both _ _ h in (eqb-false _ _ (not-true _ p.0), besides-all x q p.1)

untouched-batch : (x : ℕ) (q es : List Entry) (os : List Order) → untouched x q (batch es ++ os) ≡ true → All (λ e. x ≢ e.address) q × All (λ e. x ≢ e.address) es × (untouched x [] os ≡ true)
unfolding untouched
untouched-batch x q [] os h = let p = both _ _ h in (besides-all x q p.0, tt, p.1)
untouched-batch x q (e ∷ es) os h =
    let p = both _ _ h in
    let r = untouched-batch x q es os p.1 in
    (r.0, (eqb-false _ _ (not-true _ p.0), r.1), r.2)

length-batch : (es : List Entry) → length (batch es) ≡ length es + 1
length-batch es = simp (length-append, length-map)

batches_keep : (x : ℕ) (bs : Plan) (c : Card) → All (Room c) bs → untouched x (queue c) (take c.power (planned bs)) ≡ true → block_at (run (planned bs) c).settled x ≡ block_at c.settled x
batches_keep x [] c f h = rw (run_nil)
batches_keep x (es ∷ bs) c f h = rw (run-append (batch es) (planned bs) c) (go (dec_le c.power (length es)) (λ g. batches_keep x bs (run (batch es) c) g))
  where
    go : Dec (c.power ≤ length es)
        → (All (Room (run (batch es) c)) bs → untouched x (queue (run (batch es) c)) (take (run (batch es) c).power (planned bs)) ≡ true
        → block_at (run (planned bs) (run (batch es) c)).settled x ≡ block_at (run (batch es) c).settled x)
        → block_at (run (planned bs) (run (batch es) c)).settled x ≡ block_at c.settled x
    go (yes p) more =
        let l = queued_short c es f.0 p in
        rw (run_dead (planned bs) (run (batch es) c) l.power, l.settled)
    go (no p) more =
        let l = queued_done c es f.0 (omega arith) in
        let k : c.power ≡ length (batch es) + (c.power - (length es + 1)) = omega (arith, length-batch es) in
        let u : untouched x (queue c) (take (length (batch es) + (c.power - (length es + 1))) (batch es ++ planned bs)) ≡ true = ap (λ (n : ℕ). untouched x (queue c) (take n (batch es ++ planned bs))) (sym k) ∙ h in
        let v = untouched-batch x (queue c) es (take (c.power - (length es + 1)) (planned bs)) (rw (take-append-add (batch es) (planned bs) (c.power - (length es + 1))) at u) in
        more
        (all_map (Room c) (Room (run (batch es) c)) (λ e g. record { places = omega (arith, l.count, l.room, g.places); whole = g.whole; low = g.low }) bs f.1)
        (ap₂ (λ (q : List Entry) (n : ℕ). untouched x q (take n (planned bs))) l.waits l.power ∙ v.2)
        ∙ ap (λ (s : List ℕ). block_at s x) l.settled
        ∙ settle_other (queue c ++ es) c.settled x (all_append (λ e. x ≢ e.address) (queue c) es v.0 v.1)

-- orders that are such batches
record Batched (c : Card) (os : List Order) : Type 0 where
  parts : Plan
  same : os ≡ planned parts
  fit : All (Room c) parts

-- a block that they do not touch stays
abbrev Keeps : Card → List Order → Type 0
Keeps c os = (x : ℕ) → untouched x (queue c) (take c.power os) ≡ true → block_at (run os c).settled x ≡ block_at c.settled x

batched_keep : (os : List Order) (c : Card) → Batched c os → Keeps c os
batched_keep os c b x h = rw b.same (batches_keep x b.parts c b.fit (rw b.same at h))

no_batches : (c : Card) → Batched c []
no_batches c = record { parts = []; same = refl; fit = tt }

one_batch : (c : Card) (es : List Entry) → Room c es → Batched c (batch es)
one_batch c es f = record { parts = es ∷ []; same = sym (append-nil (batch es)); fit = (f, tt) }

more_batches : (c : Card) (os ps : List Order) → Batched c os → Batched c ps → Batched c (os ++ ps)
more_batches c os ps a b = record {
  parts = a.parts ++ b.parts;
  same = rw (a.same, b.same) (sym (planned-append a.parts b.parts));
  fit = all_append (Room c) a.parts b.parts a.fit b.fit;
}

-- ---- so are the orders of recover, apply and sync

module _ (geo : Geometry) where
  -- a header behind less than the queue holds
  header-batch : (st : State) → length st.waiting ≡ waiting_bytes geo → st.rec.waiting < geo.places → (h : Header) → Batched (card_in st) (batch (header_entry h ∷ []))
  header-batch st room few h = one_batch (card_in st) (header_entry h ∷ []) (record { places = omega arith; whole = (length-encode h, tt); low = (lit< tt, tt) })

  -- a recovery finds nothing waiting
  pub recover_idle : (st : State) → cause geo recover st ≡ 0 → st.rec.waiting ≡ 0
  recover_idle st e =
      let p = cause_passes geo recover st e in
      let rc = record_facts geo st p.counts in
      let a : st.rec.mode ≢ down = eqb-false _ _ p.own.0 in
      let b : st.rec.mode ≢ open_mode = eqb-false _ _ p.own.1.0 in
      idle geo st rc (omega (arith, rc.mode))

  recover_batched : (st : State) → st.rec.waiting ≡ 0 → length st.waiting ≡ waiting_bytes geo → (N : ℕ) (c : Choice) → Batched (card_in st) (recover_orders N c)
  recover_batched st none room N (Whole n h k) = no_batches (card_in st)
  recover_batched st none room N (Fallback p h k) = rw (fallback_writes N p h k) (header-batch st room (omega (arith, geo.queued)) (header N p h p h k))
  recover_batched st none room N Foreign = no_batches (card_in st)
  recover_batched st none room N Neither = no_batches (card_in st)

  module _ (st : State) (o : IsOpen geo st) where
    few_waits : st.rec.waiting ≤ geo.direct
    few_waits = few_wait geo st o.facts.counts o.mode

    checkpoint_batched : Batched (card_in st) (checkpoint_orders st.rec.blocks st.rec.save (entries geo st.settled st.rec.logged))
    checkpoint_batched =
        let sz = o.facts.sizes in
        let rc = o.facts.counts in
        let log = entries geo st.settled st.rec.logged in
        rw (checkpoint_writes st.rec.blocks st.rec.save log)
        (more_batches (card_in st) (batch log) (batch (header_entry (empty_header st.rec.blocks st.rec.save) ∷ []))
        (one_batch (card_in st) log
        (record {
          places = omega (arith, few_waits, length-up_to (slot_entry geo st.settled) st.rec.logged, rc.log_count, sz.waiting, geo.queued);
          whole = entries_whole geo st.settled st.rec.logged (omega (arith, sz.least)) rc.log_count;
          low = data_short geo st.rec.blocks (omega (arith, sz.most, rc.blocks)) log o.lists.log_data;
        }))
        (header-batch st sz.waiting (omega (arith, few_waits, geo.queued)) (empty_header st.rec.blocks st.rec.save)))

    append_batched : (n h k : ℕ) → n + length (group_of geo st) ≤ geo.slots → Batched (card_in st) (append_orders geo st.rec.blocks st.settled n h k (group_of geo st))
    append_batched n h k p =
        let sz = o.facts.sizes in
        let rc = o.facts.counts in
        rw (append-writes geo st.rec.blocks st.settled n h k (group_of geo st))
        (one_batch (card_in st) (append_writes geo st.rec.blocks st.settled n h k (group_of geo st))
        (record {
          places = omega (arith, few_waits, p, sz.waiting, length-append_writes geo st.rec.blocks st.settled n h k (group_of geo st), geo.queued);
          whole = writes_whole geo st.rec.blocks st.settled n h k (group_of geo st) (from_whole st.work (group_from geo) st.rec.grouped (omega (arith, sz.work, rc.group_count)));
          low = all_map (λ e. e.address < most_blocks) NarrowAddress (λ e l. omega arith) (append_writes geo st.rec.blocks st.settled n h k (group_of geo st))
              (writes_below geo st.rec.blocks st.settled n h k (group_of geo st) most_blocks p (omega (arith, geo.addressed)));
        }))

    -- a flush alone
    barrier_batched : Batched (card_in st) (barrier st.rec.waiting)
    unfolding barrier
    barrier_batched = go (eqb st.rec.waiting 0)
      where
        go : (t : Bool) → Batched (card_in st) (cond t [] (flush ∷ []))
        go true = no_batches (card_in st)
        go false = one_batch (card_in st) [] (record { places = omega (arith, few_waits, o.facts.sizes.waiting, geo.queued); whole = tt; low = tt })

    apply_batched : Batched (card_in st) (apply_orders geo st.rec.blocks st.settled st.rec.logged st.rec.save)
    unfolding apply_orders
    apply_batched = go (eqb st.rec.logged 0)
      where
        go : (t : Bool) → Batched (card_in st) (cond t [] (checkpoint_orders st.rec.blocks st.rec.save (entries geo st.settled st.rec.logged)))
        go true = no_batches (card_in st)
        go false = checkpoint_batched

    sync_batched : Batched (card_in st) (sync_orders geo st.rec.blocks st.settled st.rec.waiting st.rec.logged st.rec.sum st.rec.save (group_of geo st))
    unfolding sync_orders
    sync_batched = go (eqb (length (group_of geo st)) 0) (leb (st.rec.logged + length (group_of geo st)) geo.slots) refl
      where
        go : (s t : Bool) → leb (st.rec.logged + length (group_of geo st)) geo.slots ≡ t
            → Batched (card_in st)
            (cond s (barrier st.rec.waiting)
            (cond t
            (append_orders geo st.rec.blocks st.settled st.rec.logged st.rec.sum (st.rec.save + 1) (group_of geo st))
            (checkpoint_orders st.rec.blocks st.rec.save (entries geo st.settled st.rec.logged) ++ append_orders geo st.rec.blocks st.settled 0 start (st.rec.save + 1) (group_of geo st))))
        go true t p = barrier_batched
        go false true p = append_batched st.rec.logged st.rec.sum (st.rec.save + 1) (leb-true _ _ p)
        go false false p =
            let few : length (group_of geo st) ≤ geo.slots = rw (length-up_to (listed st.work (group_from geo)) st.rec.grouped) o.facts.counts.group_count in
            more_batches (card_in st) _ _ checkpoint_batched (append_batched 0 start (st.rec.save + 1) (omega arith))

-- ---- a direct write: what waited is flushed or nothing is

direct_keep : (e : Entry) (c : Card) (t : Bool) → Keeps c (cond t (flush ∷ write e ∷ []) (write e ∷ []))
unfolding order untouched
direct_keep e c true x h =
    run_step (λ r. block_at r.settled x ≡ block_at c.settled x) flush (write e ∷ []) c
    (λ z. refl)
    (λ l.
    let u = both _ _ (ap (untouched x (queue c)) (sym (take_more c.power flush (write e ∷ []) l)) ∙ h) in
    ap (λ (s : List ℕ). block_at s x) (writes_settled (e ∷ []) (order flush c)) ∙ settle_other (queue c) c.settled x (besides-all x (queue c) u.0))
direct_keep e c false x h = ap (λ (s : List ℕ). block_at s x) (writes_settled (e ∷ []) c)

-- ---- the theorem

-- two orders suffice to recover
recover-few : (N : ℕ) (c : Choice) → length (recover_orders N c) ≤ 2
recover-few N (Whole n h k) = omega arith
recover-few N (Fallback p h k) = omega (arith, length_fallback N p h k)
recover-few N Foreign = omega arith
recover-few N Neither = omega arith

module _ (geo : Geometry) where
  recover_two : (st : State) → (called geo recover st).orders ≤ 2
  unfolding called carried
  recover_two st =
      unless_either (λ o. o.orders ≤ 2) (cause geo recover st) st _
      (λ e. omega (arith, recover-few st.rec.blocks (choose geo st.rec.blocks st.settled)))
      (omega arith)

-- what is as before in the record of a call cut short, and what is not
left_is : {A : Type 0} (t : Bool) (st : State) (f : Record → A) (a : A) → f (with_log 0 start st.rec) ≡ a → f (left t st) ≡ cond t a (f st.rec)
left_is true st f a h = h
left_is false st f a h = refl

same-both : {A : Type 0} (t : Bool) (a : A) → cond t a a ≡ a
same-both true a = refl
same-both false a = refl

module _ (geo : Geometry) where
  -- an apply takes three orders at the least
  inner_powerless : (st : State) → st.rec.power ≡ 0 → inner_done geo st ≡ false
  inner_powerless st e = go (applies geo st) (lt-leb (st.rec.logged + 3) st.rec.power (omega arith))
    where
      go : (t : Bool) → leb (st.rec.logged + 3) st.rec.power ≡ false → t && leb (st.rec.logged + 3) st.rec.power ≡ false
      go true h = h
      go false h = refl

  cut_short_lem : (q : Request) (st : State) (t : Bool) → AppliedFirst geo q st t
      → called geo q st ≡ record { answer = 4; orders = st.rec.power; state = with_card (run (orders_of geo q st) (card_in st)) (with_record (with_mode down (left t st)) st) }
      → st.rec.power < length (orders_of geo q st) → Keeps (card_in st) (orders_of geo q st) → Gone geo q st
  cut_short_lem q st t first short less keep = record {
    answer = ap (λ (o : Outcome). o.answer) short;
    orders = ap (λ (o : Outcome). o.orders) short;
    down-now = ap (λ (o : Outcome). o.state.rec.mode) short;
    N = ap (λ (o : Outcome). o.state.rec.blocks) short ∙ left_is t st (λ r. r.blocks) st.rec.blocks refl ∙ same-both t st.rec.blocks;
    save = ap (λ (o : Outcome). o.state.rec.save) short ∙ left_is t st (λ r. r.save) st.rec.save refl ∙ same-both t st.rec.save;
    emptied = λ e d. let u : t ≡ true = sym (first.is e) ∙ d in (
      ap (λ (o : Outcome). o.state.rec.logged) short ∙ left_is t st (λ r. r.logged) 0 refl ∙ ap (λ (b : Bool). cond b 0 st.rec.logged) u,
      ap (λ (o : Outcome). o.state.rec.sum) short ∙ left_is t st (λ r. r.sum) start refl ∙ ap (λ (b : Bool). cond b start st.rec.sum) u,
    );
    kept = λ d. let u : t ≡ false = first.not d in (
      ap (λ (o : Outcome). o.state.rec.logged) short ∙ left_is t st (λ r. r.logged) 0 refl ∙ ap (λ (b : Bool). cond b 0 st.rec.logged) u,
      ap (λ (o : Outcome). o.state.rec.sum) short ∙ left_is t st (λ r. r.sum) start refl ∙ ap (λ (b : Bool). cond b start st.rec.sum) u,
    );
    power = ap (λ (o : Outcome). o.state.rec.power) short ∙ run-power (orders_of geo q st) (card_in st) ∙ (omega arith);
    work = ap (λ (o : Outcome). o.state.work) short;
    open_count = ap (λ (o : Outcome). o.state.rec.opened) short ∙ left_is t st (λ r. r.opened) st.rec.opened refl ∙ same-both t st.rec.opened;
    group_count = ap (λ (o : Outcome). o.state.rec.grouped) short ∙ left_is t st (λ r. r.grouped) st.rec.grouped refl ∙ same-both t st.rec.grouped;
    card = ap (λ (o : Outcome). card_in o.state) short;
    blocks = λ x u. ap (λ (o : Outcome). block_at o.state.settled x) short ∙ keep x u;
    powerless = λ z.
        ap (λ (o : Outcome). o.state) short
        ∙ ap (λ (c : Card). with_card c (with_record (with_mode down (left t st)) st)) (run_dead (orders_of geo q st) (card_in st) z)
        ∙ ap (λ (b : Bool). with_card (card_in st) (with_record (with_mode down (left b st)) st)) (first.not (λ e. inner_powerless st z));
  }

  -- the orders of a call that nothing refuses
  batched : (c : Save) (st : State) → cause geo (save c) st ≡ 0 → Batched (card_in st) (orders_of geo (save c) st)
  batched Save.sync st e = sync_batched geo st (cause_opened geo sync st refl refl e)
  batched Save.apply st e = apply_batched geo st (cause_opened geo apply st refl refl e)
  batched Save.recover st e =
      recover_batched geo st (recover_idle geo st e) (sizes_facts geo st (cause_passes geo recover st e).sizes).waiting st.rec.blocks (choose geo st.rec.blocks st.settled)

  keeps : (q : Request) (st : State) → cause geo q st ≡ 0 → Keeps (card_in st) (orders_of geo q st)
  unfolding direct_orders
  keeps format st e = batched_keep [] (card_in st) (no_batches (card_in st))
  keeps (local c) st e = batched_keep [] (card_in st) (no_batches (card_in st))
  keeps (direct a b) st e = direct_keep (record { address = a; block = b }) (card_in st) (eqb st.rec.waiting geo.direct)
  keeps (save c) st e = batched_keep (orders_of geo (save c) st) (card_in st) (batched c st e)
  keeps (cut ms) st e = batched_keep [] (card_in st) (no_batches (card_in st))

  answers : (q : Request) (st : State) → Form geo q st → Answers geo q st
  answers q st (quiet now call none sized) = record {
    refuses = called-refused geo q st;
    gone = λ e h. absurd (omega (arith, leb-false (length (orders_of geo q st)) st.rec.power h, ap length none));
    serves = λ e h.
        let p : called geo q st ≡ completed now = call ∙ sym (call_done (cause geo q st) _ st (completed now) refl e) in
        (ap (λ (o : Outcome). o.answer) p, ap (λ (o : Outcome). o.orders) p ∙ sym (ap length none));
    two_suffice = recover_two geo st;
  }
  answers q st (gives t done call first) = record {
    refuses = called-refused geo q st;
    gone = λ e h.
        cut_short_lem q st t first
        (call ∙ sym (call_done (cause geo q st) _ st (carried (orders_of geo q st) done (left t st) st) refl e) ∙ carried-short (orders_of geo q st) done (left t st) st (leb-false _ _ h))
        (leb-false _ _ h)
        (keeps q st e);
    serves = λ e h.
        let p : called geo q st ≡ record { answer = 0; orders = length (orders_of geo q st); state = with_card (run (orders_of geo q st) (card_in st)) (with_record done st) } =
        (call ∙ sym (call_done (cause geo q st) _ st (carried (orders_of geo q st) done (left t st) st) refl e) ∙ carried-done (orders_of geo q st) done (left t st) st (leb-true _ _ h)) in
        (ap (λ (o : Outcome). o.answer) p, ap (λ (o : Outcome). o.orders) p);
    two_suffice = recover_two geo st;
  }

  pub calls : (q : Request) (st : State) → Answers geo q st
  calls q st = answers q st (form geo q st)
