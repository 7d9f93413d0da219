-- A call that gives the orders of a plan, for any power: done, it leaves an open record; cut short, one that is down.
use Prim.Native.Nat.{ℕ, ◌-◌, ◌/◌, ◌≤◌, ◌<◌}
use mathlib.Core.Path.{◌≡◌, refl, ap, sym, ◌∙◌}
use mathlib.Core.Logic.{◌⊎◌}
use mathlib.Core.Bool.{true}
use mathlib.Core.List.{List}
use native.Mathlib.Omega.{arith}
use native.Mathlib.Decide.{dec_le}
use lib.ListN.{length}
use Rattle.cells.specs.Entry.{block_bytes, Entry}
use Rattle.crash.specs.Laid.{Laid}
use Rattle.card.specs.Card.{Card, queue, run}
use Rattle.card.specs.CodeQueue.{Below}
use Rattle.card.proofs.Runs.{queue_below, below_queue}
use Rattle.card.specs.Marks.{marks_fit}
use Rattle.card.proofs.MarkLaws.{HeaderLast}
use Rattle.journal.specs.Geometry.{Geometry}
use Rattle.crash.proofs.Batches.{Left}
use Rattle.store.specs.declared.record.Record.{Record}
use Rattle.store.specs.State.{State, Outcome, down, with_mode, with_log, with_record, with_card, card_in}
use Rattle.store.specs.Saves.{carried}
use Rattle.store.proofs.Causes.{SizeFacts, sizes_facts}
use Rattle.history.specs.Call.{Call, get}
use Rattle.history.specs.Plain.{Plain, Short, addresses, header_waits, Done, plain_step, cut_short}
use Rattle.history.specs.Dispatch.{dispatch}
use Rattle.history.specs.Ledger.{PlannedHeader, noted, settled_by}
use Rattle.history.specs.History.{World, ledger_next, fed}
use Rattle.crash.proofs.Plans.{Plan, planned, takes, settles, FitsBehind, Asked, Throughout, length-planned, Stopped, plan-short}
use Rattle.history.proofs.Relation.CauseLaws.{RecordFacts, facts_sizes, record_facts, facts_record}
use Rattle.history.proofs.Relation.Sim.{Basics, Sim, CutLeads}
use Rattle.history.proofs.Steps.Shown.{StepOK, sim_step, sim_at, small_N}
use Rattle.history.proofs.Steps.CallEnds.{carried-done, carried-short}
use Rattle.history.proofs.Steps.Ends.{sizes_kept, open_plain, waiting-left, Ends, ends_left, ends_sim}

-- ---- what is asked of the record of a call cut short

module _ (geo : Geometry) where
  -- N and the counts of a record that may go down
  pub record Countable (N : ℕ) (r : Record) : Type 0 where
    pub blocks : r.blocks ≡ N
    pub open_count : r.opened ≤ geo.slots
    pub group_count : r.grouped ≤ geo.slots
    pub log_count : r.logged ≤ geo.slots

  module _ (st : State) (rc : RecordFacts geo st) where
    pub countable : (n h : ℕ) → n ≤ geo.slots → Countable st.rec.blocks (with_log n h st.rec)
    countable n h l = record { blocks = refl; open_count = rc.open_count; group_count = rc.group_count; log_count = l }

-- ---- what is asked wherever the call can be cut short: how many writes wait, whether a header does, and that every cut leads to what the
-- plain disk chooses

module _ (geo : Geometry) where
  abbrev pub cut_from : (ℕ → Short) → (ℕ → ℕ) → ℕ → Plain → Plain
  cut_from short waits k d = (cut_short geo (short k) (waits k) d).plain

  pub record CutsAt (w : World) (headers : List PlannedHeader) (short : ℕ → Short) (waits : ℕ → ℕ) (s : List ℕ) (q : List Entry) (k : ℕ) : Type 0 where
    pub waiting : waits k ≡ length q
    pub top : HeaderLast (header_waits geo (short k) w.plain.n (length w.plain.G)) q
    pub leads : (r : Card) → Left (card_in w.store) r s q 0 → (ms : List ℕ) → marks_fit ms q ≡ true
        → CutLeads geo ms (with_card r w.store) (noted headers k w.ledger) (cut_from short waits k w.plain)

  -- ---- the call

  pub record Gives (c : Call) (w : World) (plan : Plan) : Type 0 where
    -- the store: the record that it leaves, and the one it leaves cut short
    pub done : Record
    pub gone : Record
    pub call : dispatch geo c w.store ≡ carried (planned plan) done gone w.store
    pub counts : Countable geo w.store.rec.blocks gone
    -- the ledger
    pub headers : List PlannedHeader
    pub notes : ledger_next geo c w ≡ noted headers (dispatch geo c w.store).orders w.ledger
    -- the plain disk
    pub short : ℕ → Short
    pub waits : ℕ → ℕ
    pub S : Laid
    pub list : List Entry
    pub plain_done : takes plan ≤ w.plain.power
        → plain_step geo c (fed geo c w) w.plain ≡ record { answer = 0; orders = takes plan; plain = open_plain geo w.store done S (w.plain.power - takes plan) (addresses list) }
    pub plain_short : w.plain.power < takes plan → plain_step geo c (fed geo c w) w.plain ≡ cut_short geo (short w.plain.power) (waits w.plain.power) w.plain
    -- cut short
    pub cuts : Throughout (CutsAt w headers short waits) (queue (card_in w.store)) plan w.store.settled 0
    -- done
    pub noted-all : noted headers (takes plan) w.ledger ≡ settled_by list
    pub fits : FitsBehind geo w.store.rec.blocks (length (queue (card_in w.store))) plan
    pub ends : takes plan ≤ w.store.rec.power → Ends geo w.store plan done S list
    pub no_get : (a : ℕ) → c ≡ get a → ⊥

  module _ (c : Call) (w : World) (plan : Plan) (b : Basics geo w.store w.plain) (f : Gives c w plan) where
    abbrev st : State
    st = w.store

    abbrev r : Card
    r = run (planned plan) (card_in w.store)

    abbrev N : ℕ
    N = w.store.rec.blocks

    abbrev P : ℕ
    P = w.store.rec.power

    sz : SizeFacts geo st
    sz = sizes_facts geo st b.sizes

    rc : RecordFacts geo st
    rc = record_facts geo st b.counts

    -- its two ends on the store
    done_call : takes plan ≤ P → dispatch geo c st ≡ record { answer = 0; orders = takes plan; state = with_card r (with_record f.done st) }
    done_call p =
        let e : length (planned plan) ≡ takes plan = length-planned plan in
        f.call ∙ carried-done (planned plan) f.done f.gone st (omega arith) ∙ ap (λ (k : ℕ). record { answer = 0; orders = k; state = with_card r (with_record f.done st) }) e

    pub short_call : P < takes plan → dispatch geo c st ≡ record { answer = 4; orders = P; state = with_card r (with_record (with_mode down f.gone) st) }
    short_call p =
        let e : length (planned plan) ≡ takes plan = length-planned plan in
        f.call ∙ carried-short (planned plan) f.done f.gone st (omega arith)

    pub stopped : (X : Asked) (k : ℕ) → k ≡ P → P < takes plan → Throughout X (queue (card_in w.store)) plan st.settled 0 → Stopped geo N (card_in st) r X st.settled k
    stopped X k e p x = plan-short geo N (card_in st) (small_N geo st w.plain b) sz.waiting X plan (card_in st) st.settled (queue (card_in w.store)) P 0 k (omega arith) (waiting-left st) (below_queue N (card_in st) rc.waiting_below) f.fits p x

    shows : (k : ℕ) (o : Outcome) (d : Done) → dispatch geo c st ≡ o → plain_step geo c (fed geo c w) w.plain ≡ d → o.answer ≡ d.answer → o.orders ≡ k → d.orders ≡ k
        → Sim geo o.state (noted f.headers k w.ledger) d.plain → StepOK geo c w
    shows k o d D P same x y m =
        sim_step geo c w
        (record {
          answer = ap (λ (z : Outcome). z.answer) D ∙ same ∙ sym (ap (λ (z : Done). z.answer) P);
          orders = ap (λ (z : Outcome). z.orders) D ∙ x ∙ sym (ap (λ (z : Done). z.orders) P ∙ y);
          block = λ a e z. absurd (f.no_get a e);
          sim = sim_at geo (ap (λ (z : Outcome). z.state) D) (f.notes ∙ ap (λ (z : ℕ). noted f.headers z w.ledger) (ap (λ (z : Outcome). z.orders) D ∙ x)) (ap (λ (z : Done). z.plain) P) m;
        })

    -- with power for all of it
    done-step : takes plan ≤ P → StepOK geo c w
    done-step p =
        shows (takes plan) _ _ (done_call p) (f.plain_done (omega (arith, b.power))) refl refl refl
        (sim_at geo refl f.noted-all (ap (λ (k : ℕ). open_plain geo st f.done f.S (k - takes plan) (addresses f.list)) b.power) (ends_sim geo st plan f.done f.S f.list b.sizes b.counts (f.ends p) p))

    -- with less
    short-step : P < takes plan → StepOK geo c w
    short-step p = shows w.plain.power _ _ (short_call p) (f.plain_short (omega (arith, b.power))) refl (sym b.power) refl now
      where
        x : Stopped geo N (card_in st) r (CutsAt w f.headers f.short f.waits) st.settled w.plain.power
        x = stopped (CutsAt w f.headers f.short f.waits) w.plain.power b.power p f.cuts

        settled_size : length r.settled ≡ length st.settled
        settled_size = ap length x.left.settled ∙ x.long

        below : Below N r.waiting r.count
        below = queue_below N r (rw x.left.waits x.low)

        now : Sim geo (with_card r (with_record (with_mode down f.gone) st)) (noted f.headers w.plain.power w.ledger)
            (cut_from f.short f.waits w.plain.power w.plain)
        now = record {
          basics = record {
            sizes = facts_sizes geo _ (sizes_kept geo st _ settled_size x.left.room refl sz);
            counts = facts_record geo _
                (record {
                  mode = omega arith;
                  open_count = f.counts.open_count;
                  group_count = f.counts.group_count;
                  log_count = f.counts.log_count;
                  waiting_count = rw x.left.count x.few;
                  blocks = f.counts.blocks ∙ rc.blocks ∙ ap (λ (k : ℕ). k / block_bytes) (sym settled_size);
                  waiting_below = rw f.counts.blocks below;
                  lists = λ z. absurd (omega arith);
                });
            mirrors = record { mode = refl; N = b.mirrors.N ∙ sym f.counts.blocks; waiting = x.met.waiting ∙ sym x.left.count; T = λ z. absurd (omega arith); G = λ z. absurd (omega arith); save = λ z. absurd (omega arith); log = λ z. absurd (omega arith); writes = λ z. absurd (omega arith) };
            power = sym x.left.power;
          };
          phase = ◌⊎◌.inr (◌⊎◌.inr (record { mode = refl; top = rw x.left.waits x.met.top; cuts = λ ms h. rw f.counts.blocks (x.met.leads _ x.left ms (ap (marks_fit ms) (sym x.left.waits) ∙ h)) }));
        }

    pub gives_step : StepOK geo c w
    gives_step = go (dec_le (takes plan) (P))
      where
        go : Dec (takes plan ≤ P) → StepOK geo c w
        go (yes p) = done-step p
        go (no p) = short-step (omega arith)

    -- ---- what it leaves on the card, by its answer

    pub gives_enough : (dispatch geo c st).answer ≡ 0 → takes plan ≤ P
    gives_enough e = go (dec_le (takes plan) P)
      where
        go : Dec (takes plan ≤ P) → takes plan ≤ P
        go (yes p) = p
        go (no p) = absurd (let z : ◌≡◌ {A = ℕ} 4 0 = sym (ap (λ (o : Outcome). o.answer) (short_call (omega arith))) ∙ e in omega arith)

    pub gives_less : (dispatch geo c st).answer ≡ 4 → P < takes plan
    gives_less e = go (dec_le (takes plan) P)
      where
        go : Dec (takes plan ≤ P) → P < takes plan
        go (yes p) = absurd (let z : ◌≡◌ {A = ℕ} 0 4 = sym (ap (λ (o : Outcome). o.answer) (done_call p)) ∙ e in omega arith)
        go (no p) = omega arith

    pub gives_settled : takes plan ≤ P → (dispatch geo c st).state.settled ≡ settles (queue (card_in w.store)) plan st.settled
    gives_settled p = ap (λ (o : Outcome). o.state.settled) (done_call p) ∙ (ends_left geo st plan f.done f.S f.list b.sizes b.counts (f.ends p) p).settled
