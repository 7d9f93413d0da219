-- The step of an apply.
use Prim.Native.Nat.{ℕ, ◌+◌, ◌-◌}
use mathlib.Core.Path.{◌≡◌, refl, ap, sym, ◌∙◌}
use mathlib.Core.Logic.{◌≢◌}
use mathlib.Core.Bool.{Bool, false}
use mathlib.Core.List.{List, [], ◌∷◌}
use native.Mathlib.Omega.{arith}
use native.Mathlib.Decide.{ℕ_discrete}
use borrow.Author.Tests.{eq-eqb, ne_eqb}
use lib.ListN.{length}
use Rattle.cells.specs.Entry.{Entry}
use Rattle.fnv.specs.Fnv.{start}
use Rattle.crash.specs.Laid.{Laid}
use Rattle.card.specs.Card.{Order, queue}
use Rattle.journal.specs.Geometry.{Geometry}
use Rattle.journal.proofs.Logs.{sum_of_nil}
use Rattle.store.specs.Request as Request
use Rattle.store.specs.State.{State, Outcome, with_log, card_in}
use Rattle.store.specs.Causes.{cause}
use Rattle.store.specs.Saves.{carried, group_of}
use Rattle.history.specs.Call.{Call, get, apply}
use Rattle.history.specs.Plain.{Plain, of_apply, addresses, flushes, Done, refusal, plain_step, plain_apply, apply_waits, header_kept}
use Rattle.history.specs.Dispatch.{called, dispatch}
use Rattle.history.specs.Ledger.{apply_headers, noted, entered, apply_header}
use Rattle.history.specs.History.{World, ledger_next, fed}
use Rattle.crash.proofs.Plans.{Plan, planned, takes, Throughout, throughout_map}
use Rattle.history.proofs.Relation.CauseLaws.{RecordFacts, record_facts}
use Rattle.history.proofs.Relation.Sim.{Basics, OpenSim, chosen_by, chosen-still}
use Rattle.history.proofs.Relation.PlainLaws.{apply-laid, apply_nothing, apply-finished, apply-short, choose_apply, header-apply}
use Rattle.history.proofs.Steps.Shown.{WorldSim, StepOK, sim_step, sim_at, same-cause, plain_served, noted_none}
use Rattle.history.proofs.Steps.Notes.{note_past, noted_end}
use Rattle.history.proofs.Steps.Ends.{open_plain, open_listed, group-listed}
use Rattle.history.proofs.Steps.Gives.{countable, cut_from, CutsAt, Gives, gives_step}
use Rattle.history.proofs.Steps.Worlds.{settled_ledger, plain_now, open_world, Opened, opened_sim, open_step}
use Rattle.history.proofs.Steps.Checkpoints.{checkpoint, checkpoint-orders, checkpoint-takes, checkpoint_fits, CheckpointCuts, checkpoint_cuts, emptied_card}

module _ (geo : Geometry) where
  -- a call that changes nothing
  pub nothing_step : (c : Call) (w : World) → WorldSim geo w → dispatch geo c w.store ≡ record { answer = 0; orders = 0; state = w.store }
      → plain_step geo c (fed geo c w) w.plain ≡ record { answer = 0; orders = 0; plain = w.plain } → ledger_next geo c w ≡ w.ledger → ((a : ℕ) → c ≡ get a → ⊥) → StepOK geo c w
  nothing_step c w m D P E g =
      sim_step geo c w
      (record {
        answer = ap (λ (o : Outcome). o.answer) D ∙ sym (ap (λ (o : Done). o.answer) P);
        orders = ap (λ (o : Outcome). o.orders) D ∙ sym (ap (λ (o : Done). o.orders) P);
        block = λ a e z. absurd (g a e);
        sim = sim_at geo (ap (λ (o : Outcome). o.state) D) E (ap (λ (o : Done). o.plain) P) m;
      })

apply_no_get : (a : ℕ) → apply ≡ get a → ⊥
apply_no_get a e = let z : ◌≡◌ {A = ℕ} 0 1 = cc in omega arith

module _ (geo : Geometry) where
  module _ (st : State) (v : List Entry) (S : Laid) (x : Bool) (f : Opened geo st v S) where
    abbrev w : World
    w = open_world geo st v S x

    abbrev b : Basics geo st (plain_now geo st S)
    b = f.basics

    abbrev o : OpenSim geo st (settled_ledger v) (plain_now geo st S)
    o = f.sim

    rc : RecordFacts geo st
    rc = record_facts geo st b.counts

    served : refusal geo apply (plain_now geo st S) ≡ 0
    unfolding refusal
    served = refl

    accepted : cause geo Request.apply st ≡ 0
    accepted = same-cause geo st (settled_ledger v) (plain_now geo st S) (opened_sim geo f) apply ∙ served

    plain : plain_step geo apply (fed geo apply w) (plain_now geo st S) ≡ plain_apply geo (plain_now geo st S)
    plain = plain_served geo apply (fed geo apply w) (plain_now geo st S) served

    -- n = 0
    none_logged : st.rec.logged ≡ 0 → StepOK geo apply w
    unfolding called entered
    none_logged z =
        let D : dispatch geo apply st ≡ record { answer = 0; orders = 0; state = st } = rw (eq-eqb _ 0 accepted, eq-eqb _ 0 z) in
        nothing_step geo apply w (opened_sim geo f) D (plain ∙ apply_nothing geo (plain_now geo st S) z)
        (ap (λ (y : Outcome). noted (apply_headers st) y.orders (settled_ledger v)) D ∙ noted_none (apply_headers st) (settled_ledger v)) apply_no_get

    -- its checkpoint
    module _ (z : st.rec.logged ≢ 0) where
      abbrev plan : Plan
      plan = checkpoint geo st (settled_ledger v) (plain_now geo st S) b o

      count : takes plan ≡ st.rec.logged + 3
      count = checkpoint-takes geo st (settled_ledger v) (plain_now geo st S) b o

      call : dispatch geo apply st ≡ carried (planned plan) (with_log 0 start st.rec) st.rec st
      unfolding called
      call = rw (eq-eqb _ 0 accepted, ne_eqb _ 0 z) (ap (λ (os : List Order). carried os (with_log 0 start st.rec) st.rec st) (checkpoint-orders geo st (settled_ledger v) (plain_now geo st S) b o))

      -- the plain disk cut short after k orders
      abbrev short : ℕ → Plain
      short k = cut_from geo of_apply (apply_waits st.rec.waiting st.rec.logged) k (plain_now geo st S)

      cuts : Throughout (CutsAt geo w (apply_header st ∷ []) of_apply (apply_waits st.rec.waiting st.rec.logged)) (queue (card_in st)) plan st.settled 0
      unfolding flushes
      cuts =
          throughout_map (CheckpointCuts geo st (settled_ledger v) (plain_now geo st S) b o []) (CutsAt geo w (apply_header st ∷ []) of_apply (apply_waits st.rec.waiting st.rec.logged)) (queue (card_in st)) plan st.settled 0
          (λ s q k h y. record {
            waiting = y.waiting;
            top = rw (header-apply geo k st.rec.logged (length (group_of geo st))) y.top;
            leads = λ r l ms e.
                chosen_by geo _ _ _ (short k) _ _ (choose_apply geo k st.rec.logged (length (group_of geo st)) false (header_kept ms (apply_waits st.rec.waiting st.rec.logged k)) _)
                (chosen-still geo _ _ _ (short k) _ (apply-laid k _ _ _) (y.leads r l ms e) (y.lists ms));
          })
          (checkpoint_cuts geo st (settled_ledger v) (plain_now geo st S) b o [])

      gives : Gives geo apply w plan
      unfolding entered apply_headers addresses
      gives = record {
        done = with_log 0 start st.rec;
        gone = st.rec;
        call = call;
        counts = countable geo st rc st.rec.logged st.rec.sum rc.log_count;
        headers = apply_header st ∷ [];
        notes = refl;
        short = of_apply;
        waits = apply_waits st.rec.waiting st.rec.logged;
        S = S;
        plain_done = λ p.
            plain ∙ apply-finished geo (plain_now geo st S) z (omega (arith, count))
            ∙ ap (λ (k : ℕ). record { answer = 0; orders = k; plain = open_plain geo st (with_log 0 start st.rec) S (st.rec.power - k) [] }) (sym count);
        plain_short = λ p. plain ∙ apply-short geo (plain_now geo st S) z (omega (arith, count));
        cuts = cuts;
        list = [];
        noted-all = note_past (apply_header st) [] (takes plan) (settled_ledger v) (omega (arith, count)) ∙ noted_end (takes plan) _;
        fits = checkpoint_fits geo st (settled_ledger v) (plain_now geo st S) b o;
        ends = λ p. record {
          none_waits = refl;
          fits = checkpoint_fits geo st (settled_ledger v) (plain_now geo st S) b o;
          mode = o.mode;
          blocks = refl;
          opened = open_listed geo st rc o.mode;
          grouped = group-listed geo st rc o.mode;
          save = b.mirrors.save o.mode;
          sum = sym (sum_of_nil start);
          card = emptied_card geo st (settled_ledger v) (plain_now geo st S) b o;
        };
        no_get = apply_no_get;
      }

    apply_open : StepOK geo apply w
    apply_open = go (ℕ_discrete st.rec.logged 0)
      where
        go : Dec (st.rec.logged ≡ 0) → StepOK geo apply w
        go (yes z) = none_logged z
        go (no z) = gives_step geo apply w (plan z) b (gives z)

  pub apply-step : (w : World) → WorldSim geo w → StepOK geo apply w
  apply-step = open_step geo apply refl (λ st v S x f h. apply_open st v S x f)
