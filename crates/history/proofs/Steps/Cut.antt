-- The cut: from every mode to what the plain disk chooses.
use Prim.Native.Nat.{ℕ, ◌≤◌}
use mathlib.Core.Path.{◌≡◌, refl, ap, sym, ◌∙◌}
use mathlib.Core.Logic.{◌⊎◌}
use mathlib.Core.Bool.{Bool, true, false, cond, not, ◌&&◌}
use mathlib.Core.List.{List}
use native.Mathlib.Omega.{arith}
use native.Mathlib.Decide.{ℕ_discrete}
use borrow.Author.Tests.{eq-eqb}
use lib.Dec.{eqb}
use lib.ListN.{length, take, length-take}
use lib.Seq.{take_all}
use Rattle.cells.specs.Upto.Laws.{length-up_to}
use Rattle.cells.specs.Entry.{Entry, entry_at}
use Rattle.crash.specs.Laid.{Laid, lay_over}
use Rattle.card.specs.Card as Card
use Rattle.card.specs.Card.{queue, block_at}
use Rattle.card.proofs.Cuts.{cut-length}
use Rattle.card.specs.Marks.{marks_fit}
use Rattle.crash.proofs.Cards.{ClosedCard}
use Rattle.crash.proofs.Batches.{no_queue}
use Rattle.crash.proofs.Frames.{Besides}
use Rattle.crash.proofs.CallCuts.{still_cuts}
use Rattle.crash.proofs.Leads.{found_in, Behind, none_behind}
use Rattle.crash.proofs.Waiting.{leads_sub}
use Rattle.store.specs.Request as Request
use Rattle.store.specs.State.{State, Outcome, with_record, with_card, card_in}
use Rattle.store.specs.Causes.{cause}
use Rattle.store.specs.Outcomes.{completed}
use Rattle.store.specs.Cut.{shut}
use Rattle.store.proofs.Causes.{sizes_facts}
use Rattle.journal.specs.Geometry.{Geometry}
use Rattle.history.specs.Call.{get, cut}
use Rattle.history.specs.Plain.{Plain, Done, plain_step, none, addresses, still, closed_with, Verdict, log_at, plain_fit, refusal, plain_cut, header_kept}
use Rattle.history.specs.Dispatch.{called, dispatch}
use Rattle.history.specs.Ledger.{Ledger, nothing, settled_by, resolved, entered, log_found, same_log, collides}
use Rattle.history.specs.History.{World, store_next, ledger_next, found_written, fed, accepted_cut, exception}
use Rattle.history.proofs.Relation.CauseLaws.{facts_sizes, record_facts, facts_record, idle}
use Rattle.history.proofs.Relation.Sim.{Basics, Firm, OpenSim, ClosedSim, DownSim, Sim, cut_settled, cut_written, cut_loose, cut_verdict, CutLeads}
use Rattle.history.proofs.Relation.Lists.{firm_besides, addresses-take, length-addresses}
use Rattle.history.proofs.Relation.OpenFacts as Facts
use Rattle.history.proofs.Relation.PlainLaws.{choose_none}
use Rattle.history.proofs.Steps.Shown.{WorldSim, StepOK, sim_at, small_N, big-N, same_fit, same-cause, refused-step, plain_served}

-- ---- every cut leads to what the plain disk chooses

module _ (geo : Geometry) where
  -- no header waits, no call was cut short: the card stands as it is, wherever nothing waits
  still_leads : {X Y : ℕ → Type 0} {q : List Entry} (ms : List ℕ) (st : State) (l : Ledger) (d : Plain) → queue (card_in st) ≡ q → marks_fit ms (queue (card_in st)) ≡ true → d.short ≡ none → l.pending ≡ nothing
      → Behind geo X Y st.rec.blocks st.settled q l.written d.S d.n d.F → ((a : ℕ) → Firm geo (cut_loose d) a → Y a) → take d.n d.log ≡ addresses (take d.n l.written) → CutLeads geo ms st l d
  unfolding resolved queue
  still_leads {X} {Y} {q} ms st l d e h s p r sub log =
      rw (s, p, choose_none geo d.n (length d.G) d.F (header_kept ms d.waiting) (same_log (found_in geo (cut_settled ms st)) l.written)) (
        leads_sub geo Y (Firm geo (cut_loose d)) sub st.rec.blocks (cut_settled ms st) l.written d.S d.n d.F
            (still_cuts geo r (card_in st) (card_in st) st.rec.power ms
            (record { settled = refl; waits = e; count = sym (ap length (sym e) ∙ length-up_to (entry_at st.waiting) st.rec.waiting); power = refl; room = refl })
            (ap (marks_fit ms) (sym e) ∙ h)),
        log,
      )

  pub any_cut_leads : (ms : List ℕ) (st : State) (l : Ledger) (d : Plain) → Sim geo st l d → marks_fit ms (queue (card_in st)) ≡ true → CutLeads geo ms st l d
  any_cut_leads ms st l d m h = go m.phase
    where
      go : OpenSim geo st l d ⊎ (ClosedSim geo st l d ⊎ DownSim geo st l d) → CutLeads geo ms st l d
      go (◌⊎◌.inl o) =
          still_leads {X = Besides (queue (card_in st))} {Y = Besides (queue (card_in st))} ms st l d refl h o.short o.pending (rw (o.n, o.F) (Facts.behind geo st l d m.basics o))
          (λ a f. firm_besides a (queue (card_in st)) (rw (Facts.writes_are geo st l d m.basics o) at f))
          (rw (Facts.log_are geo st l d m.basics o, Facts.written_is geo st l d m.basics o) (sym (addresses-take d.n _)))
      go (◌⊎◌.inr (◌⊎◌.inl o)) =
          still_leads ms st l d (no_queue (card_in st) (idle geo st (record_facts geo st m.basics.counts) o.mode)) h o.short o.pending
          (none_behind geo (big-N geo st d m.basics) (small_N geo st d m.basics) (record_facts geo st m.basics.counts).blocks o.card)
          (λ a f. rw o.writes at f)
          (let short : length d.log ≤ d.n = rw (o.log, length-addresses, length-take) (omega arith) in take_all d.n d.log short ∙ o.log)
      go (◌⊎◌.inr (◌⊎◌.inr o)) = o.cuts ms h

-- ---- the state after an accepted cut

abbrev pub after_cut : List ℕ → State → State
after_cut ms st = with_card (Card.cut ms (card_in st)) (with_record (shut st.rec) st)

module _ (geo : Geometry) where
  pub cut-served : (ms : List ℕ) (st : State) → cause geo (Request.cut ms) st ≡ 0 → dispatch geo (cut ms) st ≡ completed (after_cut ms st)
  unfolding called
  cut-served ms st h = rw (eq-eqb _ 0 h)

abbrev pub written_at : List ℕ → Ledger → Ledger
written_at ms l = settled_by (cut_written ms l)

module _ (geo : Geometry) where
  pub cut-entered : (ms : List ℕ) (st : State) (l : Ledger) → cause geo (Request.cut ms) st ≡ 0 → entered geo (cut ms) st l ≡ written_at ms l
  unfolding entered
  cut-entered ms st l h = rw (cut-served geo ms st h)

-- the plain disk after it
abbrev pub plain_at : State → Plain → Laid → ℕ → Bool → List ℕ → Plain
plain_at st d S n F log = closed_with S n F log d

module _ (geo : Geometry) where
  pub cut_basics : (ms : List ℕ) (st : State) (d : Plain) (S : Laid) (n : ℕ) (F : Bool) (log : List ℕ) → Basics geo st d → Basics geo (after_cut ms st) (plain_at st d S n F log)
  unfolding Card.cut
  cut_basics ms st d S n F log b =
      let s = sizes_facts geo st b.sizes in
      let r = record_facts geo st b.counts in
      let e : length (Card.cut ms (card_in st)).settled ≡ length st.settled = cut-length ms (card_in st) in
      record {
        sizes = facts_sizes geo (after_cut ms st) (record { settled = rw e s.settled; least = rw e s.least; most = rw e s.most; waiting = s.waiting; work = s.work });
        counts = facts_record geo (after_cut ms st)
            (record {
              mode = omega arith;
              open_count = omega arith;
              group_count = omega arith;
              log_count = omega arith;
              waiting_count = omega arith;
              blocks = rw e r.blocks;
              waiting_below = λ i z. absurd (omega arith);
              lists = λ z. absurd (omega arith);
            });
        mirrors = record { mode = refl; N = b.mirrors.N; waiting = refl; T = λ z. absurd (omega arith); G = λ z. absurd (omega arith); save = λ z. absurd (omega arith); log = λ z. absurd (omega arith); writes = λ z. absurd (omega arith) };
        power = b.power;
      }

  pub cut_sim : (ms : List ℕ) (st : State) (d : Plain) (w : List Entry) (S : Laid) (n : ℕ) (F : Bool) (log : List ℕ) → Basics geo st d
      → ClosedCard geo (Firm geo (cut_loose d)) st.rec.blocks (block_at (cut_settled ms st)) w S n F → log ≡ addresses (take n w)
      → Sim geo (after_cut ms st) (settled_by w) (plain_at st d S n F log)
  cut_sim ms st d w S n F log b r e = record {
    basics = cut_basics ms st d S n F log b;
    phase = ◌⊎◌.inr (◌⊎◌.inl (record { mode = refl; T = refl; G = refl; short = refl; writes = refl; log = e; pending = refl; save = refl; card = r }));
  }

  -- ---- the step

  -- a cut that is not refused has marks that fit
  marks-fit : (ms : List ℕ) (d : Plain) → refusal geo (cut ms) d ≡ 0 → plain_fit geo ms d ≡ true
  unfolding refusal
  marks-fit ms d h = go (plain_fit geo ms d) h
    where
      go : (t : Bool) → ◌≡◌ {A = ℕ} (cond (not t) 10 0) 0 → t ≡ true
      go true q = refl
      go false q = absurd (omega arith)

cut_no_get : (ms : List ℕ) (a : ℕ) → cut ms ≡ get a → ⊥
cut_no_get ms a e = let z : ◌≡◌ {A = ℕ} 0 1 = cc in omega arith

module _ (geo : Geometry) where
  module _ (ms : List ℕ) (w : World) (m : WorldSim geo w) (h : refusal geo (cut ms) w.plain ≡ 0) where
    accepted : cause geo (Request.cut ms) w.store ≡ 0
    accepted = same-cause geo w.store w.ledger w.plain m (cut ms) ∙ h

    pub served-cut : dispatch geo (cut ms) w.store ≡ completed (after_cut ms w.store)
    served-cut = cut-served geo ms w.store accepted

    pub store_cut : store_next geo (cut ms) w ≡ after_cut ms w.store
    store_cut = ap (λ (o : Outcome). o.state) served-cut

    pub ledger_cut : ledger_next geo (cut ms) w ≡ written_at ms w.ledger
    ledger_cut = cut-entered geo ms w.store w.ledger accepted

    -- what is found is what the relation speaks of
    pub found-cut : found_written geo (cut ms) w ≡ same_log (found_in geo (cut_settled ms w.store)) (cut_written ms w.ledger)
    unfolding found_written log_found
    found-cut =
        ap (λ (s : State). same_log (log_found geo s) (ledger_next geo (cut ms) w).written) store_cut
        ∙ ap (λ (l : Ledger). same_log (found_in geo (cut_settled ms w.store)) l.written) ledger_cut

    pub exception-cut : exception geo (cut ms) w ≡ collides (found_in geo (cut_settled ms w.store)) (cut_written ms w.ledger)
    unfolding exception accepted_cut log_found
    exception-cut =
        ap (λ (o : Outcome). eqb o.answer 0 && collides (log_found geo (store_next geo (cut ms) w)) (ledger_next geo (cut ms) w).written) served-cut
        ∙ ap (λ (s : State). collides (log_found geo s) (ledger_next geo (cut ms) w).written) store_cut
        ∙ ap (λ (l : Ledger). collides (found_in geo (cut_settled ms w.store)) l.written) ledger_cut

    abbrev pub verdict-cut : Verdict
    verdict-cut = cut_verdict geo ms w.store w.ledger w.plain

    pub plain-cut : plain_step geo (cut ms) (fed geo (cut ms) w) w.plain
        ≡ still (plain_at w.store w.plain (cond verdict-cut.laid (lay_over w.plain.G w.plain.S) w.plain.S) verdict-cut.n verdict-cut.F (log_at verdict-cut w.plain.G w.plain.log))
    unfolding plain_cut
    plain-cut = plain_served geo (cut ms) (fed geo (cut ms) w) w.plain h ∙ ap (λ (t : Bool). plain_cut geo ms t w.plain) found-cut

    pub fits_cut : marks_fit ms (queue (card_in w.store)) ≡ true
    fits_cut = same_fit geo w.store w.ledger w.plain m ms ∙ marks-fit geo ms w.plain h

    leads_cut : CutLeads geo ms w.store w.ledger w.plain
    leads_cut = any_cut_leads geo ms w.store w.ledger w.plain m fits_cut

    pub accepted_step : StepOK geo (cut ms) w
    unfolding Card.cut
    accepted_step =
        let b = m.basics in
        record {
          agrees = record {
            answer = ap (λ (o : Outcome). o.answer) served-cut ∙ sym (ap (λ (o : Done). o.answer) plain-cut);
            orders = ap (λ (o : Outcome). o.orders) served-cut ∙ sym (ap (λ (o : Done). o.orders) plain-cut);
            block = λ a e z. absurd (cut_no_get ms a e);
            mode = ap (λ (s : State). s.rec.mode) store_cut ∙ sym (ap (λ (o : Done). o.plain.mode) plain-cut);
            power = ap (λ (s : State). s.rec.power) store_cut ∙ sym b.power ∙ sym (ap (λ (o : Done). o.plain.power) plain-cut);
            waiting = ap (λ (s : State). s.rec.waiting) store_cut ∙ sym (ap (λ (o : Done). o.plain.waiting) plain-cut);
            n = λ z. absurd (omega (arith, sym (ap (λ (s : State). s.rec.mode) store_cut) ∙ z));
            save = λ z. absurd (omega (arith, sym (ap (λ (s : State). s.rec.mode) store_cut) ∙ z));
            log = λ z. absurd (omega (arith, sym (ap (λ (s : State). s.rec.mode) store_cut) ∙ z));
            writes = λ z. absurd (omega (arith, sym (ap (λ (s : State). s.rec.mode) store_cut) ∙ z));
            no_save = λ z. ap (λ (s : State). s.rec.save) store_cut;
          };
          sim = λ e. sim_at geo store_cut ledger_cut (ap (λ (o : Done). o.plain) plain-cut) (cut_sim geo ms w.store w.plain _ _ _ _ _ b (leads_cut.0.clean (sym exception-cut ∙ e)) leads_cut.1);
          safe =
              let c = leads_cut.0.safe in
              rw (store_cut, ledger_cut)
              (record {
                ledger = settled_by c.w;
                plain = plain_at w.store w.plain c.S c.n c.F (addresses (take c.n c.w));
                sim = cut_sim geo ms w.store w.plain c.w c.S c.n c.F _ b c.card refl;
                even = record { written = (sym c.size, sym c.total); pending = tt };
              });
        }

  pub cut_step : (ms : List ℕ) (w : World) → WorldSim geo w → StepOK geo (cut ms) w
  cut_step ms w m = go (ℕ_discrete (refusal geo (cut ms) w.plain) 0)
    where
      go : Dec (refusal geo (cut ms) w.plain ≡ 0) → StepOK geo (cut ms) w
      go (no h) = refused-step geo (cut ms) w m h
      go (yes h) = accepted_step ms w m h
