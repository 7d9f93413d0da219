-- The step of a recover.
use Prim.Native.Nat.{ℕ, ◌-◌, ◌^◌, ◌≤◌, ◌<◌}
use mathlib.Core.Path.{◌≡◌, refl, ap, sym, subst, ◌∙◌}
use mathlib.Core.Logic.{◌⊎◌}
use mathlib.Core.Bool.{Bool, true, false, cond, not, true≢false}
use mathlib.Core.List.{List, [], ◌∷◌, ◌++◌}
use native.Mathlib.Omega.{arith}
use native.Mathlib.Decide.{ℕ_discrete}
use borrow.Author.Tests.{eq-eqb}
use lib.ListN.{length, take, length-take}
use lib.Seq.{take_all}
use Rattle.cells.specs.Upto.Laws.{length-up_to}
use Rattle.cells.specs.Entry.{Entry}
use Rattle.fnv.specs.Fnv.{start}
use Rattle.crash.specs.Laid.{Laid}
use Rattle.card.specs.Disk.{Disk, overlay}
use Rattle.card.specs.Card.{queue, settle, run, block_at}
use Rattle.card.proofs.Runs.{Whole}
use Rattle.card.specs.Marks.{kept_at}
use Rattle.journal.specs.Geometry.{Geometry}
use Rattle.journal.specs.declared.choice.Choice.{Choice}
use Rattle.journal.specs.declared.choice.Choice.TheVariants.{Fallback}
use Rattle.journal.specs.Layout.{first_data, is_data}
use Rattle.journal.specs.Log.{entries, sum_of}
use Rattle.journal.specs.Choice.{choose, taken_count}
use Rattle.journal.proofs.Headers.{length-encode}
use Rattle.journal.proofs.OrderLists.{header_entry, fallback_writes}
use Rattle.crash.proofs.CallCuts.{still_cuts, fall_cuts, fall_settled}
use Rattle.crash.proofs.Leads.{Behind, none_behind, fall_header}
use Rattle.crash.proofs.Batches.{no_queue}
use Rattle.crash.proofs.Cards.{WholeCard, FallCard, recard}
use Rattle.crash.proofs.Logs.{slot_e, log_d, entries_disk}
use Rattle.store.specs.Request as Request
use Rattle.store.specs.State.{State, Outcome, with_record, with_card, card_in}
use Rattle.store.specs.Get.{block_of}
use Rattle.store.specs.Causes.{cause}
use Rattle.store.specs.Saves.{carried, reopened, recovering}
use Rattle.store.proofs.Causes.{Passes}
use Rattle.history.specs.Call.{get, recover}
use Rattle.history.specs.Plain.{Plain, of_recover, among, addresses, flushes, refusal, plain_step, taking, plain_recover, plain_get, header_kept, unchanged}
use Rattle.history.specs.Dispatch.{called, dispatch}
use Rattle.history.specs.Ledger.{Ledger, recover_headers, noted, entered, taken, resolved, waits_behind}
use Rattle.history.specs.History.{World, fed}
use Rattle.history.proofs.Relation.CauseLaws.{RecordFacts, record_facts, cause_passes}
use Rattle.crash.proofs.Plans.{Plan, planned, takes, settles, rest, FitsBehind, length-planned, Asked, Throughout, for_one}
use Rattle.history.proofs.Relation.Sim.{Firm, OpenSim, ClosedSim, DownSim, Sim, chosen_by, chosen-still}
use Rattle.history.proofs.Relation.Lists.{length-addresses}
use Rattle.history.proofs.Relation.PlainLaws.{recover_whole, recover_fallback, recover-short, choose-recover_none, choose-recover, header-recover, kept-mark}
use Rattle.history.proofs.Steps.Shown.{WorldSim, StepOK, same-cause, refused-step, plain_served, noted_none, small_N, big-N, choose_whole, choose_fallback}
use Rattle.history.proofs.Steps.Ends.{none_listed, open_plain, Ends, ends_sim}
use Rattle.history.proofs.Steps.CallEnds.{carried-done}
use Rattle.history.proofs.Steps.Local.{get_plain}
use Rattle.history.proofs.Steps.Gives.{countable, cut_from, CutsAt, Gives, gives_step}
use Rattle.history.proofs.Steps.Worlds.{settled_ledger, plain_shut, closed_world, Closed, closed_sim, idle_closed, closed-world, shut}

recover_no_get : (a : ℕ) → recover ≡ get a → ⊥
recover_no_get a e = let z : ◌≡◌ {A = ℕ} 0 1 = cc in omega arith

module _ (geo : Geometry) where
  -- not refused, so closed
  pub is_closed : (st : State) (l : Ledger) (d : Plain) → Sim geo st l d → Passes geo Request.recover st → ClosedSim geo st l d
  is_closed st l d m p = go m.phase
    where
      go : OpenSim geo st l d ⊎ (ClosedSim geo st l d ⊎ DownSim geo st l d) → ClosedSim geo st l d
      go (◌⊎◌.inl o) = absurd (true≢false (rw (eq-eqb _ _ o.mode) at p.own.1.0))
      go (◌⊎◌.inr (◌⊎◌.inl o)) = o
      go (◌⊎◌.inr (◌⊎◌.inr o)) = absurd (true≢false (rw (eq-eqb _ _ o.mode) at p.own.0))

  module _ (st : State) (v : List Entry) (S : Laid) (n : ℕ) (F : Bool) (loose : List ℕ) (x : Bool) (f : Closed geo st v S n F loose) where
    abbrev w : World
    w = closed_world st v S n F loose x

    abbrev d : Plain
    d = plain_shut st v S n F loose

    abbrev N : ℕ
    N = st.rec.blocks

    abbrev s : List ℕ
    s = st.settled

    abbrev sum : ℕ
    sum = sum_of start (entries geo st.settled n)

    rc : RecordFacts geo st
    rc = record_facts geo st f.basics.counts

    small : N < 2 ^ 32
    small = small_N geo st d f.basics

    big : first_data geo < N
    big = big-N geo st d f.basics

    idle : st.rec.waiting ≡ 0
    idle = idle_closed geo w f.basics f.sim

    empty : queue (card_in st) ≡ []
    empty = no_queue (card_in st) idle

    served : refusal geo recover d ≡ 0
    unfolding refusal
    served = refl

    accepted : cause geo Request.recover st ≡ 0
    accepted = same-cause geo st (settled_ledger v) d (closed_sim geo f) recover ∙ served

    call : (c : Choice) → choose geo N s ≡ c → dispatch geo recover st ≡ recovering c st
    unfolding called
    call c e = rw (eq-eqb _ 0 accepted) (ap (λ (y : Choice). recovering y st) e)

    -- what the plain disk is fed, and S then
    abbrev found : Disk
    found = (fed geo recover w).found

    abbrev S' : Laid
    S' = taking loose found S

    plain : plain_step geo recover (fed geo recover w) d ≡ plain_recover geo found d
    plain = plain_served geo recover (fed geo recover w) d served

    -- ---- what is found: the orders of a plan were carried out, and on the card of them the first n entries are the log

    module _ (plan : Plan) (h : ℕ) (list : List Entry) (p : takes plan ≤ st.rec.power)
        (asks : dispatch geo recover st ≡ carried (planned plan) (reopened n h S.groups st.rec) st.rec st)
        (fits : FitsBehind geo N (length (queue (card_in st))) plan) (none : rest (queue (card_in st)) plan ≡ [])
        (total : h ≡ sum_of start (log_d geo (block_at (settles (queue (card_in st)) plan st.settled)) n))
        (card : WholeCard geo (Firm geo loose) N (block_at (settles (queue (card_in st)) plan st.settled)) list S n) where
      abbrev left : Disk
      left = block_at (settles (queue (card_in st)) plan st.settled)

      abbrev under : Disk
      under = overlay (log_d geo left n) left

      -- with any disk under the log that is what stands there
      ends_by : (D : Disk) → ((a : ℕ) → is_data geo N a ≡ true → D a ≡ under a) → Ends geo st plan (reopened n h S.groups st.rec) (record { disk = D; groups = S.groups }) list
      ends_by D z = record {
        none_waits = none;
        fits = fits;
        mode = refl;
        blocks = refl;
        opened = none_listed geo _ _ _;
        grouped = none_listed geo _ _ _;
        save = refl;
        sum = total;
        card = recard geo D card z;
      }

      -- so a get shows it
      shows : (a : ℕ) → is_data geo N a ≡ true → found a ≡ under a
      unfolding refusal plain_get overlay
      shows a z =
          let done : length (planned plan) ≡ takes plan = length-planned plan in
          let now : (dispatch geo recover st).state ≡ with_card (run (planned plan) (card_in st)) (with_record (reopened n h S.groups st.rec) st) =
          ap (λ (o : Outcome). o.state) (asks ∙ carried-done (planned plan) (reopened n h S.groups st.rec) st.rec st (omega arith)) in
          let sim = ends_sim geo st plan (reopened n h S.groups st.rec) (record { disk = under; groups = S.groups }) list f.basics.sizes f.basics.counts (ends_by under (λ i q. refl)) p in
          ap (block_of geo a) now
          ∙ get_plain geo a _ _ _ sim (same-cause geo _ _ _ sim (get a) ∙ rw z)

      pub ends : Ends geo st plan (reopened n h S.groups st.rec) S' list
      ends = ends_by (λ a. cond (among a loose) (found a) (S.disk a)) (λ a z. go a z (among a loose) refl)
        where
          go : (a : ℕ) → is_data geo N a ≡ true → (t : Bool) → among a loose ≡ t → cond t (found a) (S.disk a) ≡ under a
          go a z true e = shows a z
          go a z false e = card.disk a z e

    -- the log's addresses
    log_whole : (l : List Entry) → take n v ≡ l → d.log ≡ addresses l
    log_whole l e = ap addresses e

    -- no header is to be written
    whole : F ≡ false → WholeCard geo (Firm geo loose) N (block_at s) v S n → Gives geo recover w []
    unfolding entered
    whole e r =
        let size : length v ≡ n = ap length r.same ∙ length-up_to (slot_e geo (block_at s)) n in
        record {
          done = reopened n sum S.groups st.rec;
          gone = st.rec;
          call = call _ (choose_whole geo N s small v S n r);
          counts = countable geo st rc st.rec.logged st.rec.sum rc.log_count;
          headers = recover_headers geo st;
          notes = refl;
          short = of_recover;
          waits = λ k. k;
          S = S';
          list = v;
          plain_done = λ p. plain ∙ recover_whole geo found d e ∙ ap (λ (l : List ℕ). record { answer = 0; orders = 0; plain = open_plain geo st (reopened n sum S.groups st.rec) S' (st.rec.power - 0) l }) (log_whole v (take_all n v (omega arith)));
          plain_short = λ p. absurd (omega arith);
          cuts = tt;
          noted-all = noted_none (recover_headers geo st) (settled_ledger v);
          fits = tt;
          ends = λ p. ends [] sum v p (call _ (choose_whole geo N s small v S n r)) tt empty (ap (sum_of start) (entries_disk geo s n)) r;
          no_get = recover_no_get;
        }

    -- one is: the fallback's
    module _ (e : F ≡ true) (r : FallCard geo (Firm geo loose) N (block_at s) v S n) where
      abbrev top : Entry
      top = header_entry (fall_header geo N s n S.groups)

      abbrev plan : Plan
      plan = (top ∷ []) ∷ []

      log_is : entries geo s n ≡ log_d geo (block_at s) n
      log_is = entries_disk geo s n

      chosen : choose geo N s ≡ Fallback n (sum_of start (log_d geo (block_at s) n)) S.groups
      chosen = choose_fallback geo N s small v S n r ∙ ap (λ (y : List Entry). Fallback n (sum_of start y) S.groups) log_is

      list : taken geo st ≡ log_d geo (block_at s) n
      list = ap (λ (c : Choice). entries geo s (taken_count c)) chosen ∙ log_is

      top_whole : Whole top
      top_whole = length-encode (fall_header geo N s n S.groups)

      begins : Behind geo (Firm geo loose) (Firm geo loose) N s [] v S n true
      begins = none_behind geo big small rc.blocks r

      abbrev At : Asked
      At = CutsAt geo w (recover_headers geo st) of_recover (λ k. k)

      abbrev short : ℕ → Plain
      short k = cut_from geo of_recover (λ i. i) k d

      log-taken : take n d.log ≡ d.log
      log-taken = take_all n d.log (rw (length-addresses, length-take) (omega arith))

      -- before the header
      still : At s [] 0
      unfolding resolved flushes
      still = record {
        waiting = refl;
        top = rw (header-recover geo 0 n 0) tt;
        leads = λ c l ms y.
            rw (noted_none (recover_headers geo st) (settled_ledger v))
            (chosen_by geo _ _ _ (short 0) _ (unchanged n F) (choose-recover_none geo n 0 F (header_kept ms 0) _)
            (chosen-still geo _ _ _ (short 0) _ refl (rw e (still_cuts geo begins _ c 0 ms l y)) log-taken));
      }

      -- behind it
      note_top : noted (recover_headers geo st) 1 (settled_ledger v) ≡ waits_behind 0 (log_d geo (block_at s) n) (settled_ledger v)
      unfolding recover_headers noted
      note_top = ap (λ (y : List Entry). waits_behind 0 y (settled_ledger v)) list

      headed : At s (top ∷ []) 1
      unfolding resolved flushes
      headed = record {
        waiting = refl;
        top = rw (header-recover geo 1 n 0) ([], top, refl, tt, refl);
        leads = λ c l ms y.
            rw note_top
            (chosen_by geo _ _ _ (short 1) _ (unchanged n (not (kept_at ms 0)))
            (choose-recover geo n 0 F (header_kept ms 1) _ ∙ ap (λ (t : Bool). unchanged n (not t)) (kept-mark ms 1 0 refl))
            (chosen-still geo _ _ _ (short 1) _ refl (fall_cuts geo begins _ c ms l y (kept_at ms 0) refl) (log-taken ∙ either (kept_at ms 0))));
      }
        where
          either : (t : Bool) → d.log ≡ addresses (take n (cond t (log_d geo (block_at s) n) v))
          either true = ap addresses (r.front ∙ sym (take_all n (log_d geo (block_at s) n) (rw (length-up_to) (omega arith))))
          either false = refl

      fallen : WholeCard geo (Firm geo loose) N (block_at (settle (top ∷ []) s)) (log_d geo (block_at s) n) S n
      fallen = fall_settled geo begins

      -- nothing waits before it
      settled_is : settles (queue (card_in st)) plan s ≡ settle (top ∷ []) s
      settled_is = ap (λ (q : List Entry). settle (q ++ (top ∷ [])) s) empty

      fallback_fits : FitsBehind geo N (length (queue (card_in st))) plan
      fallback_fits = (record { few = rw empty (omega (arith, geo.queued)); whole = (top_whole, tt); low = (omega (arith, big), tt) }, tt)

      fallback_call : dispatch geo recover st ≡ carried (planned plan) (reopened n (sum_of start (log_d geo (block_at s) n)) S.groups st.rec) st.rec st
      fallback_call = call _ chosen ∙ rw (fallback_writes N n (sum_of start (log_d geo (block_at s) n)) S.groups)

      fallback : Gives geo recover w plan
      unfolding entered recover_headers noted
      fallback = record {
        done = reopened n (sum_of start (log_d geo (block_at s) n)) S.groups st.rec;
        gone = st.rec;
        call = fallback_call;
        counts = countable geo st rc st.rec.logged st.rec.sum rc.log_count;
        headers = recover_headers geo st;
        notes = refl;
        short = of_recover;
        waits = λ k. k;
        S = S';
        list = log_d geo (block_at s) n;
        plain_done = λ p. plain ∙ recover_fallback geo found d e p
            ∙ ap (λ (l : List ℕ). record { answer = 0; orders = 2; plain = open_plain geo st (reopened n (sum_of start (log_d geo (block_at s) n)) S.groups st.rec) S' (st.rec.power - 2) l }) (log_whole (log_d geo (block_at s) n) r.front);
        plain_short = λ p. plain ∙ recover-short geo found d e p;
        cuts = subst (λ (q : List Entry). Throughout At q plan s 0) (sym empty) (for_one At [] top s 0 (λ i z. subst (At s []) (sym z) still) (λ i z. subst (At s (top ∷ [])) (let q : 1 ≡ i = omega arith in q) headed));
        noted-all = ap settled_ledger list;
        fits = fallback_fits;
        ends = λ p. ends plan (sum_of start (log_d geo (block_at s) n)) (log_d geo (block_at s) n) p fallback_call fallback_fits refl
            (ap (sum_of start) fallen.same ∙ ap (λ (t : List ℕ). sum_of start (log_d geo (block_at t) n)) (sym settled_is)) (rw settled_is fallen);
        no_get = recover_no_get;
      }

  recover-closed : (st : State) (v : List Entry) (S : Laid) (n : ℕ) (F : Bool) (loose : List ℕ) (x : Bool) → Closed geo st v S n F loose → StepOK geo recover (closed_world st v S n F loose x)
  recover-closed st v S n false loose x f = gives_step geo recover _ _ f.basics (whole st v S n false loose x f refl f.sim.card)
  recover-closed st v S n true loose x f = gives_step geo recover _ _ f.basics (fallback st v S n true loose x f refl f.sim.card)

  pub recover-step : (w : World) → WorldSim geo w → StepOK geo recover w
  recover-step w m = go (ℕ_discrete (refusal geo recover w.plain) 0)
    where
      go : Dec (refusal geo recover w.plain ≡ 0) → StepOK geo recover w
      go (no h) = refused-step geo recover w m h
      go (yes h) =
          let o : ClosedSim geo w.store w.ledger w.plain = is_closed w.store w.ledger w.plain m (cause_passes geo Request.recover w.store (same-cause geo w.store w.ledger w.plain m recover ∙ h)) in
          subst (StepOK geo recover) (sym (closed-world geo w m.basics o)) (recover-closed w.store w.ledger.written w.plain.S w.plain.n w.plain.F w.plain.loose w.excepted (shut geo w m.basics o))
