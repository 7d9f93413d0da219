-- The step of a sync: an append behind the batches of the apply inside, if there is one.
use Prim.Native.Nat.{ℕ, zero, suc, ◌+◌, ◌*◌, ◌-◌, ◌^◌, ◌≤◌, ◌<◌}
use mathlib.Core.Path.{◌≡◌, refl, ap, ap₂, sym, subst, ◌∙◌}
use mathlib.Core.Logic.{◌≢◌}
use mathlib.Core.Bool.{Bool, true, false, cond}
use mathlib.Core.List.{List, [], ◌∷◌, ◌++◌, append-nil}
use native.Mathlib.Omega.{arith}
use native.Mathlib.Decide.{ℕ_discrete, dec_le}
use native.Mathlib.Nat.{add-zero}
use borrow.Author.Tests.{eq-eqb, ne_eqb}
use lib.Dec.{eqb, leb}
use lib.ListN.{length, take, drop, length-take, length-append}
use lib.Seq.{take_all}
use Rattle.cells.specs.Upto.Laws.{length-up_to}
use Rattle.cells.specs.Entry.{block_bytes, Entry}
use Rattle.fnv.specs.Fnv.{start}
use Rattle.crash.specs.Laid.{Laid, lay_over}
use Rattle.card.specs.Card.{Card, Order, flush, queue, run, cut, settle, block_at}
use Rattle.card.proofs.Runs.{run_nil}
use Rattle.card.specs.Marks.{marks_fit, kept_at, all_kept}
use Rattle.journal.specs.Geometry.{Geometry}
use Rattle.journal.specs.Layout.{header_at}
use Rattle.journal.specs.Header.{most_save, encode, header}
use Rattle.journal.specs.Log.{entries, sum_of}
use Rattle.journal.specs.Orders.{barrier, sync_orders}
use Rattle.journal.proofs.Logs.{sum_of_nil}
use Rattle.journal.proofs.OrderLists.{append_writes, length-append_writes}
use Rattle.crash.proofs.Batches.{Left}
use Rattle.crash.proofs.Cards.{Every, WholeCard}
use Rattle.crash.proofs.CallCuts.{still_cuts}
use Rattle.crash.proofs.Frames.{Besides}
use Rattle.crash.proofs.Leads.{found_in, Behind}
use Rattle.crash.proofs.Waiting.{leads_sub}
use Rattle.crash.proofs.Logs.{log_d}
use Rattle.store.specs.Request as Request
use Rattle.store.specs.declared.record.Record.{Record}
use Rattle.store.specs.State.{State, Outcome, with_grouped, with_log, with_save, card_in}
use Rattle.store.specs.Lists.{group_from, list_of}
use Rattle.store.specs.Causes.{cause}
use Rattle.store.specs.Saves.{carried, group_of, applies, met_by_append, saved_as, inner_orders}
use Rattle.history.specs.Call.{get, sync}
use Rattle.history.specs.Plain as Plain
use Rattle.history.specs.Plain.{Plain, of_sync, addresses, flushes, header_waits, refusal, plain_step, plain_sync, sync_takes, sync_waits, own_verdict, unchanged}
use Rattle.history.specs.Dispatch.{called, dispatch}
use Rattle.history.specs.Ledger.{Ledger, PlannedHeader, sync_headers, noted, entered, own_header, standing, inner, waiting_met, resolved, same_log, waits_behind}
use Rattle.history.specs.History.{World, ledger_next, fed}
use Rattle.history.specs.Statements.{Logged}
use Rattle.crash.proofs.Plans.{Plan, planned, takes, settles, FitsBehind, Asked, Throughout, takes-append, settles-append, throughout_append, throughout_all}
use Rattle.history.proofs.Steps.AppendEnds.{writes_fit, top_none, top-last, top_lists, short_before, short-top, whole_found, done_card, done-sum, done_logged}
use Rattle.history.proofs.Relation.CauseLaws.{RecordFacts, record_facts}
use Rattle.history.proofs.Relation.Sim.{Firm, OpenSim, cut_written, cut_settled, cut_loose, chosen_by, chosen-still}
use Rattle.history.proofs.Relation.Lists.{addresses-append, addresses-take, length-addresses, waits_besides}
use Rattle.history.proofs.Relation.PlainLaws.{inner_takes, no_apply, barrier_none, barrier-done, barrier-short, sync-takes, sync_waits_own, choose-sync-own, choose-sync_before, header-sync-own, not_last, sync_nothing, sync-finished, sync-short, kept-mark}
use Rattle.history.proofs.Steps.Shown.{WorldSim, StepOK, same-cause, plain_served, noted_none}
use Rattle.history.proofs.Steps.Notes.{note_before, note_at, note_past, noted_end}
use Rattle.history.proofs.Steps.CallEnds.{carried-done}
use Rattle.history.proofs.Steps.Ends.{open_plain, none_listed, open_listed, group-listed}
use Rattle.history.proofs.Steps.Gives.{Countable, countable, cut_from, CutsAt, Gives, gives_step, gives_enough, gives_less, gives_settled, short_call, stopped}
use Rattle.history.proofs.Relation.OpenFacts as Facts
use Rattle.history.proofs.Steps.Worlds.{settled_ledger, plain_now, open_world, Opened, opened_sim, open-world, opened, opened_refusal, open_step}
use Rattle.history.proofs.Steps.Apply.{nothing_step}
use Rattle.history.proofs.Steps.SyncMeets.{Met, met}

sync_no_get : (a : ℕ) → sync ≡ get a → ⊥
sync_no_get a e = let z : ◌≡◌ {A = ℕ} 0 1 = cc in omega arith

module _ (geo : Geometry) where
  module _ (st : State) (v : List Entry) (S : Laid) (x : Bool) (f : Opened geo st v S) (h : refusal geo sync (plain_now geo st S) ≡ 0) where
    abbrev w : World
    w = open_world geo st v S x

    abbrev d : Plain
    d = plain_now geo st S

    abbrev N : ℕ
    N = st.rec.blocks

    abbrev G : List Entry
    G = group_of geo st

    rc : RecordFacts geo st
    rc = record_facts geo st f.basics.counts

    length-G : length G ≡ st.rec.grouped
    length-G = Facts.length-group geo st (settled_ledger v) d f.basics f.sim

    -- the direct writes that wait
    abbrev waiting : List Entry
    waiting = queue (card_in st)

    accepted : cause geo Request.sync st ≡ 0
    accepted = same-cause geo st (settled_ledger v) d (opened_sim geo f) sync ∙ h

    -- row 12 has passed: a group that is not empty has a number to come
    pub next_number : st.rec.grouped ≢ 0 → S.groups + 1 < 2 ^ 64
    next_number z =
        let free : S.groups ≢ most_save = not_last geo d h (λ e. z (sym length-G ∙ e)) in
        let most : S.groups < 2 ^ 64 = f.sim.card.head.save in
        omega arith

    abbrev saving : List Order → Record → ℕ → Outcome
    saving os r c =
        carried os (with_grouped 0 (with_log (r.logged + st.rec.grouped) (sum_of r.sum (group_of geo st)) (with_save c r))) (cond (leb (length (inner_orders geo st)) st.rec.power) r st.rec) st

    call : dispatch geo sync st ≡ saving (sync_orders geo N st.settled st.rec.waiting st.rec.logged st.rec.sum st.rec.save G) (met_by_append geo st) (saved_as st)
    unfolding called
    call = rw (eq-eqb _ 0 accepted)

    plain : plain_step geo sync (fed geo sync w) d ≡ plain_sync geo d
    plain = plain_served geo sync (fed geo sync w) d h

    -- ---- an empty group

    module _ (z : st.rec.grouped ≡ 0) where
      none_G : length G ≡ 0
      none_G = length-G ∙ z

      no_headers : sync_headers geo st ≡ []
      unfolding sync_headers
      no_headers = rw (eq-eqb _ 0 z)

      -- the record stays
      same : with_grouped 0 (with_log ((met_by_append geo st).logged + st.rec.grouped) (sum_of (met_by_append geo st).sum G) (with_save (saved_as st) (met_by_append geo st))) ≡ st.rec
      same =
          let nil : G ≡ [] = ap (λ (k : ℕ). list_of st.work (group_from geo) k) z in
          let single : applies geo st ≡ false = rw (eq-eqb _ 0 z) in
          rw (single, eq-eqb _ 0 z)
          (λ i. with_grouped (sym z i)
          (with_log ((ap (λ (k : ℕ). st.rec.logged + k) z ∙ add-zero st.rec.logged) i) ((ap (λ (g : List Entry). sum_of st.rec.sum g) nil ∙ sum_of_nil st.rec.sum) i) st.rec))

      gone_same : cond (leb (length (inner_orders geo st)) st.rec.power) (met_by_append geo st) st.rec ≡ st.rec
      gone_same = go (leb (length (inner_orders geo st)) st.rec.power)
        where
          go : (t : Bool) → cond t (met_by_append geo st) st.rec ≡ st.rec
          go true = rw (eq-eqb _ 0 z)
          go false = refl

      barrier_call : dispatch geo sync st ≡ carried (barrier st.rec.waiting) st.rec st.rec st
      unfolding sync_orders
      barrier_call = call ∙ (λ i. carried (orders i) (same i) (gone_same i) st)
        where
          orders : sync_orders geo N st.settled st.rec.waiting st.rec.logged st.rec.sum st.rec.save G ≡ barrier st.rec.waiting
          orders = rw (eq-eqb _ 0 none_G)

      -- nothing waits
      nothing : st.rec.waiting ≡ 0 → StepOK geo sync w
      unfolding entered barrier
      nothing e =
          let D : dispatch geo sync st ≡ record { answer = 0; orders = 0; state = st } =
          barrier_call ∙ ap (λ (t : Bool). carried (cond t [] (flush ∷ [])) st.rec st.rec st) (eq-eqb _ 0 e) ∙ carried-done [] st.rec st.rec st (omega arith) ∙ rw (run_nil (card_in st)) in
          nothing_step geo sync w (opened_sim geo f) D (plain ∙ sync_nothing geo d none_G ∙ barrier_none geo d e)
          (ap (λ (o : Outcome). noted (sync_headers geo st) o.orders (settled_ledger v)) D ∙ noted_none (sync_headers geo st) (settled_ledger v)) sync_no_get

      -- a flush
      abbrev flushing : Plan
      flushing = [] ∷ []

      abbrev Missed : Asked
      Missed = CutsAt geo w [] of_sync (λ k. st.rec.waiting)

      behind : Behind geo (Besides waiting) (Besides waiting) N st.settled waiting v S st.rec.logged false
      behind = Facts.behind geo st (settled_ledger v) d f.basics f.sim

      room : st.rec.logged + length G ≤ geo.slots
      room = omega (arith, none_G, rc.log_count)

      inner_none : inner_takes geo st.rec.logged (length G) ≡ 0
      inner_none = rw (no_apply geo st.rec.logged (length G) room)

      abbrev short : Plain
      short = cut_from geo of_sync (λ k. st.rec.waiting) 0 d

      still_loose : cond (flushes geo (of_sync 0) st.rec.logged (length G)) [] (addresses waiting) ≡ addresses waiting
      unfolding flushes
      still_loose = rw (no_apply geo st.rec.logged (length G) room)

      missed : Missed st.settled (waiting ++ []) 0
      unfolding resolved noted
      missed = record {
        waiting = sym (ap length (append-nil waiting) ∙ Facts.length-waiting geo st (settled_ledger v) d f.basics f.sim);
        top = rw (header-sync-own geo 0 st.rec.logged (length G) (omega (arith, inner_none)), ne_eqb 0 (inner_takes geo st.rec.logged (length G) + (length G + geo.descriptors + 1)) (λ q. omega arith), append-nil waiting)
            (Facts.high geo st (settled_ledger v) d f.basics f.sim);
        leads = λ r l ms q.
            chosen_by geo _ _ _ short _ (unchanged st.rec.logged false)
            (choose-sync_before geo 0 st.rec.logged (length G) _ _ (omega (arith, inner_none)) (omega arith) ∙ ap (λ (t : Bool). unchanged (cond t 0 st.rec.logged) false) (no_apply geo st.rec.logged (length G) room))
            (chosen-still geo _ _ _ short _ refl
            (leads_sub geo (Besides waiting) (Firm geo (cut_loose short)) (λ a y. waits_besides waiting a (rw still_loose at y)) N _ v S st.rec.logged false
            (still_cuts geo behind (card_in st) r 0 ms (rw (append-nil waiting) at l) (rw (append-nil waiting) at q)))
            (rw (Facts.log_are geo st (settled_ledger v) d f.basics f.sim, Facts.written_is geo st (settled_ledger v) d f.basics f.sim) (sym (addresses-take st.rec.logged _))));
      }

      settled_card : WholeCard geo Every N (block_at (settle (waiting ++ []) st.settled)) v S st.rec.logged
      settled_card = rw (append-nil waiting) f.sim.card

      missing : (j i : ℕ) → j ≤ 0 → i ≡ 0 + j → Missed st.settled (waiting ++ take j []) i
      missing zero i h e = let none : 0 ≡ i = omega arith in subst (λ (k : ℕ). Missed st.settled (waiting ++ []) k) none missed
      missing (suc j) i h e = absurd (omega arith)

      flush_fits : FitsBehind geo N (length waiting) flushing
      flush_fits = (record { few = omega (arith, Facts.length-waiting geo st (settled_ledger v) d f.basics f.sim, Facts.few geo st (settled_ledger v) d f.basics f.sim, geo.queued); whole = tt; low = tt }, tt)

      flushed_record : (e : st.rec.waiting ≢ 0) → Gives geo sync w flushing
      unfolding entered barrier noted
      flushed_record e = record {
        done = st.rec;
        gone = st.rec;
        call = barrier_call ∙ ap (λ (t : Bool). carried (cond t [] (flush ∷ [])) st.rec st.rec st) (ne_eqb _ 0 e);
        counts = countable geo st rc st.rec.logged st.rec.sum rc.log_count;
        headers = [];
        notes = ap (λ (hs : List PlannedHeader). noted hs (dispatch geo sync st).orders (settled_ledger v)) no_headers;
        short = of_sync;
        waits = λ k. st.rec.waiting;
        S = S;
        list = v;
        plain_done = λ p. plain ∙ sync_nothing geo d none_G ∙ barrier-done geo d e p ∙ ap (λ (l : List ℕ). record { answer = 0; orders = 1; plain = open_plain geo st st.rec S (st.rec.power - 1) l }) logs;
        plain_short = λ p. plain ∙ sync_nothing geo d none_G ∙ barrier-short geo d e p;
        cuts = (missing, tt);
        noted-all = refl;
        fits = flush_fits;
        ends = λ p. record {
          none_waits = refl;
          fits = flush_fits;
          mode = f.sim.mode;
          blocks = refl;
          opened = open_listed geo st rc f.sim.mode;
          grouped = group-listed geo st rc f.sim.mode;
          save = f.basics.mirrors.save f.sim.mode;
          sum = Facts.sum geo st (settled_ledger v) d f.basics f.sim ∙ ap (sum_of start) (sym (Facts.flushed-log geo st (settled_ledger v) d f.basics f.sim) ∙ ap (λ (q : List Entry). log_d geo (block_at (settle q st.settled)) st.rec.logged) (sym (append-nil waiting)));
          card = settled_card;
        };
        no_get = sync_no_get;
      }
        where
          logs : d.log ≡ addresses v
          logs = Facts.log_are geo st (settled_ledger v) d f.basics f.sim ∙ ap addresses (sym (Facts.written_is geo st (settled_ledger v) d f.basics f.sim))

      empty : StepOK geo sync w
      empty = go (ℕ_discrete st.rec.waiting 0)
        where
          go : Dec (st.rec.waiting ≡ 0) → StepOK geo sync w
          go (yes e) = nothing e
          go (no e) = gives_step geo sync w flushing f.basics (flushed_record e)

    -- ---- a group, by what its append meets

    module _ (z : st.rec.grouped ≢ 0) (y : Met geo st v S x) where
      some-G : length G ≢ 0
      some-G q = z (sym length-G ∙ q)

      -- the settled bytes that it meets, the log there, its writes
      abbrev s : List ℕ
      s = settles (queue (card_in st)) y.front st.settled

      abbrev log : List Entry
      log = log_d geo (block_at (settles (queue (card_in st)) y.front st.settled)) y.n

      abbrev W : List Entry
      W = append_writes geo N (settles (queue (card_in st)) y.front st.settled) y.n y.sum (S.groups + 1) G

      abbrev plan : Plan
      plan = y.front ++ (W ∷ [])

      length-W : length W ≡ length G + geo.descriptors + 1
      length-W = length-append_writes geo N s y.n y.sum (S.groups + 1) G

      count : takes plan ≡ takes y.front + (length G + geo.descriptors + 2)
      count = takes-append y.front (W ∷ []) ∙ (omega (arith, length-W))

      -- behind the batches in front q waits
      settled_plan : settles (queue (card_in st)) plan st.settled ≡ settle (y.q ++ W) s
      settled_plan = settles-append waiting y.front (W ∷ []) st.settled ∙ ap (λ (q : List Entry). settle (q ++ W) s) y.q_is

      behind-front : (X : Asked) → Throughout X (queue (card_in st)) y.front st.settled 0 → ((j k : ℕ) → j ≤ length W → k ≡ takes y.front + j → X s (y.q ++ take j W) k) → Throughout X (queue (card_in st)) plan st.settled 0
      behind-front X a b =
          throughout_append X waiting y.front (W ∷ []) st.settled 0 (takes y.front) (omega arith) a
          (subst (λ (q : List Entry). Throughout X q (W ∷ []) s (takes y.front)) (sym y.q_is) (b, tt))

      waits_own : (k : ℕ) → takes y.front ≤ k → sync_waits geo st.rec.waiting st.rec.logged (length G) k ≡ length y.q + (k - takes y.front)
      waits_own k l = sync_waits_own geo st.rec.waiting st.rec.logged (length G) k (omega (arith, y.inner_plain)) ∙ ap₂ (λ (a i : ℕ). a + (k - i)) y.waits_is y.inner_plain

      takes_is : sync_takes geo st.rec.logged (length G) ≡ takes plan
      takes_is = sync-takes geo st.rec.logged (length G) ∙ (omega (arith, y.inner_plain, count))

      header-own : (k : ℕ) → takes y.front ≤ k → header_waits geo (of_sync k) st.rec.logged (length G) ≡ eqb k (takes y.front + (length G + geo.descriptors + 1))
      header-own k l = header-sync-own geo k st.rec.logged (length G) (omega (arith, y.inner_plain)) ∙ ap (λ (i : ℕ). eqb k (i + (length G + geo.descriptors + 1))) y.inner_plain

      -- ---- its own header in the ledger

      note_early : (k : ℕ) → takes y.front ≤ k → k < takes y.front + (length G + geo.descriptors + 1) → noted (sync_headers geo st) k (settled_ledger v) ≡ settled_ledger y.list
      note_early k l h = y.notes k l ∙ note_before (own_header geo st) [] k (settled_ledger y.list) (omega (arith, y.inner_is, length-G))

      pub note_top : (k : ℕ) → k ≡ takes y.front + (length G + geo.descriptors + 1) → noted (sync_headers geo st) k (settled_ledger v) ≡ waits_behind (length y.q + (length G + geo.descriptors)) (log ++ G) (settled_ledger y.list)
      note_top k e =
          y.notes k (omega arith)
          ∙ note_at (own_header geo st) [] k (settled_ledger y.list) (omega (arith, y.inner_is, length-G))
          ∙ (λ i. waits_behind (y.place_is i + (sym length-G i + geo.descriptors)) (y.standing_is i ++ G) (settled_ledger y.list))

      note_done : noted (sync_headers geo st) (takes plan) (settled_ledger v) ≡ settled_ledger (log ++ G)
      note_done =
          y.notes (takes plan) (omega (arith, count))
          ∙ note_past (own_header geo st) [] (takes plan) (settled_ledger y.list) (omega (arith, y.inner_is, length-G, count))
          ∙ noted_end (takes plan) _
          ∙ ap (λ (l : List Entry). settled_ledger (l ++ G)) y.standing_is

      -- ---- cut short in the append, before its header and behind it

      abbrev At : Asked
      At = CutsAt geo w (sync_headers geo st) of_sync (sync_waits geo st.rec.waiting st.rec.logged (length G))

      -- the plain disk then, and the addresses that are loose
      abbrev short_at : ℕ → Plain
      short_at k = cut_from geo of_sync (sync_waits geo st.rec.waiting st.rec.logged (length G)) k d

      spared : (k : ℕ) → takes y.front ≤ k → (a : ℕ) → Firm geo (cut_loose (short_at k)) a → Besides y.q a
      spared k h a z = waits_besides y.q a (rw (y.loose_is k h) at z)

      cuts_before : (j k : ℕ) → j ≤ length G + geo.descriptors → k ≡ takes y.front + j → At s (y.q ++ take j W) k
      unfolding resolved
      cuts_before j k h e = record {
        waiting = waits_own k (omega arith) ∙ sym (length-append y.q (take j W) ∙ ap (λ (i : ℕ). length y.q + i) (length-take j W ∙ (omega (arith, length-W))));
        top = rw (header-own k (omega arith), ne_eqb k (takes y.front + (length G + geo.descriptors + 1)) (λ z. omega arith)) (top_none geo y.meets j h);
        leads = λ r l ms q.
            rw (note_early k (omega arith) (omega arith))
            (chosen_by geo _ _ _ (short_at k) _ (unchanged y.n false) (choose-sync_before geo k st.rec.logged (length G) _ _ (omega (arith, y.inner_plain)) (omega (arith, y.inner_plain)) ∙ ap (λ (i : ℕ). unchanged i false) y.n_is)
            (chosen-still geo _ _ _ (short_at k) _ refl
            (leads_sub geo (Besides y.q) (Firm geo (cut_loose (short_at k))) (spared k (omega arith)) N _ y.list S y.n false (short_before geo y.meets (card_in st) r j l h ms q)) y.list_is));
      }

      cuts_top : (j k : ℕ) → j ≡ length G + geo.descriptors + 1 → k ≡ takes y.front + j → At s (y.q ++ take j W) k
      unfolding resolved
      cuts_top j k h e =
          let long : length (take j W) ≡ length G + geo.descriptors + 1 = length-take j W ∙ (omega (arith, length-W)) in
          let wt : sync_waits geo st.rec.waiting st.rec.logged (length G) k ≡ suc (length y.q + (length G + geo.descriptors)) = waits_own k (omega arith) ∙ (omega arith) in
          record {
            waiting = wt ∙ sym (length-append y.q (take j W) ∙ (omega (arith, long)));
            top = rw (header-own k (omega arith), eq-eqb k (takes y.front + (length G + geo.descriptors + 1)) (omega arith)) (top-last geo y.meets j h);
            leads = λ r l ms q.
                let t : Bool = kept_at ms (length y.q + (length G + geo.descriptors)) in
                let u : Bool = same_log (found_in geo (cut ms r).settled) (cond (kept_at ms (length y.q + (length G + geo.descriptors))) (log ++ G) y.list) in
                rw (note_top k (omega arith))
                (chosen_by geo _ _ _ (short_at k) _ (own_verdict y.n (length G) t u)
                (choose-sync-own geo k st.rec.logged (length G) false _ u (omega (arith, y.inner_plain)) ∙ (λ i. own_verdict (y.n_is i) (length G) (kept-mark ms _ (length y.q + (length G + geo.descriptors)) wt i) u)) (
                  leads_sub geo (Besides y.q) (Firm geo (cut_loose (short_at k))) (spared k (omega arith)) N _ _ _ _ _ (short-top geo y.meets (card_in st) r j l h ms q t u refl refl),
                  top_lists geo y.meets d.log y.log_is y.list_is t u,
                ));
          }

      cuts : Throughout At (queue (card_in st)) plan st.settled 0
      cuts = behind-front At y.cuts (λ j k h e. go j k h e (dec_le j (length G + geo.descriptors)))
        where
          go : (j k : ℕ) → j ≤ length W → k ≡ takes y.front + j → Dec (j ≤ length G + geo.descriptors) → At s (y.q ++ take j W) k
          go j k h e (yes p) = cuts_before j k p e
          go j k h e (no p) = cuts_top j k (omega (arith, length-W)) e

      -- ---- the call

      gone_counts : (t : Bool) → Countable geo N (cond t (with_log y.n y.sum st.rec) st.rec)
      gone_counts true = countable geo st rc y.n y.sum (omega (arith, y.meets.room))
      gone_counts false = countable geo st rc st.rec.logged st.rec.sum rc.log_count

      sum_is : sum_of y.sum G ≡ sum_of start (log_d geo (block_at (settles (queue (card_in st)) plan st.settled)) (y.n + st.rec.grouped))
      sum_is = done-sum geo y.meets y.settled ∙ (λ i. sum_of start (log_d geo (block_at (sym settled_plan i)) (y.n + length-G i)))

      card_is : WholeCard geo Every N (block_at (settles (queue (card_in st)) plan st.settled)) (log ++ G) (lay_over G S) (y.n + st.rec.grouped)
      card_is =
          let e : y.n + length G ≡ y.n + st.rec.grouped = ap (λ (k : ℕ). y.n + k) length-G in
          rw settled_plan (subst (WholeCard geo Every N (block_at (settle (y.q ++ W) s)) (log ++ G) (lay_over G S)) e (done_card geo y.meets y.settled))

      -- the log's addresses then
      log-after : cond (Plain.applies geo st.rec.logged (length G)) [] d.log ++ addresses G ≡ addresses (log ++ G)
      log-after = ap (λ (l : List ℕ). l ++ addresses G) (sym (go (Plain.applies geo st.rec.logged (length G)) refl) ∙ y.log_is) ∙ sym (addresses-append log G)
        where
          go : (t : Bool) → Plain.applies geo st.rec.logged (length G) ≡ t → take y.n d.log ≡ cond t [] d.log
          go true e = ap (λ (k : ℕ). take k d.log) (sym y.n_is ∙ ap (λ (t : Bool). cond t 0 st.rec.logged) e)
          go false e = ap (λ (k : ℕ). take k d.log) (sym y.n_is ∙ ap (λ (t : Bool). cond t 0 st.rec.logged) e) ∙ take_all st.rec.logged d.log (rw (length-addresses, length-up_to) (omega arith))

      raised : saved_as st ≡ st.rec.save + 1
      raised = ap (λ (t : Bool). cond t st.rec.save (st.rec.save + 1)) (ne_eqb _ 0 z)

      pub gives : Gives geo sync w plan
      unfolding entered
      gives = record {
        done = with_grouped 0 (with_log (y.n + st.rec.grouped) (sum_of y.sum G) (with_save (st.rec.save + 1) st.rec));
        gone = cond (leb (length (inner_orders geo st)) st.rec.power) (with_log y.n y.sum st.rec) st.rec;
        call = call ∙ (λ i. saving (y.orders some-G i) (y.record_is i) (raised i));
        counts = gone_counts (leb (length (inner_orders geo st)) st.rec.power);
        headers = sync_headers geo st;
        notes = refl;
        short = of_sync;
        waits = sync_waits geo st.rec.waiting st.rec.logged (length G);
        S = lay_over G S;
        list = log ++ G;
        plain_done = λ p.
            plain ∙ sync-finished geo d some-G (omega (arith, takes_is))
            ∙ (λ i. record { answer = 0; orders = takes_is i; plain = open_plain geo st (with_grouped 0 (with_log ((ap₂ (λ (a b : ℕ). a + b) y.n_is length-G) i) (sum_of y.sum G) (with_save (st.rec.save + 1) st.rec))) (lay_over G S) (st.rec.power - takes_is i) (log-after i) });
        plain_short = λ p. plain ∙ sync-short geo d some-G (omega (arith, takes_is));
        cuts = cuts;
        noted-all = note_done;
        fits = y.fits W (writes_fit geo y.meets y.few);
        ends = λ p. record {
          none_waits = y.empties W;
          fits = y.fits W (writes_fit geo y.meets y.few);
          mode = f.sim.mode;
          blocks = refl;
          opened = open_listed geo st rc f.sim.mode;
          grouped = none_listed geo _ _ _;
          save = ap (λ (k : ℕ). k + 1) (f.basics.mirrors.save f.sim.mode);
          sum = sum_is;
          card = card_is;
        };
        no_get = sync_no_get;
      }

      -- ---- what it leaves done

      own_logged : (dispatch geo sync st).answer ≡ 0 → Logged geo st (dispatch geo sync st).state
      own_logged e =
          let q = done_logged geo y.meets y.settled (standing geo st) y.standing_is in
          let t : (dispatch geo sync st).state.settled ≡ settle (y.q ++ W) s = gives_settled geo sync w plan f.basics gives (gives_enough geo sync w plan f.basics gives e) ∙ settled_plan in
          let c : S.groups + 1 ≡ st.rec.save + 1 = ap (λ (k : ℕ). k + 1) (f.basics.mirrors.save f.sim.mode) in
          record { head = ap (λ (i : List ℕ). block_at i header_at) t ∙ q.0 ∙ ap (λ (k : ℕ). encode (header N (length (standing geo st)) (sum_of start (standing geo st)) (length (standing geo st ++ G)) (sum_of start (standing geo st ++ G)) k)) c; list = ap (λ (i : List ℕ). entries geo i (length (standing geo st ++ G))) t ∙ q.1 }

      -- ---- cut short behind its own header, with every write kept: the log found is the log written

      abbrev Whole : Asked
      Whole t q k =
          k ≡ takes y.front + (length G + geo.descriptors + 1) → (r : Card) → Left (card_in st) r t q 0 → (ms : List ℕ) → marks_fit ms q ≡ true → all_kept (drop (block_bytes * length y.q) ms) ≡ true
          → (kept_at ms (length y.q + (length G + geo.descriptors)) ≡ true) × (same_log (found_in geo (cut ms r).settled) (log ++ G) ≡ true)

      wholes : Throughout Whole (queue (card_in st)) plan st.settled 0
      wholes =
          behind-front Whole (throughout_all Whole waiting y.front st.settled 0 (λ t q k h e. absurd (omega arith)))
          (λ j k h e u r l ms. whole_found geo y.meets (card_in st) r j l (omega arith) ms)

      own_whole : (dispatch geo sync st).answer ≡ 4 → (dispatch geo sync st).orders ≡ inner geo st + (st.rec.grouped + geo.descriptors + 1) → (ms : List ℕ) → marks_fit ms (queue (card_in (dispatch geo sync st).state)) ≡ true → all_kept (drop (block_bytes * waiting_met geo st) ms) ≡ true
          → (kept_at ms (waiting_met geo st + (st.rec.grouped + geo.descriptors)) ≡ true) × (same_log (found_in geo (cut_settled ms (dispatch geo sync st).state)) (cut_written ms (ledger_next geo sync w)) ≡ true)
      unfolding entered resolved
      own_whole a q ms l o =
          let less = gives_less geo sync w plan f.basics gives a in
          let D = short_call geo sync w plan f.basics gives less in
          let end = stopped geo sync w plan f.basics gives Whole st.rec.power refl less wholes in
          let k : st.rec.power ≡ takes y.front + (length G + geo.descriptors + 1) = sym (ap (λ (i : Outcome). i.orders) D) ∙ q ∙ (omega (arith, y.inner_is, length-G)) in
          let L : ledger_next geo sync w ≡ waits_behind (length y.q + (length G + geo.descriptors)) (log ++ G) (settled_ledger y.list) =
          ap (λ (i : Outcome). noted (sync_headers geo st) i.orders (settled_ledger v)) D ∙ note_top st.rec.power k in
          let fit : marks_fit ms end.q ≡ true = ap (marks_fit ms) (sym (ap (λ (i : Outcome). queue (card_in i.state)) D ∙ end.left.waits)) ∙ l in
          let found = end.met k (run (planned plan) (card_in st)) end.left ms fit (rw y.place_is at o) in (
            ap₂ (λ (a i : ℕ). kept_at ms (a + (i + geo.descriptors))) y.place_is (sym length-G) ∙ found.0,
            ap₂ (λ (i : Outcome) (j : Ledger). same_log (found_in geo (cut_settled ms i.state)) (cut_written ms j)) D L
                ∙ ap (λ (t : Bool). same_log (found_in geo (cut ms (run (planned plan) (card_in st))).settled) (cond t (log ++ G) y.list)) found.0
                ∙ found.1,
          )

    sync_open : StepOK geo sync w
    sync_open = go (ℕ_discrete st.rec.grouped 0)
      where
        go : Dec (st.rec.grouped ≡ 0) → StepOK geo sync w
        go (yes z) = empty z
        go (no z) = gives_step geo sync w _ f.basics (gives z (met geo st v S x f z (next_number z)))

  pub sync-step : (w : World) → WorldSim geo w → StepOK geo sync w
  sync-step = open_step geo sync refl sync_open

  -- ---- of any open world

  module _ (w : World) (m : WorldSim geo w) (h : refusal geo sync w.plain ≡ 0) (o : OpenSim geo w.store w.ledger w.plain) (z : w.store.rec.grouped ≢ 0) where
    f : Opened geo w.store w.ledger.written w.plain.S
    f = opened geo w m.basics o

    served : refusal geo sync (plain_now geo w.store w.plain.S) ≡ 0
    served = opened_refusal geo w m.basics o sync h

    meets : Met geo w.store w.ledger.written w.plain.S w.excepted
    meets = met geo w.store w.ledger.written w.plain.S w.excepted f z (next_number w.store w.ledger.written w.plain.S w.excepted f served z)

    pub logged : (dispatch geo sync w.store).answer ≡ 0 → Logged geo w.store (dispatch geo sync w.store).state
    logged = own_logged w.store w.ledger.written w.plain.S w.excepted f served z meets

    pub short_whole : (dispatch geo sync w.store).answer ≡ 4 → (dispatch geo sync w.store).orders ≡ inner geo w.store + (w.store.rec.grouped + geo.descriptors + 1)
        → (ms : List ℕ) → marks_fit ms (queue (card_in (dispatch geo sync w.store).state)) ≡ true → all_kept (drop (block_bytes * waiting_met geo w.store) ms) ≡ true
        → (kept_at ms (waiting_met geo w.store + (w.store.rec.grouped + geo.descriptors)) ≡ true) × (same_log (found_in geo (cut_settled ms (dispatch geo sync w.store).state)) (cut_written ms (ledger_next geo sync w)) ≡ true)
    short_whole a q ms l ones =
        subst (λ (i : World). (kept_at ms (waiting_met geo i.store + (i.store.rec.grouped + geo.descriptors)) ≡ true) × (same_log (found_in geo (cut_settled ms (dispatch geo sync i.store).state)) (cut_written ms (ledger_next geo sync i)) ≡ true)) (sym (open-world geo w m.basics o))
        (own_whole w.store w.ledger.written w.plain.S w.excepted f served z meets a q ms l ones)
