-- What becomes of a sync that is cut short, from a finished sync or recovery to the next recovery.
use Prim.Native.Nat.{ℕ, ◌+◌, ◌*◌, ◌≤◌}
use mathlib.Core.Path.{◌≡◌, refl, ap, ap₂, sym, ◌∙◌}
use mathlib.Core.Logic.{◌≢◌, ◌⊎◌}
use mathlib.Core.Bool.{Bool, true, false, true≢false, cond, not, ◌&&◌}
use mathlib.Core.List.{List, [], ◌∷◌, ◌++◌}
use native.Mathlib.Omega.{arith}
use native.Mathlib.Decide.{ℕ_discrete, dec_le}
use borrow.Author.Tests.{eq-eqb, ne_eqb, eqb-true, not-true}
use lib.Dec.{eqb, leb}
use lib.ListN.{length, drop}
use Rattle.cells.specs.Entry.{block_bytes, Entry}
use Rattle.crash.specs.Laid.{Laid, lay_over}
use Rattle.card.specs.Marks.{kept_at, all_kept}
use Rattle.journal.specs.Geometry.{Geometry}
use Rattle.journal.proofs.Choices.{both}
use Rattle.crash.proofs.Leads.{found_in}
use Rattle.store.specs.Local.{Local}
use Rattle.store.specs.Save as Save
use Rattle.store.specs.Request as Request
use Rattle.store.specs.State.{State, Outcome, closed, open_mode}
use Rattle.store.specs.Saves.{group_of, applies}
use Rattle.history.specs.Call.{Call, local, direct, save, cut, power, sync, apply, recover}
use Rattle.history.specs.Plain as Plain
use Rattle.history.specs.Plain.{Plain, Done, Short, none, of_sync, of_apply, of_recover, of_direct, Verdict, verdict, own_verdict, log_at, direct_takes, plain_direct, sync_takes, sync_waits, unchanged, header_kept, refusal, plain_step, plain_sync, plain_apply, plain_recover}
use Rattle.history.specs.Dispatch.{dispatch}
use Rattle.history.specs.Ledger.{Ledger, Pending, waits, settled_by, sync_headers, noted, entered, own_header, apply_header, inner, standing, waiting_met, resolved, same_log}
use Rattle.history.specs.History.{World, next, after, store_next, ledger_next, found_written, fed}
use Rattle.history.specs.Statements as S
use Rattle.history.specs.Statements.{Fate, quiet, decided, Progress, known, undecided, observe, fate, outcome, WholeIsNew, short_sync, none_finished, headed}
use Rattle.history.proofs.Relation.CauseLaws.{cause_passes}
use Rattle.history.proofs.Relation.Sim.{Basics, OpenSim, ClosedSim, DownSim, cut_settled, cut_written}
use Rattle.history.proofs.Relation.PlainLaws
use Rattle.history.proofs.Relation.PlainLaws.{inner_takes, apply-laid}
use Rattle.store.specs.Causes.{cause}
use Rattle.history.proofs.Steps.Shown.{plain_next, WorldSim, same-cause, dispatch-refused, plain_served}
use Rattle.history.proofs.Relation.OpenFacts as Facts
use Rattle.history.proofs.Steps.Cut as CutStep
use Rattle.history.proofs.Steps.Recover.{is_closed}
use Rattle.history.proofs.Steps.Sync.{short_whole}
use Rattle.history.proofs.Steps.ListInduction.{step, next_sim, clean_first}
use Rattle.history.proofs.Steps.Notes.{note_at, note_past}
use Rattle.history.proofs.Relation.PlainAnswers.{sync-cases, LocalKind, powers, opens, local_kind}
use Rattle.history.proofs.Atomicity.ReadsBack.{power-served, cut_accepted}
use Rattle.history.proofs.Atomicity.Phases.{header_place, NewLog, ShortPhase, Watch, closed_watch, open_kept, open_now, open_watch, planned, power-same, power_watch, to_watch, watch_at, watch_refused}

-- ---- sync

module _ (geo : Geometry) where
  -- the ledger behind its own header
  own-noted : (st : State) (l : Ledger) → st.rec.grouped ≢ 0 → (noted (sync_headers geo st) (inner geo st + (st.rec.grouped + geo.descriptors + 1)) l).pending ≡ waits (waiting_met geo st + (st.rec.grouped + geo.descriptors)) (standing geo st ++ group_of geo st)
  unfolding sync_headers
  own-noted st l z = ap (λ (t : Bool). (noted (cond t [] (cond (applies geo st) (apply_header st ∷ own_header geo st ∷ []) (own_header geo st ∷ []))) k l).pending) (ne_eqb _ 0 z) ∙ go (applies geo st) refl
    where
      k : ℕ
      k = inner geo st + (st.rec.grouped + geo.descriptors + 1)

      own : (m : Ledger) → (noted (own_header geo st ∷ []) k m).pending ≡ waits (waiting_met geo st + (st.rec.grouped + geo.descriptors)) (standing geo st ++ group_of geo st)
      own m = ap (λ (x : Ledger). x.pending) (note_at (own_header geo st) [] k m (omega arith))

      go : (t : Bool) → applies geo st ≡ t → (noted (cond t (apply_header st ∷ own_header geo st ∷ []) (own_header geo st ∷ [])) k l).pending ≡ waits (waiting_met geo st + (st.rec.grouped + geo.descriptors)) (standing geo st ++ group_of geo st)
      go true e =
          let i : inner geo st ≡ st.rec.logged + 3 = ap (λ (t : Bool). cond t (st.rec.logged + 3) 0) e in
          ap (λ (x : Ledger). x.pending) (note_past (apply_header st) (own_header geo st ∷ []) k l (omega arith)) ∙ own (settled_by [])
      go false e = own l

  module _ (w : World) (m : WorldSim geo w) (h : refusal geo sync w.plain ≡ 0) (nf : S.finished geo sync w ≡ false) where
    o : OpenSim geo w.store w.ledger w.plain
    o = open_now geo sync w m refl h

    b : Basics geo w.store w.plain
    b = m.basics

    plain_is : plain_step geo sync (fed geo sync w) w.plain ≡ plain_sync geo w.plain
    plain_is = plain_served geo sync (fed geo sync w) w.plain h

    answer_not : (dispatch geo sync w.store).answer ≢ 0
    unfolding S.finished
    answer_not e = true≢false (sym (eq-eqb _ 0 e) ∙ nf)

    answer_plain : (dispatch geo sync w.store).answer ≡ (plain_sync geo w.plain).answer
    answer_plain = (step geo sync w m).agrees.answer ∙ ap (λ (x : Done). x.answer) plain_is

    -- so it was cut short: a flush, or with a group
    pub short_plain : plain_step geo sync (fed geo sync w) w.plain ≡ Plain.cut_short geo (of_sync w.plain.power) (sync_waits geo w.plain.waiting w.plain.n (length w.plain.G) w.plain.power) w.plain
    short_plain =
        plain_is
        ∙ sync-cases geo (λ x. x ≡ Plain.cut_short geo (of_sync w.plain.power) (sync_waits geo w.plain.waiting w.plain.n (length w.plain.G) w.plain.power) w.plain) w.plain
        (λ z. barrier z (ℕ_discrete w.plain.waiting 0) (dec_le 1 w.plain.power))
        (λ z p. absurd (answer_not (answer_plain ∙ ap (λ (x : Done). x.answer) (PlainLaws.sync-finished geo w.plain z p))))
        (λ z p. PlainLaws.sync-short geo w.plain z p)
      where
        barrier : length w.plain.G ≡ 0 → Dec (w.plain.waiting ≡ 0) → Dec (1 ≤ w.plain.power)
            → plain_sync geo w.plain ≡ Plain.cut_short geo (of_sync w.plain.power) (sync_waits geo w.plain.waiting w.plain.n (length w.plain.G) w.plain.power) w.plain
        barrier z (yes e) q = absurd (answer_not (answer_plain ∙ ap (λ (x : Done). x.answer) (PlainLaws.sync_nothing geo w.plain z ∙ PlainLaws.barrier_none geo w.plain e)))
        barrier z (no e) (yes q) = absurd (answer_not (answer_plain ∙ ap (λ (x : Done). x.answer) (PlainLaws.sync_nothing geo w.plain z ∙ PlainLaws.barrier-done geo w.plain e q)))
        barrier z (no e) (no q) =
            let few : w.plain.n + length w.plain.G ≤ geo.slots = omega (arith, o.n, Facts.n_most geo w.store w.ledger w.plain b o) in
            let none : w.plain.waiting ≡ sync_waits geo w.plain.waiting w.plain.n (length w.plain.G) w.plain.power = rw (PlainLaws.no_apply geo w.plain.n (length w.plain.G) few) (omega arith) in
            PlainLaws.sync_nothing geo w.plain z ∙ PlainLaws.barrier-short geo w.plain e (omega arith) ∙ ap (λ (k : ℕ). Plain.cut_short geo (of_sync w.plain.power) k w.plain) none

    answer_four : (dispatch geo sync w.store).answer ≡ 4
    answer_four = (step geo sync w m).agrees.answer ∙ ap (λ (x : Done). x.answer) short_plain

    orders_power : (dispatch geo sync w.store).orders ≡ w.plain.power
    orders_power = (step geo sync w m).agrees.orders ∙ ap (λ (x : Done). x.orders) short_plain

    count : length w.plain.G ≡ w.store.rec.grouped
    count = Facts.plain_count geo w.store w.ledger w.plain b o

    -- whether it applies, for the store and for the plain disk
    applies_is : applies geo w.store ≡ Plain.applies geo w.plain.n (length w.plain.G)
    applies_is = go (ℕ_discrete w.store.rec.grouped 0)
      where
        go : Dec (w.store.rec.grouped ≡ 0) → applies geo w.store ≡ Plain.applies geo w.plain.n (length w.plain.G)
        go (yes e) = rw (eq-eqb _ 0 e) (sym (PlainLaws.no_apply geo w.plain.n (length w.plain.G) (omega (arith, count, e, o.n, Facts.n_most geo w.store w.ledger w.plain b o))))
        go (no e) =
            ap (λ (t : Bool). not t && not (leb (w.store.rec.logged + w.store.rec.grouped) geo.slots)) (ne_eqb _ 0 e)
            ∙ ap₂ (λ (x y : ℕ). not (leb (x + y) geo.slots)) (sym o.n) (sym count)

    inner_is : inner geo w.store ≡ inner_takes geo w.plain.n (length w.plain.G)
    inner_is = ap₂ (λ (t : Bool) (x : ℕ). cond t (x + 3) 0) applies_is (sym o.n)

    -- the first place of its own writes
    from_is : waiting_met geo w.store ≡ PlainLaws.waits_met geo w.plain.waiting w.plain.n (length w.plain.G)
    from_is = ap₂ (λ (t : Bool) (x : ℕ). cond t 0 x) applies_is (sym b.mirrors.waiting)

    headed_is : headed geo w ≡ eqb w.plain.power (inner_takes geo w.plain.n (length w.plain.G) + (length w.plain.G + geo.descriptors + 1))
    headed_is = ap₂ (λ (x y : ℕ). eqb x y) orders_power (ap₂ (λ (x y : ℕ). x + (y + geo.descriptors + 1)) inner_is (sym count))

    observed : observe geo sync w (known quiet) ≡ undecided (group_of geo w.store) (waiting_met geo w.store) (headed geo w)
    unfolding observe short_sync
    observed =
        let e : eqb w.store.rec.mode open_mode && eqb (dispatch geo sync w.store).answer 4 ≡ true = rw (eq-eqb _ _ o.mode, eq-eqb _ 4 answer_four) in
        ap (λ (t : Bool). cond t (undecided (group_of geo w.store) (waiting_met geo w.store) (headed geo w)) (known quiet)) e

    -- with an empty group no order happened
    powerless : w.store.rec.grouped ≡ 0 → w.plain.power ≡ 0
    powerless z = go (ℕ_discrete w.plain.waiting 0) (dec_le 1 w.plain.power)
      where
        none : length w.plain.G ≡ 0
        none = count ∙ z

        go : Dec (w.plain.waiting ≡ 0) → Dec (1 ≤ w.plain.power) → w.plain.power ≡ 0
        go (yes e) q = absurd (answer_not (answer_plain ∙ ap (λ (x : Done). x.answer) (PlainLaws.sync_nothing geo w.plain none ∙ PlainLaws.barrier_none geo w.plain e)))
        go (no e) (yes q) = absurd (answer_not (answer_plain ∙ ap (λ (x : Done). x.answer) (PlainLaws.sync_nothing geo w.plain none ∙ PlainLaws.barrier-done geo w.plain e q)))
        go (no e) (no q) = omega arith

    sync_watch : (old : Laid) (f : Progress) → Watch geo old f w.store w.ledger w.plain → Watch geo old (observe geo sync w f) (store_next geo sync w) (ledger_next geo sync w) (plain_next geo sync w)
    unfolding entered
    sync_watch old f x =
        let y = open_watch geo old f w.store w.ledger w.plain x o.mode in
        let P : plain_next geo sync w ≡ (Plain.cut_short geo (of_sync w.plain.power) (sync_waits geo w.plain.waiting w.plain.n (length w.plain.G) w.plain.power) w.plain).plain = ap (λ (z : Done). z.plain) short_plain in
        watch_at geo old (ap (observe geo sync w) y.0 ∙ observed) refl refl P
        (record {
          mode = (step geo sync w m).agrees.mode ∙ ap (λ (z : Plain). z.mode) P;
          S = y.1;
          group = Facts.plain_group geo w.store w.ledger w.plain b o;
          laid = λ ms u.
              PlainLaws.sync-laid geo w.plain.waiting w.plain.n (length w.plain.G) w.plain.power w.plain.F u ms
              ∙ (λ i. (sym headed_is) i && kept_at ms ((sym from_is) i + (ap length (Facts.plain_group geo w.store w.ledger w.plain b o) i + geo.descriptors)) && u);
          whole = λ e ms l a.
              let y = short_whole geo w m h o (some-group e) answer_four (eqb-true _ _ e) ms l a in
              (ap (λ (k : ℕ). kept_at ms (waiting_met geo w.store + (k + geo.descriptors))) length-group ∙ y.0, y.1);
          log = λ e. (standing geo w.store, own_pending e);
        })
      where
        length-group : length (group_of geo w.store) ≡ w.store.rec.grouped
        length-group = Facts.length-group geo w.store w.ledger w.plain b o

        -- its own header was written, so it has a group
        some-group : headed geo w ≡ true → w.store.rec.grouped ≢ 0
        some-group e z =
            let k : (dispatch geo sync w.store).orders ≡ inner geo w.store + (w.store.rec.grouped + geo.descriptors + 1) = eqb-true _ _ e in
            let p : w.plain.power ≡ 0 = powerless z in
            omega (arith, orders_power)

        -- and its list is pending
        own_pending : headed geo w ≡ true → (ledger_next geo sync w).pending ≡ waits (header_place geo (waiting_met geo w.store) (group_of geo w.store)) (standing geo w.store ++ group_of geo w.store)
        own_pending e =
            ap (λ (l : Ledger). l.pending) (ap (λ (k : ℕ). noted (sync_headers geo w.store) k w.ledger) (eqb-true _ _ e))
            ∙ own-noted w.store w.ledger (some-group e)
            ∙ ap (λ (k : ℕ). waits (waiting_met geo w.store + (k + geo.descriptors)) (standing geo w.store ++ group_of geo w.store)) (sym length-group)

  -- ---- apply

  apply_watch : (old : Laid) (w : World) (f : Progress) → WorldSim geo w → refusal geo apply w.plain ≡ 0 → Watch geo old f w.store w.ledger w.plain
      → Watch geo old (observe geo apply w f) (store_next geo apply w) (ledger_next geo apply w) (plain_next geo apply w)
  unfolding observe short_sync
  apply_watch old w f m h x = go (ℕ_discrete w.plain.n 0) (dec_le (w.plain.n + 3) w.plain.power)
    where
      o : OpenSim geo w.store w.ledger w.plain
      o = open_now geo apply w m refl h

      P : plain_step geo apply (fed geo apply w) w.plain ≡ plain_apply geo w.plain
      P = plain_served geo apply (fed geo apply w) w.plain h

      kept : (D : Done) → plain_apply geo w.plain ≡ D → D.plain.mode ≡ w.plain.mode → D.plain.S ≡ w.plain.S → Watch geo old (observe geo apply w f) (store_next geo apply w) (ledger_next geo apply w) (plain_next geo apply w)
      kept D e p s =
          open_kept geo old apply w f m o.mode x (ap (λ (z : Done). z.plain.mode) (P ∙ e) ∙ p) (ap (λ (z : Done). z.plain.S) (P ∙ e) ∙ s) refl

      go : Dec (w.plain.n ≡ 0) → Dec (w.plain.n + 3 ≤ w.plain.power) → Watch geo old (observe geo apply w f) (store_next geo apply w) (ledger_next geo apply w) (plain_next geo apply w)
      go (yes z) q = kept _ (PlainLaws.apply_nothing geo w.plain z) refl refl
      go (no z) (yes q) = kept _ (PlainLaws.apply-finished geo w.plain z q) refl refl
      go (no z) (no q) =
          let y = open_watch geo old f w.store w.ledger w.plain x o.mode in
          let e = P ∙ PlainLaws.apply-short geo w.plain z (omega arith) in
          let mode : (store_next geo apply w).rec.mode ≡ 2 = (step geo apply w m).agrees.mode ∙ ap (λ (d : Done). d.plain.mode) e in
          watch_at geo old (ap (observe geo apply w) y.0) refl refl (ap (λ (d : Done). d.plain) e)
          (◌⊎◌.inr
          (record {
            mode = λ k. omega arith;
            S = y.1;
            laid = λ ms u. ap (λ (v : Verdict). v.laid) (PlainLaws.choose_apply geo w.plain.power w.plain.n (length w.plain.G) w.plain.F _ u) ∙ apply-laid w.plain.power w.plain.n w.plain.F _;
            whole = tt;
            log = tt;
          }))

  -- ---- recover

  recover-laid : (k n m : ℕ) (F t u : Bool) → (verdict geo (of_recover k) n m F t u).laid ≡ false
  unfolding verdict
  recover-laid k n m F t u = go (eqb k 0)
    where
      go : (s : Bool) → (cond s (unchanged n F) (unchanged n (not t))).laid ≡ false
      go true = refl
      go false = refl

  pub recover-same : (w : World) (f : Progress) → observe geo recover w f ≡ f
  unfolding observe short_sync
  recover-same w (known quiet) = refl
  recover-same w (undecided G place made) = refl
  recover-same w (known (decided G laid all)) = refl

  -- where the header needs a fallback no sync was found new
  never_fell : (l m : Ledger) (d d' : Plain) (f : Fate) → NewLog geo f l d → d.F ≡ true → NewLog geo f m d'
  never_fell l m d d' quiet n e = tt
  never_fell l m d d' (decided G laid all) n e = λ z. absurd (true≢false (sym e ∙ (n z).3))

  recover_watch : (old : Laid) (w : World) (f : Progress) → WorldSim geo w → refusal geo recover w.plain ≡ 0 → S.finished geo recover w ≡ false → Watch geo old f w.store w.ledger w.plain
      → Watch geo old (observe geo recover w f) (store_next geo recover w) (ledger_next geo recover w) (plain_next geo recover w)
  unfolding S.finished
  recover_watch old w f m h nf x = go w.plain.F refl (dec_le 2 w.plain.power)
    where
      P : plain_step geo recover (fed geo recover w) w.plain ≡ plain_recover geo (fed geo recover w).found w.plain
      P = plain_served geo recover (fed geo recover w) w.plain h

      not_zero : (plain_recover geo (fed geo recover w).found w.plain).answer ≡ 0 → ⊥
      not_zero e = true≢false (sym (eq-eqb _ 0 ((step geo recover w m).agrees.answer ∙ ap (λ (d : Done). d.answer) P ∙ e)) ∙ nf)

      shut : w.store.rec.mode ≡ closed
      shut = (is_closed geo w.store w.ledger w.plain m (cause_passes geo Request.recover w.store (same-cause geo w.store w.ledger w.plain m recover ∙ h))).mode

      go : (t : Bool) → w.plain.F ≡ t → Dec (2 ≤ w.plain.power) → Watch geo old (observe geo recover w f) (store_next geo recover w) (ledger_next geo recover w) (plain_next geo recover w)
      go false e q = absurd (not_zero (ap (λ (d : Done). d.answer) (PlainLaws.recover_whole geo (fed geo recover w).found w.plain e)))
      go true e (yes q) = absurd (not_zero (ap (λ (d : Done). d.answer) (PlainLaws.recover_fallback geo (fed geo recover w).found w.plain e q)))
      go true e (no q) =
          let y = closed_watch geo old f w.store w.ledger w.plain x shut in
          let k = P ∙ PlainLaws.recover-short geo (fed geo recover w).found w.plain e (omega arith) in
          let mode : (store_next geo recover w).rec.mode ≡ 2 = (step geo recover w m).agrees.mode ∙ ap (λ (d : Done). d.plain.mode) k in
          watch_at geo old (recover-same w f ∙ y.fated) refl refl (ap (λ (d : Done). d.plain) k)
          (to_watch geo old y.end (store_next geo recover w) (ledger_next geo recover w) _
          (record { mode = λ z. omega arith; S = y.phase.S; laid = λ ms u. recover-laid w.plain.power w.plain.n (length w.plain.G) w.plain.F _ u; whole = y.phase.whole; log = never_fell w.ledger (ledger_next geo recover w) w.plain _ y.end y.phase.log e }))

  -- ---- cut

  -- what lays a group needs no fallback
  laid_whole : (s : Short) (n m : ℕ) (F k f : Bool) → (verdict geo s n m F k f).laid ≡ true → (verdict geo s n m F k f).F ≡ false
  laid_whole none n m F k f e = absurd (true≢false (sym e ∙ ap (λ (v : Verdict). v.laid) (PlainLaws.choose_none geo n m F k f)))
  laid_whole (of_recover i) n m F k f e = absurd (true≢false (sym e ∙ recover-laid i n m F k f))
  laid_whole (of_direct i) n m F k f e = absurd (true≢false (sym e ∙ ap (λ (v : Verdict). v.laid) (PlainLaws.choose_direct geo i n m F k f)))
  laid_whole (of_apply i) n m F k f e = absurd (true≢false (sym e ∙ ap (λ (v : Verdict). v.laid) (PlainLaws.choose_apply geo i n m F k f) ∙ apply-laid i n F k))
  laid_whole (of_sync i) n m F k f e = go (ℕ_discrete i (inner_takes geo n m + (m + geo.descriptors + 1)))
    where
      own : (k f : Bool) → (own_verdict (PlainLaws.count_met geo n m) m k f).laid ≡ true → (own_verdict (PlainLaws.count_met geo n m) m k f).F ≡ false
      own true true z = ap (λ (v : Verdict). v.F) (PlainLaws.own_new (PlainLaws.count_met geo n m) m)
      own true false z = absurd (true≢false (sym z ∙ ap (λ (v : Verdict). v.laid) (PlainLaws.own_other (PlainLaws.count_met geo n m) m)))
      own false f z = absurd (true≢false (sym z ∙ ap (λ (v : Verdict). v.laid) (PlainLaws.own-lost (PlainLaws.count_met geo n m) m f)))

      go : Dec (i ≡ inner_takes geo n m + (m + geo.descriptors + 1)) → (verdict geo (of_sync i) n m F k f).F ≡ false
      go (yes z) = let v = PlainLaws.choose-sync-own geo i n m F k f z in ap (λ (x : Verdict). x.F) v ∙ own k f (sym (ap (λ (x : Verdict). x.laid) v) ∙ e)
      go (no z) = absurd (true≢false (sym e ∙ PlainLaws.sync-still geo i n m F k f z))

  -- whether the log found after the cut is the log written
  abbrev pub cut-found : List ℕ → World → Bool
  cut-found ms w = same_log (found_in geo (cut_settled ms w.store)) (cut_written ms w.ledger)

  module _ (ms : List ℕ) (w : World) (m : WorldSim geo w) (h : refusal geo (cut ms) w.plain ≡ 0) where
    pub cut_plain : plain_next geo (cut ms) w ≡ CutStep.plain_at w.store w.plain (cond (planned geo w.plain ms (cut-found ms w)).laid (lay_over w.plain.G w.plain.S) w.plain.S) (planned geo w.plain ms (cut-found ms w)).n (planned geo w.plain ms (cut-found ms w)).F
        (log_at (planned geo w.plain ms (cut-found ms w)) w.plain.G w.plain.log)
    cut_plain = ap (λ (d : Done). d.plain) (CutStep.plain-cut geo ms w m h)

    closed-now : (store_next geo (cut ms) w).rec.mode ≢ open_mode
    closed-now e = let k : (store_next geo (cut ms) w).rec.mode ≡ 0 = ap (λ (s : State). s.rec.mode) (CutStep.store_cut geo ms w m h) in omega arith

    -- nothing is laid
    cut-still : (old : Laid) (f : Fate) → observe geo (cut ms) w (known f) ≡ known f
        → (planned geo w.plain ms (cut-found ms w)).laid ≡ false → w.plain.S ≡ outcome f old → WholeIsNew f → NewLog geo f w.ledger w.plain
        → Watch geo old (observe geo (cut ms) w (known f)) (store_next geo (cut ms) w) (ledger_next geo (cut ms) w) (plain_next geo (cut ms) w)
    unfolding resolved
    cut-still old f q z s y n =
        watch_at geo old q refl (CutStep.ledger_cut geo ms w m h) cut_plain
        (to_watch geo old f (store_next geo (cut ms) w) (CutStep.written_at ms w.ledger) _
        (record {
          mode = closed-now;
          S = ap (λ (t : Bool). cond t (lay_over w.plain.G w.plain.S) w.plain.S) z ∙ s;
          laid = λ ns u. ap (λ (v : Verdict). v.laid) (PlainLaws.choose_none geo _ _ _ _ u);
          whole = y;
          log = same_log_lem f n;
        }))
      where
        same_log_lem : (f : Fate) → NewLog geo f w.ledger w.plain → NewLog geo f (CutStep.written_at ms w.ledger) (CutStep.plain_at w.store w.plain (cond (planned geo w.plain ms (cut-found ms w)).laid (lay_over w.plain.G w.plain.S) w.plain.S) (planned geo w.plain ms (cut-found ms w)).n (planned geo w.plain ms (cut-found ms w)).F
            (log_at (planned geo w.plain ms (cut-found ms w)) w.plain.G w.plain.log))
        same_log_lem quiet n = tt
        same_log_lem (decided G laid all) n = λ e.
            let r = n e in (
              r.0,
              ap (λ (p : Pending). resolved ms p w.ledger.written) r.2 ∙ r.1,
              refl,
              ap (λ (x : Short). (verdict geo x w.plain.n (length w.plain.G) w.plain.F (header_kept ms w.plain.waiting) (cut-found ms w)).F) r.4
                  ∙ ap (λ (v : Verdict). v.F) (PlainLaws.choose_none geo w.plain.n (length w.plain.G) w.plain.F (header_kept ms w.plain.waiting) (cut-found ms w)) ∙ r.3,
              refl,
              refl,
            )

    pub cut_observed : (G : List Entry) (from : ℕ) (made : Bool)
        → observe geo (cut ms) w (undecided G from made) ≡ known (decided G (made && kept_at ms (header_place geo from G) && cut-found ms w) (made && all_kept (drop (block_bytes * from) ms)))
    unfolding observe
    cut_observed G from made =
        ap (λ (t : Bool). cond t (known (decided G (made && kept_at ms (header_place geo from G) && found_written geo (cut ms) w) (made && all_kept (drop (block_bytes * from) ms)))) (undecided G from made)) (cut_accepted geo ms w m h)
        ∙ ap (λ (t : Bool). known (decided G (made && kept_at ms (header_place geo from G) && t) (made && all_kept (drop (block_bytes * from) ms)))) (CutStep.found-cut geo ms w m h)

    cut_decides : (old : Laid) (G : List Entry) (from : ℕ) (made : Bool) → ShortPhase geo old G from made w.store w.ledger w.plain
        → Watch geo old (observe geo (cut ms) w (undecided G from made)) (store_next geo (cut ms) w) (ledger_next geo (cut ms) w) (plain_next geo (cut ms) w)
    unfolding resolved
    cut_decides old G from made x =
        watch_at geo old (cut_observed G from made) refl (CutStep.ledger_cut geo ms w m h) cut_plain
        (record {
          mode = closed-now;
          S = ap (λ (t : Bool). cond t (lay_over w.plain.G w.plain.S) w.plain.S) (x.laid ms (cut-found ms w))
              ∙ ap₂ (λ (g : List Entry) (d : Laid). cond (made && kept_at ms (header_place geo from G) && cut-found ms w) (lay_over g d) d) x.group x.S;
          laid = λ ns u. ap (λ (v : Verdict). v.laid) (PlainLaws.choose_none geo _ _ _ _ u);
          whole = λ e.
              let q = both made (all_kept (drop (block_bytes * from) ms)) e in
              let y = x.whole q.0 ms (CutStep.fits_cut geo ms w m h) q.1 in
              rw (q.0, y.0, y.1);
          log = λ e.
              let q = both (made && kept_at ms (header_place geo from G)) (cut-found ms w) e in
              let k = both made (kept_at ms (header_place geo from G)) q.0 in
              let r = x.log k.0 in (
                r.0,
                ap (λ (p : Pending). resolved ms p w.ledger.written) r.1 ∙ ap (λ (t : Bool). cond t (r.0 ++ G) w.ledger.written) k.1,
                refl,
                laid_whole w.plain.short w.plain.n (length w.plain.G) w.plain.F (header_kept ms w.plain.waiting) (cut-found ms w) (x.laid ms (cut-found ms w) ∙ e),
                refl,
                refl,
              );
        })

    -- on an open record no cut lays anything
    pub open_lays_none : w.store.rec.mode ≡ open_mode → (planned geo w.plain ms (cut-found ms w)).laid ≡ false
    open_lays_none z = go m.phase
      where
        go : OpenSim geo w.store w.ledger w.plain ⊎ (ClosedSim geo w.store w.ledger w.plain ⊎ DownSim geo w.store w.ledger w.plain) → (planned geo w.plain ms (cut-found ms w)).laid ≡ false
        go (◌⊎◌.inl o) =
            ap (λ (s : Short). (verdict geo s w.plain.n (length w.plain.G) w.plain.F (header_kept ms w.plain.waiting) (cut-found ms w)).laid) o.short
            ∙ ap (λ (v : Verdict). v.laid) (PlainLaws.choose_none geo w.plain.n (length w.plain.G) w.plain.F (header_kept ms w.plain.waiting) (cut-found ms w))
        go (◌⊎◌.inr (◌⊎◌.inl o)) = absurd (omega (arith, o.mode))
        go (◌⊎◌.inr (◌⊎◌.inr o)) = absurd (omega (arith, o.mode))

    cut_watch : (old : Laid) (f : Progress) → Watch geo old f w.store w.ledger w.plain → Watch geo old (observe geo (cut ms) w f) (store_next geo (cut ms) w) (ledger_next geo (cut ms) w) (plain_next geo (cut ms) w)
    unfolding observe short_sync
    cut_watch old (known quiet) (◌⊎◌.inl x) = cut-still old quiet refl (open_lays_none x.mode) x.S tt tt
    cut_watch old (known quiet) (◌⊎◌.inr x) = cut-still old quiet refl (x.laid ms (cut-found ms w)) x.S tt tt
    cut_watch old (undecided G place made) x = cut_decides old G place made x
    cut_watch old (known (decided G laid all)) x = cut-still old (decided G laid all) refl (x.laid ms (cut-found ms w)) x.S x.whole x.log

  -- ---- every call

  local_watch : (old : Laid) (c : Local) (w : World) (f : Progress) → LocalKind geo c → WorldSim geo w → refusal geo (local c) w.plain ≡ 0 → Watch geo old f w.store w.ledger w.plain
      → Watch geo old (observe geo (local c) w f) (store_next geo (local c) w) (ledger_next geo (local c) w) (plain_next geo (local c) w)
  unfolding observe short_sync entered
  local_watch old c w f (powers k) m h x =
      watch_at geo old (power-same geo k w f) (ap (λ (o : Outcome). o.state) (power-served geo k w m)) refl (ap (λ (d : Done). d.plain) (plain_served geo (power k) (fed geo (power k) w) w.plain h))
      (power_watch geo old k f w.store w.ledger w.plain x)
  local_watch old c w f (opens _ n s) m h x =
      let P = plain_served geo (local c) (fed geo (local c) w) w.plain h in
      open_kept geo old (local c) w f m (open_now geo (local c) w m n h).mode x (ap (λ (d : Done). d.plain.mode) P ∙ (s w.plain).mode) (ap (λ (d : Done). d.plain.S) P ∙ (s w.plain).S) refl

  -- a direct write, on an open record: done, its block is laid into S
  direct_watch : (old : Laid) (a : ℕ) (b : List ℕ) (w : World) (f : Progress) → WorldSim geo w → refusal geo (direct a b) w.plain ≡ 0 → Watch geo old f w.store w.ledger w.plain
      → Watch geo (S.drawn_by geo (direct a b) w old) (observe geo (direct a b) w f) (store_next geo (direct a b) w) (ledger_next geo (direct a b) w) (plain_next geo (direct a b) w)
  unfolding observe short_sync S.direct_done
  direct_watch old a b w f m h x = go (dec_le (direct_takes geo w.plain.waiting) w.plain.power)
    where
      o : OpenSim geo w.store w.ledger w.plain
      o = open_now geo (direct a b) w m refl h

      y : (f ≡ known quiet) × (w.plain.S ≡ old)
      y = open_watch geo old f w.store w.ledger w.plain x o.mode

      P : plain_step geo (direct a b) (fed geo (direct a b) w) w.plain ≡ plain_direct geo a b w.plain
      P = plain_served geo (direct a b) (fed geo (direct a b) w) w.plain h

      answers : (D : Done) → plain_direct geo a b w.plain ≡ D → (dispatch geo (direct a b) w.store).answer ≡ D.answer
      answers D e = (step geo (direct a b) w m).agrees.answer ∙ ap (λ (d : Done). d.answer) (P ∙ e)

      go : Dec (direct_takes geo w.plain.waiting ≤ w.plain.power) → Watch geo (S.drawn_by geo (direct a b) w old) (observe geo (direct a b) w f) (store_next geo (direct a b) w) (ledger_next geo (direct a b) w) (plain_next geo (direct a b) w)
      go (yes q) =
          let e = PlainLaws.direct-done geo a b w.plain q in
          let done : eqb (dispatch geo (direct a b) w.store).answer 0 ≡ true = eq-eqb _ 0 (answers _ e) in
          rw (done, y.0)
          (◌⊎◌.inl (record {
            mode = (step geo (direct a b) w m).agrees.mode ∙ ap (λ (d : Done). d.plain.mode) (P ∙ e) ∙ m.basics.mirrors.mode ∙ o.mode;
            S = ap (λ (d : Done). d.plain.S) (P ∙ e) ∙ ap (Plain.drawn (record { address = a; block = b })) y.1;
          }))
      go (no q) =
          let e = PlainLaws.direct_short geo a b w.plain (omega arith) in
          let four : (dispatch geo (direct a b) w.store).answer ≡ 4 = answers _ e in
          let gone : eqb (dispatch geo (direct a b) w.store).answer 0 ≡ false = ne_eqb (dispatch geo (direct a b) w.store).answer 0 (λ z. omega (arith, sym four ∙ z)) in
          let mode : (store_next geo (direct a b) w).rec.mode ≡ 2 = (step geo (direct a b) w m).agrees.mode ∙ ap (λ (d : Done). d.plain.mode) (P ∙ e) in
          rw (gone, y.0)
          (watch_at geo old {f = known quiet} refl refl refl (ap (λ (d : Done). d.plain) (P ∙ e))
          (◌⊎◌.inr (record {
            mode = λ k. omega arith;
            S = y.1;
            laid = λ ms u. ap (λ (v : Verdict). v.laid) (PlainLaws.choose_direct geo w.plain.power w.plain.n (length w.plain.G) w.plain.F _ u);
            whole = tt;
            log = tt;
          })))

  served_watch : (old : Laid) (c : Call) (w : World) (f : Progress) → WorldSim geo w → refusal geo c w.plain ≡ 0 → S.finished geo c w ≡ false → Watch geo old f w.store w.ledger w.plain
      → Watch geo (S.drawn_by geo c w old) (observe geo c w f) (store_next geo c w) (ledger_next geo c w) (plain_next geo c w)
  unfolding observe short_sync entered S.direct_done
  served_watch old (local c) w f m h nf x = local_watch old c w f (local_kind geo c) m h x
  served_watch old (direct a b) w f m h nf x = direct_watch old a b w f m h x
  served_watch old (save Save.sync) w f m h nf x = sync_watch w m h nf old f x
  served_watch old (save Save.apply) w f m h nf x = apply_watch old w f m h x
  served_watch old (save Save.recover) w f m h nf x = recover_watch old w f m h nf x
  served_watch old (cut ms) w f m h nf x = cut_watch ms w m h old f x

  -- a refused call lays nothing
  drawn-refused : (old : Laid) (c : Call) (w : World) → WorldSim geo w → refusal geo c w.plain ≢ 0 → S.drawn_by geo c w old ≡ old
  unfolding S.direct_done
  drawn-refused old (local c) w m h = refl
  drawn-refused old (direct a b) w m h =
      let k : cause geo (Request.direct a b) w.store ≢ 0 = λ e. h (sym (same-cause geo w.store w.ledger w.plain m (direct a b)) ∙ e) in
      let e : (dispatch geo (direct a b) w.store).answer ≡ cause geo (Request.direct a b) w.store = ap (λ (o : Outcome). o.answer) (dispatch-refused geo (direct a b) w.store k) in
      rw (e, ne_eqb _ 0 k)
  drawn-refused old (save c) w m h = refl
  drawn-refused old (cut ms) w m h = refl

  pub watch_step : (old : Laid) (c : Call) (w : World) (f : Progress) → WorldSim geo w → S.finished geo c w ≡ false → Watch geo old f w.store w.ledger w.plain
      → Watch geo (S.drawn_by geo c w old) (observe geo c w f) (store_next geo c w) (ledger_next geo c w) (plain_next geo c w)
  watch_step old c w f m nf x = go (ℕ_discrete (refusal geo c w.plain) 0)
    where
      go : Dec (refusal geo c w.plain ≡ 0) → Watch geo (S.drawn_by geo c w old) (observe geo c w f) (store_next geo c w) (ledger_next geo c w) (plain_next geo c w)
      go (yes h) = served_watch old c w f m h nf x
      go (no h) = rw (drawn-refused old c w m h) (watch_refused geo old c w f h m x)

  pub watch_list : (old : Laid) (cs : List Call) (w : World) (f : Progress) → WorldSim geo w → none_finished geo cs w ≡ true → (after geo cs w).excepted ≡ false → Watch geo old f w.store w.ledger w.plain
      → Watch geo (S.drawn_over geo cs w old) (fate geo cs w f) (after geo cs w).store (after geo cs w).ledger (after geo cs w).plain
  unfolding after fate none_finished next S.drawn_over
  watch_list old [] w f m n e x = x
  watch_list old (c ∷ cs) w f m n e x =
      let p = both (not (S.finished geo c w)) (none_finished geo cs (next geo c w)) n in
      watch_list (S.drawn_by geo c w old) cs (next geo c w) (observe geo c w f) (next_sim geo c w m (clean_first geo c cs w e)) p.1 e (watch_step old c w f m (not-true _ p.0) x)
