-- The log's addresses and the loose ones: the log that a recovery takes has a loose block exactly if the group of a sync found new has it.
use Prim.Native.Nat.{ℕ, ◌+◌, ◌-◌, ◌≤◌}
use mathlib.Core.Path.{◌≡◌, refl, ap, ap₂, sym, ◌∙◌}
use mathlib.Core.Logic.{◌≢◌, ◌⊎◌}
use mathlib.Core.Bool.{Bool, true, false, true≢false, false≢true, cond, not, ◌&&◌, ◌||◌, or-true}
use mathlib.Core.List.{List, [], ◌∷◌, ◌++◌}
use native.Mathlib.Omega.{arith}
use native.Mathlib.Decide.{ℕ_discrete, dec_le}
use borrow.Author.Tests.{eq-eqb, eqb-true, not-true}
use lib.Dec.{eqb}
use lib.ListN.{length, take, length-take}
use lib.Seq.{take_all}
use Rattle.cells.specs.Entry.{Entry}
use Rattle.crash.specs.Laid.{Laid}
use Rattle.card.specs.Disk.{Disk}
use Rattle.store.specs.Saves.{group_of}
use Rattle.card.specs.Card.{queue}
use Rattle.card.specs.Marks.{kept_at}
use Rattle.card.proofs.All.{All}
use Rattle.journal.specs.Geometry.{Geometry}
use Rattle.journal.specs.Log.{entries}
use Rattle.journal.proofs.Choices.{both}
use Rattle.store.specs.Local.{Local}
use Rattle.store.specs.Save.{Save}
use Rattle.store.specs.State.{State, open_mode, card_in}
use Rattle.history.specs.Call.{Call, local, direct, save, cut, power, sync, apply, recover}
use Rattle.history.specs.Plain as Plain
use Rattle.history.specs.Plain.{Plain, with_power, Short, Verdict, verdict, among, addresses, log_at, header_kept, Done, cut_short, refusal, served, plain_step}
use Rattle.history.specs.Ledger.{Ledger, waiting_met}
use Rattle.history.specs.History.{World, next, after, store_next, ledger_next, fed, exception}
use Rattle.history.specs.Statements as S
use Rattle.history.specs.Statements.{Fate, quiet, decided, new_has, Progress, known, undecided, observe, fate, none_finished, short_sync}
use Rattle.history.proofs.Relation.Sim.{Basics, Waits, OpenSim, ClosedSim, DownSim, cut_loose}
use Rattle.history.proofs.Relation.Lists.{among-append, among-take, length-addresses}
use Rattle.history.proofs.Relation.OpenFacts as Facts
use Rattle.history.proofs.Relation.PlainLaws as PlainLaws
use Rattle.history.proofs.Relation.PlainAnswers.{LocalKind, powers, opens, local_kind}
use Rattle.history.proofs.Steps.Shown.{plain_next, WorldSim, plain_refused, plain_served}
use Rattle.history.proofs.Steps.ListInduction.{step, next_sim, clean_first}
use Rattle.history.proofs.Atomicity.Phases.{header_place, NewLog, ShortPhase, Watch, observe-refused, open_watch, open_now, planned, power-same}
use Rattle.history.proofs.Atomicity.ShortSyncs.{cut-found, cut_plain, cut_observed, open_lays_none, recover-same, short_plain, watch_step}

-- ---- what waits or is loose is not in the log

module _ (geo : Geometry) where
  pub open_apart : (st : State) (l : Ledger) (d : Plain) → Basics geo st d → OpenSim geo st l d → (x : ℕ) → among x (cut_loose d) ≡ true → among x d.log ≡ false
  unfolding among addresses
  open_apart st l d b o x h = go (queue (card_in st)) o.waits (rw (Facts.writes_are geo st l d b o) at h)
    where
      here : (e : Entry) → Waits geo st e → (t u : Bool) → eqb e.address x ≡ t → t || u ≡ true → (u ≡ true → among x d.log ≡ false) → among x d.log ≡ false
      here e w true u p y more = ap (λ (i : List ℕ). among x i) (b.mirrors.log o.mode) ∙ ap (λ (i : ℕ). among i (addresses (entries geo st.settled st.rec.logged))) (sym (eqb-true _ _ p)) ∙ w.1
      here e w false u p y more = more y

      go : (q : List Entry) → All (Waits geo st) q → among x (addresses q) ≡ true → among x d.log ≡ false
      go [] w z = absurd (false≢true z)
      go (e ∷ q) w z = here e w.0 (eqb e.address x) (among x (addresses q)) refl z (go q w.1)

-- fewer wait
pub fewer_loose : (x : ℕ) (t : Bool) (writes loose : List ℕ) → among x (cond t [] writes ++ loose) ≡ true → among x (writes ++ loose) ≡ true
fewer_loose x false writes loose h = h
fewer_loose x true writes loose h = among-append x writes loose ∙ ap (λ (t : Bool). among x writes || t) h ∙ or-true (among x writes)

-- ---- what is watched

-- what a sync cut short has of a block in the log: its group, once it is found new
abbrev pub new_by : Progress → ℕ → Bool
new_by (known f) x = new_has f x
new_by (undecided G from made) x = false

module _ (geo : Geometry) where
  abbrev pub Named : Progress → Plain → Type 0
  Named f d = (x : ℕ) → among x (cut_loose d) ≡ true → among x d.log ≡ new_by f x

  -- ---- a cut

  module _ (ms : List ℕ) (w : World) (m : WorldSim geo w) (h : refusal geo (cut ms) w.plain ≡ 0) where
    abbrev v : Verdict
    v = planned geo w.plain ms (cut-found geo ms w)

    -- the log's addresses, by whether a group is laid
    log-by : (t : Bool) → v.laid ≡ t → (plain_next geo (cut ms) w).log ≡ cond t (take (v.n - length w.plain.G) w.plain.log ++ addresses w.plain.G) (take v.n w.plain.log)
    log-by t e = ap (λ (d : Plain). d.log) (cut_plain geo ms w m h) ∙ ap (λ (s : Bool). cond s (take (v.n - length w.plain.G) w.plain.log ++ addresses w.plain.G) (take v.n w.plain.log)) e

    loose_by : (x : ℕ) → among x (cut_loose (plain_next geo (cut ms) w)) ≡ true → among x (cut_loose w.plain) ≡ true
    loose_by x u = ap (λ (d : Plain). among x (cut_loose d)) (sym (cut_plain geo ms w m h)) ∙ u

    -- closed, they are as many as n
    all-log : w.plain.mode ≡ 0 → take w.plain.n w.plain.log ≡ w.plain.log
    all-log z = go m.phase
      where
        go : OpenSim geo w.store w.ledger w.plain ⊎ (ClosedSim geo w.store w.ledger w.plain ⊎ DownSim geo w.store w.ledger w.plain) → take w.plain.n w.plain.log ≡ w.plain.log
        go (◌⊎◌.inl o) = absurd (omega (arith, o.mode, m.basics.mirrors.mode, z))
        go (◌⊎◌.inr (◌⊎◌.inl o)) = take_all w.plain.n w.plain.log (rw (o.log, length-addresses, length-take) (omega arith))
        go (◌⊎◌.inr (◌⊎◌.inr o)) = absurd (omega (arith, o.mode, m.basics.mirrors.mode, z))

    -- the log's addresses stay, or fewer of them do
    kept : (f : Fate) → NewLog geo f w.ledger w.plain → (i : ℕ) → among i w.plain.log ≡ new_has f i → among i (take v.n w.plain.log) ≡ new_has f i
    kept quiet n i e = among-take i v.n w.plain.log e
    kept (decided G false all) n i e = among-take i v.n w.plain.log e
    kept (decided G true all) n i e =
        let r = n refl in
        let same : v.n ≡ w.plain.n =
        ap (λ (x : Short). (verdict geo x w.plain.n (length w.plain.G) w.plain.F (header_kept ms w.plain.waiting) (cut-found geo ms w)).n) r.4
        ∙ ap (λ (x : Verdict). x.n) (PlainLaws.choose_none geo w.plain.n (length w.plain.G) w.plain.F (header_kept ms w.plain.waiting) (cut-found geo ms w)) in
        ap (λ (k : ℕ). among i (take k w.plain.log)) same ∙ ap (among i) (all-log r.5) ∙ e

    -- nothing is laid
    still_named : (f : Fate) → v.laid ≡ false → NewLog geo f w.ledger w.plain → Named (known f) w.plain → Named (known f) (plain_next geo (cut ms) w)
    still_named f e n names x u = ap (among x) (log-by false e) ∙ kept f n x (names x (loose_by x u))

    -- a sync that was cut short is decided
    decided_named : (old : Laid) (G : List Entry) (from : ℕ) (made : Bool) → ShortPhase geo old G from made w.store w.ledger w.plain → Named (undecided G from made) w.plain
        → (t : Bool) → v.laid ≡ t → (x : ℕ) → among x (cut_loose (plain_next geo (cut ms) w)) ≡ true → among x (plain_next geo (cut ms) w).log ≡ t && among x (addresses G)
    decided_named old G from made p names true e x u =
        ap (among x) (log-by true e)
        ∙ among-append x (take (v.n - length w.plain.G) w.plain.log) (addresses w.plain.G)
        ∙ ap₂ (λ (s : Bool) (g : List Entry). s || among x (addresses g)) (among-take x (v.n - length w.plain.G) w.plain.log (names x (loose_by x u))) p.group
    decided_named old G from made p names false e x u = ap (among x) (log-by false e) ∙ among-take x v.n w.plain.log (names x (loose_by x u))

    cut_named : (old : Laid) (f : Progress) → Watch geo old f w.store w.ledger w.plain → Named f w.plain → Named (observe geo (cut ms) w f) (plain_next geo (cut ms) w)
    unfolding observe short_sync
    cut_named old (known quiet) (◌⊎◌.inl p) n = still_named quiet (open_lays_none geo ms w m h p.mode) tt n
    cut_named old (known quiet) (◌⊎◌.inr p) n = still_named quiet (p.laid ms (cut-found geo ms w)) tt n
    cut_named old (known (decided G laid all)) p n = still_named (decided G laid all) (p.laid ms (cut-found geo ms w)) p.log n
    cut_named old (undecided G from made) p n = λ x u.
        decided_named old G from made p n (made && kept_at ms (header_place geo from G) && cut-found geo ms w) (p.laid ms (cut-found geo ms w)) x u
        ∙ ap (λ (g : Progress). new_by g x) (sym (cut_observed geo ms w m h G from made))

  -- ---- any other call: if the record is open behind it, nothing that waits is in the log; else it was open before, or what waits is no more

  pub open_named : (f : Progress) (w : World) → WorldSim geo w → w.store.rec.mode ≡ open_mode → (old : Laid) → Watch geo old f w.store w.ledger w.plain → Named f w.plain
  open_named f w m o old p x u =
      let y = open_watch geo old f w.store w.ledger w.plain p o in
      go m.phase ∙ ap (λ (g : Progress). new_by g x) (sym y.0)
    where
      go : OpenSim geo w.store w.ledger w.plain ⊎ (ClosedSim geo w.store w.ledger w.plain ⊎ DownSim geo w.store w.ledger w.plain) → among x w.plain.log ≡ false
      go (◌⊎◌.inl i) = open_apart geo w.store w.ledger w.plain m.basics i x u
      go (◌⊎◌.inr (◌⊎◌.inl i)) = absurd (omega (arith, i.mode))
      go (◌⊎◌.inr (◌⊎◌.inr i)) = absurd (omega (arith, i.mode))

  -- a call cut short leaves the log's addresses, and no more is loose at a cut
  short_named : (f : Progress) (s : Short) (k : ℕ) (d : Plain) → Named f d → Named f (cut_short geo s k d).plain
  short_named f s k d n x u = n x (fewer_loose x (Plain.flushes geo s d.n (length d.G)) d.writes d.loose u)

  named_at : {f g : Progress} {d e : Plain} → g ≡ f → e ≡ d → Named f d → Named g e
  named_at p q n = rw (p, q) n

  -- a sync, an apply or a direct write that leaves the record down
  down_named : (c : Call) (w : World) (s : Short) (k : ℕ) (old : Laid) (f : Progress) → WorldSim geo w → w.store.rec.mode ≡ open_mode → Watch geo old f w.store w.ledger w.plain
      → plain_step geo c (fed geo c w) w.plain ≡ cut_short geo s k w.plain → ((x : ℕ) → new_by (observe geo c w (known quiet)) x ≡ false) → Named (observe geo c w f) (plain_step geo c (fed geo c w) w.plain).plain
  down_named c w s k old f m o p e z x u =
      let y = open_watch geo old f w.store w.ledger w.plain p o in
      let n = short_named f s k w.plain (open_named f w m o old p) x (ap (λ (d : Done). among x (cut_loose d.plain)) (sym e) ∙ u) in
      ap (λ (d : Done). among x d.plain.log) e ∙ n ∙ ap (λ (g : Progress). new_by g x) y.0 ∙ sym (ap (λ (g : Progress). new_by (observe geo c w g) x) y.0 ∙ z x)

  -- a sync alone puts something else there, and that has nothing
  quiet_new : (c : Call) (w : World) → ((ms : List ℕ) → c ≢ cut ms) → (x : ℕ) → new_by (observe geo c w (known quiet)) x ≡ false
  unfolding observe
  quiet_new c w n x = go (short_sync geo c w)
    where
      go : (t : Bool) → new_by (cond t (undecided (group_of geo w.store) (waiting_met geo w.store) (S.headed geo w)) (known quiet)) x ≡ false
      go true = refl
      go false = refl

  module _ (old : Laid) (w : World) (f : Progress) (m : WorldSim geo w) (p : Watch geo old f w.store w.ledger w.plain) (n : Named f w.plain) where
    -- open behind the call
    open_behind : (c : Call) → S.finished geo c w ≡ false → exception geo c w ≡ false → (store_next geo c w).rec.mode ≡ open_mode → Named (observe geo c w f) (plain_next geo c w)
    open_behind c nf e o =
        open_named (observe geo c w f) (record { store = store_next geo c w; ledger = ledger_next geo c w; plain = plain_next geo c w; excepted = false }) ((step geo c w m).sim e) o (S.drawn_by geo c w old)
        (watch_step geo old c w f m nf p)

    local_named : (c : Local) → LocalKind geo c → refusal geo (local c) w.plain ≡ 0 → (store_next geo (local c) w).rec.mode ≢ open_mode → Named (observe geo (local c) w f) (plain_next geo (local c) w)
    local_named c (powers k) h z = named_at {d = with_power k w.plain} (power-same geo k w f) (ap (λ (d : Done). d.plain) (plain_served geo (power k) (fed geo (power k) w) w.plain h)) n
    local_named c (opens _ i s) h z =
        absurd (z ((step geo (local c) w m).agrees.mode ∙ ap (λ (d : Done). d.plain.mode) (plain_served geo (local c) (fed geo (local c) w) w.plain h) ∙ (s w.plain).mode ∙ m.basics.mirrors.mode ∙ (open_now geo (local c) w m i h).mode))

    direct_named : (a : ℕ) (b : List ℕ) → refusal geo (direct a b) w.plain ≡ 0 → (store_next geo (direct a b) w).rec.mode ≢ open_mode → Named (observe geo (direct a b) w f) (plain_next geo (direct a b) w)
    direct_named a b h z = go (dec_le (Plain.direct_takes geo w.plain.waiting) w.plain.power)
      where
        o : OpenSim geo w.store w.ledger w.plain
        o = open_now geo (direct a b) w m refl h

        P : plain_step geo (direct a b) (fed geo (direct a b) w) w.plain ≡ Plain.plain_direct geo a b w.plain
        P = plain_served geo (direct a b) (fed geo (direct a b) w) w.plain h

        go : Dec (Plain.direct_takes geo w.plain.waiting ≤ w.plain.power) → Named (observe geo (direct a b) w f) (plain_next geo (direct a b) w)
        go (yes q) = absurd (z ((step geo (direct a b) w m).agrees.mode ∙ ap (λ (d : Done). d.plain.mode) (P ∙ PlainLaws.direct-done geo a b w.plain q) ∙ m.basics.mirrors.mode ∙ o.mode))
        go (no q) = down_named (direct a b) w _ _ old f m o.mode p (P ∙ PlainLaws.direct_short geo a b w.plain (omega arith)) (quiet_new (direct a b) w (λ ms e. let k : ◌≡◌ {A = ℕ} 0 1 = cc in omega arith))

    apply_named : refusal geo apply w.plain ≡ 0 → (store_next geo apply w).rec.mode ≢ open_mode → Named (observe geo apply w f) (plain_next geo apply w)
    apply_named h z = go (ℕ_discrete w.plain.n 0) (dec_le (w.plain.n + 3) w.plain.power)
      where
        o : OpenSim geo w.store w.ledger w.plain
        o = open_now geo apply w m refl h

        P : plain_step geo apply (fed geo apply w) w.plain ≡ Plain.plain_apply geo w.plain
        P = plain_served geo apply (fed geo apply w) w.plain h

        still : (D : Done) → Plain.plain_apply geo w.plain ≡ D → D.plain.mode ≡ w.plain.mode → ⊥
        still D e k = z ((step geo apply w m).agrees.mode ∙ ap (λ (d : Done). d.plain.mode) (P ∙ e) ∙ k ∙ m.basics.mirrors.mode ∙ o.mode)

        go : Dec (w.plain.n ≡ 0) → Dec (w.plain.n + 3 ≤ w.plain.power) → Named (observe geo apply w f) (plain_next geo apply w)
        go (yes e) q = absurd (still _ (PlainLaws.apply_nothing geo w.plain e) refl)
        go (no e) (yes q) = absurd (still _ (PlainLaws.apply-finished geo w.plain e q) refl)
        go (no e) (no q) = down_named apply w _ _ old f m o.mode p (P ∙ PlainLaws.apply-short geo w.plain e (omega arith)) (quiet_new apply w (λ ms e. let k : ◌≡◌ {A = ℕ} 0 1 = cc in omega arith))

    recover_named : refusal geo recover w.plain ≡ 0 → S.finished geo recover w ≡ false → Named (observe geo recover w f) (plain_next geo recover w)
    unfolding S.finished
    recover_named h nf = go w.plain.F refl (dec_le 2 w.plain.power)
      where
        found : Disk
        found = (fed geo recover w).found

        P : plain_step geo recover (fed geo recover w) w.plain ≡ Plain.plain_recover geo found w.plain
        P = plain_served geo recover (fed geo recover w) w.plain h

        not_zero : (Plain.plain_recover geo found w.plain).answer ≡ 0 → ⊥
        not_zero e = true≢false (sym (eq-eqb _ 0 ((step geo recover w m).agrees.answer ∙ ap (λ (d : Done). d.answer) P ∙ e)) ∙ nf)

        go : (t : Bool) → w.plain.F ≡ t → Dec (2 ≤ w.plain.power) → Named (observe geo recover w f) (plain_next geo recover w)
        go false e q = absurd (not_zero (ap (λ (d : Done). d.answer) (PlainLaws.recover_whole geo found w.plain e)))
        go true e (yes q) = absurd (not_zero (ap (λ (d : Done). d.answer) (PlainLaws.recover_fallback geo found w.plain e q)))
        go true e (no q) =
            let k = P ∙ PlainLaws.recover-short geo found w.plain e (omega arith) in
            named_at (recover-same geo w f) (ap (λ (d : Done). d.plain) k) (short_named f (Plain.of_recover w.plain.power) w.plain.power w.plain n)

    served_named : (c : Call) → refusal geo c w.plain ≡ 0 → S.finished geo c w ≡ false → (store_next geo c w).rec.mode ≢ open_mode → Named (observe geo c w f) (plain_next geo c w)
    served_named (local c) h nf z = local_named c (local_kind geo c) h z
    served_named (direct a b) h nf z = direct_named a b h z
    served_named (save Save.sync) h nf z = down_named sync w _ _ old f m (open_now geo sync w m refl h).mode p (short_plain geo w m h nf) (quiet_new sync w (λ ms e. let k : ◌≡◌ {A = ℕ} 0 1 = cc in omega arith))
    served_named (save Save.apply) h nf z = apply_named h z
    served_named (save Save.recover) h nf z = recover_named h nf
    served_named (cut ms) h nf z = cut_named ms w m h old f p n

    named_step : (c : Call) → S.finished geo c w ≡ false → exception geo c w ≡ false → Named (observe geo c w f) (plain_next geo c w)
    named_step c nf e = go (ℕ_discrete (refusal geo c w.plain) 0) (ℕ_discrete (store_next geo c w).rec.mode open_mode)
      where
        go : Dec (refusal geo c w.plain ≡ 0) → Dec ((store_next geo c w).rec.mode ≡ open_mode) → Named (observe geo c w f) (plain_next geo c w)
        go r (yes o) = open_behind c nf e o
        go (no h) (no o) = named_at (observe-refused geo c w f h m) (ap (λ (d : Done). d.plain) (plain_refused geo c (fed geo c w) w.plain h)) n
        go (yes h) (no o) = served_named c h nf o

  pub named_list : (old : Laid) (cs : List Call) (w : World) (f : Progress) → WorldSim geo w → none_finished geo cs w ≡ true → (after geo cs w).excepted ≡ false → Watch geo old f w.store w.ledger w.plain → Named f w.plain
      → Named (fate geo cs w f) (after geo cs w).plain
  unfolding after fate none_finished next
  named_list old [] w f m n e p i = i
  named_list old (c ∷ cs) w f m n e p i =
      let q = both (not (S.finished geo c w)) (none_finished geo cs (next geo c w)) n in
      let nf = not-true _ q.0 in
      named_list (S.drawn_by geo c w old) cs (next geo c w) (observe geo c w f) (next_sim geo c w m (clean_first geo c cs w e)) q.1 e (watch_step geo old c w f m nf p) (named_step old w f m p i c nf (clean_first geo c cs w e))

  pub none_loose : (w : World) → WorldSim geo w → w.store.rec.mode ≡ open_mode → w.plain.loose ≡ []
  none_loose w m o = go m.phase
    where
      go : OpenSim geo w.store w.ledger w.plain ⊎ (ClosedSim geo w.store w.ledger w.plain ⊎ DownSim geo w.store w.ledger w.plain) → w.plain.loose ≡ []
      go (◌⊎◌.inl i) = i.loose
      go (◌⊎◌.inr (◌⊎◌.inl i)) = absurd (omega (arith, i.mode))
      go (◌⊎◌.inr (◌⊎◌.inr i)) = absurd (omega (arith, i.mode))
