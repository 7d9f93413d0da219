-- Crash atomicity, from the fate of the sync that was cut short.
use Prim.Native.Nat.{ℕ, ◌+◌, ◌≤◌, ◌<◌}
use mathlib.Core.Path.{◌≡◌, refl, ap, ap₂, subst, sym, ◌∙◌}
use mathlib.Core.Logic.{◌≢◌, ◌⊎◌}
use mathlib.Core.Bool.{Bool, true, false, true≢false, cond, not}
use mathlib.Core.List.{List, [], ◌∷◌, ◌++◌}
use native.Mathlib.Omega.{arith}
use native.Mathlib.Nat.{zero-add}
use native.Mathlib.Decide.{ℕ_discrete, dec_le}
use borrow.Author.Tests.{eq-eqb, ne_eqb, not-true}
use lib.ListN.{length, get_or}
use Rattle.card.specs.Disk.{Disk, overlay}
use Rattle.crash.specs.Laid.{Laid}
use Rattle.card.specs.Card.{queue, block_at, blocks_in}
use Rattle.cells.specs.Entry.{Entry}
use Rattle.card.proofs.All.{Any}
use Rattle.card.proofs.Overlays.{overlay_nil, overlay-append, overlay_other, overlay_cover}
use Rattle.crash.proofs.Batches.{no_queue}
use Rattle.journal.specs.Log.{entries}
use Rattle.journal.specs.Geometry.{Geometry}
use Rattle.journal.specs.Layout.{is_data}
use Rattle.journal.proofs.Choices.{both}
use Rattle.store.specs.Local.{Local}
use Rattle.store.specs.Save.{Save}
use Rattle.store.specs.State.{State, Outcome, open_mode, card_in}
use Rattle.store.specs.Causes.{cause}
use Rattle.store.specs.Format.{formatted, format_call}
use Rattle.history.specs.Call.{Call, request_of, local, direct, save, cut, get, sync, apply, recover}
use Rattle.history.specs.Plain as Plain
use Rattle.history.specs.Plain.{Plain, among, addresses, Fed, Done, fresh, refusal, plain_step, plain_recover, plain_get}
use Rattle.store.specs.Get.{block_of}
use Rattle.history.specs.Dispatch.{dispatch}
use Rattle.history.specs.History.{World, begun, next, after, store_next, ledger_next, fed}
use Rattle.history.specs.Ledger.{Ledger}
use Rattle.history.specs.Statements as S
use Rattle.history.specs.Statements.{Fate, quiet, decided, Progress, known, fate, outcome, WholeIsNew, short_sync, count_short, none_finished, EndsFinished, groups_laid, number_found, CrashAtomicity}
use Rattle.history.proofs.Relation.Lists.{firm_besides, besides_firm}
use Rattle.history.proofs.Relation.CauseLaws.{record_facts, idle}
use Rattle.history.proofs.Relation.OpenFacts as Facts
use Rattle.history.proofs.Relation.PlainLaws as PlainLaws
use Rattle.history.proofs.Steps.Shown.{plain_next, WorldSim, same-cause, dispatch-refused, plain_refused, plain_served}
use Rattle.history.proofs.Steps.Cut as CutStep
use Rattle.history.proofs.Steps.ListInduction.{step, next_sim, after_sim, after-append, clean_before, clean_first, begun_sim, formatted-now}
use Rattle.history.proofs.Relation.PlainAnswers.{LocalKind, powers, opens, local_kind, served-N}
use Rattle.history.proofs.Atomicity.ReadsBack.{found-closed, recovered_sim, recovered_mode, recovered_open, same_ledger, power-served}
use Rattle.history.proofs.Atomicity.Phases.{OtherPhase, Watch, short_is, not_short, short_serves, open_now, closed_watch}
use Rattle.history.proofs.Atomicity.ShortSyncs.{watch_list, short_plain}
use Rattle.history.proofs.Atomicity.Finished.{served_of, finished_opens, finished_empties}
use Rattle.history.proofs.Atomicity.Names.{Named, open_named, named_list, none_loose}
use Rattle.history.proofs.Atomicity.NeverDirect.{outcome_at, never_drawn, never_loose}
use Rattle.history.proofs.Atomicity.Photos.{photo-stands, any_one}
use Rattle.history.proofs.Atomicity.Loosened.{first-cut, first-N, first_loose, first-bytes, first_long}
use Rattle.history.proofs.Atomicity.Counts.{groups_counted}

-- ---- N never changes

module _ (geo : Geometry) where
  step-N : (c : Call) (f : Fed) (d : Plain) → (plain_step geo c f d).plain.N ≡ d.N
  step-N c f d = go (ℕ_discrete (refusal geo c d) 0)
    where
      go : Dec (refusal geo c d ≡ 0) → (plain_step geo c f d).plain.N ≡ d.N
      go (yes h) = ap (λ (o : Done). o.plain.N) (plain_served geo c f d h) ∙ served-N geo c f d
      go (no h) = ap (λ (o : Done). o.plain.N) (plain_refused geo c f d h)

  after-N : (cs : List Call) (w : World) → (after geo cs w).plain.N ≡ w.plain.N
  unfolding after next
  after-N [] w = refl
  after-N (c ∷ cs) w = after-N cs (next geo c w) ∙ step-N c (fed geo c w) w.plain

  -- ---- a fresh card is open

  begun_open : (st : State) → (format_call geo st).answer ≡ 0 → (begun geo st).store.rec.mode ≡ open_mode
  unfolding begun formatted
  begun_open st h = ap (λ (s : State). s.rec.mode) (formatted-now geo st h)

  ends_open : (st : State) → (format_call geo st).answer ≡ 0 → (a : List Call) → EndsFinished geo a (begun geo st) → (after geo a (begun geo st)).excepted ≡ false → (after geo a (begun geo st)).store.rec.mode ≡ open_mode
  unfolding after next
  ends_open st f a (◌⊎◌.inl e) x = ap (λ (l : List Call). (after geo l (begun geo st)).store.rec.mode) e ∙ begun_open st f
  ends_open st f a (◌⊎◌.inr e) x =
      let b = e.0 in
      let c = e.1 in
      let same : after geo a (begun geo st) ≡ next geo c (after geo b (begun geo st)) = ap (λ (l : List Call). after geo l (begun geo st)) e.2 ∙ after-append geo b (c ∷ []) (begun geo st) in
      let clean : (after geo b (begun geo st)).excepted ≡ false = clean_before geo (c ∷ []) (after geo b (begun geo st)) (ap (λ (w : World). w.excepted) (sym same) ∙ x) in
      ap (λ (w : World). w.store.rec.mode) same ∙ finished_opens geo c (after geo b (begun geo st)) (after_sim geo b (begun geo st) (begun_sim geo st f) clean) e.3

  -- and nothing waits there
  ends_empty : (st : State) → (format_call geo st).answer ≡ 0 → (a : List Call) → EndsFinished geo a (begun geo st) → (after geo a (begun geo st)).excepted ≡ false → (after geo a (begun geo st)).plain.writes ≡ []
  unfolding after next begun fresh
  ends_empty st f a (◌⊎◌.inl e) x = ap (λ (l : List Call). (after geo l (begun geo st)).plain.writes) e
  ends_empty st f a (◌⊎◌.inr e) x =
      let b = e.0 in
      let c = e.1 in
      let same : after geo a (begun geo st) ≡ next geo c (after geo b (begun geo st)) = ap (λ (l : List Call). after geo l (begun geo st)) e.2 ∙ after-append geo b (c ∷ []) (begun geo st) in
      let clean : (after geo b (begun geo st)).excepted ≡ false = clean_before geo (c ∷ []) (after geo b (begun geo st)) (ap (λ (w : World). w.excepted) (sym same) ∙ x) in
      ap (λ (w : World). w.plain.writes) same ∙ finished_empties geo c (after geo b (begun geo st)) (after_sim geo b (begun geo st) (begun_sim geo st f) clean) e.3

  -- ---- at most one sync is cut short

  -- a record that is not open is opened by a finished recovery alone
  shut-recover : (w : World) → WorldSim geo w → refusal geo recover w.plain ≡ 0 → S.finished geo recover w ≡ false → (store_next geo recover w).rec.mode ≢ open_mode
  unfolding S.finished
  shut-recover w m h nf e = go w.plain.F refl (dec_le 2 w.plain.power)
    where
      P : plain_step geo recover (fed geo recover w) w.plain ≡ plain_recover geo (fed geo recover w).found w.plain
      P = plain_served geo recover (fed geo recover w) w.plain h

      not_zero : (plain_recover geo (fed geo recover w).found w.plain).answer ≡ 0 → ⊥
      not_zero q = true≢false (sym (eq-eqb _ 0 ((step geo recover w m).agrees.answer ∙ ap (λ (d : Done). d.answer) P ∙ q)) ∙ nf)

      go : (t : Bool) → w.plain.F ≡ t → Dec (2 ≤ w.plain.power) → ⊥
      go false f q = not_zero (ap (λ (d : Done). d.answer) (PlainLaws.recover_whole geo (fed geo recover w).found w.plain f))
      go true f (yes q) = not_zero (ap (λ (d : Done). d.answer) (PlainLaws.recover_fallback geo (fed geo recover w).found w.plain f q))
      go true f (no q) =
          let k : ◌≡◌ {A = ℕ} 2 1 = sym ((step geo recover w m).agrees.mode ∙ ap (λ (d : Done). d.plain.mode) (P ∙ PlainLaws.recover-short geo (fed geo recover w).found w.plain f (omega arith))) ∙ e in
          omega arith

  local_shut : (c : Local) (w : World) → LocalKind geo c → WorldSim geo w → w.store.rec.mode ≢ open_mode → refusal geo (local c) w.plain ≡ 0 → (store_next geo (local c) w).rec.mode ≢ open_mode
  local_shut c w (powers k) m z h e = z (sym (ap (λ (o : Outcome). o.state.rec.mode) (power-served geo k w m)) ∙ e)
  local_shut c w (opens _ n s) m z h e = z (open_now geo (local c) w m n h).mode

  served-shut : (c : Call) (w : World) → WorldSim geo w → w.store.rec.mode ≢ open_mode → S.finished geo c w ≡ false → refusal geo c w.plain ≡ 0 → (store_next geo c w).rec.mode ≢ open_mode
  served-shut (local c) w m z nf h e = local_shut c w (local_kind geo c) m z h e
  served-shut (direct a b) w m z nf h e = z (open_now geo (direct a b) w m refl h).mode
  served-shut (save Save.sync) w m z nf h e = z (open_now geo sync w m refl h).mode
  served-shut (save Save.apply) w m z nf h e = z (open_now geo apply w m refl h).mode
  served-shut (save Save.recover) w m z nf h e = shut-recover w m h nf e
  served-shut (cut ms) w m z nf h e = let k : ◌≡◌ {A = ℕ} 0 1 = sym (ap (λ (s : State). s.rec.mode) (CutStep.store_cut geo ms w m h)) ∙ e in omega arith

  stays_shut : (c : Call) (w : World) → WorldSim geo w → w.store.rec.mode ≢ open_mode → S.finished geo c w ≡ false → (store_next geo c w).rec.mode ≢ open_mode
  stays_shut c w m z nf = go (ℕ_discrete (refusal geo c w.plain) 0)
    where
      go : Dec (refusal geo c w.plain ≡ 0) → (store_next geo c w).rec.mode ≢ open_mode
      go (yes h) = λ e. served-shut c w m z nf h e
      go (no h) = λ e.
          let k : cause geo (request_of c) w.store ≢ 0 = λ q. h (sym (same-cause geo w.store w.ledger w.plain m c) ∙ q) in
          z (sym (ap (λ (o : Outcome). o.state.rec.mode) (dispatch-refused geo c w.store k)) ∙ e)

  shut-short : (c : Call) (w : World) → w.store.rec.mode ≢ open_mode → short_sync geo c w ≡ false
  shut-short c w z = not_short geo c w (λ e o. z o)

  count_shut : (cs : List Call) (w : World) → WorldSim geo w → w.store.rec.mode ≢ open_mode → none_finished geo cs w ≡ true → (after geo cs w).excepted ≡ false → count_short geo cs w ≡ 0
  unfolding after next none_finished count_short
  count_shut [] w m z n e = refl
  count_shut (c ∷ cs) w m z n e =
      let p = both (not (S.finished geo c w)) (none_finished geo cs (next geo c w)) n in
      let r = count_shut cs (next geo c w) (next_sim geo c w m (clean_first geo c cs w e)) (stays_shut c w m z (not-true _ p.0)) p.1 e in
      ap₂ (λ (t : Bool) (k : ℕ). cond t 1 0 + k) (shut-short c w z) r

  -- a sync that is cut short leaves the record down
  short-down : (c : Call) (w : World) → WorldSim geo w → S.finished geo c w ≡ false → short_sync geo c w ≡ true → (store_next geo c w).rec.mode ≢ open_mode
  short-down c w m nf h e =
      let s = short_is geo c w h in
      let r : refusal geo sync w.plain ≡ 0 = short_serves geo w m s.mode s.answer in
      let f : S.finished geo sync w ≡ false = ap (λ (x : Call). S.finished geo x w) (sym s.is) ∙ nf in
      let o : (store_next geo sync w).rec.mode ≡ open_mode = ap (λ (x : Call). (store_next geo x w).rec.mode) (sym s.is) ∙ e in
      let k : ◌≡◌ {A = ℕ} 2 1 = sym ((step geo sync w m).agrees.mode ∙ ap (λ (x : Done). x.plain.mode) (short_plain geo w m r f)) ∙ o in
      omega arith

  count_one : (cs : List Call) (w : World) → WorldSim geo w → none_finished geo cs w ≡ true → (after geo cs w).excepted ≡ false → count_short geo cs w ≤ 1
  unfolding after next none_finished count_short
  count_one [] w m n e = omega arith
  count_one (c ∷ cs) w m n e =
      let p = both (not (S.finished geo c w)) (none_finished geo cs (next geo c w)) n in
      let m' = next_sim geo c w m (clean_first geo c cs w e) in
      go (short_sync geo c w) refl (count_one cs (next geo c w) m' p.1 e) (λ s. count_shut cs (next geo c w) m' (short-down c w m (not-true _ p.0) s) p.1 e)
    where
      go : (t : Bool) → short_sync geo c w ≡ t → count_short geo cs (next geo c w) ≤ 1 → (short_sync geo c w ≡ true → count_short geo cs (next geo c w) ≡ 0) → cond (short_sync geo c w) 1 0 + count_short geo cs (next geo c w) ≤ 1
      go true q a b = let z = b q in rw q (omega arith)
      go false q a b = rw q (omega arith)

  -- ---- the disk found

  module _ (w : World) (m : WorldSim geo w) (h : (dispatch geo recover w.store).answer ≡ 0) where
    -- right after the recovery
    abbrev v : World
    v = record { store = store_next geo recover w; ledger = ledger_next geo recover w; plain = plain_next geo recover w; excepted = false }

    sim : WorldSim geo v
    sim = recovered_sim geo w m h

    r : refusal geo recover w.plain ≡ 0
    r = served_of geo recover w m h

    plain_is : plain_next geo recover w ≡ (plain_recover geo (fed geo recover w).found w.plain).plain
    plain_is = ap (λ (o : Done). o.plain) (plain_served geo recover (fed geo recover w) w.plain r)

    mode_is : (plain_next geo recover w).mode ≡ 1
    mode_is = sim.basics.mirrors.mode ∙ recovered_mode geo w m h

    get-served : (N x : ℕ) → N ≡ w.plain.N → is_data geo N x ≡ true → refusal geo (get x) (plain_next geo recover w) ≡ 0
    unfolding refusal
    get-served N x e q =
        let k : (plain_next geo recover w).N ≡ N = step-N recover (fed geo recover w) w.plain ∙ sym e in
        let t : is_data geo (plain_next geo recover w).N x ≡ true = ap (λ (y : ℕ). is_data geo y x) k ∙ q in
        rw (ne_eqb (plain_next geo recover w).mode 0 (λ z. omega (arith, mode_is)), ne_eqb (plain_next geo recover w).mode 2 (λ z. omega (arith, mode_is)), t)

    abbrev found : Disk
    found = (fed geo recover w).found

    -- what it makes of the plain disk
    recovered_is : (k : ℕ) × (plain_recover geo found w.plain ≡ Plain.done k (Plain.recovered k found w.plain))
    recovered_is = go w.plain.F refl (dec_le 2 w.plain.power)
      where
        go : (t : Bool) → w.plain.F ≡ t → Dec (2 ≤ w.plain.power) → (k : ℕ) × (plain_recover geo found w.plain ≡ Plain.done k (Plain.recovered k found w.plain))
        go false f q = (0, PlainLaws.recover_whole geo found w.plain f)
        go true f (yes q) = (2, PlainLaws.recover_fallback geo found w.plain f q)
        go true f (no q) =
            let P = plain_served geo recover (fed geo recover w) w.plain r ∙ PlainLaws.recover-short geo found w.plain f (omega arith) in
            absurd (let k : ◌≡◌ {A = ℕ} 4 0 = sym (ap (λ (o : Done). o.answer) P) ∙ sym (step geo recover w m).agrees.answer ∙ h in omega arith)

    plain-now : plain_next geo recover w ≡ Plain.recovered recovered_is.0 found w.plain
    plain-now = plain_is ∙ ap (λ (o : Done). o.plain) recovered_is.1

    -- a get then shows S, as it takes what is found
    plain-get : (x : ℕ) → plain_get x (plain_next geo recover w) ≡ (plain_next geo recover w).S.disk x
    unfolding plain_get
    plain-get x =
        let c = found-closed geo w m h in
        let T : (plain_next geo recover w).T ≡ [] = ap (λ (d : Plain). d.T) plain-now ∙ c.T in
        let G : (plain_next geo recover w).G ≡ [] = ap (λ (d : Plain). d.G) plain-now ∙ c.G in
        (λ i. overlay (T i) (overlay (G i) (plain_next geo recover w).S.disk) x)
        ∙ ap (λ (f : Disk). f x) (overlay_nil (overlay [] (plain_next geo recover w).S.disk) ∙ overlay_nil (plain_next geo recover w).S.disk)

    -- the number found
    pub found_number : number_found geo w ≡ w.plain.S.groups
    found_number = (step geo recover w m).agrees.save (recovered_mode geo w m h) ∙ ap (λ (d : Plain). d.S.groups) plain-now

    -- a get is answered
    pub shows_S : (N x : ℕ) → N ≡ w.plain.N → is_data geo N x ≡ true → S.Shows geo (store_next geo recover w) x ((plain_next geo recover w).S.disk x)
    shows_S N x e q =
        let a = (step geo (get x) v sim).agrees in
        let z : (dispatch geo (get x) (store_next geo recover w)).answer ≡ 0 =
        a.answer ∙ ap (λ (o : Done). o.answer) (plain_served geo (get x) (fed geo (get x) v) (plain_next geo recover w) (get-served N x e q)) in
        (z, a.block x refl z ∙ plain-get x)

    -- a block that is not loose is S's
    pub firm_found : (x : ℕ) → among x w.plain.loose ≡ false → (plain_next geo recover w).S.disk x ≡ w.plain.S.disk x
    firm_found x z = ap (λ (d : Plain). d.S.disk x) plain-now ∙ ap (λ (t : Bool). cond t (found x) (w.plain.S.disk x)) z

    -- the log's addresses are those that the plain disk has
    pub log-found : addresses (entries geo (store_next geo recover w).settled (store_next geo recover w).rec.logged) ≡ w.plain.log
    log-found = (step geo recover w m).agrees.log (recovered_mode geo w m h) ∙ ap (λ (d : Plain). d.log) plain-now

    -- a block that the log lacks is the home block
    pub home_found : (x : ℕ) → is_data geo w.store.rec.blocks x ≡ true → among x w.plain.log ≡ false → (plain_next geo recover w).S.disk x ≡ block_at (store_next geo recover w).settled x
    unfolding overlay
    home_found x q i =
        let o = recovered_open geo w m h in
        let N : (store_next geo recover w).rec.blocks ≡ w.store.rec.blocks = sym sim.basics.mirrors.N ∙ step-N recover (fed geo recover w) w.plain ∙ m.basics.mirrors.N in
        let none : queue (card_in (store_next geo recover w)) ≡ [] =
        no_queue (card_in (store_next geo recover w)) (sym sim.basics.mirrors.waiting ∙ ap (λ (d : Plain). d.waiting) plain-now ∙ m.basics.mirrors.waiting ∙ idle geo w.store (record_facts geo w.store m.basics.counts) (found-closed geo w m h).mode) in
        Facts.open_disk geo (store_next geo recover w) (ledger_next geo recover w) (plain_next geo recover w) sim.basics o x (ap (λ (k : ℕ). is_data geo k x) N ∙ q)
        ∙ overlay_other (Facts.log geo (store_next geo recover w) (ledger_next geo recover w) (plain_next geo recover w) sim.basics o) _ x
        (firm_besides x (Facts.log geo (store_next geo recover w) (ledger_next geo recover w) (plain_next geo recover w) sim.basics o)
        (ap (λ (l : List Entry). among x (addresses l)) (sym (Facts.entries-log geo (store_next geo recover w) (ledger_next geo recover w) (plain_next geo recover w) sim.basics o)) ∙ ap (among x) log-found ∙ i))
        ∙ ap (λ (l : List Entry). overlay l (block_at (store_next geo recover w).settled) x) none

    -- a block that the end of the log has
    pub logged_found : (L G : List Entry) (D : Disk) (x : ℕ) → is_data geo w.store.rec.blocks x ≡ true → w.plain.F ≡ false → w.ledger.written ≡ L ++ G → among x (addresses G) ≡ true
        → (plain_next geo recover w).S.disk x ≡ overlay G D x
    logged_found L G D x q f e i =
        let o = recovered_open geo w m h in
        let N : (store_next geo recover w).rec.blocks ≡ w.store.rec.blocks = sym sim.basics.mirrors.N ∙ step-N recover (fed geo recover w) w.plain ∙ m.basics.mirrors.N in
        let list : Facts.log geo (store_next geo recover w) (ledger_next geo recover w) (plain_next geo recover w) sim.basics o ≡ L ++ G =
        sym (Facts.written_is geo (store_next geo recover w) (ledger_next geo recover w) (plain_next geo recover w) sim.basics o) ∙ ap (λ (l : Ledger). l.written) (same_ledger geo w m h f) ∙ e in
        Facts.open_disk geo (store_next geo recover w) (ledger_next geo recover w) (plain_next geo recover w) sim.basics o x (ap (λ (k : ℕ). is_data geo k x) N ∙ q)
        ∙ ap (λ (l : List Entry). overlay l (overlay (queue (card_in (store_next geo recover w))) (block_at (store_next geo recover w).settled)) x) list
        ∙ ap (λ (d : Disk). d x) (overlay-append L G _)
        ∙ overlay_cover G _ D x (λ off. absurd (true≢false (sym i ∙ besides_firm x G off)))

  -- ---- a reading of the list: what is said of an a that ends in a finished sync or recovery, and a b that holds none

  pub record SplitReading (st : State) (a b : List Call) : Type 0 where
    pub one : count_short geo b (after geo a (begun geo st)) ≤ 1
    pub end : Fate
    pub fated : fate geo b (after geo a (begun geo st)) (known quiet) ≡ known end
    pub found : S.FoundIs geo (λ x. (among x (after geo b (after geo a (begun geo st))).plain.loose ≡ false) ⊎ (S.new_has end x ≡ true)) (blocks_in st.settled) (store_next geo recover (after geo b (after geo a (begun geo st))))
        (outcome end (S.drawn_over geo b (after geo a (begun geo st)) (after geo a (begun geo st)).plain.S)).disk
    pub loosened : (x : ℕ) → is_data geo (blocks_in st.settled) x ≡ true → among x (after geo b (after geo a (begun geo st))).plain.loose ≡ true → S.new_has end x ≡ false
        → S.Loosened geo (store_next geo recover (after geo b (after geo a (begun geo st)))) b (after geo a (begun geo st)) x
    pub logged : (x : ℕ) → among x (after geo b (after geo a (begun geo st))).plain.loose ≡ true
        → among x (addresses (entries geo (store_next geo recover (after geo b (after geo a (begun geo st)))).settled (store_next geo recover (after geo b (after geo a (begun geo st)))).rec.logged)) ≡ S.new_has end x
    pub never : S.FoundIs geo (λ x. S.never_direct geo x b (after geo a (begun geo st)) ≡ true) (blocks_in st.settled) (store_next geo recover (after geo b (after geo a (begun geo st)))) (outcome end (after geo a (begun geo st)).plain.S).disk
    pub number : number_found geo (after geo b (after geo a (begun geo st))) ≡ (outcome end (after geo a (begun geo st)).plain.S).groups
    pub whole : WholeIsNew end

  -- no group is laid by direct writes
  drawn_groups : (cs : List Call) (w : World) (T : Laid) → (S.drawn_over geo cs w T).groups ≡ T.groups
  unfolding S.drawn_over
  drawn_groups [] w T = refl
  drawn_groups (c ∷ cs) w T = drawn_groups cs (next geo c w) (S.drawn_by geo c w T) ∙ one (S.direct_done geo c w) c
    where
      one : (t : Bool) (c : Call) → (cond t (S.on_direct geo c (λ e. Plain.drawn e T) T) T).groups ≡ T.groups
      one false c = refl
      one true (local c) = refl
      one true (direct a b) = refl
      one true (save c) = refl
      one true (cut ms) = refl

  outcome_groups : (f : Fate) (S T : Laid) → S.groups ≡ T.groups → (outcome f S).groups ≡ (outcome f T).groups
  outcome_groups quiet S T e = e
  outcome_groups (decided G true all) S T e = ap (λ (k : ℕ). k + 1) e
  outcome_groups (decided G false all) S T e = e

  pub split_reading : (st : State) → (format_call geo st).answer ≡ 0 → (a b : List Call) → EndsFinished geo a (begun geo st) → none_finished geo b (after geo a (begun geo st)) ≡ true
      → (dispatch geo recover (after geo b (after geo a (begun geo st))).store).answer ≡ 0 → (after geo b (after geo a (begun geo st))).excepted ≡ false → SplitReading st a b
  unfolding begun fresh among
  split_reading st f a b ends none h x =
      let clean : (after geo a (begun geo st)).excepted ≡ false = clean_before geo b (after geo a (begun geo st)) x in
      let m : WorldSim geo (after geo a (begun geo st)) = after_sim geo a (begun geo st) (begun_sim geo st f) clean in
      let start : Watch geo (after geo a (begun geo st)).plain.S (known quiet) (after geo a (begun geo st)).store (after geo a (begun geo st)).ledger (after geo a (begun geo st)).plain =
      ◌⊎◌.inl (record { mode = ends_open st f a ends clean; S = refl }) in
      let last = watch_list geo (after geo a (begun geo st)).plain.S b (after geo a (begun geo st)) (known quiet) m none x start in
      let o = closed_watch geo old (fate geo b (after geo a (begun geo st)) (known quiet)) (after geo b (after geo a (begun geo st))).store (after geo b (after geo a (begun geo st))).ledger (after geo b (after geo a (begun geo st))).plain last
      (found-closed geo w (after_sim geo b (after geo a (begun geo st)) m x) h).mode in
      let m' : WorldSim geo w = after_sim geo b (after geo a (begun geo st)) m x in
      let N : blocks_in st.settled ≡ w.plain.N = sym (after-N b (after geo a (begun geo st)) ∙ after-N a (begun geo st)) in
      record {
        one = count_one b (after geo a (begun geo st)) m none x;
        end = o.end;
        fated = o.fated;
        found = λ y d z. let s = shows_S w m' h (blocks_in st.settled) y N d in (s.0, s.1 ∙ by m' o.end o.phase y (rw (N ∙ m'.basics.mirrors.N) at d) z);
        loosened = λ y d z n. loose_found m m' none x (ends_open st f a ends clean) (ends_empty st f a ends clean) (rw (N ∙ m'.basics.mirrors.N) at d) z (log-now m' o.end y (names m (ends_open st f a ends clean) none x start o.fated) z ∙ n) (shows_S w m' h (blocks_in st.settled) y N d);
        logged = λ y z. ap (among y) (log-found w m' h) ∙ log-now m' o.end y (names m (ends_open st f a ends clean) none x start o.fated) z;
        never = λ y d n.
            let s = shows_S w m' h (blocks_in st.settled) y N d in
            let free : among y w.plain.loose ≡ false = never_loose geo y b (after geo a (begun geo st)) m x n (nothing_free m (ends_open st f a ends clean) (ends_empty st f a ends clean) y) in
            (s.0, s.1 ∙ by m' o.end o.phase y (rw (N ∙ m'.basics.mirrors.N) at d) (◌⊎◌.inl free) ∙ outcome_at o.end old (after geo a (begun geo st)).plain.S y (never_drawn geo y b (after geo a (begun geo st)) (after geo a (begun geo st)).plain.S n));
        number = found_number w m' h ∙ ap (λ (S : Laid). S.groups) o.phase.S ∙ outcome_groups o.end old (after geo a (begun geo st)).plain.S (drawn_groups b (after geo a (begun geo st)) (after geo a (begun geo st)).plain.S);
        whole = o.phase.whole;
      }
    where
      w : World
      w = after geo b (after geo a (begun geo st))

      old : Laid
      old = S.drawn_over geo b (after geo a (begun geo st)) (after geo a (begun geo st)).plain.S

      w₀ : World
      w₀ = after geo a (begun geo st)

      -- nothing waits and nothing is loose where a ends
      nothing_free : WorldSim geo w₀ → w₀.store.rec.mode ≡ open_mode → w₀.plain.writes ≡ [] → (y : ℕ) → (among y w₀.plain.writes ≡ false) × (among y w₀.plain.loose ≡ false)
      nothing_free m i e y = (ap (among y) e, ap (among y) (none_loose geo w₀ m i))

      names : (m : WorldSim geo w₀) → w₀.store.rec.mode ≡ open_mode → none_finished geo b w₀ ≡ true → w.excepted ≡ false → Watch geo w₀.plain.S (known quiet) w₀.store w₀.ledger w₀.plain → {end : Fate} → fate geo b w₀ (known quiet) ≡ known end → Named geo (known end) w.plain
      names m i n x p e = subst (λ (g : Progress). Named geo g w.plain) e (named_list geo w₀.plain.S b w₀ (known quiet) m n x p (open_named geo (known quiet) w₀ m i w₀.plain.S p))

      log-now : WorldSim geo w → (end : Fate) (y : ℕ) → Named geo (known end) w.plain → among y w.plain.loose ≡ true → among y w.plain.log ≡ S.new_has end y
      log-now m' end y n z = n y (ap (λ (l : List ℕ). among y (l ++ w.plain.loose)) (found-closed geo w m' h).writes ∙ z)

      loose_found : (m : WorldSim geo w₀) (m' : WorldSim geo w) → none_finished geo b w₀ ≡ true → w.excepted ≡ false → w₀.store.rec.mode ≡ open_mode → w₀.plain.writes ≡ [] → {y : ℕ} → is_data geo w.store.rec.blocks y ≡ true
          → among y w.plain.loose ≡ true → among y w.plain.log ≡ false → S.Shows geo (store_next geo recover w) y ((plain_next geo recover w).S.disk y) → S.Loosened geo (store_next geo recover w) b w₀ y
      loose_found m m' n x i e {y} d z l s =
          let c = first-cut geo b w₀ m (λ q. omega (arith, i)) x (found-closed geo w m' h).mode in
          let d' : is_data geo (after geo c.before w₀).store.rec.blocks y ≡ true = ap (λ (k : ℕ). is_data geo k y) (sym (first-N geo b w₀ c m n x)) ∙ d in
          let block : block_of geo y (store_next geo recover w) ≡ block_at (store_next geo recover w).settled y = s.1 ∙ home_found w m' h y d l in
          let waited : among y (after geo c.before w₀).plain.writes ≡ true = sym (first_loose geo b w₀ c m n x (none_loose geo w₀ m i) y) ∙ z in
          let clean : (after geo c.before w₀).excepted ≡ false =
          clean_before geo (cut c.ms ∷ c.behind) (after geo c.before w₀) (ap (λ (v : World). v.excepted) (sym (after-append geo c.before (cut c.ms ∷ c.behind) w₀) ∙ ap (λ (k : List Call). after geo k w₀) (sym c.split)) ∙ x) in
          let p = photo-stands geo y c.before w₀ m e clean waited in
          record {
            before = c.before;
            ms = c.ms;
            behind = c.behind;
            split = c.split;
            uncut = c.uncut;
            accepted = c.accepted;
            waited = waited;
            settled = p.before;
            queued = p.blocks;
            answer = s.0;
            size = ap length block ∙ first_long geo b w₀ c m n x h y d';
            bytes = λ j k. one_byte y j c.before p.before p.blocks (subst (λ (t : List ℕ). (get_or t j 0 ≡ get_or (block_at (after geo c.before w₀).store.settled y) j 0) ⊎ Any (λ e. (e.address ≡ y) × (get_or t j 0 ≡ get_or e.block j 0)) (queue (card_in (after geo c.before w₀).store))) (sym block) (first-bytes geo b w₀ c m n x h y d' j k));
          }
        where
          one_byte : (y j : ℕ) (before : List Call) → block_at (after geo before w₀).store.settled y ≡ (S.photo geo y before w₀ S.no_photo).before → S.blocks_to y (queue (card_in (after geo before w₀).store)) ≡ (S.photo geo y before w₀ S.no_photo).blocks → {t : ℕ}
              → (t ≡ get_or (block_at (after geo before w₀).store.settled y) j 0) ⊎ Any (λ e. (e.address ≡ y) × (t ≡ get_or e.block j 0)) (queue (card_in (after geo before w₀).store)) → S.OneOf j t (S.photo geo y before w₀ S.no_photo)
          one_byte y j before p q (◌⊎◌.inl u) = ◌⊎◌.inl (u ∙ ap (λ (b : List ℕ). get_or b j 0) p)
          one_byte y j before p q {t} (◌⊎◌.inr u) = ◌⊎◌.inr (subst (λ (bs : List (List ℕ)). (i : ℕ) × (i < length bs) × (t ≡ get_or (get_or bs i []) j 0)) q (any_one y j t (queue (card_in (after geo before w₀).store)) u))

      by : (m' : WorldSim geo w) (end : Fate) → OtherPhase geo old end w.store w.ledger w.plain → (y : ℕ) → is_data geo w.store.rec.blocks y ≡ true
          → (among y w.plain.loose ≡ false) ⊎ (S.new_has end y ≡ true) → (plain_next geo recover w).S.disk y ≡ (outcome end old).disk y
      by m' end p y d (◌⊎◌.inl z) = firm_found w m' h y z ∙ ap (λ (S : Laid). S.disk y) p.S
      by m' quiet p y d (◌⊎◌.inr z) = absurd (true≢false (sym z))
      by m' (decided G true all) p y d (◌⊎◌.inr z) = let l = p.log refl in logged_found w m' h l.0 G old.disk y d l.3 l.1 z
      by m' (decided G false all) p y d (◌⊎◌.inr z) = absurd (true≢false (sym z))

  -- ---- every list has one

  record Split (cs : List Call) (w : World) : Type 0 where
    a : List Call
    b : List Call
    same : cs ≡ a ++ b
    ends : EndsFinished geo a w
    none : none_finished geo b (after geo a w) ≡ true

  -- one call more in front
  split_cons : (c : Call) (cs : List Call) (w : World) → Split cs (next geo c w) → Split (c ∷ cs) w
  unfolding after none_finished
  split_cons c cs w s = go s.ends
    where
      alone : (t : Bool) → S.finished geo c w ≡ t → s.a ≡ [] → Split (c ∷ cs) w
      alone true p e = record {
        a = c ∷ [];
        b = s.b;
        same = ap (λ (l : List Call). c ∷ l) (s.same ∙ ap (λ (l : List Call). l ++ s.b) e);
        ends = ◌⊎◌.inr ([], c, refl, p);
        none = ap (λ (l : List Call). none_finished geo s.b (after geo l (next geo c w))) (sym e) ∙ s.none;
      }
      alone false p e = record {
        a = [];
        b = c ∷ s.b;
        same = ap (λ (l : List Call). c ∷ l) (s.same ∙ ap (λ (l : List Call). l ++ s.b) e);
        ends = ◌⊎◌.inl refl;
        none = rw p (ap (λ (l : List Call). none_finished geo s.b (after geo l (next geo c w))) (sym e) ∙ s.none);
      }

      go : EndsFinished geo s.a (next geo c w) → Split (c ∷ cs) w
      go (◌⊎◌.inl e) = alone (S.finished geo c w) refl e
      go (◌⊎◌.inr e) = record {
        a = c ∷ s.a;
        b = s.b;
        same = ap (λ (l : List Call). c ∷ l) s.same;
        ends = ◌⊎◌.inr (c ∷ e.0, e.1, ap (λ (l : List Call). c ∷ l) e.2, e.3);
        none = s.none;
      }

  split : (cs : List Call) (w : World) → Split cs w
  unfolding after none_finished
  split [] w = record { a = []; b = []; same = refl; ends = ◌⊎◌.inl refl; none = refl }
  split (c ∷ cs) w = split_cons c cs w (split cs (next geo c w))

  -- ---- the number found

  pub found_counted : (st : State) → (format_call geo st).answer ≡ 0 → (cs : List Call) → (dispatch geo recover (after geo cs (begun geo st)).store).answer ≡ 0 → (after geo cs (begun geo st)).excepted ≡ false
      → number_found geo (after geo cs (begun geo st)) ≡ groups_laid geo cs (begun geo st) (known quiet)
  unfolding begun fresh
  found_counted st f cs h x =
      let m : WorldSim geo (after geo cs (begun geo st)) = after_sim geo cs (begun geo st) (begun_sim geo st f) x in
      found_number (after geo cs (begun geo st)) m h
      ∙ groups_counted geo cs (begun geo st) (known quiet) (begun_sim geo st f) x ((begun geo st).plain.S, ◌⊎◌.inl (record { mode = begun_open st f; S = refl }))
      ∙ zero-add _

  begun_free : (st : State) (x : ℕ) → (among x (begun geo st).plain.writes ≡ false) × (among x (begun geo st).plain.loose ≡ false)
  unfolding begun fresh among
  begun_free st x = (refl, refl)

  -- ---- the theorem

  pub crash_atomicity : CrashAtomicity geo
  crash_atomicity st f cs h x =
      let s = split cs (begun geo st) in
      let same : after geo cs (begun geo st) ≡ after geo s.b (after geo s.a (begun geo st)) = ap (λ (l : List Call). after geo l (begun geo st)) s.same ∙ after-append geo s.a s.b (begun geo st) in
      let r = split_reading st f s.a s.b s.ends s.none
      (ap (λ (w : World). (dispatch geo recover w.store).answer) (sym same) ∙ h)
      (ap (λ (w : World). w.excepted) (sym same) ∙ x) in
      record {
        a = s.a;
        b = s.b;
        split = s.same;
        ends = s.ends;
        none = s.none;
        one = r.one;
        end = r.end;
        fated = r.fated;
        found = subst (λ (w : World). S.FoundIs geo (λ y. (among y w.plain.loose ≡ false) ⊎ (S.new_has r.end y ≡ true)) (blocks_in st.settled) (store_next geo recover w)
            (outcome r.end (S.drawn_over geo s.b (after geo s.a (begun geo st)) (after geo s.a (begun geo st)).plain.S)).disk) (sym same) r.found;
        loosened = λ y d z n.
            subst (λ (w : World). S.Loosened geo (store_next geo recover w) s.b (after geo s.a (begun geo st)) y) (sym same) (r.loosened y d (ap (λ (w : World). among y w.plain.loose) (sym same) ∙ z) n);
        logged = λ y d z.
            ap (λ (w : World). among y (addresses (entries geo (store_next geo recover w).settled (store_next geo recover w).rec.logged))) same ∙ r.logged y (ap (λ (w : World). among y w.plain.loose) (sym same) ∙ z);
        unfed = λ y n. never_loose geo y cs (begun geo st) (begun_sim geo st f) x n (begun_free st y);
        never = subst (λ (w : World). S.FoundIs geo (λ y. S.never_direct geo y s.b (after geo s.a (begun geo st)) ≡ true) (blocks_in st.settled) (store_next geo recover w) (outcome r.end (after geo s.a (begun geo st)).plain.S).disk) (sym same) r.never;
        whole = r.whole;
        number = ap (number_found geo) same ∙ r.number;
        counted = found_counted st f cs h x;
      }
