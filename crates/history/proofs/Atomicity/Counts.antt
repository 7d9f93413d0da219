-- The groups laid, counted along a list of calls, are those that the plain disk counts.
use Prim.Native.Nat.{ℕ, ◌+◌}
use mathlib.Core.Path.{◌≡◌, refl, ap, ap₂, subst, sym, ◌∙◌}
use mathlib.Core.Logic.{◌≢◌, ◌⊎◌}
use mathlib.Core.Bool.{Bool, true, false, cond, not, ◌&&◌, ◌||◌, and-false}
use mathlib.Core.List.{List, [], ◌∷◌}
use native.Mathlib.Omega.{arith}
use native.Mathlib.Nat.{add-zero}
use native.Mathlib.Decide.{ℕ_discrete}
use borrow.Author.Tests.{eq-eqb, ne_eqb, eqb-true}
use lib.Dec.{eqb}
use lib.ListN.{length}
use Rattle.cells.specs.Entry.{Entry}
use Rattle.card.specs.Marks.{kept_at}
use Rattle.journal.specs.Geometry.{Geometry}
use Rattle.crash.specs.Laid.{Laid, lay_over}
use Rattle.store.specs.Local.{Local}
use Rattle.store.specs.Save.{Save}
use Rattle.store.specs.Saves.{group_of}
use Rattle.history.specs.Call.{Call, local, direct, save, cut, sync, apply, recover}
use Rattle.history.specs.Plain.{Plain, Done, refusal, plain_sync, locally, served}
use Rattle.history.specs.Dispatch.{dispatch}
use Rattle.history.specs.Ledger.{waiting_met}
use Rattle.history.specs.History.{World, next, after, fed}
use Rattle.history.specs.Statements as S
use Rattle.history.specs.Statements.{quiet, decided, Progress, known, undecided, observe, outcome, short_sync, headed, still_undecided, made_new, saved, groups_laid}
use Rattle.history.proofs.Relation.PlainLaws as PlainLaws
use Rattle.history.proofs.Relation.PlainAnswers.{sync-cases, direct_cases, LocalKind, powers, opens, local_kind}
use Rattle.history.proofs.Relation.OpenFacts as Facts
use Rattle.history.proofs.Steps.Shown.{plain_next, WorldSim, plain_refused, plain_served}
use Rattle.history.proofs.Steps.ListInduction.{step, next_sim, clean_first}
use Rattle.history.proofs.Atomicity.ReadsBack.{found-closed}
use Rattle.history.proofs.Atomicity.Phases.{header_place, Watch, short_is, observe-refused, open_now, open_watch, planned}
use Rattle.history.proofs.Atomicity.ShortSyncs.{recover-same, cut-found, cut_plain, cut_observed, open_lays_none, watch_step}
use Rattle.history.proofs.Atomicity.Finished.{served_of, finished_opens}

-- ---- what a call lays

-- a group, or none
laid_groups : (t : Bool) (G : List Entry) (S : Laid) → (cond t (lay_over G S) S).groups ≡ S.groups + cond t 1 0
laid_groups true G S = refl
laid_groups false G S = sym (add-zero S.groups)

module _ (geo : Geometry) where
  -- what is watched, whatever S was when it began
  abbrev Watched : Progress → World → Type 0
  Watched f w = (old : Laid) × Watch geo old f w.store w.ledger w.plain

  -- what is decided is watched no longer
  forget : (f : Progress) (w : World) → Watched f w → Watched (still_undecided f) w
  forget (known quiet) w x = x
  forget (known (decided G laid all)) w x =
      let old = outcome (decided G laid all) x.0 in
      let rest : Watch geo old (known quiet) w.store w.ledger w.plain = ◌⊎◌.inr (record { mode = x.1.mode; S = x.1.S; laid = x.1.laid; whole = tt; log = tt }) in
      (old, rest)
  forget (undecided G place made) w x = x

  -- the call lays a group exactly if it is a finished sync of one, or a cut that made one new
  abbrev Counted : Call → World → Progress → Type 0
  Counted c w g = (plain_next geo c w).S.groups ≡ w.plain.S.groups + cond (saved geo c w || made_new (observe geo c w g)) 1 0

  counted : (c : Call) (w : World) (g : Progress) (t : Bool) → (plain_next geo c w).S.groups ≡ w.plain.S.groups + cond t 1 0 → t ≡ saved geo c w || made_new (observe geo c w g) → Counted c w g
  counted c w g t e q = e ∙ ap (λ (x : Bool). w.plain.S.groups + cond x 1 0) q

  none_counted : (c : Call) (w : World) (g : Progress) → (plain_next geo c w).S.groups ≡ w.plain.S.groups → saved geo c w ≡ false → made_new (observe geo c w g) ≡ false → Counted c w g
  none_counted c w g e s n =
      counted c w g false (e ∙ sym (add-zero w.plain.S.groups)) (sym (ap₂ (λ (a b : Bool). a || b) s n))

  -- ---- no call but a cut makes one new

  still_none : (f : Progress) → made_new (still_undecided f) ≡ false
  still_none (known f) = refl
  still_none (undecided G place made) = refl

  local_new : (c : Local) (w : World) (f : Progress) → made_new (observe geo (local c) w (still_undecided f)) ≡ false
  unfolding observe short_sync
  local_new c w (known f) = refl
  local_new c w (undecided G place made) = refl

  direct_new : (a : ℕ) (b : List ℕ) (w : World) (f : Progress) → made_new (observe geo (direct a b) w (still_undecided f)) ≡ false
  unfolding observe short_sync
  direct_new a b w (known f) = refl
  direct_new a b w (undecided G place made) = refl

  save_new : (c : Save) (w : World) (f : Progress) → made_new (observe geo (save c) w (still_undecided f)) ≡ false
  unfolding observe
  save_new c w (known f) = go (short_sync geo (save c) w)
    where
      go : (t : Bool) → made_new (cond t (undecided (group_of geo w.store) (waiting_met geo w.store) (headed geo w)) (known quiet)) ≡ false
      go true = refl
      go false = refl
  save_new c w (undecided G place made) = refl

  -- ---- a refused call

  refused-saved : (c : Call) (w : World) → WorldSim geo w → refusal geo c w.plain ≢ 0 → saved geo c w ≡ false
  unfolding saved S.finished
  refused-saved (local c) w m h = refl
  refused-saved (direct a b) w m h = refl
  refused-saved (save Save.sync) w m h =
      ap (λ (t : Bool). t && not (eqb w.store.rec.grouped 0)) (ne_eqb (dispatch geo sync w.store).answer 0 (λ e. h (served_of geo sync w m e)))
  refused-saved (save Save.apply) w m h = refl
  refused-saved (save Save.recover) w m h = refl
  refused-saved (cut ms) w m h = refl

  refused_counted : (c : Call) (w : World) (f : Progress) → WorldSim geo w → refusal geo c w.plain ≢ 0 → Counted c w (still_undecided f)
  refused_counted c w f m h =
      none_counted c w (still_undecided f) (ap (λ (d : Done). d.plain.S.groups) (plain_refused geo c (fed geo c w) w.plain h)) (refused-saved c w m h)
      (ap made_new (observe-refused geo c w (still_undecided f) h m) ∙ still_none f)

  -- ---- a sync

  module _ (w : World) (m : WorldSim geo w) (h : refusal geo sync w.plain ≡ 0) (f : Progress) where
    P : plain_next geo sync w ≡ (plain_sync geo w.plain).plain
    P = ap (λ (d : Done). d.plain) (plain_served geo sync (fed geo sync w) w.plain h)

    answer : (dispatch geo sync w.store).answer ≡ (plain_sync geo w.plain).answer
    answer = (step geo sync w m).agrees.answer ∙ ap (λ (d : Done). d.answer) (plain_served geo sync (fed geo sync w) w.plain h)

    size : length w.plain.G ≡ w.store.rec.grouped
    size = Facts.plain_count geo w.store w.ledger w.plain m.basics (open_now geo sync w m refl h)

    saved_is : (t u : Bool) → eqb (dispatch geo sync w.store).answer 0 ≡ t → eqb w.store.rec.grouped 0 ≡ u → saved geo sync w ≡ t && not u
    unfolding saved S.finished
    saved_is t u a g = ap₂ (λ (x y : Bool). x && not y) a g

    sync_counted : Counted sync w (still_undecided f)
    sync_counted =
        sync-cases geo (λ d. Counted sync w (still_undecided f)) w.plain
        (λ z.
        none_counted sync w (still_undecided f) (ap (λ (d : Plain). d.S.groups) P ∙ ap (λ (d : Done). d.plain.S.groups) (PlainLaws.sync_nothing geo w.plain z) ∙ ap (λ (x : Laid). x.groups) (PlainLaws.barrier-S geo w.plain))
        (saved_is _ true refl (eq-eqb _ 0 (sym size ∙ z)) ∙ and-false (eqb (dispatch geo sync w.store).answer 0)) (save_new Save.sync w f))
        (λ z p.
        let all = PlainLaws.sync-finished geo w.plain z p in
        counted sync w (still_undecided f) true (ap (λ (d : Plain). d.S.groups) P ∙ ap (λ (d : Done). d.plain.S.groups) all)
        (sym (ap (λ (t : Bool). t || made_new (observe geo sync w (still_undecided f))) (saved_is true false (eq-eqb _ 0 (answer ∙ ap (λ (d : Done). d.answer) all)) (ne_eqb _ 0 (λ e. z (size ∙ e)))))))
        (λ z p.
        let short = PlainLaws.sync-short geo w.plain z p in
        let four : (dispatch geo sync w.store).answer ≡ 4 = answer ∙ ap (λ (d : Done). d.answer) short in
        none_counted sync w (still_undecided f) (ap (λ (d : Plain). d.S.groups) P ∙ ap (λ (d : Done). d.plain.S.groups) short) (saved_is false _ (ne_eqb (dispatch geo sync w.store).answer 0 (λ e. omega arith)) refl) (save_new Save.sync w f))

module _ (geo : Geometry) where
  -- a call that lays no group into S
  leaves_S : (c : Call) (w : World) → refusal geo c w.plain ≡ 0 → (served geo c (fed geo c w) w.plain).plain.S.groups ≡ w.plain.S.groups → (plain_next geo c w).S.groups ≡ w.plain.S.groups
  leaves_S c w h e = ap (λ (d : Done). d.plain.S.groups) (plain_served geo c (fed geo c w) w.plain h) ∙ e

  local_S : (c : Local) (d : Plain) → LocalKind geo c → (locally c d).S ≡ d.S
  local_S c d (powers k) = refl
  local_S c d (opens _ n s) = (s d).S

  -- ---- a cut

  cut_lays : (ms : List ℕ) (w : World) (m : WorldSim geo w) (h : refusal geo (cut ms) w.plain ≡ 0)
      → (plain_next geo (cut ms) w).S.groups ≡ w.plain.S.groups + cond (planned geo w.plain ms (cut-found geo ms w)).laid 1 0
  cut_lays ms w m h =
      ap (λ (d : Plain). d.S.groups) (cut_plain geo ms w m h) ∙ laid_groups (planned geo w.plain ms (cut-found geo ms w)).laid w.plain.G w.plain.S

  cut_counted : (ms : List ℕ) (w : World) (m : WorldSim geo w) (h : refusal geo (cut ms) w.plain ≡ 0) (f : Progress) → Watched geo (still_undecided f) w → Counted geo (cut ms) w (still_undecided f)
  unfolding observe short_sync saved
  cut_counted ms w m h (known f) x = counted geo (cut ms) w (known quiet) (planned geo w.plain ms (cut-found geo ms w)).laid (cut_lays ms w m h) (go x.1)
    where
      go : Watch geo x.0 (known quiet) w.store w.ledger w.plain → (planned geo w.plain ms (cut-found geo ms w)).laid ≡ false
      go (◌⊎◌.inl y) = open_lays_none geo ms w m h y.mode
      go (◌⊎◌.inr y) = y.laid ms (cut-found geo ms w)
  cut_counted ms w m h (undecided G place made) x =
      counted geo (cut ms) w (undecided G place made) (made && kept_at ms (header_place geo place G) && cut-found geo ms w)
      (cut_lays ms w m h ∙ ap (λ (t : Bool). w.plain.S.groups + cond t 1 0) (x.1.laid ms (cut-found geo ms w)))
      (sym (ap made_new (cut_observed geo ms w m h G place made)))

  -- ---- every call

  served_counted : (c : Call) (w : World) (f : Progress) → WorldSim geo w → refusal geo c w.plain ≡ 0 → Watched geo (still_undecided f) w → Counted geo c w (still_undecided f)
  unfolding saved
  served_counted (local c) w f m h x = none_counted geo (local c) w (still_undecided f) (leaves_S (local c) w h (ap (λ (x : Laid). x.groups) (local_S c w.plain (local_kind geo c)))) refl (local_new geo c w f)
  served_counted (direct a b) w f m h x = none_counted geo (direct a b) w (still_undecided f) (leaves_S (direct a b) w h (direct_cases geo (λ o. o.plain.S.groups ≡ w.plain.S.groups) a b w.plain (λ q. refl) (λ q. refl))) refl (direct_new geo a b w f)
  served_counted (save Save.sync) w f m h x = sync_counted geo w m h f
  served_counted (save Save.apply) w f m h x = none_counted geo apply w (still_undecided f) (leaves_S apply w h (ap (λ (x : Laid). x.groups) (PlainLaws.apply-S geo w.plain))) refl (save_new geo Save.apply w f)
  served_counted (save Save.recover) w f m h x = none_counted geo recover w (still_undecided f) (leaves_S recover w h (PlainLaws.recover_groups geo (fed geo recover w).found w.plain)) refl (save_new geo Save.recover w f)
  served_counted (cut ms) w f m h x = cut_counted ms w m h f x

  step_counted : (c : Call) (w : World) (f : Progress) → WorldSim geo w → Watched geo (still_undecided f) w → Counted geo c w (still_undecided f)
  step_counted c w f m x = go (ℕ_discrete (refusal geo c w.plain) 0)
    where
      go : Dec (refusal geo c w.plain ≡ 0) → Counted geo c w (still_undecided f)
      go (yes h) = served_counted c w f m h x
      go (no h) = refused_counted geo c w f m h

  -- ---- what is watched then

  -- a sync that is done was not cut short
  done-short : (w : World) → (dispatch geo sync w.store).answer ≡ 0 → short_sync geo sync w ≡ false
  done-short w zero = go (short_sync geo sync w) refl
    where
      go : (t : Bool) → short_sync geo sync w ≡ t → t ≡ false
      go false p = refl
      go true p = absurd (omega (arith, (short_is geo sync w p).answer))

  -- a finished sync or recovery leaves nothing undecided
  finished_quiet : (c : Call) (w : World) (f : Progress) → WorldSim geo w → S.finished geo c w ≡ true → Watched geo (still_undecided f) w → observe geo c w (still_undecided f) ≡ known quiet
  unfolding S.finished observe
  finished_quiet (local c) w f m h x = absurd (mathlib.Core.Bool.false≢true h)
  finished_quiet (direct a b) w f m h x = absurd (mathlib.Core.Bool.false≢true h)
  finished_quiet (save Save.sync) w f m h x =
      let zero : (dispatch geo sync w.store).answer ≡ 0 = eqb-true _ _ h in
      let o = open_now geo sync w m refl (served_of geo sync w m zero) in
      let q = open_watch geo x.0 (still_undecided f) w.store w.ledger w.plain x.1 o.mode in
      ap (observe geo sync w) q.0 ∙ ap (λ (t : Bool). cond t (undecided (group_of geo w.store) (waiting_met geo w.store) (headed geo w)) (known quiet)) (done-short w zero)
  finished_quiet (save Save.apply) w f m h x = absurd (mathlib.Core.Bool.false≢true h)
  finished_quiet (save Save.recover) w (known f) m h x = recover-same geo w (known quiet)
  finished_quiet (save Save.recover) w (undecided G place made) m h x =
      let c = found-closed geo w m (eqb-true _ _ h) in
      absurd (omega (arith, c.mode, x.1.mode))
  finished_quiet (cut ms) w f m h x = absurd (mathlib.Core.Bool.false≢true h)

  step_watched : (c : Call) (w : World) (f : Progress) → WorldSim geo w → Watched geo (still_undecided f) w → Watched geo (observe geo c w (still_undecided f)) (next geo c w)
  unfolding next
  step_watched c w f m x = go (S.finished geo c w) refl
    where
      go : (t : Bool) → S.finished geo c w ≡ t → Watched geo (observe geo c w (still_undecided f)) (next geo c w)
      go false e = (S.drawn_by geo c w x.0, watch_step geo x.0 c w (still_undecided f) m e x.1)
      go true e = subst (λ (g : Progress). Watched geo g (next geo c w)) (sym (finished_quiet c w f m e x)) ((plain_next geo c w).S, ◌⊎◌.inl (record { mode = finished_opens geo c w m e; S = refl }))

  -- ---- a list of calls

  pub groups_counted : (cs : List Call) (w : World) (f : Progress) → WorldSim geo w → (after geo cs w).excepted ≡ false → Watched geo f w
      → (after geo cs w).plain.S.groups ≡ w.plain.S.groups + groups_laid geo cs w f
  unfolding after groups_laid next
  groups_counted [] w f m e x = sym (add-zero w.plain.S.groups)
  groups_counted (c ∷ cs) w f m e x =
      let y = forget geo f w x in
      let rest = groups_counted cs (next geo c w) (observe geo c w (still_undecided f)) (next_sim geo c w m (clean_first geo c cs w e)) e (step_watched c w f m y) in
      let one : (plain_next geo c w).S.groups ≡ w.plain.S.groups + cond (saved geo c w || made_new (observe geo c w (still_undecided f))) 1 0 = step_counted c w f m y in
      rest ∙ (omega arith)
