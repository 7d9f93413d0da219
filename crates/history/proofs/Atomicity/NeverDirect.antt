-- A block that is never written directly: it is never loose, and no direct write is laid over it.
use Prim.Native.Nat.{ℕ, ◌+◌, ◌≤◌}
use mathlib.Core.Path.{◌≡◌, refl, ap, ap₂, sym, ◌∙◌}
use mathlib.Core.Logic.{◌≢◌}
use mathlib.Core.Bool.{Bool, true, false, cond, not, ◌&&◌, ◌||◌}
use mathlib.Core.List.{List, [], ◌∷◌}
use native.Mathlib.Omega.{arith}
use native.Mathlib.Decide.{ℕ_discrete, dec_le}
use borrow.Author.Tests.{eq-eqb, ne_eqb, eqb-false, not-true}
use lib.Dec.{eqb}
use lib.ListN.{length}
use Rattle.card.specs.Disk.{Disk, lay}
use Rattle.card.proofs.Overlays.{lay_other, overlay_agree}
use Rattle.crash.specs.Laid.{Laid}
use Rattle.journal.specs.Geometry.{Geometry}
use Rattle.journal.proofs.Choices.{both}
use Rattle.store.specs.Local.{Local}
use Rattle.store.specs.Save.{Save}
use Rattle.history.specs.Call.{Call, local, direct, save, cut}
use Rattle.history.specs.Plain as Plain
use Rattle.history.specs.Plain.{Plain, Short, among, Done, cut_short, plain_step, plain_direct, direct_takes, written, refusal, served, locally, saving}
use Rattle.history.specs.Dispatch.{dispatch}
use Rattle.history.specs.History.{World, next, after, fed}
use Rattle.history.specs.Statements.{Fate, quiet, decided, outcome, direct_done, on_direct, drawn_by, drawn_over, never_direct}
use Rattle.history.proofs.Relation.Lists.{among-append}
use Rattle.history.proofs.Relation.PlainLaws as PlainLaws
use Rattle.history.proofs.Relation.PlainAnswers.{sync-cases}
use Rattle.history.proofs.Steps.Shown.{WorldSim, plain_refused, plain_served}
use Rattle.history.proofs.Steps.ListInduction.{step, next_sim, clean_first}

-- ---- S

-- what a fate makes of a block depends on that block of S alone
pub outcome_at : (f : Fate) (S T : Laid) (x : ℕ) → S.disk x ≡ T.disk x → (outcome f S).disk x ≡ (outcome f T).disk x
outcome_at quiet S T x e = e
outcome_at (decided G true all) S T x e = overlay_agree G S.disk T.disk x e
outcome_at (decided G false all) S T x e = e

module _ (geo : Geometry) where
  -- a call that is no direct write to x that is done
  abbrev Other : ℕ → Call → World → Type 0
  Other x c w = direct_done geo c w && on_direct geo c (λ e. eqb e.address x) false ≡ false

  never_here : (x : ℕ) (c : Call) (cs : List Call) (w : World) → never_direct geo x (c ∷ cs) w ≡ true → Other x c w × (never_direct geo x cs (next geo c w) ≡ true)
  unfolding never_direct
  never_here x c cs w h =
      let p = both (not (direct_done geo c w && on_direct geo c (λ e. eqb e.address x) false)) (never_direct geo x cs (next geo c w)) h in
      (not-true _ p.0, p.1)

  drawn_other : (x : ℕ) (c : Call) (w : World) (S : Laid) → Other x c w → (drawn_by geo c w S).disk x ≡ S.disk x
  unfolding direct_done
  drawn_other x (local c) w S h = refl
  drawn_other x (direct a b) w S h = go (eqb (dispatch geo (direct a b) w.store).answer 0) h
    where
      go : (t : Bool) → t && eqb a x ≡ false → (cond t (record { disk = lay (record { address = a; block = b }) S.disk; groups = S.groups }) S).disk x ≡ S.disk x
      go true e = lay_other (record { address = a; block = b }) S.disk x (λ z. eqb-false _ _ e (sym z))
      go false e = refl
  drawn_other x (save c) w S h = refl
  drawn_other x (cut ms) w S h = refl

  pub never_drawn : (x : ℕ) (cs : List Call) (w : World) (S : Laid) → never_direct geo x cs w ≡ true → (drawn_over geo cs w S).disk x ≡ S.disk x
  unfolding drawn_over
  never_drawn x [] w S h = refl
  never_drawn x (c ∷ cs) w S h = let p = never_here x c cs w h in never_drawn x cs (next geo c w) (drawn_by geo c w S) p.1 ∙ drawn_other x c w S p.0

  -- ---- what waits and what is loose

  abbrev Free : ℕ → Plain → Type 0
  Free x d = (among x d.writes ≡ false) × (among x d.loose ≡ false)

  -- emptied or not
  none_among : (x : ℕ) (t : Bool) (xs : List ℕ) → among x xs ≡ false → among x (cond t [] xs) ≡ false
  unfolding among
  none_among x true xs h = refl
  none_among x false xs h = h

  cut_free : (x : ℕ) (s : Short) (k : ℕ) (d : Plain) → Free x d → Free x (cut_short geo s k d).plain
  cut_free x s k d h = (none_among x (Plain.flushes geo s d.n (length d.G)) d.writes h.0, h.1)

  save_free : (x : ℕ) (c : Save) (f : Disk) (d : Plain) → Free x d → Free x (saving geo c f d).plain
  unfolding among
  save_free x Save.sync f d h =
      sync-cases geo (λ o. Free x o.plain) d
      (λ z. rw (PlainLaws.sync_nothing geo d z) (barrier (ℕ_discrete d.waiting 0) (dec_le 1 d.power)))
      (λ z p. rw (PlainLaws.sync-finished geo d z p) (refl, h.1))
      (λ z p. rw (PlainLaws.sync-short geo d z p) (cut_free x (Plain.of_sync d.power) (Plain.sync_waits geo d.waiting d.n (length d.G) d.power) d h))
    where
      barrier : Dec (d.waiting ≡ 0) → Dec (1 ≤ d.power) → Free x (Plain.plain_barrier geo d).plain
      barrier (yes e) q = rw (PlainLaws.barrier_none geo d e) h
      barrier (no e) (yes q) = rw (PlainLaws.barrier-done geo d e q) (refl, h.1)
      barrier (no e) (no q) = rw (PlainLaws.barrier-short geo d e (omega arith)) (cut_free x (Plain.of_sync d.power) d.waiting d h)
  save_free x Save.apply f d h = go (ℕ_discrete d.n 0) (dec_le (d.n + 3) d.power)
    where
      go : Dec (d.n ≡ 0) → Dec (d.n + 3 ≤ d.power) → Free x (Plain.plain_apply geo d).plain
      go (yes z) q = rw (PlainLaws.apply_nothing geo d z) h
      go (no z) (yes q) = rw (PlainLaws.apply-finished geo d z q) (refl, h.1)
      go (no z) (no q) = rw (PlainLaws.apply-short geo d z (omega arith)) (cut_free x (Plain.of_apply d.power) (Plain.apply_waits d.waiting d.n d.power) d h)
  save_free x Save.recover f d h = go d.F refl (dec_le 2 d.power)
    where
      go : (t : Bool) → d.F ≡ t → Dec (2 ≤ d.power) → Free x (Plain.plain_recover geo f d).plain
      go false z q = rw (PlainLaws.recover_whole geo f d z) (h.0, refl)
      go true z (yes q) = rw (PlainLaws.recover_fallback geo f d z q) (h.0, refl)
      go true z (no q) = rw (PlainLaws.recover-short geo f d z (omega arith)) (cut_free x (Plain.of_recover d.power) d.power d h)

  local_free : (x : ℕ) (c : Local) (d : Plain) → Free x d → Free x (locally c d)
  local_free x (Local.power k) d h = h
  local_free x (Local.put a b) d h = h
  local_free x (Local.get a) d h = h
  local_free x (Local.get_list xs bs) d h = h
  local_free x Local.commit d h = h
  local_free x Local.abandon d h = h

  -- a direct write to another block, or one that is cut short
  direct_free : (x a : ℕ) (b : List ℕ) (d : Plain) → Free x d → ((plain_direct geo a b d).answer ≡ 0 → a ≢ x) → Free x (plain_direct geo a b d).plain
  unfolding among
  direct_free x a b d h n = go (dec_le (direct_takes geo d.waiting) d.power)
    where
      go : Dec (direct_takes geo d.waiting ≤ d.power) → Free x (plain_direct geo a b d).plain
      go (yes q) =
          let e = PlainLaws.direct-done geo a b d q in
          let z : a ≢ x = n (ap (λ (o : Done). o.answer) e) in
          rw e (among-append x (cond (eqb d.waiting geo.direct) [] d.writes) (a ∷ []) ∙ ap₂ (λ (s t : Bool). s || t) (none_among x (eqb d.waiting geo.direct) d.writes h.0) (ap (λ (t : Bool). t || false) (ne_eqb a x z)), h.1)
      go (no q) = rw (PlainLaws.direct_short geo a b d (omega arith)) (cut_free x (Plain.of_direct d.power) (Plain.direct_waits d.waiting d.power) d h)

  served_free : (x : ℕ) (c : Call) (w : World) → WorldSim geo w → Other x c w → Free x w.plain → refusal geo c w.plain ≡ 0 → Free x (plain_step geo c (fed geo c w) w.plain).plain
  unfolding direct_done Plain.plain_cut among
  served_free x (local c) w m o h r = rw (plain_served geo (local c) (fed geo (local c) w) w.plain r) (local_free x c w.plain h)
  served_free x (direct a b) w m o h r =
      let P = plain_served geo (direct a b) (fed geo (direct a b) w) w.plain r in
      let other : (plain_direct geo a b w.plain).answer ≡ 0 → a ≢ x = λ z.
      let done : eqb (dispatch geo (direct a b) w.store).answer 0 ≡ true = eq-eqb _ 0 ((step geo (direct a b) w m).agrees.answer ∙ ap (λ (d : Done). d.answer) P ∙ z) in
      eqb-false _ _ (rw done at o) in
      rw P (direct_free x a b w.plain h other)
  served_free x (save c) w m o h r = rw (plain_served geo (save c) (fed geo (save c) w) w.plain r) (save_free x c (fed geo (save c) w).found w.plain h)
  served_free x (cut ms) w m o h r =
      rw (plain_served geo (cut ms) (fed geo (cut ms) w) w.plain r)
      (refl, among-append x w.plain.writes w.plain.loose ∙ ap₂ (λ (s t : Bool). s || t) h.0 h.1)

  next_free : (x : ℕ) (c : Call) (w : World) → WorldSim geo w → Other x c w → Free x w.plain → Free x (plain_step geo c (fed geo c w) w.plain).plain
  next_free x c w m o h = go (ℕ_discrete (refusal geo c w.plain) 0)
    where
      go : Dec (refusal geo c w.plain ≡ 0) → Free x (plain_step geo c (fed geo c w) w.plain).plain
      go (no r) = rw (plain_refused geo c (fed geo c w) w.plain r) h
      go (yes r) = served_free x c w m o h r

  pub never_loose : (x : ℕ) (cs : List Call) (w : World) → WorldSim geo w → (after geo cs w).excepted ≡ false → never_direct geo x cs w ≡ true → Free x w.plain → among x (after geo cs w).plain.loose ≡ false
  unfolding after next
  never_loose x [] w m e n h = h.1
  never_loose x (c ∷ cs) w m e n h =
      let p = never_here x c cs w n in
      never_loose x cs (next geo c w) (next_sim geo c w m (clean_first geo c cs w e)) e p.1 (next_free x c w m p.0 h)
