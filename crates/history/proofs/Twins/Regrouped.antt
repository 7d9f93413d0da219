-- The plain disk with another number of groups laid into it: every call comes to the same, as long as neither number is the largest.
use Prim.Native.Nat.{ℕ, ◌+◌, ◌≤◌}
use mathlib.Core.Path.{◌≡◌, refl, ap, sym, ◌∙◌}
use mathlib.Core.Logic.{◌≢◌}
use mathlib.Core.Bool.{Bool, true, false, cond, not, ◌&&◌}
use mathlib.Core.List.{List}
use native.Mathlib.Omega.{arith}
use native.Mathlib.Decide.{ℕ_discrete}
use borrow.Author.Tests.{ne_eqb, eqb-false}
use lib.Dec.{eqb, leb}
use lib.ListN.{length}
use Rattle.journal.specs.Geometry.{Geometry}
use Rattle.journal.specs.Header.{most_save}
use Rattle.store.specs.Local as Local
use Rattle.store.specs.Save as Save
use Rattle.card.specs.Disk.{Disk}
use Rattle.history.specs.Call.{Call, local, direct, save, cut, recover}
use Rattle.history.specs.Plain.{Plain, Done, Fed, of_sync, of_apply, of_recover, of_direct, with_s, done, still, spent, flushed, cut_short, apply_takes, apply_waits, sync_takes, sync_waits, direct_takes, direct_waits, synced, cleared, written, recovered, plain_fit, refusal, served, plain_barrier, plain_sync, plain_apply, plain_direct, plain_recover, plain_cut, plain_step, plain_get, plain_listing}
use Rattle.history.proofs.Steps.Shown.{plain_refused, plain_served}

abbrev pub regrouped : ℕ → Plain → Plain
regrouped g d = with_s (record { disk = d.S.disk; groups = g }) d

-- what a call comes to: the same answer and orders; and the plain disk that it leaves has another number at most
pub record Regroups (o' o : Done) : Type 0 where
  pub answer : o'.answer ≡ o.answer
  pub orders : o'.orders ≡ o.orders
  pub groups : ℕ
  pub plain : o'.plain ≡ regrouped groups o.plain

-- no cut and no recover: what the plain disk is fed plays no part
abbrev pub Steady : Call → Type 0
Steady c = ((ms : List ℕ) → c ≢ cut ms) × (c ≢ recover)

module _ (geo : Geometry) (g : ℕ) (d : Plain) where
  -- ---- calls that are not refused

  barrier-same : Regroups (plain_barrier geo (regrouped g d)) (plain_barrier geo d)
  unfolding plain_barrier
  barrier-same = go (eqb d.waiting 0) (leb 1 d.power)
    where
      go : (s t : Bool)
          → Regroups
          (cond s (still (regrouped g d)) (cond t (done 1 (flushed (spent 1 (regrouped g d)))) (cut_short geo (of_sync d.power) d.waiting (regrouped g d))))
          (cond s (still d) (cond t (done 1 (flushed (spent 1 d))) (cut_short geo (of_sync d.power) d.waiting d)))
      go true t = record { answer = refl; orders = refl; groups = g; plain = refl }
      go false true = record { answer = refl; orders = refl; groups = g; plain = refl }
      go false false = record { answer = refl; orders = refl; groups = g; plain = refl }

  sync-same : Regroups (plain_sync geo (regrouped g d)) (plain_sync geo d)
  unfolding plain_sync
  sync-same = go (eqb (length d.G) 0) (leb (sync_takes geo d.n (length d.G)) d.power)
    where
      go : (s t : Bool)
          → Regroups
          (cond s (plain_barrier geo (regrouped g d)) (cond t (done (sync_takes geo d.n (length d.G)) (synced geo (regrouped g d))) (cut_short geo (of_sync d.power) (sync_waits geo d.waiting d.n (length d.G) d.power) (regrouped g d))))
          (cond s (plain_barrier geo d) (cond t (done (sync_takes geo d.n (length d.G)) (synced geo d)) (cut_short geo (of_sync d.power) (sync_waits geo d.waiting d.n (length d.G) d.power) d)))
      go true t = barrier-same
      go false true = record { answer = refl; orders = refl; groups = g + 1; plain = refl }
      go false false = record { answer = refl; orders = refl; groups = g; plain = refl }

  apply-same : Regroups (plain_apply geo (regrouped g d)) (plain_apply geo d)
  unfolding plain_apply
  apply-same = go (eqb d.n 0) (leb (apply_takes d.n) d.power)
    where
      go : (s t : Bool)
          → Regroups
          (cond s (still (regrouped g d)) (cond t (done (apply_takes d.n) (cleared (regrouped g d))) (cut_short geo (of_apply d.power) (apply_waits d.waiting d.n d.power) (regrouped g d))))
          (cond s (still d) (cond t (done (apply_takes d.n) (cleared d)) (cut_short geo (of_apply d.power) (apply_waits d.waiting d.n d.power) d)))
      go true t = record { answer = refl; orders = refl; groups = g; plain = refl }
      go false true = record { answer = refl; orders = refl; groups = g; plain = refl }
      go false false = record { answer = refl; orders = refl; groups = g; plain = refl }

  direct_same : (a : ℕ) (b : List ℕ) → Regroups (plain_direct geo a b (regrouped g d)) (plain_direct geo a b d)
  unfolding plain_direct
  direct_same a b = go (leb (direct_takes geo d.waiting) d.power)
    where
      go : (t : Bool)
          → Regroups
          (cond t (done (direct_takes geo d.waiting) (written geo a b (regrouped g d))) (cut_short geo (of_direct d.power) (direct_waits d.waiting d.power) (regrouped g d)))
          (cond t (done (direct_takes geo d.waiting) (written geo a b d)) (cut_short geo (of_direct d.power) (direct_waits d.waiting d.power) d))
      go true = record { answer = refl; orders = refl; groups = g; plain = refl }
      go false = record { answer = refl; orders = refl; groups = g; plain = refl }

  -- a recover is answered alike, whatever it finds
  recover-same : (x y : Disk) → ((plain_recover geo y (regrouped g d)).answer ≡ (plain_recover geo x d).answer) × ((plain_recover geo y (regrouped g d)).orders ≡ (plain_recover geo x d).orders)
  unfolding plain_recover
  recover-same x y = go (cond d.F 2 0) (leb (cond d.F 2 0) d.power)
    where
      go : (k : ℕ) (t : Bool)
          → ((cond t (done k (recovered k y (regrouped g d))) (cut_short geo (of_recover d.power) d.power (regrouped g d))).answer ≡ (cond t (done k (recovered k x d)) (cut_short geo (of_recover d.power) d.power d)).answer)
          × ((cond t (done k (recovered k y (regrouped g d))) (cut_short geo (of_recover d.power) d.power (regrouped g d))).orders ≡ (cond t (done k (recovered k x d)) (cut_short geo (of_recover d.power) d.power d)).orders)
      go k true = (refl, refl)
      go k false = (refl, refl)

  -- of a call that is no cut and no recover
  served-same : (c : Call) (f f' : Fed) → Steady c → Regroups (served geo c f' (regrouped g d)) (served geo c f d)
  served-same (local (Local.power k)) f f' z = record { answer = refl; orders = refl; groups = g; plain = refl }
  served-same (local (Local.put a b)) f f' z = record { answer = refl; orders = refl; groups = g; plain = refl }
  served-same (local (Local.get a)) f f' z = record { answer = refl; orders = refl; groups = g; plain = refl }
  served-same (local (Local.get_list xs bs)) f f' z = record { answer = refl; orders = refl; groups = g; plain = refl }
  served-same (local Local.commit) f f' z = record { answer = refl; orders = refl; groups = g; plain = refl }
  served-same (local Local.abandon) f f' z = record { answer = refl; orders = refl; groups = g; plain = refl }
  served-same (direct a b) f f' z = direct_same a b
  served-same (save Save.sync) f f' z = sync-same
  served-same (save Save.apply) f f' z = apply-same
  served-same (save Save.recover) f f' z = absurd (z.1 refl)
  served-same (cut ms) f f' z = absurd (z.0 ms refl)

  -- a cut is answered 0, whatever it is fed
  cut-same : (ms : List ℕ) (f f' : Bool) → ((plain_cut geo ms f' (regrouped g d)).answer ≡ (plain_cut geo ms f d).answer) × ((plain_cut geo ms f' (regrouped g d)).orders ≡ (plain_cut geo ms f d).orders)
  unfolding plain_cut
  cut-same ms f f' = (refl, refl)

  -- ---- blocks

  pub same-get : (a : ℕ) → plain_get a (regrouped g d) ≡ plain_get a d
  unfolding plain_get
  same-get a = refl

  pub same-listing : (xs bs : List ℕ) → plain_listing geo xs bs (regrouped g d) ≡ plain_listing geo xs bs d
  unfolding plain_listing plain_get refusal
  same-listing xs bs = refl

  -- ---- any call, where neither number is the largest when open

  module _ (modes : d.mode ≤ 2) (below : d.mode ≡ 1 → (d.S.groups ≢ most_save) × (g ≢ most_save)) where
    pub same-refusal : (c : Call) → refusal geo c (regrouped g d) ≡ refusal geo c d
    unfolding refusal plain_fit
    same-refusal (local (Local.power k)) = refl
    same-refusal (local (Local.put a b)) = refl
    same-refusal (local (Local.get a)) = refl
    same-refusal (local (Local.get_list xs bs)) = refl
    same-refusal (local Local.commit) = refl
    same-refusal (local Local.abandon) = refl
    same-refusal (direct a b) = refl
    same-refusal (save Save.sync) = go (eqb d.mode 0) (eqb d.mode 2) refl refl
      where
        go : (s t : Bool) → eqb d.mode 0 ≡ s → eqb d.mode 2 ≡ t
            → ◌≡◌ {A = ℕ} (cond s 3 (cond t 4 (cond (not (eqb (length d.G) 0) && eqb g most_save) 12 0))) (cond s 3 (cond t 4 (cond (not (eqb (length d.G) 0) && eqb d.S.groups most_save) 12 0)))
        go true t p q = refl
        go false true p q = refl
        go false false p q =
            let a : d.mode ≢ 0 = eqb-false _ _ p in
            let b : d.mode ≢ 2 = eqb-false _ _ q in
            let opens : d.mode ≡ 1 = omega arith in
            rw (ne_eqb g most_save (below opens).1, ne_eqb d.S.groups most_save (below opens).0)
    same-refusal (save Save.apply) = refl
    same-refusal (save Save.recover) = refl
    same-refusal (cut ms) = refl

    pub same_answer : (c : Call) (f f' : Fed) → ((plain_step geo c f' (regrouped g d)).answer ≡ (plain_step geo c f d).answer) × ((plain_step geo c f' (regrouped g d)).orders ≡ (plain_step geo c f d).orders)
    same_answer c f f' = go (ℕ_discrete (refusal geo c d) 0)
      where
        steady : (c : Call) → Steady c → ((served geo c f' (regrouped g d)).answer ≡ (served geo c f d).answer) × ((served geo c f' (regrouped g d)).orders ≡ (served geo c f d).orders)
        steady c z = let r = served-same c f f' z in (r.answer, r.orders)

        by_call : (c : Call) → ((served geo c f' (regrouped g d)).answer ≡ (served geo c f d).answer) × ((served geo c f' (regrouped g d)).orders ≡ (served geo c f d).orders)
        by_call (local x) = steady (local x) ((λ ms e. let z : ◌≡◌ {A = ℕ} 0 1 = cc in omega arith), λ e. let z : ◌≡◌ {A = ℕ} 0 1 = cc in omega arith)
        by_call (direct a b) = steady (direct a b) ((λ ms e. let z : ◌≡◌ {A = ℕ} 0 1 = cc in omega arith), λ e. let z : ◌≡◌ {A = ℕ} 0 1 = cc in omega arith)
        by_call (save Save.sync) = steady (save Save.sync) ((λ ms e. let z : ◌≡◌ {A = ℕ} 0 1 = cc in omega arith), λ e. let z : ◌≡◌ {A = ℕ} 0 1 = cc in omega arith)
        by_call (save Save.apply) = steady (save Save.apply) ((λ ms e. let z : ◌≡◌ {A = ℕ} 0 1 = cc in omega arith), λ e. let z : ◌≡◌ {A = ℕ} 0 1 = cc in omega arith)
        by_call (save Save.recover) = recover-same f.found f'.found
        by_call (cut ms) = cut-same ms f.same f'.same

        go : Dec (refusal geo c d ≡ 0) → ((plain_step geo c f' (regrouped g d)).answer ≡ (plain_step geo c f d).answer) × ((plain_step geo c f' (regrouped g d)).orders ≡ (plain_step geo c f d).orders)
        go (yes e) =
            let p = plain_served geo c f' (regrouped g d) (same-refusal c ∙ e) in
            let q = plain_served geo c f d e in
            let r = by_call c in
            (ap (λ (o : Done). o.answer) p ∙ r.0 ∙ sym (ap (λ (o : Done). o.answer) q), ap (λ (o : Done). o.orders) p ∙ r.1 ∙ sym (ap (λ (o : Done). o.orders) q))
        go (no e) =
            let p = plain_refused geo c f' (regrouped g d) (λ z. e (sym (same-refusal c) ∙ z)) in
            let q = plain_refused geo c f d e in
            (ap (λ (o : Done). o.answer) p ∙ same-refusal c ∙ sym (ap (λ (o : Done). o.answer) q), ap (λ (o : Done). o.orders) p ∙ sym (ap (λ (o : Done). o.orders) q))

    -- what it leaves, but for a cut and a recover that are not refused
    pub same_plain : (c : Call) (f f' : Fed) → (refusal geo c d ≡ 0 → Steady c)
        → (k : ℕ) × ((plain_step geo c f' (regrouped g d)).plain ≡ regrouped k (plain_step geo c f d).plain)
    same_plain c f f' steady = go (ℕ_discrete (refusal geo c d) 0)
      where
        go : Dec (refusal geo c d ≡ 0) → (k : ℕ) × ((plain_step geo c f' (regrouped g d)).plain ≡ regrouped k (plain_step geo c f d).plain)
        go (yes e) =
            let p = plain_served geo c f' (regrouped g d) (same-refusal c ∙ e) in
            let q = plain_served geo c f d e in
            let r = served-same c f f' (steady e) in
            (r.groups, ap (λ (o : Done). o.plain) p ∙ r.plain ∙ sym (ap (λ (o : Done). regrouped r.groups o.plain) q))
        go (no e) =
            let p = plain_refused geo c f' (regrouped g d) (λ z. e (sym (same-refusal c) ∙ z)) in
            let q = plain_refused geo c f d e in
            (g, ap (λ (o : Done). o.plain) p ∙ sym (ap (λ (o : Done). regrouped g o.plain) q))
