-- The plain disk's steps, case by case.
use Prim.Native.Nat.{ℕ, suc, ◌+◌, ◌-◌, ◌≤◌, ◌<◌}
use mathlib.Core.Path.{◌≡◌, refl, ap, sym, ◌∙◌}
use mathlib.Core.Logic.{◌≢◌}
use mathlib.Core.Bool.{Bool, true, false, cond, not, ◌&&◌, ◌||◌, or-false}
use mathlib.Core.List.{List}
use native.Mathlib.Omega.{arith}
use native.Mathlib.Decide.{ℕ_discrete}
use borrow.Author.Tests.{eq-eqb, ne_eqb, le-leb, lt-leb, lt-ltb, le-ltb}
use lib.Dec.{eqb, leb, ltb}
use lib.ListN.{length}
use Rattle.card.specs.Disk.{Disk}
use Rattle.card.specs.Marks.{kept_at}
use Rattle.journal.specs.Geometry.{Geometry}
use Rattle.journal.specs.Header.{most_save}
use Rattle.history.specs.Call.{sync}
use Rattle.history.specs.Plain.{Plain, Done, none, of_sync, of_apply, of_recover, of_direct, applies, direct_takes, direct_waits, plain_barrier, plain_direct, flushed, spent, written, apply_takes, sync_takes, apply_waits, sync_waits, unchanged, Verdict, apply_verdict, own_verdict, verdict, cut_short, plain_sync, plain_apply, plain_recover, header_kept, header_waits, refusal, last_save, done, still, synced, cleared, recovered}
use Rattle.history.specs.Ledger.{Ledger}

-- ---- equal field by field

pub plain_eq : {d e : Plain} → d.N ≡ e.N → d.S ≡ e.S → d.G ≡ e.G → d.T ≡ e.T → d.n ≡ e.n → d.mode ≡ e.mode → d.power ≡ e.power → d.waiting ≡ e.waiting → d.short ≡ e.short
    → d.F ≡ e.F → d.log ≡ e.log → d.writes ≡ e.writes → d.loose ≡ e.loose → d ≡ e
plain_eq N S G T n mode power waiting short F log writes loose = λ i. record {
  N = N i;
  S = S i;
  G = G i;
  T = T i;
  n = n i;
  mode = mode i;
  power = power i;
  waiting = waiting i;
  short = short i;
  F = F i;
  log = log i;
  writes = writes i;
  loose = loose i;
}

pub ledger_eq : {l m : Ledger} → l.written ≡ m.written → l.pending ≡ m.pending → l ≡ m
ledger_eq written pending = λ i. record { written = written i; pending = pending i }

-- ---- row 12

module _ (geo : Geometry) where
  -- a sync of a nonempty group that is not refused has a number to come
  pub not_last : (d : Plain) → refusal geo sync d ≡ 0 → length d.G ≢ 0 → d.S.groups ≢ most_save
  unfolding refusal
  not_last d h some e =
      let row : last_save d ≡ true = rw (ne_eqb _ 0 some, eq-eqb _ _ e) in
      go (eqb d.mode 0) (eqb d.mode 2) (rw row at h)
    where
      go : (s t : Bool) → ◌≡◌ {A = ℕ} (cond s 3 (cond t 4 12)) 0 → ⊥
      go true t q = omega arith
      go false true q = omega arith
      go false false q = omega arith

-- ---- orders and waiting writes

module _ (geo : Geometry) where
  pub no_apply : (n m : ℕ) → n + m ≤ geo.slots → applies geo n m ≡ false
  no_apply n m h = rw (le-leb _ _ h)

  pub do_apply : (n m : ℕ) → geo.slots < n + m → applies geo n m ≡ true
  do_apply n m h = rw (lt-leb _ _ h)

pub waits_homes : (w n k : ℕ) → k ≤ n → apply_waits w n k ≡ w + k
waits_homes w n k h = rw (le-leb _ _ h)

pub waits_flushed : (w n k : ℕ) → k ≡ n + 1 → apply_waits w n k ≡ 0
waits_flushed w n k h = rw (lt-leb k n (omega arith), ne_eqb k (n + 2) (λ e. omega arith))

pub waits_header : (w n k : ℕ) → k ≡ n + 2 → apply_waits w n k ≡ 1
waits_header w n k h = rw (lt-leb k n (omega arith), eq-eqb k (n + 2) h)

module _ (geo : Geometry) where
  pub sync_waits_apply : (w n m k : ℕ) → geo.slots < n + m → k < n + 3 → sync_waits geo w n m k ≡ apply_waits w n k
  sync_waits_apply w n m k h l = rw (do_apply geo n m h, lt-ltb k (n + 3) l)

  -- ---- a sync: the orders of the apply inside, and n as its own part meets it

  abbrev pub inner_takes : ℕ → ℕ → ℕ
  inner_takes n m = cond (applies geo n m) (n + 3) 0

  abbrev pub count_met : ℕ → ℕ → ℕ
  count_met n m = cond (applies geo n m) 0 n

  -- what waits there
  abbrev pub waits_met : ℕ → ℕ → ℕ → ℕ
  waits_met w n m = cond (applies geo n m) 0 w

  pub sync-takes : (n m : ℕ) → sync_takes geo n m ≡ inner_takes n m + (m + geo.descriptors + 2)
  sync-takes n m = go (applies geo n m)
    where
      go : (t : Bool) → cond t (n + 3 + (m + geo.descriptors + 2)) (m + geo.descriptors + 2) ≡ cond t (n + 3) 0 + (m + geo.descriptors + 2)
      go true = refl
      go false = omega arith

  pub sync_waits_own : (w n m k : ℕ) → inner_takes n m ≤ k → sync_waits geo w n m k ≡ waits_met w n m + (k - inner_takes n m)
  sync_waits_own w n m k h = go (applies geo n m) h
    where
      go : (t : Bool) → cond t (n + 3) 0 ≤ k → cond t (cond (ltb k (n + 3)) (apply_waits w n k) (k - (n + 3))) (w + k) ≡ cond t 0 w + (k - cond t (n + 3) 0)
      go true l = rw (le-ltb k (n + 3) l) (omega arith)
      go false l = omega arith

  -- ---- the steps

  pub sync_nothing : (d : Plain) → length d.G ≡ 0 → plain_sync geo d ≡ plain_barrier geo d
  unfolding plain_sync
  sync_nothing d h = rw (eq-eqb _ _ h)

  pub barrier_none : (d : Plain) → d.waiting ≡ 0 → plain_barrier geo d ≡ still d
  unfolding plain_barrier
  barrier_none d h = rw (eq-eqb _ _ h)

  pub barrier-done : (d : Plain) → d.waiting ≢ 0 → 1 ≤ d.power → plain_barrier geo d ≡ done 1 (flushed (spent 1 d))
  unfolding plain_barrier
  barrier-done d h p = rw (ne_eqb _ _ h, le-leb _ _ p)

  pub barrier-short : (d : Plain) → d.waiting ≢ 0 → d.power < 1 → plain_barrier geo d ≡ cut_short geo (of_sync d.power) d.waiting d
  unfolding plain_barrier
  barrier-short d h p = rw (ne_eqb _ _ h, lt-leb _ _ p)

  pub direct-done : (a : ℕ) (b : List ℕ) (d : Plain) → direct_takes geo d.waiting ≤ d.power → plain_direct geo a b d ≡ done (direct_takes geo d.waiting) (written geo a b d)
  unfolding plain_direct
  direct-done a b d p = rw (le-leb _ _ p)

  pub direct_short : (a : ℕ) (b : List ℕ) (d : Plain) → d.power < direct_takes geo d.waiting → plain_direct geo a b d ≡ cut_short geo (of_direct d.power) (direct_waits d.waiting d.power) d
  unfolding plain_direct
  direct_short a b d p = rw (lt-leb _ _ p)

  pub sync-finished : (d : Plain) → length d.G ≢ 0 → sync_takes geo d.n (length d.G) ≤ d.power
      → plain_sync geo d ≡ done (sync_takes geo d.n (length d.G)) (synced geo d)
  unfolding plain_sync
  sync-finished d h p = rw (ne_eqb _ _ h, le-leb _ _ p)

  pub sync-short : (d : Plain) → length d.G ≢ 0 → d.power < sync_takes geo d.n (length d.G)
      → plain_sync geo d ≡ cut_short geo (of_sync d.power) (sync_waits geo d.waiting d.n (length d.G) d.power) d
  unfolding plain_sync
  sync-short d h p = rw (ne_eqb _ _ h, lt-leb _ _ p)

  pub apply_nothing : (d : Plain) → d.n ≡ 0 → plain_apply geo d ≡ still d
  unfolding plain_apply
  apply_nothing d h = rw (eq-eqb _ _ h)

  pub apply-finished : (d : Plain) → d.n ≢ 0 → d.n + 3 ≤ d.power
      → plain_apply geo d ≡ done (d.n + 3) (cleared d)
  unfolding plain_apply
  apply-finished d h p = rw (ne_eqb _ _ h, le-leb _ _ p)

  pub apply-short : (d : Plain) → d.n ≢ 0 → d.power < d.n + 3 → plain_apply geo d ≡ cut_short geo (of_apply d.power) (apply_waits d.waiting d.n d.power) d
  unfolding plain_apply
  apply-short d h p = rw (ne_eqb _ _ h, lt-leb _ _ p)

  pub recover_whole : (found : Disk) (d : Plain) → d.F ≡ false
      → plain_recover geo found d ≡ done 0 (recovered 0 found d)
  unfolding plain_recover
  recover_whole found d h = rw (h, le-leb 0 d.power (omega arith))

  pub recover_fallback : (found : Disk) (d : Plain) → d.F ≡ true → 2 ≤ d.power
      → plain_recover geo found d ≡ done 2 (recovered 2 found d)
  unfolding plain_recover
  recover_fallback found d h p = rw (h, le-leb 2 d.power p)

  pub recover-short : (found : Disk) (d : Plain) → d.F ≡ true → d.power < 2 → plain_recover geo found d ≡ cut_short geo (of_recover d.power) d.power d
  unfolding plain_recover
  recover-short found d h p = rw (h, lt-leb 2 d.power p)

-- ---- the choice at a cut

module _ (geo : Geometry) where
  pub choose_none : (n m : ℕ) (F kept found : Bool) → verdict geo none n m F kept found ≡ unchanged n F
  unfolding verdict
  choose_none n m F kept found = refl

pub apply_before : (k n : ℕ) (F kept : Bool) → k < n + 2 → apply_verdict k n F kept ≡ unchanged n F
unfolding apply_verdict
apply_before k n F kept h = rw (lt-ltb k (n + 2) h)

pub apply_at : (k n : ℕ) (F kept : Bool) → k ≡ n + 2 → apply_verdict k n F kept ≡ unchanged (cond kept 0 n) false
unfolding apply_verdict
apply_at k n F kept h = rw (le-ltb k (n + 2) (omega arith), eq-eqb k (n + 2) h)

pub apply-behind : (k n : ℕ) (F kept : Bool) → n + 2 < k → apply_verdict k n F kept ≡ unchanged 0 false
unfolding apply_verdict
apply-behind k n F kept h = rw (le-ltb k (n + 2) (omega arith), ne_eqb k (n + 2) (λ e. omega arith))

-- an apply's choice lays nothing
pub apply-laid : (k n : ℕ) (F kept : Bool) → (apply_verdict k n F kept).laid ≡ false
unfolding apply_verdict
apply-laid k n F kept = go (ltb k (n + 2)) (eqb k (n + 2))
  where
    go : (s t : Bool) → (cond s (unchanged n F) (cond t (unchanged (cond kept 0 n) false) (unchanged 0 false))).laid ≡ false
    go true t = refl
    go false true = refl
    go false false = refl

module _ (geo : Geometry) where
  pub choose_apply : (k n m : ℕ) (F kept found : Bool) → verdict geo (of_apply k) n m F kept found ≡ apply_verdict k n F kept
  unfolding verdict
  choose_apply k n m F kept found = refl

  pub choose_direct : (k n m : ℕ) (F kept found : Bool) → verdict geo (of_direct k) n m F kept found ≡ unchanged n F
  unfolding verdict
  choose_direct k n m F kept found = refl

  pub choose-recover_none : (n m : ℕ) (F kept found : Bool) → verdict geo (of_recover 0) n m F kept found ≡ unchanged n F
  unfolding verdict
  choose-recover_none n m F kept found = refl

  pub choose-recover : (n m : ℕ) (F kept found : Bool) → verdict geo (of_recover 1) n m F kept found ≡ unchanged n (not kept)
  unfolding verdict
  choose-recover n m F kept found = refl

  pub choose-sync-apply : (k n m : ℕ) (F kept found : Bool) → geo.slots < n + m → k ≢ n + 3 + (m + geo.descriptors + 1) → verdict geo (of_sync k) n m F kept found ≡ apply_verdict k n F kept
  unfolding verdict
  choose-sync-apply k n m F kept found h z = rw (do_apply geo n m h, ne_eqb k (n + 3 + (m + geo.descriptors + 1)) z)

  -- its own at its header, else the apply's inside or none
  sync-verdict : (k n m : ℕ) (F kept found : Bool)
      → verdict geo (of_sync k) n m F kept found ≡ cond (eqb k (inner_takes geo n m + (m + geo.descriptors + 1))) (own_verdict (count_met geo n m) m kept found) (cond (applies geo n m) (apply_verdict k n F kept) (unchanged n F))
  unfolding verdict
  sync-verdict k n m F kept found = go (applies geo n m)
    where
      go : (t : Bool) → cond t (cond (eqb k (n + 3 + (m + geo.descriptors + 1))) (own_verdict 0 m kept found) (apply_verdict k n F kept)) (cond (eqb k (m + geo.descriptors + 1)) (own_verdict n m kept found) (unchanged n F))
          ≡ cond (eqb k (cond t (n + 3) 0 + (m + geo.descriptors + 1))) (own_verdict (cond t 0 n) m kept found) (cond t (apply_verdict k n F kept) (unchanged n F))
      go true = refl
      go false = let e : 0 + (m + geo.descriptors + 1) ≡ m + geo.descriptors + 1 = omega arith in rw e

  pub choose-sync-own : (k n m : ℕ) (F kept found : Bool) → k ≡ inner_takes geo n m + (m + geo.descriptors + 1) → verdict geo (of_sync k) n m F kept found ≡ own_verdict (count_met geo n m) m kept found
  choose-sync-own k n m F kept found e = sync-verdict k n m F kept found ∙ rw (eq-eqb k (inner_takes geo n m + (m + geo.descriptors + 1)) e)

  -- behind the apply inside, before its own header
  pub choose-sync_before : (k n m : ℕ) (kept found : Bool) → inner_takes geo n m ≤ k → k < inner_takes geo n m + (m + geo.descriptors + 1) → verdict geo (of_sync k) n m false kept found ≡ unchanged (count_met geo n m) false
  choose-sync_before k n m kept found h l = sync-verdict k n m false kept found ∙ rw (ne_eqb k (inner_takes geo n m + (m + geo.descriptors + 1)) (λ e. omega arith)) (go (applies geo n m) h)
    where
      go : (t : Bool) → cond t (n + 3) 0 ≤ k → cond t (apply_verdict k n false kept) (unchanged n false) ≡ unchanged (cond t 0 n) false
      go true a = apply-behind k n false kept (omega arith)
      go false a = refl

  -- but at its own header it lays nothing
  pub sync-still : (k n m : ℕ) (F kept found : Bool) → k ≢ inner_takes geo n m + (m + geo.descriptors + 1) → (verdict geo (of_sync k) n m F kept found).laid ≡ false
  sync-still k n m F kept found e = ap (λ (v : Verdict). v.laid) (sync-verdict k n m F kept found) ∙ rw (ne_eqb k (inner_takes geo n m + (m + geo.descriptors + 1)) e) (go (applies geo n m))
    where
      go : (t : Bool) → (cond t (apply_verdict k n F kept) (unchanged n F)).laid ≡ false
      go true = apply-laid k n F kept
      go false = refl

pub own-lost : (n m : ℕ) (found : Bool) → own_verdict n m false found ≡ unchanged n false
unfolding own_verdict
own-lost n m found = refl

pub own_new : (n m : ℕ) → own_verdict n m true true ≡ record { n = n + m; F = false; laid = true }
unfolding own_verdict
own_new n m = refl

pub own_other : (n m : ℕ) → own_verdict n m true false ≡ unchanged n true
unfolding own_verdict
own_other n m = refl

-- ---- whether a header waits

module _ (geo : Geometry) where
  pub header_none : (n m : ℕ) → header_waits geo none n m ≡ false
  unfolding header_waits
  header_none n m = refl

  pub header_direct : (k n m : ℕ) → header_waits geo (of_direct k) n m ≡ false
  unfolding header_waits
  header_direct k n m = refl

  pub header-recover : (k n m : ℕ) → header_waits geo (of_recover k) n m ≡ eqb k 1
  unfolding header_waits
  header-recover k n m = refl

  pub header-apply : (k n m : ℕ) → header_waits geo (of_apply k) n m ≡ eqb k (n + 2)
  unfolding header_waits
  header-apply k n m = refl

  -- inside a sync, before its own orders
  pub header-sync-apply : (k n m : ℕ) → geo.slots < n + m → k < n + 3 → header_waits geo (of_sync k) n m ≡ eqb k (n + 2)
  unfolding header_waits
  header-sync-apply k n m h l = rw (do_apply geo n m h, ne_eqb k (n + 3 + (m + geo.descriptors + 1)) (λ e. omega arith), or-false (eqb k (n + 2)))

  -- its own
  pub header-sync-own : (k n m : ℕ) → inner_takes geo n m ≤ k → header_waits geo (of_sync k) n m ≡ eqb k (inner_takes geo n m + (m + geo.descriptors + 1))
  unfolding header_waits
  header-sync-own k n m h = go (applies geo n m) h
    where
      go : (t : Bool) → cond t (n + 3) 0 ≤ k
          → cond t (eqb k (n + 2) || eqb k (n + 3 + (m + geo.descriptors + 1))) (eqb k (m + geo.descriptors + 1)) ≡ eqb k (cond t (n + 3) 0 + (m + geo.descriptors + 1))
      go true l = rw (ne_eqb k (n + 2) (λ e. omega arith))
      go false l = let e : 0 + (m + geo.descriptors + 1) ≡ m + geo.descriptors + 1 = omega arith in rw e

-- the header's mark
pub kept-mark : (ms : List ℕ) (w k : ℕ) → w ≡ suc k → header_kept ms w ≡ kept_at ms k
unfolding header_kept
kept-mark ms w k h = ap (λ (i : ℕ). kept_at ms i) (let e : w - 1 ≡ k = omega arith in e)

-- ---- when a cut lays the group of a sync cut short

own-laid : (n m : ℕ) (t u : Bool) → (own_verdict n m t u).laid ≡ t && u
unfolding own_verdict
own-laid n m true true = refl
own-laid n m true false = refl
own-laid n m false u = refl

module _ (geo : Geometry) where
  pub sync-laid : (w n m k : ℕ) (F found : Bool) (ms : List ℕ)
      → (verdict geo (of_sync k) n m F (header_kept ms (sync_waits geo w n m k)) found).laid ≡ eqb k (inner_takes geo n m + (m + geo.descriptors + 1)) && kept_at ms (waits_met geo w n m + (m + geo.descriptors)) && found
  sync-laid w n m k F found ms = go (ℕ_discrete k (inner_takes geo n m + (m + geo.descriptors + 1)))
    where
      go : Dec (k ≡ inner_takes geo n m + (m + geo.descriptors + 1)) → (verdict geo (of_sync k) n m F (header_kept ms (sync_waits geo w n m k)) found).laid ≡ eqb k (inner_takes geo n m + (m + geo.descriptors + 1)) && kept_at ms (waits_met geo w n m + (m + geo.descriptors)) && found
      go (yes e) =
          let q : sync_waits geo w n m k ≡ suc (waits_met geo w n m + (m + geo.descriptors)) = sync_waits_own geo w n m k (omega arith) ∙ (omega arith) in
          ap (λ (v : Verdict). v.laid) (choose-sync-own geo k n m F (header_kept ms (sync_waits geo w n m k)) found e)
          ∙ own-laid (count_met geo n m) m (header_kept ms (sync_waits geo w n m k)) found
          ∙ ap (λ (t : Bool). t && found) (kept-mark ms (sync_waits geo w n m k) (waits_met geo w n m + (m + geo.descriptors)) q)
          ∙ sym (ap (λ (t : Bool). t && kept_at ms (waits_met geo w n m + (m + geo.descriptors)) && found) (eq-eqb k (inner_takes geo n m + (m + geo.descriptors + 1)) e))
      go (no e) =
          sync-still geo k n m F (header_kept ms (sync_waits geo w n m k)) found e
          ∙ sym (ap (λ (t : Bool). t && kept_at ms (waits_met geo w n m + (m + geo.descriptors)) && found) (ne_eqb k (inner_takes geo n m + (m + geo.descriptors + 1)) e))

-- ---- what leaves S

module _ (geo : Geometry) where
  pub apply-S : (d : Plain) → (plain_apply geo d).plain.S ≡ d.S
  unfolding plain_apply
  apply-S d = go (eqb d.n 0) (leb (d.n + 3) d.power)
    where
      go : (s t : Bool)
          → (cond {A = Done} s (still d) (cond t (done (apply_takes d.n) (cleared d)) (cut_short geo (of_apply d.power) (apply_waits d.waiting d.n d.power) d))).plain.S ≡ d.S
      go true t = refl
      go false true = refl
      go false false = refl

  pub barrier-S : (d : Plain) → (plain_barrier geo d).plain.S ≡ d.S
  unfolding plain_barrier
  barrier-S d = go (eqb d.waiting 0) (leb 1 d.power)
    where
      go : (s t : Bool) → (cond {A = Done} s (still d) (cond t (done 1 (flushed (spent 1 d))) (cut_short geo (of_sync d.power) d.waiting d))).plain.S ≡ d.S
      go true t = refl
      go false true = refl
      go false false = refl

  -- no group is laid by what a recovery finds
  pub recover_groups : (found : Disk) (d : Plain) → (plain_recover geo found d).plain.S.groups ≡ d.S.groups
  unfolding plain_recover
  recover_groups found d = go (leb (cond d.F 2 0) d.power)
    where
      go : (t : Bool) → (cond {A = Done} t (done (cond d.F 2 0) (recovered (cond d.F 2 0) found d)) (cut_short geo (of_recover d.power) d.power d)).plain.S.groups ≡ d.S.groups
      go true = refl
      go false = refl
