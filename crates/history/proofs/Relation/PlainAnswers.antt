-- What a call that is not refused may come to: answers, modes and S, by the plain disk.
use Prim.Native.Nat.{ℕ, ◌+◌, ◌≤◌, ◌<◌}
use mathlib.Core.Path.{◌≡◌, refl, ap, sym, ◌∙◌}
use mathlib.Core.Logic.{◌≢◌, ◌⊎◌}
use mathlib.Core.Bool.{Bool, true, false}
use native.Mathlib.Omega.{arith}
use native.Mathlib.Decide.{ℕ_discrete, dec_le}
use borrow.Author.Tests.{eq-eqb, ne_eqb}
use mathlib.Core.List.{List}
use lib.ListN.{length}
use Rattle.card.specs.Disk.{Disk}
use Rattle.store.specs.Local.{Local}
use Rattle.store.specs.Save.{Save}
use Rattle.store.specs.Request as Request
use Rattle.store.proofs.Causes.{needs_open}
use Rattle.journal.specs.Geometry.{Geometry}
use Rattle.history.specs.Call.{Call, local, direct, save, cut}
use Rattle.history.specs.Plain.{Plain, Short, of_direct, Fed, Done, done, cut_short, when_open, locally, saving, served, plain_sync, plain_direct, written, plain_cut, sync_takes, direct_takes, direct_waits}
use Rattle.history.proofs.Relation.PlainLaws.{barrier_none, barrier-done, barrier-short, direct-done, direct_short, sync_nothing, sync-finished, sync-short, apply_nothing, apply-finished, apply-short, recover_whole, recover_fallback, recover-short}

abbrev pub Either : ℕ → Type 0
Either k = (k ≡ 0) ⊎ (k ≡ 4)

-- ---- a save: done, or cut short

module _ (geo : Geometry) where
  pub sync-cases : (P : Done → Type 0) (d : Plain) → (length d.G ≡ 0 → P (plain_sync geo d)) → (length d.G ≢ 0 → sync_takes geo d.n (length d.G) ≤ d.power → P (plain_sync geo d))
      → (length d.G ≢ 0 → d.power < sync_takes geo d.n (length d.G) → P (plain_sync geo d)) → P (plain_sync geo d)
  sync-cases P d a b c = go (ℕ_discrete (length d.G) 0) (dec_le (sync_takes geo d.n (length d.G)) d.power)
    where
      go : Dec (length d.G ≡ 0) → Dec (sync_takes geo d.n (length d.G) ≤ d.power) → P (plain_sync geo d)
      go (yes z) q = a z
      go (no z) (yes q) = b z q
      go (no z) (no q) = c z (omega arith)

  -- how a save ends: done, with nothing to do or with all its orders, having left N, not raised the power, and left the mode or opened the
  -- record; or cut short
  pub data SaveEnd (f : Disk) (c : Save) (d : Plain) : Type 0 where
    whole : (k : ℕ) (e : Plain) → saving geo c f d ≡ done k e → e.N ≡ d.N → e.power ≤ d.power → (e.mode ≡ d.mode) ⊎ (e.mode ≡ 1) → SaveEnd f c d
    short : (s : Short) (k : ℕ) → saving geo c f d ≡ cut_short geo s k d → SaveEnd f c d

  barrier_end : (f : Disk) (d : Plain) → length d.G ≡ 0 → SaveEnd f Save.sync d
  barrier_end f d z = go (ℕ_discrete d.waiting 0) (dec_le 1 d.power)
    where
      go : Dec (d.waiting ≡ 0) → Dec (1 ≤ d.power) → SaveEnd f Save.sync d
      go (yes w) q = whole _ _ (sync_nothing geo d z ∙ barrier_none geo d w) refl (omega arith) (◌⊎◌.inl refl)
      go (no w) (yes q) = whole _ _ (sync_nothing geo d z ∙ barrier-done geo d w q) refl (omega arith) (◌⊎◌.inl refl)
      go (no w) (no q) = short _ _ (sync_nothing geo d z ∙ barrier-short geo d w (omega arith))

  pub save_end : (f : Disk) (c : Save) (d : Plain) → SaveEnd f c d
  save_end f Save.sync d = go (ℕ_discrete (length d.G) 0) (dec_le (sync_takes geo d.n (length d.G)) d.power)
    where
      go : Dec (length d.G ≡ 0) → Dec (sync_takes geo d.n (length d.G) ≤ d.power) → SaveEnd f Save.sync d
      go (yes z) q = barrier_end f d z
      go (no z) (yes q) = whole _ _ (sync-finished geo d z q) refl (omega arith) (◌⊎◌.inl refl)
      go (no z) (no q) = short _ _ (sync-short geo d z (omega arith))
  save_end f Save.apply d = go (ℕ_discrete d.n 0) (dec_le (d.n + 3) d.power)
    where
      go : Dec (d.n ≡ 0) → Dec (d.n + 3 ≤ d.power) → SaveEnd f Save.apply d
      go (yes z) q = whole _ _ (apply_nothing geo d z) refl (omega arith) (◌⊎◌.inl refl)
      go (no z) (yes q) = whole _ _ (apply-finished geo d z q) refl (omega arith) (◌⊎◌.inl refl)
      go (no z) (no q) = short _ _ (apply-short geo d z (omega arith))
  save_end f Save.recover d = go d.F refl (dec_le 2 d.power)
    where
      go : (t : Bool) → d.F ≡ t → Dec (2 ≤ d.power) → SaveEnd f Save.recover d
      go false z q = whole _ _ (recover_whole geo f d z) refl (omega arith) (◌⊎◌.inr refl)
      go true z (yes q) = whole _ _ (recover_fallback geo f d z q) refl (omega arith) (◌⊎◌.inr refl)
      go true z (no q) = short _ _ (recover-short geo f d z (omega arith))

  save_answer : (f : Disk) (c : Save) (d : Plain) → SaveEnd f c d → Either (saving geo c f d).answer
  save_answer f c d (whole k e p n s m) = ◌⊎◌.inl (ap (λ (o : Done). o.answer) p)
  save_answer f c d (short s k p) = ◌⊎◌.inr (ap (λ (o : Done). o.answer) p)

  pub save_N : (f : Disk) (c : Save) (d : Plain) → SaveEnd f c d → (saving geo c f d).plain.N ≡ d.N
  save_N f c d (whole k e p n s m) = ap (λ (o : Done). o.plain.N) p ∙ n
  save_N f c d (short s k p) = ap (λ (o : Done). o.plain.N) p

  pub save_power : (f : Disk) (c : Save) (d : Plain) → SaveEnd f c d → (saving geo c f d).plain.power ≤ d.power
  save_power f c d (whole k e p n s m) = rw p s
  save_power f c d (short s k p) = rw p (omega arith)

  -- a save of a record that is not closed leaves one
  pub save_mode : (f : Disk) (c : Save) (d : Plain) → SaveEnd f c d → d.mode ≢ 0 → (saving geo c f d).plain.mode ≢ 0
  save_mode f c d (whole k e p n s (◌⊎◌.inl m)) h q = h (sym m ∙ sym (ap (λ (o : Done). o.plain.mode) p) ∙ q)
  save_mode f c d (whole k e p n s (◌⊎◌.inr m)) h q = let z : ◌≡◌ {A = ℕ} 1 0 = sym m ∙ sym (ap (λ (o : Done). o.plain.mode) p) ∙ q in omega arith
  save_mode f c d (short s k p) h q = let z : ◌≡◌ {A = ℕ} 2 0 = sym (ap (λ (o : Done). o.plain.mode) p) ∙ q in omega arith

-- ---- a local call: power, or one that needs an open record and changes the lists alone

pub record ListsAlone (d e : Plain) : Type 0 where
  pub N : e.N ≡ d.N
  pub S : e.S ≡ d.S
  pub mode : e.mode ≡ d.mode
  pub power : e.power ≡ d.power

module _ (geo : Geometry) where
  pub data LocalKind : Local → Type 0 where
    powers : (k : ℕ) → LocalKind (Local.power k)
    opens : (c : Local) → needs_open geo (Request.local c) ≡ true → ((d : Plain) → ListsAlone d (locally c d)) → LocalKind c

  pub local_kind : (c : Local) → LocalKind c
  local_kind (Local.power k) = powers k
  local_kind (Local.put a b) = opens _ refl (λ d. record { N = refl; S = refl; mode = refl; power = refl })
  local_kind (Local.get a) = opens _ refl (λ d. record { N = refl; S = refl; mode = refl; power = refl })
  local_kind (Local.get_list xs bs) = opens _ refl (λ d. record { N = refl; S = refl; mode = refl; power = refl })
  local_kind Local.commit = opens _ refl (λ d. record { N = refl; S = refl; mode = refl; power = refl })
  local_kind Local.abandon = opens _ refl (λ d. record { N = refl; S = refl; mode = refl; power = refl })

  pub local_N : (c : Local) (d : Plain) → LocalKind c → (locally c d).N ≡ d.N
  local_N c d (powers k) = refl
  local_N c d (opens _ n s) = (s d).N

  -- ---- a direct write: done, or cut short

  pub direct_cases : (P : Done → Type 0) (a : ℕ) (b : List ℕ) (d : Plain) → (direct_takes geo d.waiting ≤ d.power → P (done (direct_takes geo d.waiting) (written geo a b d)))
      → (d.power < direct_takes geo d.waiting → P (cut_short geo (of_direct d.power) (direct_waits d.waiting d.power) d)) → P (plain_direct geo a b d)
  direct_cases P a b d x y = go (dec_le (direct_takes geo d.waiting) d.power)
    where
      go : Dec (direct_takes geo d.waiting ≤ d.power) → P (plain_direct geo a b d)
      go (yes q) = rw (direct-done geo a b d q) (x q)
      go (no q) = rw (direct_short geo a b d (omega arith)) (y (omega arith))

  direct_answer : (a : ℕ) (b : List ℕ) (d : Plain) → Either (plain_direct geo a b d).answer
  direct_answer a b d = direct_cases (λ o. Either o.answer) a b d (λ q. ◌⊎◌.inl refl) (λ q. ◌⊎◌.inr refl)

  direct_N : (a : ℕ) (b : List ℕ) (d : Plain) → (plain_direct geo a b d).plain.N ≡ d.N
  direct_N a b d = direct_cases (λ o. o.plain.N ≡ d.N) a b d (λ q. refl) (λ q. refl)

  -- a direct write on a record that is not closed leaves one
  pub direct_mode : (a : ℕ) (b : List ℕ) (d : Plain) → d.mode ≢ 0 → (plain_direct geo a b d).plain.mode ≢ 0
  direct_mode a b d h = direct_cases (λ o. o.plain.mode ≢ 0) a b d (λ q. h) (λ q e. omega arith)

  -- ---- every call

  -- done or power gone
  pub served-answer : (c : Call) (f : Fed) (d : Plain) → Either (served geo c f d).answer
  unfolding plain_cut
  served-answer (local c) f d = ◌⊎◌.inl refl
  served-answer (direct a b) f d = direct_answer a b d
  served-answer (save c) f d = save_answer geo f.found c d (save_end geo f.found c d)
  served-answer (cut ms) f d = ◌⊎◌.inl refl

  -- N never changes
  pub served-N : (c : Call) (f : Fed) (d : Plain) → (served geo c f d).plain.N ≡ d.N
  unfolding plain_cut
  served-N (local c) f d = local_N c d (local_kind c)
  served-N (direct a b) f d = direct_N a b d
  served-N (save c) f d = save_N geo f.found c d (save_end geo f.found c d)
  served-N (cut ms) f d = refl

-- ---- modes

-- a call that needs an open record and is not refused has one
pub when-open : (d : Plain) (rest : ℕ) → when_open d rest ≡ 0 → (d.mode ≢ 0) × (d.mode ≢ 2)
when-open d rest h = go (ℕ_discrete d.mode 0) (ℕ_discrete d.mode 2)
  where
    go : Dec (d.mode ≡ 0) → Dec (d.mode ≡ 2) → (d.mode ≢ 0) × (d.mode ≢ 2)
    go (yes a) q = absurd (three (rw (eq-eqb _ 0 a) at h))
      where
        three : ◌≡◌ {A = ℕ} 3 0 → ⊥
        three e = omega arith
    go (no a) (yes q) = absurd (four (rw (ne_eqb _ 0 a, eq-eqb _ 2 q) at h))
      where
        four : ◌≡◌ {A = ℕ} 4 0 → ⊥
        four e = omega arith
    go (no a) (no q) = (a, q)
