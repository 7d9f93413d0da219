-- The plain disk along the worked scripts, and how the store follows it.
use Prim.Native.Nat.{ℕ}
use mathlib.Core.Path.{◌≡◌, refl, ap, ◌∙◌}
use mathlib.Core.Bool.{Bool, true, false, cond, not, ◌&&◌, ◌||◌, or-false}
use mathlib.Core.List.{List, [], ◌∷◌}
use lib.Dec.{eqb}
use lib.ListN.{length, replicate}
use Rattle.cells.specs.Entry.{block_bytes, Entry}
use Rattle.crash.specs.Laid.{Laid, lay_over}
use Rattle.card.specs.Marks.{kept_at, marks_for, marks_of}
use Rattle.card.proofs.Spreads.{marks_of_for, marks_of_whole, marks_of-kept}
use Rattle.journal.specs.Geometry.{trap}
use Rattle.journal.specs.Header.{most_save}
use Rattle.history.specs.Call.{Call, power, put, get, commit, sync, apply, recover, cut}
use Rattle.history.specs.Plain.{Plain, Done, Fed, of_sync, among, addresses, flushes, with_log, blank_plain, with_s, with_lists, with_count, with_power, done, cut_short, closed_with, has, insert, merge, header_waits, plain_fit, refusal, header_kept, verdict, own_verdict, plain_sync, plain_apply, plain_recover, plain_cut, plain_step, still}
use Rattle.history.specs.Dispatch.{dispatch}
use Rattle.history.specs.History.{World, next, fed, exception}
use Rattle.history.specs.Worked.{at40, cut101, cut111, cut_half, cut_fifth, cut_header}
use Rattle.history.proofs.Worked.TornMarks.{whole_half, for_half, whole_fifth, for_fifth, header-torn}
use Rattle.history.proofs.Steps.Shown.{WorldSim}
use Rattle.history.proofs.Steps.ListInduction.{step, next_sim}

-- ---- the plain disk

-- the log is of block 40 alone
abbrev pub open_at : Laid → List Entry → List Entry → ℕ → ℕ → Plain
open_at S G T n p = with_s S (with_lists G T (with_count n (with_log (replicate n 40) (with_power p (blank_plain 64)))))

-- a sync of G over n = 1 was cut short by power 3
abbrev pub down_at : Laid → List Entry → Plain
down_at S G = (cut_short trap (of_sync 3) 3 (open_at S G [] 1 3)).plain

abbrev pub closed_at : Laid → ℕ → ℕ → Bool → Plain
closed_at S n p F = closed_with S n F (replicate n 40) (with_power p (blank_plain 64))

pub plain_put : (t : Fed) (S : Laid) (n p : ℕ) (b : List ℕ) → length b ≡ block_bytes → plain_step trap (put 40 b) t (open_at S [] [] n p) ≡ still (open_at S [] (at40 b ∷ []) n p)
unfolding plain_step refusal has insert trap
plain_put t S n p b h = rw h

pub plain_commit : (t : Fed) (S : Laid) (n p : ℕ) (b : List ℕ) → plain_step trap commit t (open_at S [] (at40 b ∷ []) n p) ≡ still (open_at S (at40 b ∷ []) [] n p)
unfolding plain_step refusal merge insert trap
plain_commit t S n p b = refl

pub plain_filed : (t : Fed) (S : Laid) (b : List ℕ) → eqb S.groups most_save ≡ false
    → plain_step trap sync t (open_at S (at40 b ∷ []) [] 0 1000000) ≡ done 4 (open_at (lay_over (at40 b ∷ []) S) [] [] 1 999996)
unfolding plain_step refusal plain_sync addresses trap
plain_filed t S b free = rw free

pub plain_applied : (t : Fed) (S : Laid) → plain_step trap apply t (open_at S [] [] 1 999996) ≡ done 4 (open_at S [] [] 0 999992)
unfolding plain_step refusal plain_apply
plain_applied t S = refl

pub plain_power : (t : Fed) (S : Laid) (G : List Entry) (p k : ℕ) → plain_step trap (power k) t (open_at S G [] 1 p) ≡ still (open_at S G [] 1 k)
unfolding plain_step refusal
plain_power t S G p k = refl

pub plain_halted : (t : Fed) (S : Laid) (b : List ℕ) → eqb S.groups most_save ≡ false → plain_step trap sync t (open_at S (at40 b ∷ []) [] 1 3) ≡ cut_short trap (of_sync 3) 3 (open_at S (at40 b ∷ []) [] 1 3)
unfolding plain_step refusal plain_sync trap
plain_halted t S b free = rw free

-- marks for three whole writes, the last a header, fit
fits_three : (x y z : Bool) (S : Laid) (b : List ℕ) → plain_fit trap (marks_of (x ∷ y ∷ z ∷ [])) (down_at S (at40 b ∷ [])) ≡ true
unfolding plain_fit header_waits trap
fits_three x y z S b = rw (marks_of_for (x ∷ y ∷ z ∷ []), marks_of_whole (x ∷ y ∷ z ∷ []) 2 (lib.Dec.lit< tt))

-- so do those of the cuts 101 and 111, which keep that header
pub fits_101 : (S : Laid) (b : List ℕ) → plain_fit trap cut101 (down_at S (at40 b ∷ [])) ≡ true
fits_101 = fits_three true false true

pub header_101 : kept_at cut101 2 ≡ true
header_101 = marks_of-kept (true ∷ false ∷ true ∷ []) 2 (lib.Dec.lit< tt)

pub fits_111 : (S : Laid) (b : List ℕ) → plain_fit trap cut111 (down_at S (at40 b ∷ [])) ≡ true
fits_111 = fits_three true true true

pub header_111 : kept_at cut111 2 ≡ true
header_111 = marks_of-kept (true ∷ true ∷ true ∷ []) 2 (lib.Dec.lit< tt)

-- those of the torn log block do too
pub fits_half : (S : Laid) (b : List ℕ) → plain_fit trap cut_half (down_at S (at40 b ∷ [])) ≡ true
unfolding plain_fit header_waits trap
fits_half S b = rw (for_half, whole_half)

-- and those of the torn descriptor
pub fits_fifth : (S : Laid) (b : List ℕ) → plain_fit trap cut_fifth (down_at S (at40 b ∷ [])) ≡ true
unfolding plain_fit header_waits trap
fits_fifth S b = rw (for_fifth, whole_fifth)

-- those that tear the header do not
pub refused-header : (S : Laid) (b : List ℕ) → refusal trap (cut cut_header) (down_at S (at40 b ∷ [])) ≡ 10
unfolding refusal plain_fit header_waits trap
refused-header S b = rw (header-torn) (none (marks_for cut_header 3))
  where
    none : (t : Bool) → ◌≡◌ {A = ℕ} (cond (not (t && false)) 10 0) 10
    none true = refl
    none false = refl

-- a cut that keeps the header, with another log found
pub plain_other : (ms : List ℕ) (S : Laid) (b : List ℕ) → plain_fit trap ms (down_at S (at40 b ∷ [])) ≡ true → kept_at ms 2 ≡ true
    → (t : Fed) → t.same ≡ false → plain_step trap (cut ms) t (down_at S (at40 b ∷ [])) ≡ still (closed_at S 1 0 true)
unfolding plain_step refusal plain_cut header_kept verdict own_verdict flushes trap
plain_other ms S b f k t e = rw (f, k, e)

-- and with the log written
pub plain_new : (ms : List ℕ) (S : Laid) (b : List ℕ) → plain_fit trap ms (down_at S (at40 b ∷ [])) ≡ true → kept_at ms 2 ≡ true
    → (t : Fed) → t.same ≡ true → plain_step trap (cut ms) t (down_at S (at40 b ∷ [])) ≡ still (closed_at (lay_over (at40 b ∷ []) S) 2 0 false)
unfolding plain_step refusal plain_cut header_kept verdict own_verdict flushes addresses trap
plain_new ms S b f k t e = rw (f, k, e)

pub plain_again : (t : Fed) (S : Laid) (n p k : ℕ) (F : Bool) → plain_step trap (power k) t (closed_at S n p F) ≡ still (closed_at S n k F)
unfolding plain_step refusal
plain_again t S n p k F = refl

pub plain_fallback : (t : Fed) (S : Laid) (n : ℕ) → plain_step trap recover t (closed_at S n 100 true) ≡ done 2 (open_at S [] [] n 98)
unfolding plain_step refusal plain_recover among
plain_fallback t S n = refl

pub plain_found : (t : Fed) (S : Laid) (n : ℕ) → plain_step trap recover t (closed_at S n 100 false) ≡ still (open_at S [] [] n 100)
unfolding plain_step refusal plain_recover among
plain_found t S n = refl

pub plain_shown : (t : Fed) (S : Laid) (n p : ℕ) → plain_step trap (get 40) t (open_at S [] [] n p) ≡ still (open_at S [] [] n p)
unfolding plain_step refusal trap
plain_shown t S n p = refl

-- ---- a call of the list that comes to o on the plain disk

pub record Went (c : Call) (w : World) (o : Done) : Type 0 where
  pub answer : (dispatch trap c w.store).answer ≡ o.answer
  pub orders : (dispatch trap c w.store).orders ≡ o.orders
  pub plain : (next trap c w).plain ≡ o.plain
  pub sim : WorldSim trap (next trap c w)
  pub clean : (next trap c w).excepted ≡ w.excepted

pub went : (c : Call) (w : World) (d : Plain) (o : Done) → WorldSim trap w → exception trap c w ≡ false → w.plain ≡ d → plain_step trap c (fed trap c w) d ≡ o → Went c w o
unfolding next
went c w d o m x e p =
    let q : plain_step trap c (fed trap c w) w.plain ≡ o = ap (plain_step trap c (fed trap c w)) e ∙ p in
    let a = (step trap c w m).agrees in
    record {
      answer = a.answer ∙ ap (λ (y : Done). y.answer) q;
      orders = a.orders ∙ ap (λ (y : Done). y.orders) q;
      plain = ap (λ (y : Done). y.plain) q;
      sim = next_sim trap c w m x;
      clean = ap (λ (t : Bool). w.excepted || t) x ∙ or-false w.excepted;
    }
