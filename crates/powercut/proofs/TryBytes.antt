-- The marks of a try, byte by byte.
use Prim.Native.Nat.{ℕ, ◌+◌, ◌*◌, ◌-◌, ◌/◌, ◌%◌, ◌<◌}
use mathlib.Core.Path.{◌≡◌, refl, ap, sym, ◌∙◌}
use mathlib.Core.Bool.{Bool, true, false, cond}
use native.Mathlib.Omega.{arith}
use lib.Dec.{ltb}
use lib.ListN.{length, get_or}
use lib.Seq.{ext_get_or}
use Rattle.cells.specs.Cell.Laws.{get_or-cell}
use Rattle.cells.specs.Upto.{up_to}
use Rattle.cells.specs.Upto.Laws.{length-up_to, get_or-up_to}
use Rattle.card.specs.Marks.{spread}
use Rattle.card.proofs.Spreads.{length-spread, spread-mark}
use Rattle.powercut.specs.Sets.{set_count, mark, marks}
use Rattle.powercut.specs.Tears.{torn_mark, torn_marks}
use Rattle.powercut.specs.Tries.{try_mark, try_marks}

-- one mark for each write
spread-bytes : (f : ℕ → ℕ) (n : ℕ) → spread (up_to f n) ≡ up_to (λ x. f (x / 512)) (512 * n)
spread-bytes f n = ext_get_or 0 (spread (up_to f n)) (up_to g (512 * n)) (size ∙ sym (length-up_to g (512 * n))) same
  where
    g : ℕ → ℕ
    g x = f (x / 512)

    size : length (spread (up_to f n)) ≡ 512 * n
    size = length-spread (up_to f n) ∙ ap (λ (k : ℕ). 512 * k) (length-up_to f n)

    same : (x : ℕ) → x < length (spread (up_to f n)) → get_or (spread (up_to f n)) x 0 ≡ get_or (up_to g (512 * n)) x 0
    same x p =
        let inside : x < 512 * n = omega (arith, size) in
        let place : x ≡ 512 * (x / 512) + x % 512 = omega arith in
        ap (λ (y : ℕ). get_or (spread (up_to f n)) y 0) place
        ∙ sym (get_or-cell 512 (spread (up_to f n)) (x / 512) (x % 512) (omega arith))
        ∙ spread-mark (up_to f n) (x / 512) (x % 512) (omega arith)
        ∙ get_or-up_to f n (x / 512) 0 (omega arith)
        ∙ sym (get_or-up_to g (512 * n) x 0 inside)

pub try_bytes : (n k x : ℕ) → try_marks n k x ≡ up_to (λ b. try_mark n k x (b / 512) (b % 512)) (512 * n)
unfolding try_marks try_mark torn_marks marks
try_bytes n k x = go (ltb x (set_count n))
  where
    go : (t : Bool) → cond t (spread (marks n x)) (torn_marks n k (x - set_count n)) ≡ up_to (λ b. cond t (mark n x (b / 512)) (torn_mark k (x - set_count n) (b / 512) (b % 512))) (512 * n)
    go true = spread-bytes (mark n x) n
    go false = refl
