-- Blocks with the kept bytes of writes laid over them: byte by byte, and for marks that tear nothing.
use Prim.Native.Nat.{ℕ, zero, suc, ◌+◌, ◌*◌, ◌≤◌, ◌<◌}
use mathlib.Core.Path.{◌≡◌, refl, ap, sym, ◌∙◌}
use mathlib.Core.Bool.{Bool, true, false, cond, ◌&&◌}
use mathlib.Core.Logic.{◌≢◌, ◌⊎◌}
use mathlib.Core.List.{List, [], ◌∷◌, ◌++◌}
use native.Mathlib.Nat.{add-zero, zero-add}
use native.Mathlib.Numerals.{add-one}
use native.Mathlib.Omega.{arith}
use borrow.Author.Tests.{eqb-true, eqb-false, eq-eqb, ne_eqb}
use lib.Dec.{eqb}
use lib.ListN.{length, get_or, replicate, get_or-replicate}
use Rattle.cells.specs.Cell.{set_cell}
use Rattle.cells.specs.Cell.Laws.{length-cell, length_set_cell, cell_same, cell_other, get_or-cell}
use Rattle.cells.specs.Upto.{up_to}
use Rattle.cells.specs.Upto.Laws.{length-up_to}
use Rattle.cells.specs.Entry.{block_bytes, Entry}
use Rattle.card.specs.Disk.{Disk, lay, overlay}
use Rattle.card.specs.Card.{torn, settle_kept, block_at, blocks_in}
use Rattle.card.specs.Marks.{marks_at}
use Rattle.card.specs.Torn.{newest_byte, kept}
use Rattle.card.proofs.All.{All, Any}
use Rattle.card.proofs.Runs.{Whole}

-- ---- one block

pub length-torn : (ms new old : List ℕ) → length (torn ms new old) ≡ length old
unfolding torn
length-torn [] new old = refl
length-torn (m ∷ ms) [] old = refl
length-torn (m ∷ ms) (x ∷ new) [] = refl
length-torn (m ∷ ms) (x ∷ new) (y ∷ old) = ap suc (length-torn ms new old)

pub get_or-torn : (ms new old : List ℕ) (j : ℕ) → length new ≡ length old → j < length old
    → get_or (torn ms new old) j 0 ≡ cond (eqb (get_or ms j 0) 1) (get_or new j 0) (get_or old j 0)
unfolding torn
get_or-torn [] new old j e h = refl
get_or-torn (m ∷ ms) [] old j e h = absurd (omega arith)
get_or-torn (m ∷ ms) (x ∷ new) [] j e h = absurd (omega arith)
get_or-torn (m ∷ ms) (x ∷ new) (y ∷ old) zero e h = refl
get_or-torn (m ∷ ms) (x ∷ new) (y ∷ old) (suc j) e h = get_or-torn ms new old j (omega arith) (omega arith)

-- ---- a byte, by the marks of each write: the form in which a byte is followed through a queue

unfoldable pub newest_cell : List ℕ → ℕ → ℕ → ℕ → List Entry → ℕ → ℕ
newest_cell ms i a j [] x = x
newest_cell ms i a j (e ∷ q) x = newest_cell ms (suc i) a j q (cond (eqb a e.address && eqb (get_or (marks_at ms i) j 0) 1) (get_or e.block j 0) x)

-- the same by the marks in a row
pub cell-flat : (ms : List ℕ) (i a j : ℕ) (q : List Entry) (x : ℕ) → j < block_bytes → newest_cell ms i a j q x ≡ newest_byte ms i a j q x
unfolding newest_cell newest_byte
cell-flat ms i a j [] x h = refl
cell-flat ms i a j (e ∷ q) x h = rw (get_or-cell block_bytes ms i j h) (cell-flat ms (suc i) a j q _ h)

-- ---- writes in a row

pub settle_kept-append : (ms : List ℕ) (i : ℕ) (a b : List Entry) (s : List ℕ) → settle_kept ms i (a ++ b) s ≡ settle_kept ms (i + length a) b (settle_kept ms i a s)
unfolding settle_kept
settle_kept-append ms i [] b s = rw (add-zero i)
settle_kept-append ms i (e ∷ a) b s =
    let z : i + suc (length a) ≡ suc i + length a = omega arith in
    rw z (settle_kept-append ms (suc i) a b (set_cell block_bytes s e.address (torn (marks_at ms i) e.block (block_at s e.address))))

-- one more
pub settle_kept_more : (ms : List ℕ) (f : ℕ → Entry) (k : ℕ) (s : List ℕ) → settle_kept ms 0 (up_to f (k + 1)) s ≡ settle_kept ms k (f k ∷ []) (settle_kept ms 0 (up_to f k) s)
settle_kept_more ms f k s =
    let z : 0 + length (up_to f k) ≡ k = zero-add (length (up_to f k)) ∙ length-up_to f k in
    rw (add-one) (settle_kept-append ms 0 (up_to f k) (f k ∷ []) s ∙ ap (λ (i : ℕ). settle_kept ms i (f k ∷ []) (settle_kept ms 0 (up_to f k) s)) z)

pub length-settle_kept : (ms : List ℕ) (i : ℕ) (q : List Entry) (s : List ℕ) → length (settle_kept ms i q s) ≡ length s
unfolding settle_kept
length-settle_kept ms i [] s = refl
length-settle_kept ms i (e ∷ q) s = length-settle_kept ms (suc i) q _ ∙ length_set_cell block_bytes s e.address (torn (marks_at ms i) e.block (block_at s e.address))

-- "byte by byte the newest kept write wins"
pub settle_kept_byte : (ms : List ℕ) (i : ℕ) (q : List Entry) (s : List ℕ) (a j : ℕ) → a < blocks_in s → j < block_bytes → All Whole q
    → get_or (block_at (settle_kept ms i q s) a) j 0 ≡ newest_cell ms i a j q (get_or (block_at s a) j 0)
unfolding settle_kept newest_cell
settle_kept_byte ms i [] s a j h l w = refl
settle_kept_byte ms i (e ∷ q) s a j h l w =
    let inside : a < blocks_in next = rw (length_set_cell) h in
    settle_kept_byte ms (suc i) q next a j inside l w.1 ∙ ap (λ (x : ℕ). newest_cell ms (suc i) a j q x) (go (eqb a e.address) refl)
  where
    part : List ℕ
    part = torn (marks_at ms i) e.block (block_at s e.address)

    next : List ℕ
    next = set_cell block_bytes s e.address (torn (marks_at ms i) e.block (block_at s e.address))

    go : (t : Bool) → eqb a e.address ≡ t
        → get_or (block_at next a) j 0 ≡ cond (t && eqb (get_or (marks_at ms i) j 0) 1) (get_or e.block j 0) (get_or (block_at s a) j 0)
    go true p =
        let z : a ≡ e.address = eqb-true _ _ p in
        let room : block_bytes * e.address + block_bytes ≤ length s = omega arith in
        let size : length (block_at s e.address) ≡ block_bytes = length-cell block_bytes s e.address room in
        rw (z, cell_same block_bytes s e.address part room (length-torn (marks_at ms i) e.block (block_at s e.address) ∙ size))
        (get_or-torn (marks_at ms i) e.block (block_at s e.address) j (w.0 ∙ sym size) (rw size l))
    go false p = ap (λ (b : List ℕ). get_or b j 0) (cell_other block_bytes s e.address a part (eqb-false _ _ p))

-- ---- the newest byte

-- no write is addressed to the block
pub newest_none : (ms : List ℕ) (i a j : ℕ) (q : List Entry) (x : ℕ) → All (λ e. a ≢ e.address) q → newest_cell ms i a j q x ≡ x
unfolding newest_cell
newest_none ms i a j [] x o = refl
newest_none ms i a j (e ∷ q) x o = rw (ne_eqb _ _ o.0) (newest_none ms (suc i) a j q x o.1)

-- write behind write
pub newest-append : (ms : List ℕ) (i a j : ℕ) (es fs : List Entry) (x : ℕ) → newest_cell ms i a j (es ++ fs) x ≡ newest_cell ms (i + length es) a j fs (newest_cell ms i a j es x)
unfolding newest_cell
newest-append ms i a j [] fs x = rw (add-zero i)
newest-append ms i a j (e ∷ es) fs x = let z : i + suc (length es) ≡ suc i + length es = omega arith in rw z (newest-append ms (suc i) a j es fs _)

-- one write alone is
pub newest-one : (ms : List ℕ) (a j : ℕ) (es fs : List Entry) (e : Entry) (x : ℕ) → e.address ≡ a → All (λ f. a ≢ f.address) es → All (λ f. a ≢ f.address) fs
    → newest_cell ms 0 a j (es ++ (e ∷ fs)) x ≡ cond (eqb (get_or (marks_at ms (length es)) j 0) 1) (get_or e.block j 0) x
unfolding newest_cell
newest-one ms a j es fs e x z o p =
    newest-append ms 0 a j es (e ∷ fs) x
    ∙ rw (newest_none ms 0 a j es x o, zero-add (length es), eq-eqb a e.address (sym z))
    (newest_none ms (suc (length es)) a j fs _ p)

-- it is what stood, or some write's
pub newest_either : (ms : List ℕ) (i a j : ℕ) (q : List Entry) (x : ℕ)
    → (newest_cell ms i a j q x ≡ x) ⊎ Any (λ e. (e.address ≡ a) × (newest_cell ms i a j q x ≡ get_or e.block j 0)) q
unfolding newest_cell
newest_either ms i a j [] x = ◌⊎◌.inl refl
newest_either ms i a j (e ∷ q) x =
    go (eqb a e.address) (eqb (get_or (marks_at ms i) j 0) 1) refl (newest_either ms (suc i) a j q _)
  where
    go : (t u : Bool) → eqb a e.address ≡ t
        → (newest_cell ms (suc i) a j q (cond (t && u) (get_or e.block j 0) x) ≡ cond (t && u) (get_or e.block j 0) x)
        ⊎ Any (λ f. (f.address ≡ a) × (newest_cell ms (suc i) a j q (cond (t && u) (get_or e.block j 0) x) ≡ get_or f.block j 0)) q
        → (newest_cell ms (suc i) a j q (cond (t && u) (get_or e.block j 0) x) ≡ x)
        ⊎ Any (λ f. (f.address ≡ a) × (newest_cell ms (suc i) a j q (cond (t && u) (get_or e.block j 0) x) ≡ get_or f.block j 0)) (e ∷ q)
    go t u p (◌⊎◌.inr r) = ◌⊎◌.inr (◌⊎◌.inr r)
    go true true p (◌⊎◌.inl r) = ◌⊎◌.inr (◌⊎◌.inl (sym (eqb-true _ _ p), r))
    go true false p (◌⊎◌.inl r) = ◌⊎◌.inl r
    go false u p (◌⊎◌.inl r) = ◌⊎◌.inl r

-- ---- writes that are kept or lost whole

kept_nil : (es : List Entry) → kept [] es ≡ []
unfolding kept
kept_nil es = refl

kept-all : (es : List Entry) → kept (replicate (length es) 1) es ≡ es
unfolding kept
kept-all [] = refl
kept-all (e ∷ es) = ap (λ (l : List Entry). e ∷ l) (kept-all es)

-- of each write this byte is kept if the write is: the kept writes are laid over
newest-kept : (ns : List ℕ) (i a j : ℕ) (ms : List ℕ) (q : List Entry) (d : Disk) → ((k : ℕ) → k < length q → eqb (get_or (marks_at ns (i + k)) j 0) 1 ≡ eqb (get_or ms k 0) 1)
    → newest_cell ns i a j q (get_or (d a) j 0) ≡ get_or (overlay (kept ms q) d a) j 0
unfolding newest_cell kept overlay lay
newest-kept ns i a j [] [] d h = refl
newest-kept ns i a j (m ∷ ms) [] d h = refl
newest-kept ns i a j ms (e ∷ q) d h =
    let z : i ≡ i + 0 = omega arith in
    let first : eqb (get_or (marks_at ns i) j 0) 1 ≡ eqb (get_or ms 0 0) 1 = ap (λ (p : ℕ). eqb (get_or (marks_at ns p) j 0) 1) z ∙ h 0 (omega arith) in
    let more : (k : ℕ) → k < length q → eqb (get_or (marks_at ns (suc i + k)) j 0) 1 ≡ eqb (get_or ms (suc k) 0) 1 = λ k l. let u : suc i + k ≡ i + suc k = omega arith in rw u (h (suc k) (omega arith)) in
    rw first (go ms more (λ l g more. newest-kept ns (suc i) a j l q g more))
  where
    over : (t : Bool) → cond (t && true) (get_or e.block j 0) (get_or (d a) j 0) ≡ get_or (cond t e.block (d a)) j 0
    over true = refl
    over false = refl

    under : (t : Bool) → cond (t && false) (get_or e.block j 0) (get_or (d a) j 0) ≡ get_or (d a) j 0
    under true = refl
    under false = refl

    go : (l : List ℕ) → ((k : ℕ) → k < length q → eqb (get_or (marks_at ns (suc i + k)) j 0) 1 ≡ eqb (get_or l (suc k) 0) 1)
        → ((r : List ℕ) (g : Disk) → ((k : ℕ) → k < length q → eqb (get_or (marks_at ns (suc i + k)) j 0) 1 ≡ eqb (get_or r k 0) 1) → newest_cell ns (suc i) a j q (get_or (g a) j 0) ≡ get_or (overlay (kept r q) g a) j 0)
        → newest_cell ns (suc i) a j q (cond (eqb a e.address && eqb (get_or l 0 0) 1) (get_or e.block j 0) (get_or (d a) j 0)) ≡ get_or (overlay (kept l (e ∷ q)) d a) j 0
    go [] behind more = ap (λ (x : ℕ). newest_cell ns (suc i) a j q x) (under (eqb a e.address)) ∙ more [] d behind ∙ ap (λ (es : List Entry). get_or (overlay es d a) j 0) (kept_nil q)
    go (m ∷ l) behind more = at (eqb m 1)
      where
        at : (t : Bool) → newest_cell ns (suc i) a j q (cond (eqb a e.address && t) (get_or e.block j 0) (get_or (d a) j 0)) ≡ get_or (overlay (cond t (e ∷ kept l q) (kept l q)) d a) j 0
        at true = ap (λ (x : ℕ). newest_cell ns (suc i) a j q x) (over (eqb a e.address)) ∙ more l (lay e d) behind
        at false = ap (λ (x : ℕ). newest_cell ns (suc i) a j q x) (under (eqb a e.address)) ∙ more l d behind

-- this byte of every write is kept: all are laid over
pub newest-all : (ms : List ℕ) (i a j : ℕ) (q : List Entry) (d : Disk) → ((k : ℕ) → k < length q → get_or (marks_at ms (i + k)) j 0 ≡ 1)
    → newest_cell ms i a j q (get_or (d a) j 0) ≡ get_or (overlay q d a) j 0
newest-all ms i a j q d h =
    newest-kept ms i a j (replicate (length q) 1) q d (λ k l. ap (λ (m : ℕ). eqb m 1) (h k l ∙ sym (get_or-replicate (length q) k 1 0 l)))
    ∙ ap (λ (es : List Entry). get_or (overlay es d a) j 0) (kept-all q)
