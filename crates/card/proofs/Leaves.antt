-- What a cut may leave of a disk: four laws. The crash theory goes by these, and by no more of what a cut does.
use Prim.Native.Nat.{ℕ, suc, ◌+◌, ◌*◌, ◌≤◌, ◌<◌}
use mathlib.Core.Path.{◌≡◌, refl, ap, sym, subst, ◌∙◌}
use mathlib.Core.Bool.{Bool, true, false, cond, not, ◌&&◌, ◌||◌, true≢false}
use mathlib.Core.Logic.{◌≢◌, ◌⊎◌}
use mathlib.Core.List.{List, [], ◌∷◌, ◌++◌}
use native.Mathlib.Nat.{zero-add, add-zero, suc-add}
use native.Mathlib.Omega.{arith}
use native.Mathlib.Decide.{dec_lt, ℕ_discrete}
use borrow.Author.Tests.{eqb-true, eq-eqb, ne_eqb}
use lib.Dec.{eqb}
use lib.ListN.{length, get_or, drop, length-append, get_or-eq_default}
use lib.Seq.{ext_get_or}
use Rattle.cells.specs.Cell.Laws.{length-cell}
use Rattle.cells.specs.Entry.{Entry, block_bytes}
use Rattle.card.specs.Disk.{Disk, overlay}
use Rattle.card.specs.Card.{Card, queue, settle, cut, block_at, blocks_in}
use Rattle.card.specs.Marks.{marks_at, kept_at, lost_at, all_kept, whole_at, whole_block, headers_whole, marks_fit}
use Rattle.card.proofs.All.{All, all_right, all_map, Any}
use Rattle.card.proofs.Overlays.{overlay-keeps}
use Rattle.card.proofs.Runs.{Whole, length-settle, settle-overlay}
use Rattle.card.proofs.Torn.{newest_cell, newest_none, newest-append, newest_either, newest-all}
use Rattle.card.proofs.MarkLaws.{both, fits_headers, kept-marks, lost-marks, all-marks, tail_marks}
use Rattle.card.proofs.Spreads.{ones, ones_fit, ones-kept}
use Rattle.card.proofs.Cuts.{cut-length, cut_byte}

-- ---- the newest kept write to a block

-- its block, or b if there is none; `keeps` tells which places of the queue are kept
unfoldable pub newest_kept : (ℕ → Bool) → ℕ → List Entry → List ℕ → List ℕ
newest_kept keeps a [] b = b
newest_kept keeps a (e ∷ q) b = newest_kept (λ i. keeps (suc i)) a q (cond (keeps 0 && eqb a e.address) e.block b)

-- every write to the block is lost
abbrev pub AllLost : (ℕ → Bool) → ℕ → List Entry → Type 0
AllLost keeps a [] = Unit {0}
AllLost keeps a (e ∷ q) = (a ≡ e.address → keeps 0 ≡ false) × AllLost (λ i. keeps (suc i)) a q

-- there is none
absent_lost : (keeps : ℕ → Bool) (a : ℕ) (q : List Entry) → All (λ e. a ≢ e.address) q → AllLost keeps a q
absent_lost keeps a [] o = tt
absent_lost keeps a (e ∷ q) o = ((λ z. absurd (o.0 z)), absent_lost (λ i. keeps (suc i)) a q o.1)

-- the only one is lost
pub only_lost : {q : List Entry} (keeps : ℕ → Bool) (a : ℕ) (es fs : List Entry) (e : Entry) → q ≡ es ++ (e ∷ fs)
    → All (λ f. a ≢ f.address) es → All (λ f. a ≢ f.address) fs → keeps (length es) ≡ false → AllLost keeps a q
only_lost {q} keeps a es fs e p off o k = subst (AllLost keeps a) (sym p) (go keeps es off k)
  where
    go : (keeps : ℕ → Bool) (es : List Entry) → All (λ f. a ≢ f.address) es → keeps (length es) ≡ false → AllLost keeps a (es ++ (e ∷ fs))
    go keeps [] off k = ((λ z. k), absent_lost (λ i. keeps (suc i)) a fs o)
    go keeps (x ∷ es) off k = ((λ z. absurd (off.0 z)), go (λ i. keeps (suc i)) es off.1 k)

newest-lost : (keeps : ℕ → Bool) (a : ℕ) (q : List Entry) (b : List ℕ) → AllLost keeps a q → newest_kept keeps a q b ≡ b
unfolding newest_kept
newest-lost keeps a [] b l = refl
newest-lost keeps a (e ∷ q) b l = newest-lost (λ i. keeps (suc i)) a q _ l.1 ∙ go (keeps 0) (eqb a e.address) refl refl
  where
    go : (k z : Bool) → keeps 0 ≡ k → eqb a e.address ≡ z → cond (k && z) e.block b ≡ b
    go false z p r = refl
    go true false p r = refl
    go true true p r = absurd (true≢false (sym p ∙ l.0 (eqb-true _ _ r)))

-- it is a whole block
newest_long : (keeps : ℕ → Bool) (q : List Entry) (b : List ℕ) → All Whole q → length b ≡ block_bytes → length (newest_kept keeps 0 q b) ≡ block_bytes
unfolding newest_kept
newest_long keeps [] b w h = h
newest_long keeps (e ∷ q) b w h = newest_long (λ i. keeps (suc i)) q _ w.1 (go (keeps 0 && eqb 0 e.address))
  where
    go : (t : Bool) → length (cond t e.block b) ≡ block_bytes
    go true = w.0
    go false = h

newest_here : (keeps : ℕ → Bool) (a : ℕ) (es fs : List Entry) (e : Entry) (b : List ℕ) → a ≡ e.address → AllLost (λ i. keeps (length es + suc i)) a fs → keeps (length es) ≡ true
    → newest_kept keeps a (es ++ (e ∷ fs)) b ≡ e.block
unfolding newest_kept
newest_here keeps a [] fs e b z l k = newest-lost (λ i. keeps (suc i)) a fs _ (subst (λ f. AllLost f a fs) (λ j i. keeps (zero-add (suc i) j)) l) ∙ rw (k, eq-eqb _ _ z)
newest_here keeps a (x ∷ es) fs e b z l k = newest_here (λ i. keeps (suc i)) a es fs e _ z (subst (λ f. AllLost f a fs) (λ j i. keeps (suc-add (length es) (suc i) j)) l) k

-- ---- the four laws: t is what a cut with the marks ms may leave of the disk s, of N blocks, on which the writes q wait

pub record Leaves (N : ℕ) (ms : List ℕ) (q : List Entry) (s t : Disk) : Type 0 where
  pub fits : marks_fit ms q ≡ true
  -- (i) a block with no waiting write is as settled
  pub untouched : (a : ℕ) → a < N → All (λ e. a ≢ e.address) q → t a ≡ s a
  -- (ii) each byte of a block is its settled byte or that of a waiting write to the block, and the block is as long
  pub byte : (a j : ℕ) → a < N → (get_or (t a) j 0 ≡ get_or (s a) j 0) ⊎ Any (λ e. (e.address ≡ a) × (get_or (t a) j 0 ≡ get_or e.block j 0)) q
  pub long : (a : ℕ) → a < N → length (t a) ≡ block_bytes
  -- (iii) block 0 is whole: the newest kept write to it, old exactly if none is kept
  pub header : t 0 ≡ newest_kept (kept_at ms) 0 q (s 0)
  -- (iv) all kept from a place on means all settled from there on, at a block that no earlier write is addressed to
  pub whole : (es fs : List Entry) → q ≡ es ++ fs → all_kept (drop (block_bytes * length es) ms) ≡ true → (a : ℕ) → a < N → All (λ e. a ≢ e.address) es → t a ≡ overlay fs s a

-- all kept, from the first place on
pub whole_all : {N : ℕ} {ms : List ℕ} {q : List Entry} {s t : Disk} → Leaves N ms q s t → all_kept ms ≡ true → (a : ℕ) → a < N → t a ≡ overlay q s a
whole_all {q = q} v k a h = v.whole [] q refl k a h tt

-- a write to block 0 that is kept, every later one lost, is what stands there
pub kept-header : {N : ℕ} {ms : List ℕ} {q : List Entry} {s t : Disk} → Leaves N ms q s t → (es fs : List Entry) (e : Entry) → q ≡ es ++ (e ∷ fs)
    → e.address ≡ 0 → AllLost (λ i. kept_at ms (length es + suc i)) 0 fs → kept_at ms (length es) ≡ true → t 0 ≡ e.block
kept-header {ms = ms} {s = s} v es fs e p z l k = v.header ∙ ap (λ (x : List Entry). newest_kept (kept_at ms) 0 x (s 0)) p ∙ newest_here (kept_at ms) 0 es fs e (s 0) (sym z) l k

-- if every write to it is lost, it is old
pub lost-header : {N : ℕ} {ms : List ℕ} {q : List Entry} {s t : Disk} → Leaves N ms q s t → AllLost (kept_at ms) 0 q → t 0 ≡ s 0
lost-header {ms = ms} {q} {s} v l = v.header ∙ newest-lost (kept_at ms) 0 q (s 0) l

-- ---- a cut of this card obeys them

-- of the writes to block 0, none of them torn, every byte comes from the same one
header_byte : (keeps : ℕ → Bool) (ms : List ℕ) (i j : ℕ) (q : List Entry) (b : List ℕ) → ((k : ℕ) → keeps k ≡ kept_at ms (i + k)) → headers_whole ms i q ≡ true → j < block_bytes
    → newest_cell ms i 0 j q (get_or b j 0) ≡ get_or (newest_kept keeps 0 q b) j 0
unfolding newest_cell newest_kept headers_whole whole_at
header_byte keeps ms i j [] b h f l = refl
header_byte keeps ms i j (e ∷ q) b h f l =
    let p = both (not (eqb e.address whole_block) || whole_at ms i) (headers_whole ms (suc i) q) f in
    ap (λ (x : ℕ). newest_cell ms (suc i) 0 j q x) (one p.0 (ℕ_discrete 0 e.address) (keeps 0) refl)
    ∙ header_byte (λ k. keeps (suc k)) ms (suc i) j q _ (λ k. h (suc k) ∙ ap (kept_at ms) (let z : i + suc k ≡ suc i + k = omega arith in z)) p.1 l
  where
    here : keeps 0 ≡ kept_at ms i
    here = h 0 ∙ ap (kept_at ms) (add-zero i)

    one : not (eqb e.address whole_block) || whole_at ms i ≡ true → Dec (0 ≡ e.address) → (t : Bool) → keeps 0 ≡ t
        → cond (eqb 0 e.address && eqb (get_or (marks_at ms i) j 0) 1) (get_or e.block j 0) (get_or b j 0) ≡ get_or (cond (t && eqb 0 e.address) e.block b) j 0
    one w (no z) true k = rw (ne_eqb _ _ z)
    one w (no z) false k = rw (ne_eqb _ _ z)
    one w (yes z) true k = rw (eq-eqb _ _ z, kept-marks ms i (sym here ∙ k) j l)
    one w (yes z) false k = rw (eq-eqb _ _ z, lost-marks ms i (lost (sym here ∙ k) (rw (eq-eqb _ _ (sym z)) at w)) j l)
      where
        lost : kept_at ms i ≡ false → whole_at ms i ≡ true → lost_at ms i ≡ true
        lost k w = rw k at w

-- a byte that no block has
past : (b : List ℕ) (j : ℕ) → length b ≡ block_bytes → block_bytes ≤ j → get_or b j 0 ≡ 0
past b j e h = get_or-eq_default b 0 (omega arith)

-- the newest kept bytes over a disk of whole blocks obey the laws
pub byte_leaves : (N : ℕ) (ms : List ℕ) (q : List Entry) (s t : Disk) → 0 < N → marks_fit ms q ≡ true → All Whole q
    → ((a : ℕ) → a < N → length (s a) ≡ block_bytes) → ((a : ℕ) → a < N → length (t a) ≡ block_bytes)
    → ((a j : ℕ) → a < N → j < block_bytes → get_or (t a) j 0 ≡ newest_cell ms 0 a j q (get_or (s a) j 0))
    → Leaves N ms q s t
byte_leaves N ms q s t some f w old new bytes = record {
  fits = f;
  untouched = λ a h o. equal a h (s a) (old a h) (λ j l. newest_none ms 0 a j q (get_or (s a) j 0) o);
  byte = λ a j h. at a j h (dec_lt j block_bytes);
  long = new;
  header = equal 0 some (newest_kept (kept_at ms) 0 q (s 0)) (newest_long (kept_at ms) q (s 0) w (old 0 some))
      (λ j l. header_byte (kept_at ms) ms 0 j q (s 0) (λ k. ap (kept_at ms) (sym (zero-add k))) (fits_headers ms q f) l);
  whole = λ es fs p k a h o.
      let parts : All Whole (es ++ fs) = subst (All Whole) p w in
      let size : length q ≡ length es + length fs = ap length p ∙ length-append es fs in
      equal a h (overlay fs s a)
      (overlay-keeps (λ b. length b ≡ block_bytes) fs s a (old a h) (all_map Whole (λ e. e.address ≡ a → Whole e) (λ e x z. x) fs (all_right Whole es fs parts)))
      (λ j l.
      ap (λ (u : List Entry). newest_cell ms 0 a j u (get_or (s a) j 0)) p
      ∙ newest-append ms 0 a j es fs (get_or (s a) j 0)
      ∙ ap (λ (x : ℕ). newest_cell ms (0 + length es) a j fs x) (newest_none ms 0 a j es (get_or (s a) j 0) o)
      ∙ newest-all ms (0 + length es) a j fs s (λ i b. tail_marks ms q (length es) (0 + length es + i) j f k (omega arith) (omega arith) l));
}
  where
    -- blocks that are equal byte by byte
    equal : (a : ℕ) → a < N → (b : List ℕ) → length b ≡ block_bytes → ((j : ℕ) → j < block_bytes → newest_cell ms 0 a j q (get_or (s a) j 0) ≡ get_or b j 0) → t a ≡ b
    equal a h b size same = ext_get_or 0 (t a) b (new a h ∙ sym size) (λ j l. let k : j < block_bytes = rw (new a h) at l in bytes a j h k ∙ same j k)

    at : (a j : ℕ) → a < N → Dec (j < block_bytes) → (get_or (t a) j 0 ≡ get_or (s a) j 0) ⊎ Any (λ e. (e.address ≡ a) × (get_or (t a) j 0 ≡ get_or e.block j 0)) q
    at a j h (yes l) = rw (bytes a j h l) (newest_either ms 0 a j q (get_or (s a) j 0))
    at a j h (no l) = ◌⊎◌.inl (past (t a) j (new a h) (omega arith) ∙ sym (past (s a) j (old a h) (omega arith)))

whole_blocks : (s : List ℕ) (a : ℕ) → a < blocks_in s → length (block_at s a) ≡ block_bytes
whole_blocks s a h = length-cell block_bytes s a (omega arith)

-- a cut of this card
pub cut_leaves : (ms : List ℕ) (c : Card) → 0 < blocks_in c.settled → marks_fit ms (queue c) ≡ true → All Whole (queue c)
    → Leaves (blocks_in c.settled) ms (queue c) (block_at c.settled) (block_at (cut ms c).settled)
cut_leaves ms c some f w =
    byte_leaves (blocks_in c.settled) ms (queue c) (block_at c.settled) (block_at (cut ms c).settled) some f w (whole_blocks c.settled)
    (λ a h. whole_blocks (cut ms c).settled a (rw (cut-length ms c) h)) (λ a j h l. cut_byte ms c a j h l w)

-- ---- a flush is a cut that keeps all

pub settle_leaves : (es : List Entry) (s : List ℕ) → 0 < blocks_in s → All Whole es → Leaves (blocks_in s) (ones es) es (block_at s) (block_at (settle es s))
settle_leaves es s some w =
    byte_leaves (blocks_in s) (ones es) es (block_at s) (block_at (settle es s)) some (ones_fit es) w (whole_blocks s)
    (λ a h. whole_blocks (settle es s) a (rw (length-settle es s) h))
    (λ a j h l.
    ap (λ (b : List ℕ). get_or b j 0) (settle-overlay es s a h w)
    ∙ sym (newest-all (ones es) 0 a j es (block_at s) (λ i b. ap (λ (p : ℕ). get_or (marks_at (ones es) p) j 0) (zero-add i) ∙ all-marks (ones es) es i j (ones_fit es) (ones-kept es) b l)))
