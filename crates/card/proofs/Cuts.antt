-- The card after a cut: byte by byte; and as document 01 has it where no write is torn. What follows from a cut goes by the four laws of
-- Leaves.antt.
use Prim.Native.Nat.{ℕ, suc, ◌≤◌, ◌<◌}
use mathlib.Core.Path.{◌≡◌, refl, ap, sym, ◌∙◌}
use mathlib.Core.Bool.{Bool, true, false, cond}
use mathlib.Core.Logic.{◌≢◌}
use mathlib.Core.List.{List, [], ◌∷◌, ◌++◌}
use native.Mathlib.Decide.{dec_lt}
use native.Mathlib.Omega.{arith}
use lib.Dec.{eqb}
use lib.ListN.{length, get_or, drop, drop_of_length-le, get_or-eq_default}
use lib.Seq.{ext_get_or, drop-cons}
use Rattle.cells.specs.Cell.{set_cell}
use Rattle.cells.specs.Cell.Laws.{length-cell, length_set_cell, set_own}
use Rattle.cells.specs.Entry.{block_bytes, Entry}
use Rattle.card.specs.Card.{Card, queue, settle, torn, settle_kept, cut, block_at, blocks_in}
use Rattle.card.specs.Marks.{marks_at, kept_at, lost_at, spread}
use Rattle.card.specs.Torn.{newest_byte, kept, whole_cut}
use Rattle.card.proofs.All.{All, all_map}
use Rattle.card.proofs.Runs.{Whole}
use Rattle.card.proofs.Torn.{length-torn, get_or-torn, length-settle_kept, newest_cell, cell-flat, settle_kept_byte, newest-one}
use Rattle.card.proofs.MarkLaws.{kept-marks, lost-marks}
use Rattle.card.proofs.Spreads.{spread-mark}

-- ---- the card

pub cut-length : (ms : List ℕ) (c : Card) → length (cut ms c).settled ≡ length c.settled
unfolding cut
cut-length ms c = length-settle_kept ms 0 (queue c) c.settled

-- "byte by byte the newest kept write wins"
pub cut_byte : (ms : List ℕ) (c : Card) (a j : ℕ) → a < blocks_in c.settled → j < block_bytes → All Whole (queue c)
    → get_or (block_at (cut ms c).settled a) j 0 ≡ newest_cell ms 0 a j (queue c) (get_or (block_at c.settled a) j 0)
unfolding cut
cut_byte ms c a j h l w = settle_kept_byte ms 0 (queue c) c.settled a j h l w

-- by the marks in a row
pub cut-flat : (ms : List ℕ) (c : Card) (a j : ℕ) → a < blocks_in c.settled → j < block_bytes → All Whole (queue c)
    → get_or (block_at (cut ms c).settled a) j 0 ≡ newest_byte ms 0 a j (queue c) (get_or (block_at c.settled a) j 0)
cut-flat ms c a j h l w = cut_byte ms c a j h l w ∙ cell-flat ms 0 a j (queue c) _ l

cut_long : (ms : List ℕ) (c : Card) (a : ℕ) → a < blocks_in c.settled → length (block_at (cut ms c).settled a) ≡ block_bytes
cut_long ms c a h = length-cell block_bytes (cut ms c).settled a (let e = cut-length ms c in omega arith)

-- a block to which one write waits is torn by that write's marks
pub cut-one : (ms : List ℕ) (c : Card) (a : ℕ) (es fs : List Entry) (e : Entry) → queue c ≡ es ++ (e ∷ fs) → a < blocks_in c.settled → All Whole (queue c) → Whole e
    → e.address ≡ a → All (λ f. a ≢ f.address) es → All (λ f. a ≢ f.address) fs → block_at (cut ms c).settled a ≡ torn (marks_at ms (length es)) e.block (block_at c.settled a)
cut-one ms c a es fs e q h w b z o p =
    let old : length (block_at c.settled a) ≡ block_bytes = length-cell block_bytes c.settled a (omega arith) in
    let new : length (torn (marks_at ms (length es)) e.block (block_at c.settled a)) ≡ block_bytes = length-torn (marks_at ms (length es)) e.block (block_at c.settled a) ∙ old in
    ext_get_or 0 (block_at (cut ms c).settled a) (torn (marks_at ms (length es)) e.block (block_at c.settled a)) (cut_long ms c a h ∙ sym new)
    (λ j l.
    let k : j < block_bytes = rw (cut_long ms c a h) at l in
    cut_byte ms c a j h k w
    ∙ ap (λ (v : List Entry). newest_cell ms 0 a j v (get_or (block_at c.settled a) j 0)) q
    ∙ newest-one ms a j es fs e (get_or (block_at c.settled a) j 0) z o p
    ∙ sym (get_or-torn (marks_at ms (length es)) e.block (block_at c.settled a) j (b ∙ sym old) (rw old k)))

-- by marks that are alike it is the write's, or as it was
torn_alike : (ms : List ℕ) (m : ℕ) (new old : List ℕ) → length new ≡ block_bytes → length old ≡ block_bytes → ((j : ℕ) → j < block_bytes → get_or ms j 0 ≡ m) → torn ms new old ≡ cond (eqb m 1) new old
torn_alike ms m new old n o alike =
    ext_get_or 0 (torn ms new old) (cond (eqb m 1) new old) (length-torn ms new old ∙ sym (size (eqb m 1)))
    (λ j l.
    let inside : j < length old = rw (length-torn ms new old) at l in
    get_or-torn ms new old j (n ∙ sym o) inside ∙ ap (λ (x : ℕ). cond (eqb x 1) (get_or new j 0) (get_or old j 0)) (alike j (rw o at inside)) ∙ split (eqb m 1) j)
  where
    size : (t : Bool) → length (cond t new old) ≡ length old
    size true = n ∙ sym o
    size false = refl

    split : (t : Bool) (j : ℕ) → cond t (get_or new j 0) (get_or old j 0) ≡ get_or (cond t new old) j 0
    split true j = refl
    split false j = refl

pub torn-kept : (ms : List ℕ) (i : ℕ) (new old : List ℕ) → kept_at ms i ≡ true → length new ≡ block_bytes → length old ≡ block_bytes → torn (marks_at ms i) new old ≡ new
torn-kept ms i new old k n o = torn_alike (marks_at ms i) 1 new old n o (kept-marks ms i k)

pub torn-lost : (ms : List ℕ) (i : ℕ) (new old : List ℕ) → lost_at ms i ≡ true → length new ≡ block_bytes → length old ≡ block_bytes → torn (marks_at ms i) new old ≡ old
torn-lost ms i new old k n o = torn_alike (marks_at ms i) 0 new old n o (lost-marks ms i k)

-- ---- equal marks

-- one write settles, or nothing does
spread-one : (ms : List ℕ) (i : ℕ) (e : Entry) (s : List ℕ) → Whole e → e.address < blocks_in s
    → set_cell block_bytes s e.address (torn (marks_at (spread ms) i) e.block (block_at s e.address)) ≡ cond (eqb (get_or ms i 0) 1) (set_cell block_bytes s e.address e.block) s
spread-one ms i e s w h =
    ap (set_cell block_bytes s e.address) (torn_alike (marks_at (spread ms) i) (get_or ms i 0) e.block (block_at s e.address) w (length-cell block_bytes s e.address (omega arith)) (spread-mark ms i))
    ∙ go (eqb (get_or ms i 0) 1)
  where
    go : (t : Bool) → set_cell block_bytes s e.address (cond t e.block (block_at s e.address)) ≡ cond t (set_cell block_bytes s e.address e.block) s
    go true = refl
    go false = set_own block_bytes s e.address

-- the oldest of the writes from place i on, and those behind it
kept-front : (ms : List ℕ) (i : ℕ) (e : Entry) (q : List Entry) (s : List ℕ)
    → settle (kept (drop i ms) (e ∷ q)) s ≡ settle (kept (drop (suc i) ms) q) (cond (eqb (get_or ms i 0) 1) (set_cell block_bytes s e.address e.block) s)
unfolding kept settle
kept-front ms i e q s = go (dec_lt i (length ms))
  where
    go : Dec (i < length ms) → settle (kept (drop i ms) (e ∷ q)) s ≡ settle (kept (drop (suc i) ms) q) (cond (eqb (get_or ms i 0) 1) (set_cell block_bytes s e.address e.block) s)
    go (yes l) = rw (drop-cons ms i 0 l) (at (eqb (get_or ms i 0) 1))
      where
        at : (t : Bool) → settle (cond t (e ∷ kept (drop (suc i) ms) q) (kept (drop (suc i) ms) q)) s ≡ settle (kept (drop (suc i) ms) q) (cond t (set_cell block_bytes s e.address e.block) s)
        at true = refl
        at false = refl
    go (no l) =
        let past : length ms ≤ i = omega arith in
        rw (drop_of_length-le ms {i = i} past, drop_of_length-le ms {i = suc i} (omega arith), get_or-eq_default ms 0 past)

kept_none : (ms : List ℕ) → kept ms [] ≡ []
unfolding kept
kept_none [] = refl
kept_none (m ∷ ms) = refl

spread-settles : (ms : List ℕ) (i : ℕ) (q : List Entry) (s : List ℕ) → All Whole q → All (λ e. e.address < blocks_in s) q → settle_kept (spread ms) i q s ≡ settle (kept (drop i ms) q) s
unfolding settle_kept settle
spread-settles ms i [] s w h = rw (kept_none (drop i ms))
spread-settles ms i (e ∷ q) s w h =
    rw (spread-one ms i e s w.0 h.0, kept-front ms i e q s)
    (spread-settles ms (suc i) q _ w.1 (all_map (λ f. f.address < blocks_in s) (λ f. f.address < blocks_in (cond (eqb (get_or ms i 0) 1) (set_cell block_bytes s e.address e.block) s)) (λ f l. rw (size (eqb (get_or ms i 0) 1)) l) q h.1))
  where
    size : (t : Bool) → length (cond t (set_cell block_bytes s e.address e.block) s) ≡ length s
    size true = length_set_cell block_bytes s e.address e.block
    size false = refl

-- "The script's single mark stands for 512 equal ones": so marked, a cut is document 01's
pub spread_cut : (ms : List ℕ) (c : Card) → All Whole (queue c) → All (λ e. e.address < blocks_in c.settled) (queue c) → cut (spread ms) c ≡ whole_cut ms c
unfolding cut whole_cut
spread_cut ms c w h =
    ap (λ (s : List ℕ). record { settled = s; waiting = c.waiting; count = 0; power = c.power }) (spread-settles ms 0 (queue c) c.settled w h)
