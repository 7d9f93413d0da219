-- The marks of the cuts that tear the log block, the descriptor, the header.
use Prim.Native.Nat.{ℕ}
use mathlib.Core.Path.{◌≡◌, refl, ap, ◌∙◌}
use mathlib.Core.Bool.{Bool, true, false, ◌&&◌, ◌||◌}
use mathlib.Core.List.{List, [], ◌∷◌, ◌++◌}
use lib.ListN.{length, replicate, length-replicate}
use lib.Seq.{take_all}
use Rattle.cells.specs.Cell.Laws.{cell_part}
use Rattle.cells.specs.Same.{same}
use Rattle.cells.specs.Same.Laws.{same_self}
use Rattle.cells.specs.Entry.{block_bytes}
use Rattle.card.specs.Card.{torn}
use Rattle.card.specs.Marks.{marks_at, kept_at, lost_at, all_kept, over_one, marks_for, whole_at, marks_of}
use Rattle.card.proofs.MarkLaws.{front_at, behind_at, behind_for, kept_append}
use Rattle.card.proofs.Spreads.{marks_of_for, marks_of-kept}
use Rattle.history.specs.Worked.{half, cut_half, fifth, cut_fifth, cut_header, nines}

-- ---- a write that is kept

abbrev ones : List ℕ
ones = replicate block_bytes 1

length-ones : length ones ≡ block_bytes
length-ones = length-replicate {A = ℕ} block_bytes 1

low_ones : over_one ones ≡ false
unfolding over_one
low_ones = refl

-- kept is kept by the marks
kept_by : (ms : List ℕ) (i : ℕ) (b : List ℕ) → marks_at ms i ≡ b → same b (replicate block_bytes 1) ≡ true → kept_at ms i ≡ true
unfolding kept_at
kept_by ms i b e h = ap (λ (x : List ℕ). same x (replicate block_bytes 1)) e ∙ h

kept_whole : (ms : List ℕ) (i : ℕ) → kept_at ms i ≡ true → whole_at ms i ≡ true
unfolding whole_at
kept_whole ms i h = rw h

-- behind the marks of one write
kept-behind : (m ms : List ℕ) (i : ℕ) → length m ≡ block_bytes → kept_at ms i ≡ true → kept_at (m ++ ms) (Prim.Native.Nat.suc i) ≡ true
unfolding kept_at
kept-behind m ms i e h = ap (λ (b : List ℕ). same b (replicate block_bytes 1)) (behind_at m ms i e) ∙ h

-- ---- half of the log block

length-half : length half ≡ block_bytes
length-half = refl

pub low_half : over_one half ≡ false
unfolding over_one
low_half = refl

half-lost : all_kept half ≡ false
unfolding all_kept
half-lost = refl

pub log-half : marks_at cut_half 0 ≡ half
log-half = front_at half (marks_of (true ∷ true ∷ [])) length-half

pub descriptor_half : kept_at cut_half 1 ≡ true
descriptor_half = kept-behind half (marks_of (true ∷ true ∷ [])) 0 length-half (marks_of-kept (true ∷ true ∷ []) 0 (lib.Dec.lit< tt))

pub header-half : kept_at cut_half 2 ≡ true
header-half = kept-behind half (marks_of (true ∷ true ∷ [])) 1 length-half (marks_of-kept (true ∷ true ∷ []) 1 (lib.Dec.lit< tt))

pub whole_half : whole_at cut_half 2 ≡ true
whole_half = kept_whole cut_half 2 header-half

pub for_half : marks_for cut_half 3 ≡ true
for_half = behind_for half (marks_of (true ∷ true ∷ [])) 2 length-half low_half ∙ marks_of_for (true ∷ true ∷ [])

pub all-half : all_kept cut_half ≡ false
all-half = kept_append half (marks_of (true ∷ true ∷ [])) ∙ rw half-lost

-- what is left of a block of nines over zeros
unfoldable pub halved : List ℕ
halved = torn half nines (replicate block_bytes 0)

-- ---- the fifth byte of the descriptor

length-fifth : length fifth ≡ block_bytes
length-fifth = refl

low-fifth : over_one fifth ≡ false
unfolding over_one
low-fifth = refl

fifth-lost : all_kept fifth ≡ false
unfolding all_kept
fifth-lost = refl

ones-kept : all_kept ones ≡ true
unfolding all_kept
ones-kept = refl

pub log-fifth : kept_at cut_fifth 0 ≡ true
log-fifth = kept_by cut_fifth 0 ones (front_at ones (fifth ++ marks_of (true ∷ [])) length-ones) (same_self ones)

pub descriptor_fifth : marks_at cut_fifth 1 ≡ fifth
descriptor_fifth = behind_at ones (fifth ++ marks_of (true ∷ [])) 0 length-ones ∙ front_at fifth (marks_of (true ∷ [])) length-fifth

pub header-fifth : kept_at cut_fifth 2 ≡ true
header-fifth = kept-behind ones (fifth ++ marks_of (true ∷ [])) 1 length-ones (kept-behind fifth (marks_of (true ∷ [])) 0 length-fifth (marks_of-kept (true ∷ []) 0 (lib.Dec.lit< tt)))

pub whole_fifth : whole_at cut_fifth 2 ≡ true
whole_fifth = kept_whole cut_fifth 2 header-fifth

pub for_fifth : marks_for cut_fifth 3 ≡ true
for_fifth =
    behind_for ones (fifth ++ marks_of (true ∷ [])) 2 length-ones low_ones ∙ behind_for fifth (marks_of (true ∷ [])) 1 length-fifth low-fifth ∙ marks_of_for (true ∷ [])

pub all-fifth : all_kept cut_fifth ≡ false
all-fifth =
    kept_append ones (fifth ++ marks_of (true ∷ []))
    ∙ ap (λ (t : Bool). t && all_kept (fifth ++ marks_of (true ∷ []))) ones-kept
    ∙ kept_append fifth (marks_of (true ∷ []))
    ∙ ap (λ (t : Bool). t && all_kept (marks_of (true ∷ []))) fifth-lost

-- ---- half of the header

header-marks : marks_at cut_header 2 ≡ half
header-marks = behind_at ones (ones ++ half) 1 length-ones ∙ behind_at ones half 0 length-ones ∙ cell_part block_bytes half 0 ∙ take_all block_bytes half (lib.Dec.lit≤ tt)

not_ones : same half (replicate block_bytes 1) ≡ false
unfolding same
not_ones = refl

not_zeros : same half (replicate block_bytes 0) ≡ false
unfolding same
not_zeros = refl

pub header-torn : whole_at cut_header 2 ≡ false
unfolding whole_at kept_at lost_at
header-torn = ap (λ (b : List ℕ). same b (replicate block_bytes 1) || same b (replicate block_bytes 0)) header-marks ∙ rw (not_ones, not_zeros)
