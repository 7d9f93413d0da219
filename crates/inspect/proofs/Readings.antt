-- The laws of a card that was read: its size, its refusal, the count of its list.
use Prim.Native.Nat.{ℕ, ◌%◌, ◌≤◌, ◌<◌}
use mathlib.Core.Path.{◌≡◌, refl, ap, sym, ◌∙◌}
use mathlib.Core.Bool.{true, false, not, ◌||◌}
use mathlib.Core.Logic.{◌≢◌, ◌⊎◌, ⊎_elim}
use mathlib.Core.List.{List}
use native.Mathlib.Omega.{arith}
use borrow.Author.Tests.{ltb-false}
use lib.Dec.{eqb, ltb}
use lib.ListN.{length}
use Rattle.cells.specs.Entry.{block_bytes}
use Rattle.card.specs.Card.{blocks_in}
use Rattle.journal.specs.Geometry.{Geometry}
use Rattle.journal.specs.declared.choice.Choice.{Choice}
use Rattle.journal.specs.declared.choice.Choice.TheVariants.{Whole, Fallback}
use Rattle.journal.specs.Layout.{first_data, least_blocks, most_blocks, wrong_size}
use Rattle.journal.specs.Choice.{choose, choice_number, taken_count}
use Rattle.journal.proofs.Choices.{taken-count}
use Rattle.journal.proofs.Logs.{neither}
use Rattle.refusals.specs.declared.Refusal.{Refusal}
use Rattle.refusals.specs.declared.Refusal.TheVariants.{Size, Record, Closed, Down, Open, Address, Full, Foreign, Unsound, Marks, LastSave, InUse, Listed}
use Rattle.refusals.specs.Numbers.{number_of}
use Rattle.inspect.specs.declared.reading.Reading.{Reading}
use Rattle.inspect.specs.Reading.{chosen, inspection}
use Rattle.inspect.specs.CodeReading.{Taken}

-- no refusal is numbered 0
pub refusal_positive : (e : Refusal) → number_of e ≢ 0
refusal_positive Size z = absurd (omega arith)
refusal_positive Record z = absurd (omega arith)
refusal_positive Closed z = absurd (omega arith)
refusal_positive Down z = absurd (omega arith)
refusal_positive Open z = absurd (omega arith)
refusal_positive Address z = absurd (omega arith)
refusal_positive Full z = absurd (omega arith)
refusal_positive Foreign z = absurd (omega arith)
refusal_positive Unsound z = absurd (omega arith)
refusal_positive Marks z = absurd (omega arith)
refusal_positive LastSave z = absurd (omega arith)
refusal_positive InUse z = absurd (omega arith)
refusal_positive Listed z = absurd (omega arith)

-- ---- the size

module _ (geo : Geometry) where
  -- a card whose N is within bounds
  pub record Sized (s : List ℕ) : Type 0 where
    pub least : first_data geo < blocks_in s
    pub most : blocks_in s ≤ most_blocks

  pub right_size : (s : List ℕ) → wrong_size geo s ≡ false → Sized s
  unfolding wrong_size
  right_size s e =
      let a = neither (not (eqb (length s % block_bytes) 0) || ltb (blocks_in s) (least_blocks geo)) (ltb most_blocks (blocks_in s)) e in
      let b = neither (not (eqb (length s % block_bytes) 0)) (ltb (blocks_in s) (least_blocks geo)) a.0 in
      record { least = (let l : least_blocks geo ≤ blocks_in s = ltb-false _ _ b.1 in omega arith); most = ltb-false _ _ a.1 }

  -- ---- the refusal

  pub wrong-refused : (s : List ℕ) → wrong_size geo s ≡ true → inspection geo s ≡ 1
  unfolding inspection
  wrong-refused s e = rw e

  pub right-chosen : (s : List ℕ) (t : Choice) → wrong_size geo s ≡ false → chosen geo s ≡ t → inspection geo s ≡ choice_number t
  unfolding inspection
  right-chosen s t e p = rw (e, p)

  -- ---- what the code has read

  -- a list that is chosen by the N that was read
  read_chosen : (s : List ℕ) (t : Choice) (card : Reading) → card.settled.now ≡ s → card.blocks ≡ blocks_in s → wrong_size geo s ≡ false → choose geo card.blocks s ≡ t
      → choice_number t ≡ 0 → taken_count t ≡ card.count → Taken geo s card
  read_chosen s t card w b e p z k =
      let here : chosen geo s ≡ t = rw (← b) p in
      record { none = right-chosen s t e here ∙ z; settled = w; blocks = b; count = sym (ap taken_count here ∙ k) }

  -- either list, of n entries
  abbrev pub Took : Choice → ℕ → Type 0
  Took t n = ((sum : ℕ) × (save : ℕ) × (t ≡ Whole n sum save)) ⊎ ((sum : ℕ) × (save : ℕ) × (t ≡ Fallback n sum save))

  pub read_listed : (s : List ℕ) (t : Choice) (card : Reading) → card.settled.now ≡ s → card.blocks ≡ blocks_in s → wrong_size geo s ≡ false → choose geo card.blocks s ≡ t
      → Took t card.count → Taken geo s card
  read_listed s t card r b e p w =
      ⊎_elim
      (λ x. read_chosen s _ card r b e (p ∙ x.2) refl refl)
      (λ x. read_chosen s _ card r b e (p ∙ x.2) refl refl)
      w

  -- such a list fits into the slots
  pub listed_fits : (s : List ℕ) (t : Choice) (N n : ℕ) → choose geo N s ≡ t → Took t n → n ≤ geo.slots
  listed_fits s t N n p w =
      let fits = taken-count geo N s in
      ⊎_elim
      (λ x. rw (p ∙ x.2) at fits)
      (λ x. rw (p ∙ x.2) at fits)
      w
