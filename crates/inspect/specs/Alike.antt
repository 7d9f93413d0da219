-- "alike, for two cards, the first one's refusal first: yes exactly if N and all data blocks so laid are equal." W-208: "alike is yes
-- exactly if, besides equal N and data, both chosen logs have the same count and the same entry in each slot. The save number takes no
-- part."
use Rattle.std.specs.Prelude.{ℕ, zero, suc, ◌+◌, ◌<◌, ◌≡◌, Bool, true, false, cond, ◌&&◌, List, eqb, Result, Ok, Err}
use Rattle.cells.specs.Same.{same}
use Rattle.card.specs.Disk.{Disk}
use Rattle.card.specs.Card.{blocks_in, block_at}
use Rattle.journal.specs.Geometry.{Geometry}
use Rattle.journal.specs.Layout.{first_data, slot_at, is_data}
use Rattle.journal.specs.Log.{slot_address, slot_entry}
use Rattle.refusals.specs.declared.Refusal.{Refusal}
use Rattle.refusals.specs.Numbers.{number_of}
use Rattle.inspect.specs.Reading.{inspection, chosen_count, laid_over, data_blocks}

-- the refusal, or 0; and yes or no, which is no where a card is refused
pub record Alike : Type 0 where
  pub number : ℕ
  pub yes : Bool

-- what the code answers, as these two
abbrev pub alike_answer : Result Bool Refusal → Alike
alike_answer (Ok same) = record { number = 0; yes = same }
alike_answer (Err refusal) = record { number = number_of refusal; yes = false }

module _ (geo : Geometry) where
  -- the first k data blocks of two disks are equal
  unfoldable pub same_data : Disk → Disk → ℕ → Bool
  same_data c d zero = true
  same_data c d (suc k) = same_data c d k && same (c (first_data geo + k)) (d (first_data geo + k))

  -- slot i of two cards holds the same entry, address and block
  unfoldable pub same_slot : List ℕ → List ℕ → ℕ → Bool
  same_slot a b i = eqb (slot_address a i) (slot_address b i) && same (block_at a (slot_at geo i)) (block_at b (slot_at geo i))

  -- "the same entry in each slot", of the first n
  unfoldable pub same_slots : List ℕ → List ℕ → ℕ → Bool
  same_slots a b zero = true
  same_slots a b (suc n) = same_slots a b n && same_slot a b n

  -- "the first one's refusal first"
  abbrev pub refusal : List ℕ → List ℕ → ℕ
  refusal a b = cond (eqb (inspection geo a) 0) (inspection geo b) (inspection geo a)

  -- equal N; "both chosen logs have the same count and the same entry in each slot"; equal data
  abbrev pub same_cards : List ℕ → List ℕ → Bool
  same_cards a b =
      eqb (blocks_in a) (blocks_in b)
      && eqb (chosen_count geo a) (chosen_count geo b)
      && same_slots a b (chosen_count geo a)
      && same_data (laid_over geo a) (laid_over geo b) (data_blocks geo (blocks_in a))

  -- the refusal and the answer of two cards
  unfoldable pub alike_of : List ℕ → List ℕ → Alike
  alike_of a b = record { number = refusal a b; yes = eqb (refusal a b) 0 && same_cards a b }

  -- what a yes is to mean (proofs/Comparisons.antt): both cards are accepted, N and all data blocks so laid are equal, and so are the counts
  -- of the chosen logs and the entry in each slot
  pub record Same (a b : List ℕ) : Type 0 where
    pub first : inspection geo a ≡ 0
    pub second : inspection geo b ≡ 0
    pub blocks : blocks_in a ≡ blocks_in b
    pub count : chosen_count geo a ≡ chosen_count geo b
    pub slots : (i : ℕ) → i < chosen_count geo a → slot_entry geo a i ≡ slot_entry geo b i
    pub laid : (x : ℕ) → is_data geo (blocks_in a) x ≡ true → laid_over geo a x ≡ laid_over geo b x
