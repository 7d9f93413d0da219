-- A card as the code has read it.
use Rattle.std.specs.Prelude.{ℕ, ◌≡◌, List, Result, Ok, Err}
use Rattle.card.specs.Card.{blocks_in}
use Rattle.journal.specs.Geometry.{Geometry}
use Rattle.refusals.specs.declared.Refusal.{Refusal}
use Rattle.refusals.specs.Numbers.{number_of}
use Rattle.inspect.specs.declared.reading.Reading.{Reading}
use Rattle.inspect.specs.Reading.{inspection, chosen_count}

module _ (geo : Geometry) where
  -- a card that is taken: no refusal, its bytes, N, and the count of the list taken
  pub record Taken (s : List ℕ) (card : Reading) : Type 0 where
    pub none : inspection geo s ≡ 0
    pub settled : card.settled.now ≡ s
    pub blocks : card.blocks ≡ blocks_in s
    pub count : card.count ≡ chosen_count geo s

  -- that, or the refusal
  abbrev pub Read : List ℕ → Result Reading Refusal → Type 0
  Read s (Ok card) = Taken s card
  Read s (Err refusal) = number_of refusal ≡ inspection geo s
