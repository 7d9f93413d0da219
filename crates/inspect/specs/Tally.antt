-- "tally: the sum of all data bytes after the log is laid over."
use Rattle.std.specs.Prelude.{ℕ, zero, suc, ◌+◌, cond, List, [], ◌∷◌, eqb, Result, Ok, Err}
use Rattle.card.specs.Disk.{Disk}
use Rattle.card.specs.Card.{blocks_in}
use Rattle.journal.specs.Geometry.{Geometry}
use Rattle.journal.specs.Layout.{first_data}
use Rattle.refusals.specs.declared.Refusal.{Refusal}
use Rattle.refusals.specs.Numbers.{number_of}
use Rattle.inspect.specs.Reading.{inspection, laid_over, data_blocks}

-- the sum of a run of bytes
unfoldable pub sum_bytes : List ℕ → ℕ
sum_bytes [] = 0
sum_bytes (b ∷ bs) = b + sum_bytes bs

-- the refusal, or 0; and the sum, 0 for a card that is refused
pub record Tally : Type 0 where
  pub number : ℕ
  pub sum : ℕ

-- what the code answers, as these two numbers
abbrev pub tally_answer : Result ℕ Refusal → Tally
tally_answer (Ok sum) = record { number = 0; sum = sum }
tally_answer (Err refusal) = record { number = number_of refusal; sum = 0 }

module _ (geo : Geometry) where
  -- the sum of the bytes of a disk's first k data blocks
  unfoldable pub sum_data : Disk → ℕ → ℕ
  sum_data d zero = 0
  sum_data d (suc k) = sum_data d k + sum_bytes (d (first_data geo + k))

  -- the two numbers of a card
  unfoldable pub tally_of : List ℕ → Tally
  tally_of s = record {
    number = inspection geo s;
    sum = cond (eqb (inspection geo s) 0) (sum_data (laid_over geo s) (data_blocks geo (blocks_in s))) 0;
  }
