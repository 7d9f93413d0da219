-- "Two calls read settled bytes alone, choose the list as recover does, and refuse 1, 8, 9."
use Rattle.std.specs.Prelude.{ℕ, ◌-◌, cond, List}
use Rattle.card.specs.Disk.{Disk, overlay}
use Rattle.card.specs.Card.{blocks_in, block_at}
use Rattle.journal.specs.Geometry.{Geometry}
use Rattle.journal.specs.declared.choice.Choice.{Choice}
use Rattle.journal.specs.Layout.{first_data, wrong_size}
use Rattle.journal.specs.Log.{entries}
use Rattle.journal.specs.Choice.{choose, choice_number, taken_count}

module _ (geo : Geometry) where
  -- "choose the list as recover does": N is that of the settled bytes
  abbrev pub chosen : List ℕ → Choice
  chosen s = choose geo (blocks_in s) s

  -- "refuse 1, 8, 9": 0 for none of them
  unfoldable pub inspection : List ℕ → ℕ
  inspection s = cond (wrong_size geo s) 1 (choice_number (chosen s))

  -- the first n entries of the log laid over the home blocks
  abbrev pub laid : List ℕ → ℕ → Disk
  laid s n = overlay (entries geo s n) (block_at s)

  -- the count of the chosen log: n, or p where it falls back
  abbrev pub chosen_count : List ℕ → ℕ
  chosen_count s = taken_count (chosen s)

  -- "after the log is laid over": the list that was chosen
  abbrev pub laid_over : List ℕ → Disk
  laid_over s = laid s (chosen_count s)

  -- "Data blocks are addresses 34 to N−1": how many
  abbrev pub data_blocks : ℕ → ℕ
  data_blocks N = N - first_data geo
