-- Row 8 and row 13 by the bytes of block 0, said a second time: `foreign` and `inUse` are shared by contracts and causes, and nothing here
-- uses them. That both say the same is proved, of any card.
use Rattle.std.specs.Prelude.{ℕ, ◌≤◌, ◌<◌, ◌≡◌, List, take, drop}
use Rattle.cells.specs.Little.{num}
use Rattle.journal.specs.Geometry.{Geometry}

-- the number in the k bytes of a block from byte i on
abbrev pub number_at : ℕ → ℕ → List ℕ → ℕ
number_at i k b = num (take k (drop i b))

module _ (geo : Geometry) where
  -- a header that recover does not call foreign, on a card of N blocks: not "format not [the format number], other N, n over 32 or p over n",
  -- nor, W-201, "save number 0 and unlike counts or sums"
  pub record OurHeader (N : ℕ) (b : List ℕ) : Type 0 where
    pub format : number_at 0 4 b ≡ 2
    pub blocks : number_at 4 4 b ≡ N
    pub count : number_at 12 4 b ≤ geo.slots
    pub previous : number_at 8 4 b ≤ number_at 12 4 b
    pub numbered : number_at 32 8 b ≡ 0 → (number_at 8 4 b ≡ number_at 12 4 b) × (number_at 16 8 b ≡ number_at 24 8 b)

  -- W-205: "a card that recover would not call foreign and whose header count is above 0"
  pub record CountsEntries (N : ℕ) (b : List ℕ) : Type 0 where
    pub ours : OurHeader N b
    pub above : 0 < number_at 12 4 b
