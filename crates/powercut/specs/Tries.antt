-- What a cut of n waiting writes is tried with, by number: the sets of kept writes, then the tears of the first k.
use Rattle.std.specs.Prelude.{ℕ, ◌+◌, ◌-◌, cond, List, ltb}
use Rattle.card.specs.Marks.{spread}
use Rattle.powercut.specs.Sets.{set_count, mark, marks}
use Rattle.powercut.specs.Tears.{tear_count, torn_mark, torn_marks}

-- how many tries there are
unfoldable pub try_count : ℕ → ℕ → ℕ
try_count n k = set_count n + tear_count k

-- the marks of a try
unfoldable pub try_marks : ℕ → ℕ → ℕ → List ℕ
try_marks n k x = cond (ltb x (set_count n)) (spread (marks n x)) (torn_marks n k (x - set_count n))

-- that of byte j of write i
unfoldable pub try_mark : ℕ → ℕ → ℕ → ℕ → ℕ → ℕ
try_mark n k x i j = cond (ltb x (set_count n)) (mark n x i) (torn_mark k (x - set_count n) i j)
