-- What the data blocks hold, and the character for what is found.
use Rattle.std.specs.Prelude.{ℕ, ◌+◌, ◌*◌, ◌-◌, Bool, true, false, cond, not, ◌&&◌, ◌||◌, List, eqb, ltb, length, replicate, get_or}
use Rattle.cells.specs.Entry.{block_bytes}
use Rattle.cells.specs.Same.{same}
use Rattle.journal.specs.Geometry.{trap}
use Rattle.journal.specs.Layout.{first_data}
use Rattle.powercut.specs.declared.filling.Age.{Age}
use Rattle.powercut.specs.declared.filling.Age.TheVariants.{Home, Log, Save}
use Rattle.powercut.specs.declared.finding.Finding.{Finding}
use Rattle.powercut.specs.declared.finding.Finding.TheVariants.{Old, New, Other}
use Rattle.store.specs.State.{State}
use Rattle.store.specs.Causes.{some}
use Rattle.store.specs.Get.{get_place, bytes_at}

-- an age: 0 at home, 1 in the log, 2 in the save or as the photograph
abbrev pub number : Age → ℕ
number Home = 0
number Log = 1
number Save = 2

-- a block is filled with one byte, by its address and its age
abbrev pub byte_of : ℕ → ℕ → ℕ
byte_of address age = address + 64 * age

abbrev pub filled : ℕ → ℕ → List ℕ
filled address age = replicate block_bytes (byte_of address age)

-- the photograph's block, the last of 65
abbrev pub photograph : ℕ
photograph = 64

-- the blocks of the save: the first data block, one in the middle, the last before the photograph's
abbrev pub of_save : ℕ → Bool
of_save address = eqb address (first_data trap) || eqb address 48 || eqb address 63

-- the age of a data block before the save, where the log has so many saves of three blocks
unfoldable pub old_age : ℕ → ℕ → ℕ
old_age address saves = cond (ltb address (first_data trap + 3 * saves)) 1 0

-- before the save, or after it
unfoldable pub age_of : ℕ → ℕ → Bool → ℕ
age_of address saves after = cond (after && of_save address) 2 (old_age address saves)

-- a get hands out the block of an age
abbrev pub holds : ℕ → ℕ → State → Bool
holds address age st = same (bytes_at (get_place trap address st) st) (filled address age)

-- the i-th data block is not as before the save, or not as after it
abbrev pub is_other : ℕ → Bool → State → ℕ → Bool
is_other saves after st i = not (holds (first_data trap + i) (age_of (first_data trap + i) saves after) st)

-- the data blocks before the photograph's: 30
abbrev pub data_blocks : ℕ
data_blocks = photograph - first_data trap

-- a byte of the photograph's block is as it was, or the photograph's
abbrev pub is_either : ℕ → Bool
is_either b = eqb b (byte_of photograph 0) || eqb b (byte_of photograph 2)

-- the block has a byte that is neither
unfoldable pub is_spoilt : List ℕ → Bool
is_spoilt block = not (eqb (length block) block_bytes) || some (λ j. not (is_either (get_or block j 0))) block_bytes

-- a get hands out such a block, or one of the data blocks before it is other
abbrev pub has_other : ℕ → Bool → State → Bool
has_other saves after st = is_spoilt (bytes_at (get_place trap photograph st) st) || some (is_other saves after st) data_blocks

-- the photograph's block aside: `o`, all are old; `n`, the save's are new and the others old; `?`, anything else
unfoldable pub letter_of : ℕ → State → ℕ
letter_of saves st = cond (has_other saves false st) (cond (has_other saves true st) 63 110) 111

-- a finding's character
abbrev pub character : Finding → ℕ
character Old = 111
character New = 110
character Other = 63
