-- The number of each cause, as the table of causes has it.
use Rattle.std.specs.Prelude.{ℕ, Result, Ok, Err}
use Rattle.refusals.specs.declared.Refusal.{Refusal}
use Rattle.refusals.specs.declared.Refusal.TheVariants.{Size, Record, Closed, Down, Open, Address, Full, Foreign, Unsound, Marks, LastSave, InUse, Listed}

abbrev pub number_of : Refusal → ℕ
-- "a lent buffer's length is wrong, N out of bounds"
number_of Size = 1
-- a count, a mode or a listed address of the record that is out of place
number_of Record = 2
-- "mode closed"
number_of Closed = 3
-- "mode down", and power that was gone before the last order
number_of Down = 4
-- "recover when open"
number_of Open = 5
-- an address that is "not a data block"
number_of Address = 6
-- no room in open, or in the group
number_of Full = 7
-- a header that is not this card's
number_of Foreign = 8
-- "neither list good"
number_of Unsound = 9
-- marks that do not fit what waits
number_of Marks = 10
-- W-201: "the largest save number"
number_of LastSave = 12
-- W-205: a card in use
number_of InUse = 13
-- W-209: "a direct write's address is in open, group or log"
number_of Listed = 14

-- the number that is answered: 0 for a call that is not refused
abbrev pub answer : {A : Type 0} → Result A Refusal → ℕ
answer (Ok x) = 0
answer (Err refusal) = number_of refusal
