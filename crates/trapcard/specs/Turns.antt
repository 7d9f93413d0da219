-- What a read and a write come to, and when the program stops.
use Rattle.std.specs.Prelude.{ℕ, ◌≡◌, Bool, true, false, ◌&&◌, eqb, ltb, ℤ, pos, negsuc, Result, Ok, Err}
use Rattle.std.specs.IoError.{error_kind}
use Rattle.std.specs.declared.io.Error.{Error}
use Rattle.std.specs.declared.io.ErrorKind.{ErrorKind}
use Rattle.std.specs.declared.io.ErrorKind.TheVariants.{Interrupted}

-- the descriptors that the program reads and writes
abbrev pub input : ℤ
input = pos 0

abbrev pub output : ℤ
output = pos 1

-- what a read came to: the bytes that it moved, below 0 if it failed
abbrev pub got : Result ℕ Error → ℤ
got (Ok n) = pos n
got (Err e) = negsuc 0

abbrev pub is_signal : ErrorKind → Bool
is_signal Interrupted = true
is_signal _ = false

-- whether it failed because a signal interrupted it
abbrev pub interrupted : Result ℕ Error → Bool
interrupted (Ok n) = false
interrupted (Err e) = is_signal (error_kind e)

-- more is read if all was written and the read moved bytes, or failed because a signal interrupted it: so not at the
-- input's end, which is a read of no bytes
abbrev pub goes_on : Bool → ℤ → Bool → Bool
goes_on whole (pos n) interrupted = whole && ltb 0 n
goes_on whole (negsuc n) interrupted = whole && interrupted

-- the input's end: a read of no bytes, all written before it
abbrev pub at_end : Bool → ℤ → Bool
at_end whole (pos n) = whole && eqb n 0
at_end whole (negsuc n) = false

-- the reads of a run, at the most: nothing says that an input ends
abbrev pub most_reads : ℕ
most_reads = 18446744073709551615

-- a run stops where it does not go on, or after that many
abbrev pub Stops : Bool → ℕ → Type 0
Stops false reads = Unit {0}
Stops true reads = reads ≡ most_reads
