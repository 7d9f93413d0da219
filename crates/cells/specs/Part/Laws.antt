-- Laws of parts.
use Rattle.std.specs.Prelude.{ℕ, ◌≡◌, List}
use Rattle.std.proofs.Common.{ap}
use Rattle.std.specs.Borrow.{Bor}
use Rattle.cells.specs.Part.{part_of}

-- a part is given by its place and its length
pub part_eq : (s : Bor (List ℕ)) (a n m : ℕ) → n ≡ m → part_of s a n ≡ part_of s a m
part_eq s a n m e = ap (λ (k : ℕ). part_of s a k) e
