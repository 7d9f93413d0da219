-- What a returned part promises: not only its bytes, but its place in the slice that was lent.
pub mod Laws
use Rattle.std.specs.Prelude.{ℕ, ◌+◌, List, take, drop}
use Rattle.std.specs.Borrow.{Bor}

-- a run of bytes in memory: the block that it lies in, the offset in it, the bytes
pub record View : Type 0 where
  pub block : ℕ
  pub offset : ℕ
  pub bytes : List ℕ

-- where a slice lies and what it holds now
abbrev pub view_of : Bor (List ℕ) → View
view_of r = record { block = r.ref_ptr.0; offset = r.ref_ptr.1; bytes = r.now }

-- the n bytes of s from byte a on, at their place in s
abbrev pub part_of : Bor (List ℕ) → ℕ → ℕ → View
part_of s a n = record { block = s.ref_ptr.0; offset = a + s.ref_ptr.1; bytes = take n (drop a s.now) }
