-- What is not foreign, and what a format would wipe out, is what the bytes of block 0 say.
use Prim.Native.Nat.{ℕ}
use mathlib.Core.Path.{◌≡◌}
use mathlib.Core.Bool.{true, false, not}
use mathlib.Core.List.{List}
use native.Mathlib.Decide.{ℕ_discrete}
use borrow.Author.Tests.{eq-eqb, ne_eqb, le-leb, lt-ltb, ltb-true, not-true}
use lib.Dec.{eqb, leb, ltb}
use Rattle.journal.specs.Geometry.{Geometry}
use Rattle.journal.specs.declared.header.Header.{Header}
use Rattle.journal.specs.Layout.{header_at}
use Rattle.journal.specs.Header.{format_number, decode}
use Rattle.journal.specs.Log.{header_of}
use Rattle.journal.specs.Choice.{unnumbered, foreign, in_use}
use Rattle.journal.specs.Ours.{OurHeader, CountsEntries}
use Rattle.journal.proofs.Choices.{both, ours, alike_zero}
use Rattle.card.specs.Card.{block_at}

-- a header with a save number, or with like counts and sums
numbered-by : (h : Header) → (h.save ≡ 0 → (h.previous ≡ h.count) × (h.presum ≡ h.sum)) → unnumbered h ≡ false
numbered-by h f = go (ℕ_discrete h.save 0)
  where
    go : Dec (h.save ≡ 0) → unnumbered h ≡ false
    go (no z) = let some : eqb h.save 0 ≡ false = ne_eqb _ 0 z in rw some
    go (yes z) =
        let none : eqb h.save 0 ≡ true = eq-eqb _ 0 z in
        let counts : eqb h.previous h.count ≡ true = eq-eqb _ _ (f z).0 in
        let sums : eqb h.presum h.sum ≡ true = eq-eqb _ _ (f z).1 in
        rw (none, counts, sums)

module _ (geo : Geometry) (N : ℕ) (s : List ℕ) where
  pub known_bytes : foreign geo N (header_of s) ≡ false → OurHeader geo N (block_at s header_at)
  unfolding decode
  known_bytes e =
      let o = ours geo N (header_of s) e in
      record { format = o.format; blocks = o.blocks; count = o.count; previous = o.previous; numbered = alike_zero (header_of s) o.numbered }

  pub bytes_known : OurHeader geo N (block_at s header_at) → foreign geo N (header_of s) ≡ false
  unfolding decode
  bytes_known o =
      let h = header_of s in
      let format : eqb h.format format_number ≡ true = eq-eqb _ _ o.format in
      let blocks : eqb h.blocks N ≡ true = eq-eqb _ _ o.blocks in
      let count : leb h.count geo.slots ≡ true = le-leb _ _ o.count in
      let previous : leb h.previous h.count ≡ true = le-leb _ _ o.previous in
      let numbered : unnumbered h ≡ false = numbered-by h o.numbered in
      rw (format, blocks, count, previous) numbered

  pub used_bytes : in_use geo N s ≡ true → CountsEntries geo N (block_at s header_at)
  unfolding in_use decode
  used_bytes e =
      let p = both (not (foreign geo N (header_of s))) (ltb 0 (header_of s).count) e in
      record { ours = known_bytes (not-true _ p.0); above = ltb-true 0 (header_of s).count p.1 }

  pub bytes_used : CountsEntries geo N (block_at s header_at) → in_use geo N s ≡ true
  unfolding in_use decode
  bytes_used c =
      let known : foreign geo N (header_of s) ≡ false = bytes_known c.ours in
      let some : ltb 0 (header_of s).count ≡ true = lt-ltb 0 (header_of s).count c.above in
      rw (known, some)
