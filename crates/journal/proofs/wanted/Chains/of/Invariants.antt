-- `journal::wanted::Chains::of` meets its contract. The invariant: the first i are chained.
use Rattle.std.specs.Prelude.{◌≡◌, length}
use Rattle.journal.specs.CodeWanted.{buckets, Chained}
use Rattle.journal.proofs.wanted.Chains.of.Given as goal

abbrev pub invariant-loop-i : goal.invariant-loop-i
invariant-loop-i g l = (length l.last ≡ buckets) × (length l.before ≡ g.row.PLACES) × Chained l.list l.last l.before l.i
