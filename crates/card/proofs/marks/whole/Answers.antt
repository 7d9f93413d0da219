-- `card::marks::whole` meets its contract.
use Rattle.std.proofs.Common.{◌≡◌, ◌∙◌, ℕ, ◌+◌, ◌*◌, ◌≤◌, Bool, List, length, take, drop, replicate, ap, sym, arith}
use Rattle.cells.specs.Cell.Laws.{cell_part, length-cell}
use Rattle.cells.specs.Same.{same}
use Rattle.cells.specs.Entry.{block_bytes}
use Rattle.card.specs.Marks.{marks_at, kept_at, lost_at, whole_at}
use Rattle.card.proofs.marks.whole.Goals as goal

-- the part that is lent on is the write's marks
asked : (ms : List ℕ) (i n m : ℕ) (r : Bool) → n ≡ block_bytes → block_bytes * i + block_bytes ≤ length ms
    → r ≡ same (take n (drop (block_bytes * i) ms)) (replicate (length (take n (drop (block_bytes * i) ms))) m)
    → r ≡ same (marks_at ms i) (replicate block_bytes m)
asked ms i n m r e h q =
    let part : take n (drop (block_bytes * i) ms) ≡ marks_at ms i = ap (λ (k : ℕ). take k (drop (block_bytes * i) ms)) e ∙ sym (cell_part block_bytes ms i) in
    q ∙ rw (part, length-cell block_bytes ms i h)

pub returns-then-filled : goal.returns-then-filled
unfolding whole_at kept_at
returns-then-filled c =
    let a = c.args in
    let kept : c.filled.result ≡ kept_at a.marks.now a.i = asked a.marks.now a.i _ 1 c.filled.result (omega arith) c.requires c.filled.ensures in
    rw (← kept, c.if-filled.true)

pub returns-else-filled : goal.returns-else-filled
unfolding whole_at kept_at lost_at
returns-else-filled c =
    let a = c.args in
    let kept : c.filled.result ≡ kept_at a.marks.now a.i = asked a.marks.now a.i _ 1 c.filled.result (omega arith) c.requires c.filled.ensures in
    let lost : c.filled-else-filled.result ≡ lost_at a.marks.now a.i = asked a.marks.now a.i _ 0 c.filled-else-filled.result (omega arith) c.requires c.filled-else-filled.ensures in
    rw (← kept, c.if-filled.false) lost
