-- `card::settled::settle_kept` meets its contract.
use Prim.Native.Nat.{ℕ, ◌+◌, ◌*◌, ◌-◌}
use mathlib.Core.Path.{◌≡◌, ap, sym, ◌∙◌}
use native.Mathlib.Omega.{arith}
use lib.ListN.{length, take, drop}
use Rattle.cells.specs.Cell.Laws.{put-cell, cell_part, length-cell}
use Rattle.card.specs.Card.{block_at, torn}
use Rattle.card.proofs.Torn.{length-torn}
use Rattle.card.proofs.settled.settle_kept.Goals as goal

pub returns : goal.returns
returns c =
    let a = c.args in
    let at = 512 * a.address in
    let n : at + 512 - at ≡ 512 = omega arith in
    let part : take (at + 512 - at) (drop at a.settled.now) ≡ block_at a.settled.now a.address = ap (λ (k : ℕ). take k (drop at a.settled.now)) n ∙ sym (cell_part 512 a.settled.now a.address) in
    let e : c.copy_kept.new.dst ≡ torn a.marks.now a.block.now (block_at a.settled.now a.address) = c.copy_kept.ensures ∙ ap (torn a.marks.now a.block.now) part in
    let long : length (torn a.marks.now a.block.now (block_at a.settled.now a.address)) ≡ 512 = length-torn a.marks.now a.block.now (block_at a.settled.now a.address) ∙ length-cell 512 a.settled.now a.address (omega arith) in
    rw e (put-cell 512 a.settled.now a.address (torn a.marks.now a.block.now (block_at a.settled.now a.address)) (at + 512 - at) (omega arith) long n)
