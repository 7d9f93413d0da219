-- `card::queue::settle_bytes` meets its contract.
use Prim.Native.Nat.{ℕ, ◌+◌, ◌*◌, ◌-◌}
use mathlib.Core.Path.{◌≡◌, ap, sym, ◌∙◌}
use mathlib.Core.List.{List}
use native.Mathlib.Omega.{arith}
use lib.ListN.{length, take, drop}
use Rattle.cells.specs.Cell.{set_cell}
use Rattle.cells.specs.Cell.Laws.{cell_part, length-cell}
use Rattle.cells.specs.Entry.{block_bytes, entry_at}
use Rattle.cells.specs.Entry.Laws.{length_block, block_part}
use Rattle.card.specs.Card.{block_at, torn, settle_kept}
use Rattle.card.specs.Marks.{marks_at}
use Rattle.card.proofs.queue.settle_bytes.Goals as goal

-- and the part of the marks those of the write
marked : (ms : List ℕ) (i n : ℕ) → n ≡ block_bytes → take n (drop (block_bytes * i) ms) ≡ marks_at ms i
marked ms i n e = ap (λ (k : ℕ). take k (drop (block_bytes * i) ms)) e ∙ sym (cell_part block_bytes ms i)

pub settle_kept-requires : goal.settle_kept-requires
settle_kept-requires c =
    let lent : c.block.result.now ≡ (entry_at c.args.waiting.now c.args.i).block = let a = c.args in
    ap (λ v. v.bytes) c.block.ensures ∙ sym (block_part a.waiting.now a.i) in
    let a = c.args in record {
      address_bound = rw c.address.ensures c.requires.i_bound;
      block_len = (ap length (lent) ∙ length_block a.waiting.now a.i c.requires.entry_bytes_in_bounds, ap length (marked a.marks.now a.i (block_bytes * a.i + block_bytes - block_bytes * a.i) (omega arith)) ∙ length-cell 512 a.marks.now a.i c.requires.block_bytes_in_bounds);
    }

pub returns : goal.returns
unfolding settle_kept
returns c =
    let lent : c.block.result.now ≡ (entry_at c.args.waiting.now c.args.i).block = let a = c.args in
    ap (λ v. v.bytes) c.block.ensures ∙ sym (block_part a.waiting.now a.i) in
    let a = c.args in
    let s = a.settled.now in
    c.settle_kept.ensures
    ∙ (λ j. set_cell block_bytes s (c.address.ensures j) (torn (marked a.marks.now a.i (block_bytes * a.i + block_bytes - block_bytes * a.i) (omega arith) j) (lent j) (block_at s (c.address.ensures j))))
