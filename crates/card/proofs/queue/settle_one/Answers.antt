-- `card::queue::settle_one` meets its contract.
use Prim.Native.Nat.{ℕ}
use mathlib.Core.Path.{◌≡◌, ap, ap₂, sym, ◌∙◌}
use mathlib.Core.List.{List}
use lib.ListN.{length}
use Rattle.cells.specs.Cell.{set_cell}
use Rattle.cells.specs.Entry.{block_bytes, entry_at}
use Rattle.cells.specs.Entry.Laws.{length_block, block_part}
use Rattle.card.specs.Card.{settle}
use Rattle.card.proofs.queue.settle_one.Goals as goal

pub settle-requires : goal.settle-requires
settle-requires c =
    let lent : c.block.result.now ≡ (entry_at c.args.waiting.now c.args.i).block = let a = c.args in
    ap (λ v. v.bytes) c.block.ensures ∙ sym (block_part a.waiting.now a.i) in
    record {
      address_bound = rw c.address.ensures c.requires.i_bound;
      block_len = ap length (lent) ∙ length_block c.args.waiting.now c.args.i c.requires.entry_bytes_in_bounds;
    }

pub returns : goal.returns
unfolding settle
returns c =
    let lent : c.block.result.now ≡ (entry_at c.args.waiting.now c.args.i).block = let a = c.args in
    ap (λ v. v.bytes) c.block.ensures ∙ sym (block_part a.waiting.now a.i) in
    let s = c.args.settled.now in
    c.settle.ensures ∙ ap₂ (λ (a : ℕ) (b : List ℕ). set_cell block_bytes s a b) c.address.ensures (lent)
