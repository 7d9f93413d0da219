-- `inspect::reading::Reading::corrected` meets its contract.
use Prim.Native.Nat.{ℕ}
use mathlib.Core.Path.{ap, ◌∙◌}
use native.Mathlib.Omega.{arith}
use lib.ListN.{length}
use Rattle.card.specs.Card.{block_at}
use Rattle.journal.specs.Geometry.{trap}
use Rattle.journal.specs.Layout.{slot_at}
use Rattle.journal.proofs.Logs.{length-block_at, block_read}
use Rattle.inspect.specs.Tally.{sum_bytes}
use Rattle.inspect.proofs.reading.Reading.corrected.Goals as goal

pub sum_bytes-own-requires : goal.sum_bytes-own-requires
sum_bytes-own-requires c =
    let a = c.args in
    let s = a.self.now.settled in
    ap length (block_read c.slot_block.result s (slot_at trap a.i) c.slot_block.ensures) ∙ length-block_at s.now (slot_at trap a.i) (omega arith)

pub returns-clause-i_value : goal.returns-clause-i_value
returns-clause-i_value c =
    let a = c.args in
    let s = a.self.now.settled in
    let own = c.sum_bytes-own.ensures.value ∙ ap sum_bytes (block_read c.slot_block.result s (slot_at trap a.i) c.slot_block.ensures) in
    let home = c.sum_block-home.ensures.value ∙ ap (λ (x : ℕ). sum_bytes (block_at s.now x)) c.slot_address.ensures in
    omega (arith, own, home)
