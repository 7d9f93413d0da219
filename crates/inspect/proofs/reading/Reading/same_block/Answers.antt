-- `inspect::reading::Reading::same_block` meets its contract.
use mathlib.Core.Path.{◌≡◌, ap₂, sym, ◌∙◌}
use Rattle.cells.specs.Same.{same}
use Rattle.card.specs.Card.{block_at}
use Rattle.journal.specs.Geometry.{trap}
use Rattle.journal.proofs.Logs.{block_read}
use Rattle.inspect.proofs.Comparisons.{home_same, home_unlike}
use Rattle.inspect.proofs.reading.Reading.same_block.Goals as goal

pub returns-then-same : goal.returns-then-same
returns-then-same c =
    let g = c.args in
    let s = g.self.now.settled in
    let t = g.other.now.settled in
    let n = g.self.now.count in
    let homes : c.same.result ≡ same (block_at s.now g.x) (block_at t.now g.x) =
    c.same.ensures ∙ ap₂ same (block_read c.read.result s g.x c.read.ensures) (block_read c.read-2.result t g.x c.read-2.ensures) in
    rw c.if-same.true (home_same trap s.now t.now n g.x c.requires.slots_value (sym homes ∙ c.if-same.true))

pub returns-else-same : goal.returns-else-same
returns-else-same c =
    let g = c.args in
    let s = g.self.now.settled in
    let t = g.other.now.settled in
    let n = g.self.now.count in
    let homes : c.same.result ≡ same (block_at s.now g.x) (block_at t.now g.x) =
    c.same.ensures ∙ ap₂ same (block_read c.read.result s g.x c.read.ensures) (block_read c.read-2.result t g.x c.read-2.ensures) in
    rw (c.is_some.ensures, c.last_slot.ensures) (home_unlike trap s.now t.now n g.x c.requires.slots_value (sym homes ∙ c.if-same.false))
