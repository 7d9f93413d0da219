-- "format: settles zeros everywhere and an empty log's header without orders; mode open, counts 0, the empty list's sum, power
-- 1,000,000. Work and waiting bytes become zero." W-201: the save number is "0 at format", in header and record.
use Rattle.std.specs.Prelude.{length, replicate}
use Rattle.cells.specs.Cell.{set_cell}
use Rattle.cells.specs.Entry.{block_bytes}
use Rattle.card.specs.Card.{blocks_in}
use Rattle.journal.specs.Geometry.{Geometry}
use Rattle.journal.specs.Layout.{header_at}
use Rattle.journal.specs.Header.{encode, empty_header}
use Rattle.store.specs.State.{State, Outcome}
use Rattle.store.specs.CodeState.{state_of, fresh}
use Rattle.store.specs.Request.{format}
use Rattle.store.specs.Causes.{cause}
use Rattle.store.specs.Outcomes.{completed, unless}

unfoldable pub formatted : State → State
formatted st =
    let N = blocks_in st.settled in
    state_of (fresh N)
    (set_cell block_bytes (replicate (length st.settled) 0) header_at (encode (empty_header N 0)))
    (replicate (length st.waiting) 0)
    (replicate (length st.work) 0)

module _ (geo : Geometry) where
  unfoldable pub format_call : State → Outcome
  format_call st = unless (cause geo format st) st (completed (formatted st))
