-- "Cut." W-204: "A cut now takes, for each waiting write, 512 marks instead of one; byte by byte the newest kept write wins". "The queue is
-- emptied, the record closed, its open, group and log counts 0, its sum the empty list's. N and the power count stay." W-201: the record's
-- save number is "0 after a cut".
use Rattle.std.specs.Prelude.{ℕ, List}
use Rattle.fnv.specs.Fnv.{start}
use Rattle.card.specs.Card as Card
use Rattle.journal.specs.Geometry.{Geometry}
use Rattle.store.specs.declared.record.Record.{Record}
use Rattle.store.specs.State.{State, Outcome, closed, with_mode, with_opened, with_grouped, with_log, with_save, with_record, card_in, with_card}
use Rattle.store.specs.Request.{cut}
use Rattle.store.specs.Causes.{cause}
use Rattle.store.specs.Outcomes.{completed, unless}

-- the record that it leaves, the queue apart
abbrev pub shut : Record → Record
shut r = with_mode closed (with_opened 0 (with_grouped 0 (with_log 0 start (with_save 0 r))))

abbrev pub cutting : List ℕ → State → State
cutting marks st = with_card (Card.cut marks (card_in st)) (with_record (shut st.rec) st)

module _ (geo : Geometry) where
  unfoldable pub cut_call : List ℕ → State → Outcome
  cut_call marks st = unless (cause geo (cut marks) st) st (completed (cutting marks st))
