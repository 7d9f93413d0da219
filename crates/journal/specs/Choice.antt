-- The choice of recovery, and of whoever reads a card as recover does.
use Rattle.std.specs.Prelude.{ℕ, ◌-◌, Bool, cond, not, ◌&&◌, ◌||◌, List, [], eqb, leb, ltb}
use Rattle.card.specs.Card.{Order}
use Rattle.journal.specs.declared.header.Header.{Header}
use Rattle.journal.specs.declared.choice.Choice.{Choice}
use Rattle.journal.specs.declared.choice.Choice.TheVariants.{Whole, Fallback, Foreign, Neither}
use Rattle.journal.specs.Geometry.{Geometry}
use Rattle.journal.specs.Header.{format_number}
use Rattle.journal.specs.Log.{header_of, entries, good}
use Rattle.journal.specs.Orders.{fallback_orders}

-- W-201: "A header with save number 0 and unlike counts or sums is foreign as well."
abbrev pub unnumbered : Header → Bool
unnumbered h = eqb h.save 0 && not (eqb h.previous h.count && eqb h.presum h.sum)

module _ (geo : Geometry) where
  -- "format not [the format number], other N, n over 32 or p over n"
  abbrev pub foreign : ℕ → Header → Bool
  foreign N h =
      not (eqb h.format format_number && eqb h.blocks N && leb h.count geo.slots && leb h.previous h.count)
      || unnumbered h

  -- "if the first n entries are good, they are the log […] Else if the first p are good"; W-201: "a fallback in recovery lowers it by
  -- one". The header that a fallback meets never has save number 0 (`fallback-numbered`)
  unfoldable pub choose : ℕ → List ℕ → Choice
  choose N s =
      let h = header_of s in
      cond (foreign N h) Foreign
      (cond (good geo N (entries geo s h.count) h.sum) (Whole h.count h.sum h.save)
      (cond (good geo N (entries geo s h.previous) h.presum) (Fallback h.previous h.presum (h.save - 1))
      Neither))

  -- W-205: "a card that recover would not call foreign and whose header count is above 0". No list is summed
  unfoldable pub in_use : ℕ → List ℕ → Bool
  in_use N s = not (foreign N (header_of s)) && ltb 0 (header_of s).count

-- the number that document 01 gives for each case
abbrev pub choice_number : Choice → ℕ
choice_number (Whole n sum save) = 0
choice_number (Fallback n sum save) = 0
choice_number Foreign = 8
choice_number Neither = 9

-- the count and the sum of the list taken, and "the number found"
abbrev pub taken_count : Choice → ℕ
taken_count (Whole n sum save) = n
taken_count (Fallback n sum save) = n
taken_count Foreign = 0
taken_count Neither = 0

abbrev pub taken_sum : Choice → ℕ
taken_sum (Whole n sum save) = sum
taken_sum (Fallback n sum save) = sum
taken_sum Foreign = 0
taken_sum Neither = 0

abbrev pub taken_save : Choice → ℕ
taken_save (Whole n sum save) = save
taken_save (Fallback n sum save) = save
taken_save Foreign = 0
taken_save Neither = 0

-- the orders of recover: none for the first n, a header and a flush for the first p
abbrev pub recover_orders : ℕ → Choice → List Order
recover_orders N (Whole n sum save) = []
recover_orders N (Fallback n sum save) = fallback_orders N n sum save
recover_orders N Foreign = []
recover_orders N Neither = []
