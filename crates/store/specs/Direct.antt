-- W-209: "A picture goes to data blocks by direct write orders, outside any transaction." "with 32 waiting it flushes first; it hands back its
-- orders."
use Rattle.std.specs.Prelude.{ℕ, cond, List, [], ◌∷◌, eqb}
use Rattle.card.specs.Card.{Order, write, flush}
use Rattle.journal.specs.Geometry.{Geometry}
use Rattle.store.specs.State.{State, Outcome}
use Rattle.store.specs.Request.{direct}
use Rattle.store.specs.Causes.{cause}
use Rattle.store.specs.Outcomes.{unless}
use Rattle.store.specs.Saves.{carried}

abbrev pub direct_write : ℕ → List ℕ → Order
direct_write a b = write (record { address = a; block = b })

module _ (geo : Geometry) where
  -- "with 32 waiting it flushes first"
  unfoldable pub direct_orders : ℕ → List ℕ → State → List Order
  direct_orders a b st = cond (eqb st.rec.waiting geo.direct) (flush ∷ direct_write a b ∷ []) (direct_write a b ∷ [])

  -- done or cut short, the record has nothing but the card's counts to change, and the mode
  abbrev pub directing : ℕ → List ℕ → State → Outcome
  directing a b st = carried (direct_orders a b st) st.rec st.rec st

  unfoldable pub direct_call : ℕ → List ℕ → State → Outcome
  direct_call a b st = unless (cause geo (direct a b) st) st (directing a b st)
