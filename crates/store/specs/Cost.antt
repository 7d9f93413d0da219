-- W-202: "Firmware reads the battery and wants to know, before a sync, how many orders it will take, whether an apply comes first, how
-- many writes wait at its peak, earlier ones included, and whether the power count reaches. Likewise for apply and for recover, where no
-- apply comes first." Each figure is a measure of the list of orders that the call runs.
use Rattle.std.specs.Prelude.{ℕ, Result, Ok, Err, Bool, true, false, cond, List, [], ◌∷◌, eqb, leb, length}
use Rattle.card.specs.Card.{Card, Order, write, flush}
use Rattle.card.specs.Peak.{peak}
use Rattle.journal.specs.Geometry.{Geometry}
use Rattle.refusals.specs.Numbers.{number_of}
use Rattle.refusals.specs.declared.Refusal.{Refusal}
use Rattle.store.specs.declared.cost as Code
use Rattle.store.specs.State.{State, card_in}
use Rattle.store.specs.Save.{Save}
use Rattle.store.specs.Request.{save}
use Rattle.store.specs.Causes.{cause}
use Rattle.store.specs.Saves.{save_orders}

-- the orders behind a list's first flush
unfoldable pub behind_flush : List Order → List Order
behind_flush [] = []
behind_flush (write e ∷ os) = behind_flush os
behind_flush (flush ∷ os) = os

-- there are orders
abbrev pub goes_on : List Order → Bool
goes_on [] = false
goes_on (o ∷ os) = true

-- "whether an apply comes first": the list begins with a checkpoint and goes on behind it. Of the lists of these calls only one that begins
-- with a checkpoint has a second flush
abbrev pub checkpoint_first : List Order → Bool
checkpoint_first os = goes_on (behind_flush (behind_flush os))

-- the number that refuses the call, or 0; and the figures
pub record Cost : Type 0 where
  pub number : ℕ
  pub orders : ℕ
  pub applies : Bool
  pub peak : ℕ
  pub reaches : Bool

-- the figures of a list of orders given to a card
abbrev pub figures : List Order → Card → Cost
figures os c = record {
  number = 0;
  orders = length os;
  applies = checkpoint_first os;
  peak = peak os c;
  reaches = leb (length os) c.power;
}

-- a refusal has no figures
abbrev pub no_figures : ℕ → Cost
no_figures k = record { number = k; orders = 0; applies = false; peak = 0; reaches = false }

module _ (geo : Geometry) where
  -- "It refuses as that call does, power gone aside."
  unfoldable pub cost_of : Save → State → Cost
  cost_of c st = cond (eqb (cause geo (save c) st) 0) (figures (save_orders geo c st) (card_in st)) (no_figures (cause geo (save c) st))

-- what an inquiry answers, as the code hands it back
abbrev pub costed : Result Code.Cost.Cost Refusal → Cost
costed (Ok c) = record { number = 0; orders = c.orders; applies = c.applies; peak = c.peak; reaches = c.reaches }
costed (Err refusal) = no_figures (number_of refusal)
