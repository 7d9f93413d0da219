-- W-202: "how many writes wait at its peak, earlier ones included".
use Rattle.std.specs.Prelude.{ℕ, max, List, [], ◌∷◌}
use Rattle.card.specs.Card.{Card, Order, order}

-- the largest count of waiting writes after any number of a list's orders, none included, as they are carried out with power enough
unfoldable pub peak : List Order → Card → ℕ
peak [] c = c.count
peak (o ∷ os) c = max c.count (peak os (order o c))
