-- The peak of a list of orders: it depends on the count alone; what waits where the orders stop never exceeds it, and somewhere meets it.
use Prim.Native.Nat.{ℕ, suc, ◌+◌, ◌-◌, ◌≤◌, max}
use mathlib.Core.Path.{◌≡◌, refl, ap, ◌∙◌}
use mathlib.Core.List.{List, [], ◌∷◌, ◌++◌, map}
use native.Mathlib.Omega.{arith}
use native.Mathlib.Decide.{dec_le}
use lib.ListN.{length}
use Rattle.cells.specs.Entry.{Entry}
use Rattle.card.specs.Card.{Card, Order, write, flush, queue, order, run}
use Rattle.card.specs.Peak.{peak}
use Rattle.card.proofs.Runs.{run_nil, run_step, run_dead, run_live}

-- ---- the peak from a count

unfoldable pub peak_from : List Order → ℕ → ℕ
peak_from [] w = w
peak_from (write e ∷ os) w = max w (peak_from os (w + 1))
peak_from (flush ∷ os) w = max w (peak_from os 0)

pub peak-from : (os : List Order) (c : Card) → peak os c ≡ peak_from os c.count
unfolding peak peak_from order
peak-from [] c = refl
peak-from (write e ∷ os) c = ap (max c.count) (peak-from os (order (write e) c))
peak-from (flush ∷ os) c = ap (max c.count) (peak-from os (order flush c))

pub peak_none : (w : ℕ) → peak_from [] w ≡ w
unfolding peak_from
peak_none w = refl

-- writes, and a flush
pub peak-batch : (es : List Entry) (os : List Order) (w : ℕ) → peak_from (map write es ++ (flush ∷ os)) w ≡ max (w + length es) (peak_from os 0)
unfolding peak_from
peak-batch [] os w = omega arith
peak-batch (e ∷ es) os w = let more : peak_from (map write es ++ (flush ∷ os)) (w + 1) ≡ max (w + 1 + length es) (peak_from os 0) = peak-batch es os (w + 1) in omega arith

-- ---- what waits where the orders stop

pub run-peak : (os : List Order) (c : Card) → (run os c).count ≤ peak os c
unfolding peak
run-peak [] c = rw (run_nil) (omega arith)
run-peak (o ∷ os) c =
    let more : (run os (order o c)).count ≤ peak os (order o c) = run-peak os (order o c) in
    run_step (λ r. r.count ≤ max c.count (peak os (order o c))) o os c (λ z. omega arith) (λ l. omega arith)

-- the card with another power count
abbrev pub with_power : ℕ → Card → Card
with_power k c = record { settled = c.settled; waiting = c.waiting; count = c.count; power = k }

order-with_power : (o : Order) (k : ℕ) (c : Card) → order o (with_power (suc k) c) ≡ with_power k (order o c)
unfolding order queue
order-with_power (write e) k c = let less : suc k - 1 ≡ k = omega arith in rw less
order-with_power flush k c = let less : suc k - 1 ≡ k = omega arith in rw less

-- power for some number of the orders, after which as many wait
pub peak-met : (os : List Order) (c : Card) → (k : ℕ) × (k ≤ length os) × ((run os (with_power k c)).count ≡ peak os c)
unfolding peak
peak-met [] c = (0, omega arith, rw (run_nil))
peak-met (o ∷ os) c = go (dec_le (peak os (order o c)) c.count) (peak-met os (order o c))
  where
    go : Dec (peak os (order o c) ≤ c.count) → (k : ℕ) × (k ≤ length os) × ((run os (with_power k (order o c))).count ≡ peak os (order o c))
        → (k : ℕ) × (k ≤ suc (length os)) × ((run (o ∷ os) (with_power k c)).count ≡ max c.count (peak os (order o c)))
    go (yes p) m = (0, omega arith, ap (λ (x : Card). x.count) (run_dead (o ∷ os) (with_power 0 c) refl) ∙ (omega arith))
    go (no p) (k, l, e) = (
      suc k,
      omega arith,
      ap (λ (x : Card). x.count) (run_live o os (with_power (suc k) c) (omega arith)) ∙ ap (λ (x : Card). (run os x).count) (order-with_power o k c) ∙ e ∙ (omega arith),
    )
