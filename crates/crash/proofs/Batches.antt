-- What stands on the card after the orders of a call, whatever the power: writes and a flush behind them make a batch.
use Prim.Native.Nat.{ℕ, ◌+◌, ◌*◌, ◌-◌, ◌≤◌, ◌<◌}
use mathlib.Core.Path.{◌≡◌, ap, ◌∙◌}
use mathlib.Core.List.{List, [], ◌∷◌, ◌++◌, map}
use native.Mathlib.Omega.{arith}
use lib.ListN.{length, take, length-take, length-append, length-map}
use Rattle.cells.specs.Upto.{up_to}
use Rattle.cells.specs.Upto.Laws.{length-up_to}
use Rattle.cells.specs.Entry.{entry_bytes, Entry, entry_at}
use Rattle.card.specs.Card.{Card, Order, write, flush, queue, settle, run}
use Rattle.card.proofs.All.{All}
use Rattle.card.proofs.Runs.{Whole, NarrowAddress, run_dead, run_lengths, run-power, writes_settled, writes_count, writes_queue, flush_missed, flush_reached}

-- orders on c left r: the settled bytes s, the waiting writes q, the power p
pub record Left (c r : Card) (s : List ℕ) (q : List Entry) (p : ℕ) : Type 0 where
  pub settled : r.settled ≡ s
  pub waits : queue r ≡ q
  pub count : r.count ≡ length q
  pub power : r.power ≡ p
  pub room : length r.waiting ≡ length c.waiting

-- nothing waits
pub no_queue : (c : Card) → c.count ≡ 0 → queue c ≡ []
unfolding queue
no_queue c h = ap (λ (n : ℕ). up_to (entry_at c.waiting) n) h

length-queue : (c : Card) → length (queue c) ≡ c.count
unfolding queue
length-queue c = length-up_to (entry_at c.waiting) c.count

abbrev pub batch : List Entry → List Order
batch es = map write es ++ (flush ∷ [])

-- writes that fit the queue behind what waits
pub record Room (c : Card) (es : List Entry) : Type 0 where
  pub places : entry_bytes * (c.count + length es) ≤ length c.waiting
  pub whole : All Whole es
  pub low : All NarrowAddress es

-- with power for no more than the writes: the first of them wait, behind what waited
pub queued_short : (c : Card) (es : List Entry) → Room c es → c.power ≤ length es → Left c (run (batch es) c) c.settled (queue c ++ take c.power es) 0
queued_short c es f h =
    rw (flush_missed es c h)
    (record {
      settled = writes_settled es c;
      waits = writes_queue es c f.places f.whole f.low;
      count = writes_count es c ∙ rw (length-append, length-queue, length-take);
      power = run-power (map write es) c ∙ rw (length-map) (omega arith);
      room = (run_lengths (map write es) c).1;
    })

-- with power for the flush too: what waited is settled, then all of them
pub queued_done : (c : Card) (es : List Entry) → Room c es → length es < c.power → Left c (run (batch es) c) (settle (queue c ++ es) c.settled) [] (c.power - (length es + 1))
queued_done c es f h =
    let r = flush_reached es c f.places f.whole f.low h in
    record {
      settled = r.0;
      waits = no_queue (run (batch es) c) r.1;
      count = r.1;
      power = r.2 ∙ (omega arith);
      room = (run_lengths (batch es) c).1;
    }

-- without power the rest of the orders changes nothing
pub left_dead : (c r : Card) (s : List ℕ) (q : List Entry) (os : List Order) → Left c r s q 0 → Left c (run os r) s q 0
left_dead c r s q os l = rw (run_dead os r l.power) l

pub left-power : {c r : Card} {s : List ℕ} {q : List Entry} {p k : ℕ} → p ≡ k → Left c r s q p → Left c r s q k
left-power e l = record { settled = l.settled; waits = l.waits; count = l.count; power = l.power ∙ e; room = l.room }
