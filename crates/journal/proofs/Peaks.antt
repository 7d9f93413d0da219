-- How many writes wait at the peak of each list of orders, w of them before it.
use Prim.Native.Nat.{ℕ, ◌+◌, max}
use mathlib.Core.Path.{◌≡◌, ap}
use mathlib.Core.List.{List, [], ◌∷◌, ◌++◌, map, append_assoc}
use native.Mathlib.Omega.{arith}
use lib.ListN.{length}
use Rattle.cells.specs.Entry.{Entry}
use Rattle.card.specs.Card.{Order, write, flush}
use Rattle.card.proofs.Peaks.{peak_from, peak_none, peak-batch}
use Rattle.journal.specs.Geometry.{Geometry}
use Rattle.journal.specs.Header.{header, empty_header}
use Rattle.journal.specs.Orders.{append_orders, checkpoint_orders, fallback_orders}
use Rattle.journal.proofs.OrderLists.{header_entry, append_writes, append-writes, fallback_writes, length-append_writes}

module _ (geo : Geometry) where
  pub peak-append : (N : ℕ) (s : List ℕ) (n h c : ℕ) (es : List Entry) (w : ℕ) → peak_from (append_orders geo N s n h c es) w ≡ w + (length es + geo.descriptors + 1)
  peak-append N s n h c es w =
      rw (append-writes geo N s n h c es, peak-batch (append_writes geo N s n h c es) [] w, length-append_writes geo N s n h c es, peak_none) (omega arith)

-- a checkpoint, and further orders behind it
pub peak-checkpoint : (N c : ℕ) (es : List Entry) (os : List Order) (w : ℕ) → peak_from (checkpoint_orders N c es ++ os) w ≡ max (w + length es) (max 1 (peak_from os 0))
unfolding checkpoint_orders
peak-checkpoint N c es os w =
    rw (append_assoc (map write es) (flush ∷ write (header_entry (empty_header N c)) ∷ flush ∷ []) os, peak-batch es (write (header_entry (empty_header N c)) ∷ flush ∷ os) w)
    (ap (max (w + length es)) (peak-batch (header_entry (empty_header N c) ∷ []) os 0))

pub peak_fallback : (N p h c w : ℕ) → peak_from (fallback_orders N p h c) w ≡ w + 1
peak_fallback N p h c w = rw (fallback_writes N p h c, peak-batch (header_entry (header N p h p h c) ∷ []) [] w, peak_none) (omega arith)
