-- The laws of direct writes.
use Prim.Native.Nat.{ℕ, ◌≤◌, ◌<◌}
use mathlib.Core.Path.{◌≡◌, ap, ◌∙◌}
use mathlib.Core.List.{List, [], ◌∷◌}
use native.Mathlib.Omega.{arith}
use borrow.Author.Tests.{eq-eqb, ne_eqb}
use lib.Dec.{leb}
use lib.ListN.{length}
use Rattle.std.specs.Prelude.{Result, is_ok}
use Rattle.card.specs.declared.queue.Queue.{Queue}
use Rattle.card.specs.declared.queue.PowerLost.{PowerLost}
use Rattle.card.specs.Card.{Order, flush, run}
use Rattle.card.specs.CodeQueue.{card_of, left_queue}
use Rattle.journal.specs.Geometry.{Geometry}
use Rattle.store.specs.State.{State, card_in}
use Rattle.store.specs.Direct.{direct_write, direct_orders}

module _ (geo : Geometry) (a : ℕ) (b : List ℕ) (st : State) where
  -- fewer wait than may
  pub direct_room : st.rec.waiting < geo.direct → direct_orders geo a b st ≡ direct_write a b ∷ []
  unfolding direct_orders
  direct_room few = rw (ne_eqb st.rec.waiting geo.direct (λ e. omega arith))

  -- as many wait as may
  pub direct_full : st.rec.waiting ≤ geo.direct → geo.direct ≤ st.rec.waiting → direct_orders geo a b st ≡ flush ∷ direct_write a b ∷ []
  unfolding direct_orders
  direct_full most least = rw (eq-eqb st.rec.waiting geo.direct (omega arith))

  -- what the orders os came to, is what its own came to, if those are os: q is the queue that they were given
  pub direct_given : (os : List Order) → direct_orders geo a b st ≡ os → (q : Queue) (s w : List ℕ) (o : Result Queue PowerLost)
      → q ≡ record { waiting = st.rec.waiting; power = st.rec.power }
      → is_ok o ≡ leb (length os) q.power → card_of s w (left_queue o) ≡ run os (card_of st.settled st.waiting q)
      → (is_ok o ≡ leb (length (direct_orders geo a b st)) st.rec.power) × (card_of s w (left_queue o) ≡ run (direct_orders geo a b st) (card_in st))
  direct_given os list q s w o queue told card = (
    rw list (told ∙ ap (λ (x : Queue). leb (length os) x.power) queue),
    rw list (card ∙ ap (λ (x : Queue). run os (card_of st.settled st.waiting x)) queue),
  )
