-- Orders given in phases: the code gives some, stops where power is gone, and else gives the rest.
use Prim.Native.Nat.{ℕ, ◌+◌, ◌*◌, ◌-◌, ◌≤◌, ◌<◌}
use mathlib.Core.Path.{◌≡◌, refl, ap, sym, subst, ◌∙◌}
use mathlib.Core.Bool.{Bool, true, false}
use mathlib.Core.List.{List, [], ◌∷◌, ◌++◌, map}
use native.Mathlib.Omega.{arith}
use borrow.Author.Tests.{leb-true, leb-false, le-leb, lt-leb, ltb-true, ltb-false}
use lib.Dec.{leb, ltb}
use lib.ListN.{length, length-map}
use Rattle.std.specs.Prelude.{Result, is_ok}
use Rattle.cells.specs.Upto.{up_to}
use Rattle.cells.specs.Upto.Laws.{length-up_to, take-up_to}
use Rattle.cells.specs.Entry.{entry_bytes, Entry}
use Rattle.card.specs.declared.queue.Queue.{Queue}
use Rattle.card.specs.declared.queue.PowerLost.{PowerLost}
use Rattle.card.specs.Card.{Card, Order, write, flush, order, run}
use Rattle.card.specs.CodeQueue.{card_of, left_queue, Below}
use Rattle.card.proofs.Runs.{Whole, NarrowAddress, run_dead, run-one, run-append, run-power, writes_more, writes_take, writes_below}

-- ---- two phases: the orders os are j orders a, then k orders b

-- power for j orders, and then for k more
leb_shift : (j k p : ℕ) → j ≤ p → leb k (p - j) ≡ leb (j + k) p
leb_shift j k p h = go (leb k (p - j)) refl
  where
    go : (t : Bool) → leb k (p - j) ≡ t → t ≡ leb (j + k) p
    go true e = let l : k ≤ p - j = leb-true _ _ e in sym (le-leb (j + k) p (omega arith))
    go false e = let l : p - j < k = leb-false _ _ e in sym (lt-leb (j + k) p (omega arith))

module _ (os a b : List Order) (split : os ≡ a ++ b) (j k t : ℕ) (size : length a ≡ j) (total : j + k ≡ t) where
  module _ (c d : Card) (first : d ≡ run a c) (h : Bool) (told : h ≡ leb j c.power) where
    -- the first phase ran out of power: the rest would change nothing
    pub stopped : h ≡ false → (h ≡ leb t c.power) × (d ≡ run os c)
    stopped e =
        let short : c.power < j = leb-false j c.power (sym told ∙ e) in
        let none : (run a c).power ≡ 0 = run-power a c ∙ rw size (omega arith) in
        (e ∙ sym (lt-leb t c.power (omega arith)), first ∙ rw (split, run-append a b c, run_dead b (run a c) none))

    -- the second goes on where the first ended
    pub resumed : h ≡ true → (f : Card) (g : Bool) → f ≡ run b d → g ≡ leb k d.power → (g ≡ leb t c.power) × (f ≡ run os c)
    resumed e f g then answered =
        let enough : j ≤ c.power = leb-true j c.power (sym told ∙ e) in
        let left : d.power ≡ c.power - j = ap (λ (x : Card). x.power) first ∙ run-power a c ∙ rw size in
        (answered ∙ ap (leb k) left ∙ leb_shift j k c.power enough ∙ rw total, then ∙ rw (first, split, run-append a b c))

  -- the same of phases that only write, whatever is settled
  module _ (w : List ℕ) (q : Queue) (w' : List ℕ) (r : Result Queue PowerLost) (told : is_ok r ≡ leb j q.power)
      (first : (s : List ℕ) → card_of s w' (left_queue r) ≡ run a (card_of s w q)) where
    pub writes_stopped : is_ok r ≡ false → (is_ok r ≡ leb t q.power) × ((s : List ℕ) → card_of s w' (left_queue r) ≡ run os (card_of s w q))
    writes_stopped e =
        ((stopped (card_of [] w q) _ (first []) (is_ok r) told e).0, λ s. (stopped (card_of s w q) _ (first s) (is_ok r) told e).1)

    pub writes_resumed : is_ok r ≡ true → (w'' : List ℕ) (u : Result Queue PowerLost)
        → is_ok u ≡ leb k (left_queue r).power → ((s : List ℕ) → card_of s w'' (left_queue u) ≡ run b (card_of s w' (left_queue r)))
        → (is_ok u ≡ leb t q.power) × ((s : List ℕ) → card_of s w'' (left_queue u) ≡ run os (card_of s w q))
    writes_resumed e w'' u answered then = (
      (resumed (card_of [] w q) _ (first []) (is_ok r) told e _ _ (then []) answered).0,
      λ s. (resumed (card_of s w q) _ (first s) (is_ok r) told e _ _ (then s) answered).1,
    )

-- ---- what waits

-- what waits, by the card
pub below_card : (n : ℕ) (s w : List ℕ) (q : Queue) (c : Card) → card_of s w q ≡ c → Below n c.waiting c.count → Below n w q.waiting
below_card n s w q c e h = subst (λ (d : Card). Below n d.waiting d.count) (sym e) h

-- one write below n more
pub write_below : (n : ℕ) (e : Entry) (s w : List ℕ) (q : Queue) (w' : List ℕ) (r : Result Queue PowerLost) → card_of s w' (left_queue r) ≡ run (write e ∷ []) (card_of s w q)
    → entry_bytes * q.waiting + entry_bytes ≤ length w → Whole e → NarrowAddress e → e.address < n → Below n w q.waiting → Below n w' (left_queue r).waiting
write_below n e s w q w' r told room whole short new old =
    below_card n s w' (left_queue r) (run (write e ∷ []) (card_of s w q)) told
    (writes_below n (e ∷ []) (card_of s w q) (omega arith) (whole, tt) (short, tt) (new, tt) old)

-- after a flush that happened nothing waits
pub flushed_empty : (s w : List ℕ) (q : Queue) (s' : List ℕ) (r : Result Queue PowerLost) → card_of s' w (left_queue r) ≡ run (flush ∷ []) (card_of s w q)
    → is_ok r ≡ ltb 0 q.power → is_ok r ≡ true → (left_queue r).waiting ≡ 0
unfolding order
flushed_empty s w q s' r told h e =
    let live : 0 < q.power = ltb-true 0 q.power (sym h ∙ e) in
    ap (λ (c : Card). c.count) (told ∙ run-one flush (card_of s w q) live)

-- ---- writes in a row

-- the first i writes of a row have been given, and have happened
pub record WrittenSoFar (f : ℕ → Entry) (i : ℕ) (w₀ : List ℕ) (q₀ : Queue) (w : List ℕ) (q : Queue) : Type 0 where
  pub power : i ≤ q₀.power
  pub count : q.waiting ≤ q₀.waiting + i
  pub room : length w ≡ length w₀
  pub card : (s : List ℕ) → card_of s w q ≡ run (map write (up_to f i)) (card_of s w₀ q₀)

-- what a write promises
abbrev pub Wrote : Entry → List ℕ → Queue → List ℕ → Result Queue PowerLost → Type 0
Wrote e w q w' r =
    (is_ok r ≡ ltb 0 q.power)
    × (((s : List ℕ) → card_of s w' (left_queue r) ≡ run (write e ∷ []) (card_of s w q))
    × ((left_queue r).waiting ≤ q.waiting + 1))

-- what a row of k writes promises
abbrev pub Rowed : (ℕ → Entry) → ℕ → List ℕ → Queue → List ℕ → Result Queue PowerLost → Type 0
Rowed f k w q w' r =
    (is_ok r ≡ leb k q.power)
    × (((s : List ℕ) → card_of s w' (left_queue r) ≡ run (map write (up_to f k)) (card_of s w q))
    × ((left_queue r).waiting ≤ q.waiting + k))

-- by another name of the row
pub rowed_orders : (f : ℕ → Entry) (k : ℕ) (w : List ℕ) (q : Queue) (w' : List ℕ) (r : Result Queue PowerLost) (os : List Order) → os ≡ map write (up_to f k) → Rowed f k w q w' r
    → (is_ok r ≡ leb k q.power) × (((s : List ℕ) → card_of s w' (left_queue r) ≡ run os (card_of s w q)) × ((left_queue r).waiting ≤ q.waiting + k))
rowed_orders f k w q w' r os e h = (h.0, (λ s. h.1.0 s ∙ ap (λ (l : List Order). run l (card_of s w q)) (sym e), h.1.1))

pub written_none : (f : ℕ → Entry) (w : List ℕ) (q : Queue) → WrittenSoFar f 0 w q w q
unfolding run
written_none f w q = record { power = omega arith; count = omega arith; room = refl; card = λ s. refl }

module _ (f : ℕ → Entry) (i : ℕ) (w₀ : List ℕ) (q₀ : Queue) (w : List ℕ) (q : Queue) (before : WrittenSoFar f i w₀ q₀ w q) where
  left : q.power ≡ q₀.power - i
  left = ap (λ (c : Card). c.power) (before.card []) ∙ run-power (map write (up_to f i)) (card_of [] w₀ q₀) ∙ rw (length-map, length-up_to)

  module _ (e : Entry) (same : e ≡ f i) (w' : List ℕ) (r : Result Queue PowerLost) (wrote : Wrote e w q w' r) where
    next : (s : List ℕ) → card_of s w' (left_queue r) ≡ run (map write (up_to f (i + 1))) (card_of s w₀ q₀)
    next s =
        wrote.1.0 s
        ∙ ap (λ (x : Entry). run (write x ∷ []) (card_of s w q)) same
        ∙ ap (run (write (f i) ∷ [])) (before.card s)
        ∙ sym (writes_more f i (card_of s w₀ q₀))

    pub written_more : length w' ≡ length w → is_ok r ≡ true → WrittenSoFar f (i + 1) w₀ q₀ w' (left_queue r)
    written_more l h =
        let live : 0 < q.power = ltb-true 0 q.power (sym wrote.0 ∙ h) in
        let p : q.power ≡ q₀.power - i = left in
        record { power = omega arith; count = omega (arith, wrote.1.1, before.count); room = l ∙ before.room; card = next }

    pub written_stop : (m : ℕ) → i < m → is_ok r ≡ false → Rowed f m w₀ q₀ w' r
    written_stop m k h =
        let dead : q.power ≤ 0 = ltb-false 0 q.power (sym wrote.0 ∙ h) in
        let p : q.power ≡ q₀.power - i = left in
        let all : q₀.power ≡ i = omega (arith, before.power) in
        (h ∙ sym (lt-leb m q₀.power (omega arith)), (λ s. next s ∙ upto s (i + 1) (omega arith) all ∙ sym (upto s m (omega arith) all), omega (arith, wrote.1.1, before.count)))
      where
        upto : (s : List ℕ) (n : ℕ) → i ≤ n → q₀.power ≡ i → run (map write (up_to f n)) (card_of s w₀ q₀) ≡ run (map write (up_to f i)) (card_of s w₀ q₀)
        upto s n k all = writes_take (up_to f n) (card_of s w₀ q₀) ∙ rw (all, take-up_to f n i k)
