-- Laws of orders, one by one and in a row.
use Prim.Native.Nat.{ℕ, zero, suc, ◌+◌, ◌*◌, ◌-◌, ◌^◌, ◌≤◌, ◌<◌, min}
use mathlib.Core.Path.{◌≡◌, refl, ap, sym, ◌∙◌}
use mathlib.Core.Bool.{Bool, true, false, cond}
use mathlib.Core.Logic.{◌≢◌}
use mathlib.Core.List.{List, [], ◌∷◌, ◌++◌, map, map-append, append_assoc, append-nil}
use native.Mathlib.Numerals.{add-one}
use native.Mathlib.Omega.{arith}
use borrow.Author.Tests.{eqb-true, eqb-false}
use lib.Dec.{eqb}
use lib.ListN.{length, take, length-map}
use lib.Seq.{take-nil, take_all}
use Rattle.cells.specs.Cell.{set_cell}
use Rattle.cells.specs.Cell.Laws.{length_set_cell, cell_same, cell_other}
use Rattle.cells.specs.Upto.{up_to}
use Rattle.cells.specs.Upto.Laws.{ext_up_to}
use Rattle.cells.specs.Entry.{block_bytes, entry_bytes, Entry, entry_at, set_entry}
use Rattle.cells.specs.Entry.Laws.{length-set_entry, entry_same, entry_other}
use Rattle.card.specs.Disk.{lay, overlay}
use Rattle.card.specs.Card.{Card, Order, write, flush, queue, settle, order, run, block_at, blocks_in}
use Rattle.card.specs.CodeQueue.{Below}
use Rattle.card.proofs.All.{All, all_append, all_take, all-up_to, up_to-all}
use Rattle.card.proofs.Overlays.{lay-same, lay_other, overlay_agree}

-- ---- the front of a list

pub take_more : {A : Type 0} (n : ℕ) (x : A) (l : List A) → 0 < n → take n (x ∷ l) ≡ x ∷ take (n - 1) l
take_more zero x l h = absurd (omega arith)
take_more (suc n) x l h = let e : suc n - 1 ≡ n = omega arith in rw e

pub take-map : {A B : Type 0} (f : A → B) (n : ℕ) (l : List A) → take n (map f l) ≡ map f (take n l)
take-map f zero l = refl
take-map f (suc n) [] = refl
take-map {A} {B} f (suc n) (x ∷ l) = ap (λ (k : List B). f x ∷ k) (take-map f n l)

-- ---- settling

pub settle-append : (a b : List Entry) (s : List ℕ) → settle (a ++ b) s ≡ settle b (settle a s)
unfolding settle
settle-append [] b s = refl
settle-append (e ∷ a) b s = settle-append a b (set_cell block_bytes s e.address e.block)

-- one more
pub settle_more : (f : ℕ → Entry) (i : ℕ) (s : List ℕ) → settle (up_to f (i + 1)) s ≡ settle (f i ∷ []) (settle (up_to f i) s)
settle_more f i s = rw (add-one) (settle-append (up_to f i) (f i ∷ []) s)

pub length-settle : (es : List Entry) (s : List ℕ) → length (settle es s) ≡ length s
unfolding settle
length-settle [] s = refl
length-settle (e ∷ es) s = length-settle es (set_cell block_bytes s e.address e.block) ∙ length_set_cell block_bytes s e.address e.block

-- a block that no entry is addressed to stays
pub settle_other : (es : List Entry) (s : List ℕ) (a : ℕ) → All (λ e. a ≢ e.address) es → block_at (settle es s) a ≡ block_at s a
unfolding settle
settle_other [] s a h = refl
settle_other (e ∷ es) s a h =
    settle_other es (set_cell block_bytes s e.address e.block) a h.1 ∙ cell_other block_bytes s e.address a e.block h.0

-- a whole block
abbrev pub Whole : Entry → Type 0
Whole e = length e.block ≡ block_bytes

-- an address of four bytes
abbrev pub NarrowAddress : Entry → Type 0
NarrowAddress e = e.address < 2 ^ 32

-- to settle a list is to lay it over the disk
pub settle-overlay : (es : List Entry) (s : List ℕ) (a : ℕ) → a < blocks_in s → All Whole es → block_at (settle es s) a ≡ overlay es (block_at s) a
unfolding settle overlay
settle-overlay [] s a h w = refl
settle-overlay (e ∷ es) s a h w =
    let inside : a < blocks_in (set_cell block_bytes s e.address e.block) = rw (length_set_cell) h in
    settle-overlay es (set_cell block_bytes s e.address e.block) a inside w.1
    ∙ overlay_agree es (block_at (set_cell block_bytes s e.address e.block)) (lay e (block_at s)) a (go (eqb a e.address) refl)
  where
    go : (t : Bool) → eqb a e.address ≡ t → block_at (set_cell block_bytes s e.address e.block) a ≡ lay e (block_at s) a
    go true p =
        let q : a ≡ e.address = eqb-true _ _ p in
        let room : block_bytes * e.address + block_bytes ≤ length s = omega arith in
        rw (lay-same e (block_at s) a q, q) (cell_same block_bytes s e.address e.block room w.0)
    go false p =
        let q : a ≢ e.address = eqb-false _ _ p in
        rw (lay_other e (block_at s) a q) (cell_other block_bytes s e.address a e.block q)

-- ---- the queue

-- a write that has room becomes the newest waiting write
pub queue_write : (e : Entry) (c : Card) → entry_bytes * c.count + entry_bytes ≤ length c.waiting → Whole e → NarrowAddress e
    → queue (order (write e) c) ≡ queue c ++ (e ∷ [])
unfolding queue order
queue_write e c h w l =
    rw (add-one, ext_up_to (entry_at (set_entry c.waiting c.count e)) (entry_at c.waiting) c.count (λ i p. entry_other c.waiting c.count i e (λ q. omega arith)), entry_same c.waiting c.count e h w l)

-- ---- the addresses of what waits, as a list and place by place

pub below_queue : (n : ℕ) (c : Card) → Below n c.waiting c.count → All (λ e. e.address < n) (queue c)
unfolding queue
below_queue n c h = all-up_to (λ e. e.address < n) (entry_at c.waiting) c.count h

pub queue_below : (n : ℕ) (c : Card) → All (λ e. e.address < n) (queue c) → Below n c.waiting c.count
unfolding queue
queue_below n c h = up_to-all (λ e. e.address < n) (entry_at c.waiting) c.count h

-- ---- orders in a row

pub run_nil : (c : Card) → run [] c ≡ c
unfolding run
run_nil c = refl

-- what holds if the power is gone, and if the first order happens, holds of the run
pub run_step : (P : Card → Type 0) (o : Order) (os : List Order) (c : Card) → (c.power ≡ 0 → P c) → (0 < c.power → P (run os (order o c))) → P (run (o ∷ os) c)
unfolding run
run_step P o os c dead live = go (eqb c.power 0) refl
  where
    go : (t : Bool) → eqb c.power 0 ≡ t → P (cond t c (run os (order o c)))
    go true p = dead (eqb-true _ _ p)
    go false p = live (omega (arith, eqb-false c.power 0 p))

-- without power nothing happens
pub run_dead : (os : List Order) (c : Card) → c.power ≡ 0 → run os c ≡ c
run_dead [] c h = run_nil c
run_dead (o ∷ os) c h = run_step (λ r. r ≡ c) o os c (λ z. refl) (λ l. absurd (omega arith))

pub run_live : (o : Order) (os : List Order) (c : Card) → 0 < c.power → run (o ∷ os) c ≡ run os (order o c)
run_live o os c h = run_step (λ r. r ≡ run os (order o c)) o os c (λ z. absurd (omega arith)) (λ l. refl)

pub run-one : (o : Order) (c : Card) → 0 < c.power → run (o ∷ []) c ≡ order o c
run-one o c h = run_live o [] c h ∙ run_nil (order o c)

pub run-append : (a b : List Order) (c : Card) → run (a ++ b) c ≡ run b (run a c)
run-append [] b c = rw (run_nil)
run-append (o ∷ a) b c =
    run_step (λ r. run (o ∷ (a ++ b)) c ≡ run b r) o a c
    (λ z. run_dead (o ∷ (a ++ b)) c z ∙ sym (run_dead b c z))
    (λ l. run_live o (a ++ b) c l ∙ run-append a b (order o c))

pub order-power : (o : Order) (c : Card) → (order o c).power ≡ c.power - 1
unfolding order
order-power (write e) c = refl
order-power flush c = refl

-- the orders carried out are the power used up
pub run-power : (os : List Order) (c : Card) → (run os c).power ≡ c.power - length os
run-power [] c = rw (run_nil) (omega arith)
run-power (o ∷ os) c =
    run_step (λ r. r.power ≡ c.power - suc (length os)) o os c (λ z. omega arith) (λ l. rw (run-power os (order o c), order-power) (omega arith))

pub order_lengths : (o : Order) (c : Card) → (length (order o c).settled ≡ length c.settled) × (length (order o c).waiting ≡ length c.waiting)
unfolding order
order_lengths (write e) c = (refl, length-set_entry c.waiting c.count e)
order_lengths flush c = (length-settle (queue c) c.settled, refl)

pub run_lengths : (os : List Order) (c : Card) → (length (run os c).settled ≡ length c.settled) × (length (run os c).waiting ≡ length c.waiting)
run_lengths [] c = rw (run_nil) (refl, refl)
run_lengths (o ∷ os) c =
    run_step (λ r. (length r.settled ≡ length c.settled) × (length r.waiting ≡ length c.waiting)) o os c
    (λ z. (refl, refl))
    (λ l. ((run_lengths os (order o c)).0 ∙ (order_lengths o c).0, (run_lengths os (order o c)).1 ∙ (order_lengths o c).1))

-- a run with less power than orders is the run of the first orders, as many as there is power for
pub run_take : (os : List Order) (c : Card) → run os c ≡ run (take c.power os) c
run_take [] c = rw (take-nil)
run_take (o ∷ os) c =
    run_step (λ r. r ≡ run (take c.power (o ∷ os)) c) o os c
    (λ z. sym (run_dead (take c.power (o ∷ os)) c z))
    (λ l. rw (take_more c.power o os l, run_live o (take (c.power - 1) os) c l, ← order-power o c) (run_take os (order o c)))

-- ---- writes in a row

-- nothing settles
pub writes_settled : (es : List Entry) (c : Card) → (run (map write es) c).settled ≡ c.settled
unfolding order
writes_settled [] c = rw (run_nil)
writes_settled (e ∷ es) c =
    run_step (λ r. r.settled ≡ c.settled) (write e) (map write es) c (λ z. refl) (λ l. writes_settled es (order (write e) c))

-- as many more wait as there is power for
pub writes_count : (es : List Entry) (c : Card) → (run (map write es) c).count ≡ c.count + min c.power (length es)
unfolding order
writes_count [] c = rw (run_nil) (omega arith)
writes_count (e ∷ es) c =
    run_step (λ r. r.count ≡ c.count + min c.power (suc (length es))) (write e) (map write es) c
    (λ z. omega arith)
    (λ l. rw (writes_count es (order (write e) c)) (omega arith))

-- a write takes one place
write_room : (e : Entry) (n : ℕ) (c : Card) → entry_bytes * (c.count + 1 + n) ≤ length c.waiting
    → entry_bytes * ((order (write e) c).count + n) ≤ length (order (write e) c).waiting
unfolding order
write_room e n c h = rw (length-set_entry) h

-- the first of them, as many as there is power for, wait behind what waited before
pub writes_queue : (es : List Entry) (c : Card) → entry_bytes * (c.count + length es) ≤ length c.waiting → All Whole es → All NarrowAddress es
    → queue (run (map write es) c) ≡ queue c ++ take c.power es
writes_queue [] c h w s = rw (run_nil, take-nil, append-nil)
writes_queue (e ∷ es) c h w s =
    run_step (λ r. queue r ≡ queue c ++ take c.power (e ∷ es)) (write e) (map write es) c
    (λ z. rw (z, append-nil))
    (λ l.
    rw (writes_queue es (order (write e) c) (write_room e (length es) c (omega arith)) w.1 s.1, queue_write e c (omega arith) w.0 s.0, order-power, take_more c.power e es l, append_assoc))

pub writes_take : (es : List Entry) (c : Card) → run (map write es) c ≡ run (map write (take c.power es)) c
writes_take es c = run_take (map write es) c ∙ ap (λ (os : List Order). run os c) (take-map write c.power es)

-- with power for all of them, all wait
pub writes_all : (es : List Entry) (c : Card) → entry_bytes * (c.count + length es) ≤ length c.waiting → All Whole es → All NarrowAddress es → length es ≤ c.power
    → (queue (run (map write es) c) ≡ queue c ++ es)
    × ((run (map write es) c).settled ≡ c.settled)
    × ((run (map write es) c).count ≡ c.count + length es)
    × ((run (map write es) c).power ≡ c.power - length es)
writes_all es c h w l p =
    let all : take c.power es ≡ es = take_all c.power es p in
    let n : min c.power (length es) ≡ length es = omega arith in
    (writes_queue es c h w l ∙ rw all, writes_settled es c, writes_count es c ∙ rw n, run-power (map write es) c ∙ rw (length-map))

-- one write more
pub writes_more : (f : ℕ → Entry) (i : ℕ) (c : Card) → run (map write (up_to f (i + 1))) c ≡ run (write (f i) ∷ []) (run (map write (up_to f i)) c)
writes_more f i c = rw (add-one, map-append write (up_to f i) (f i ∷ [])) (run-append (map write (up_to f i)) (write (f i) ∷ []) c)

-- writes below n behind what waits below n: what a flush requires then
pub writes_below : (n : ℕ) (es : List Entry) (c : Card) → entry_bytes * (c.count + length es) ≤ length c.waiting → All Whole es → All NarrowAddress es
    → All (λ e. e.address < n) es → Below n c.waiting c.count
    → Below n (run (map write es) c).waiting (run (map write es) c).count
writes_below n es c h w l new old =
    queue_below n (run (map write es) c)
    (rw (writes_queue es c h w l)
    (all_append (λ e. e.address < n) (queue c) (take c.power es) (below_queue n c old) (all_take (λ e. e.address < n) c.power es new)))

-- ---- writes and the flush behind them

-- without power for the flush only writes happen
pub flush_missed : (es : List Entry) (c : Card) → c.power ≤ length es → run (map write es ++ (flush ∷ [])) c ≡ run (map write es) c
flush_missed es c h =
    run-append (map write es) (flush ∷ []) c
    ∙ run_dead (flush ∷ []) (run (map write es) c) (run-power (map write es) c ∙ rw (length-map) (omega arith))

-- with power for all of it what waited settles, then the writes
pub flush_reached : (es : List Entry) (c : Card) → entry_bytes * (c.count + length es) ≤ length c.waiting → All Whole es → All NarrowAddress es → length es < c.power
    → ((run (map write es ++ (flush ∷ [])) c).settled ≡ settle (queue c ++ es) c.settled)
    × ((run (map write es ++ (flush ∷ [])) c).count ≡ 0)
    × ((run (map write es ++ (flush ∷ [])) c).power ≡ c.power - length es - 1)
unfolding order
flush_reached es c h w l p =
    let all = writes_all es c h w l (omega arith) in
    let live : 0 < (run (map write es) c).power = rw all.3 (omega arith) in
    rw (run-append (map write es) (flush ∷ []) c, run-one flush (run (map write es) c) live) (rw (all.0, all.1), refl, rw all.3)
