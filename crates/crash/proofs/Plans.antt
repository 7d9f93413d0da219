-- A plan: batches given one after the other, the first behind what waits already. What stands on the card for any power; and what is
-- asked wherever power can end.
use Prim.Native.Nat.{ℕ, zero, suc, ◌+◌, ◌*◌, ◌-◌, ◌^◌, ◌≤◌, ◌<◌}
use mathlib.Core.Path.{◌≡◌, refl, ap, ap₂, sym, subst, ◌∙◌}
use mathlib.Core.List.{List, [], ◌∷◌, ◌++◌, map, append_assoc}
use native.Mathlib.Omega.{arith}
use native.Mathlib.Decide.{dec_le}
use lib.ListN.{length, take, length-append, length-map, length-take}
use Rattle.cells.specs.Entry.{entry_bytes, Entry}
use Rattle.card.specs.Card.{Card, Order, write, flush, queue, settle, run}
use Rattle.card.proofs.All.{All, all_append, all_map, all_take}
use Rattle.card.proofs.Runs.{Whole, NarrowAddress, run_nil, run-append, length-settle}
use Rattle.crash.proofs.Batches.{Left, Room, batch, queued_short, queued_done, left_dead, left-power}
use Rattle.journal.specs.Geometry.{Geometry}

-- the writes of each batch
abbrev pub Plan : Type 0
Plan = List (List Entry)

abbrev pub planned : Plan → List Order
planned [] = []
planned (W ∷ Ws) = batch W ++ planned Ws

-- how many orders they are
abbrev pub takes : Plan → ℕ
takes [] = 0
takes (W ∷ Ws) = length W + 1 + takes Ws

-- the settled bytes behind them, and what still waits, where the writes q waited before
abbrev pub settles : List Entry → Plan → List ℕ → List ℕ
settles q [] s = s
settles q (W ∷ Ws) s = settles [] Ws (settle (q ++ W) s)

abbrev pub rest : List Entry → Plan → List Entry
rest q [] = q
rest q (W ∷ Ws) = []

pub rest_none : (Ws : Plan) → rest [] Ws ≡ []
rest_none [] = refl
rest_none (W ∷ Ws) = refl

pub length-planned : (Ws : Plan) → length (planned Ws) ≡ takes Ws
length-planned [] = refl
length-planned (W ∷ Ws) =
    let size : length (map write W) ≡ length W = rw (length-map) in
    length-append (batch W) (planned Ws)
    ∙ ap₂ (λ (a b : ℕ). a + b) (length-append (map write W) (flush ∷ []) ∙ ap (λ (k : ℕ). k + 1) size) (length-planned Ws)

pub planned-append : (a b : Plan) → planned (a ++ b) ≡ planned a ++ planned b
planned-append [] b = refl
planned-append (W ∷ a) b = ap (λ (os : List Order). batch W ++ os) (planned-append a b) ∙ sym (append_assoc (batch W) (planned a) (planned b))

pub length-settles : (q : List Entry) (Ws : Plan) (s : List ℕ) → length (settles q Ws s) ≡ length s
length-settles q [] s = refl
length-settles q (W ∷ Ws) s = length-settles [] Ws (settle (q ++ W) s) ∙ length-settle (q ++ W) s

pub takes-append : (a b : Plan) → takes (a ++ b) ≡ takes a + takes b
takes-append [] b = omega arith
takes-append (W ∷ a) b = let e : takes (a ++ b) ≡ takes a + takes b = takes-append a b in omega arith

pub settles-append : (q : List Entry) (a b : Plan) (s : List ℕ) → settles q (a ++ b) s ≡ settles (rest q a) b (settles q a s)
settles-append q [] b s = refl
settles-append q (W ∷ a) b s = settles-append [] a b (settle (q ++ W) s) ∙ ap (λ (r : List Entry). settles r b (settles [] a (settle (q ++ W) s))) (rest_none a)

module _ (geo : Geometry) where
  -- a batch fits the queue of a card of N blocks, behind k writes
  pub record Fits (N k : ℕ) (W : List Entry) : Type 0 where
    pub few : k + length W ≤ geo.places
    pub whole : All Whole W
    pub low : All (λ e. e.address < N) W

  -- and so does each batch of a plan, the first behind k writes and the others behind none
  abbrev pub FitsBehind : ℕ → ℕ → Plan → Type 0
  FitsBehind N k [] = Unit {0}
  FitsBehind N k (W ∷ Ws) = Fits N k W × All (Fits N 0) Ws

  pub fits_none : (N : ℕ) (Ws : Plan) → All (Fits N 0) Ws → FitsBehind N 0 Ws
  fits_none N [] f = tt
  fits_none N (W ∷ Ws) f = f

-- ---- what is asked wherever power can end: of the settled bytes, the waiting writes and the orders carried out, k of them before

abbrev pub Asked : Type 1
Asked = List ℕ → List Entry → ℕ → Type 0

abbrev pub Throughout : Asked → List Entry → Plan → List ℕ → ℕ → Type 0
Throughout X q [] s k = Unit {0}
Throughout X q (W ∷ Ws) s k = ((j i : ℕ) → j ≤ length W → i ≡ k + j → X s (q ++ take j W) i) × Throughout X [] Ws (settle (q ++ W) s) (k + (length W + 1))

-- a batch of one write
pub for_one : (X : Asked) (q : List Entry) (e : Entry) (s : List ℕ) (k : ℕ) → ((i : ℕ) → i ≡ k → X s (q ++ []) i) → ((i : ℕ) → i ≡ k + 1 → X s (q ++ (e ∷ [])) i) → Throughout X q ((e ∷ []) ∷ []) s k
for_one X q e s k a b = (go, tt)
  where
    go : (j i : ℕ) → j ≤ 1 → i ≡ k + j → X s (q ++ take j (e ∷ [])) i
    go zero i h z = a i (omega arith)
    go (suc zero) i h z = b i z
    go (suc (suc j)) i h z = absurd (omega arith)

pub throughout_append : (X : Asked) (q : List Entry) (a b : Plan) (s : List ℕ) (k i : ℕ) → i ≡ k + takes a → Throughout X q a s k → Throughout X (rest q a) b (settles q a s) i → Throughout X q (a ++ b) s k
throughout_append X q [] b s k i e x y = let z : i ≡ k = omega arith in subst (λ (n : ℕ). Throughout X q b s n) z y
throughout_append X q (W ∷ a) b s k i e x y = (
  x.0,
  throughout_append X [] a b (settle (q ++ W) s) (k + (length W + 1)) i (omega arith) x.1 (subst (λ (r : List Entry). Throughout X r b (settles [] a (settle (q ++ W) s)) i) (sym (rest_none a)) y),
)

pub throughout_map : (X Y : Asked) (q : List Entry) (Ws : Plan) (s : List ℕ) (k : ℕ) → ((t : List ℕ) (v : List Entry) (i : ℕ) → i < k + takes Ws → X t v i → Y t v i)
    → Throughout X q Ws s k → Throughout Y q Ws s k
throughout_map X Y q [] s k f x = tt
throughout_map X Y q (W ∷ Ws) s k f x = (
  λ j i h e. f s (q ++ take j W) i (omega arith) (x.0 j i h e),
  throughout_map X Y [] Ws (settle (q ++ W) s) (k + (length W + 1)) (λ t v i h. f t v i (omega arith)) x.1,
)

-- what holds of any bytes and writes after fewer orders
pub throughout_all : (X : Asked) (q : List Entry) (Ws : Plan) (s : List ℕ) (k : ℕ) → ((t : List ℕ) (v : List Entry) (i : ℕ) → i < k + takes Ws → X t v i) → Throughout X q Ws s k
throughout_all X q [] s k f = tt
throughout_all X q (W ∷ Ws) s k f = (λ j i h e. f s (q ++ take j W) i (omega arith), throughout_all X [] Ws (settle (q ++ W) s) (k + (length W + 1)) (λ t v i h. f t v i (omega arith)))

-- ---- for any power

module _ (geo : Geometry) where
  -- with less: the batches before one are settled, and of that one the first writes wait
  pub record Stopped (N : ℕ) (c r : Card) (X : Asked) (s₀ : List ℕ) (i : ℕ) : Type 0 where
    pub s : List ℕ
    pub q : List Entry
    pub left : Left c r s q 0
    pub long : length s ≡ length s₀
    pub few : length q ≤ geo.places
    pub low : All (λ e. e.address < N) q
    pub met : X s q i

  module _ (N : ℕ) (c₀ : Card) (small : N < 2 ^ 32) (room : length c₀.waiting ≡ entry_bytes * geo.places) where
    -- one batch, behind what waits
    module _ (c : Card) (s : List ℕ) (q : List Entry) (p : ℕ) (W : List Entry) (l : Left c₀ c s q p) (f : Fits geo N (length q) W) where
      fit : Room c W
      fit = record {
        places = let e : length c.waiting ≡ entry_bytes * geo.places = l.room ∙ room in omega (arith, f.few, l.count);
        whole = f.whole;
        low = all_map (λ e. e.address < N) NarrowAddress (λ e h. omega arith) W f.low;
      }

      batch-short : p ≤ length W → Left c₀ (run (batch W) c) s (q ++ take p W) 0
      batch-short h =
          let b = queued_short c W fit (omega (arith, l.power)) in
          let waits : queue c ++ take c.power W ≡ q ++ take p W = ap₂ (λ (v : List Entry) (n : ℕ). v ++ take n W) l.waits l.power in
          record { settled = b.settled ∙ l.settled; waits = b.waits ∙ waits; count = b.count ∙ ap length waits; power = b.power; room = b.room ∙ l.room }

      batch-done : length W < p → Left c₀ (run (batch W) c) (settle (q ++ W) s) [] (p - (length W + 1))
      batch-done h =
          let b = queued_done c W fit (omega (arith, l.power)) in
          record {
            settled = b.settled ∙ ap₂ (λ (v : List Entry) (t : List ℕ). settle (v ++ W) t) l.waits l.settled;
            waits = b.waits;
            count = b.count;
            power = b.power ∙ ap (λ (k : ℕ). k - (length W + 1)) l.power;
            room = b.room ∙ l.room;
          }

    -- with enough: every batch is settled
    pub plan-done : (Ws : Plan) (c : Card) (s : List ℕ) (q : List Entry) (p : ℕ) → Left c₀ c s q p → FitsBehind geo N (length q) Ws → takes Ws ≤ p
        → Left c₀ (run (planned Ws) c) (settles q Ws s) (rest q Ws) (p - takes Ws)
    plan-done [] c s q p l f h = let e : p ≡ p - 0 = omega arith in rw (run_nil c) (left-power e l)
    plan-done (W ∷ Ws) c s q p l f h =
        let e : p - (length W + 1) - takes Ws ≡ p - (length W + 1 + takes Ws) = omega arith in
        let more : Left c₀ (run (planned Ws) (run (batch W) c)) (settles [] Ws (settle (q ++ W) s)) (rest [] Ws) (p - (length W + 1) - takes Ws) =
        plan-done Ws (run (batch W) c) (settle (q ++ W) s) [] (p - (length W + 1)) (batch-done c s q p W l f.0 (omega arith)) (fits_none geo N Ws f.1) (omega arith) in
        rw (run-append (batch W) (planned Ws) c)
        (left-power e (subst (λ (r : List Entry). Left c₀ (run (planned Ws) (run (batch W) c)) (settles [] Ws (settle (q ++ W) s)) r (p - (length W + 1) - takes Ws)) (rest_none Ws) more))

    pub plan-short : (X : Asked) (Ws : Plan) (c : Card) (s : List ℕ) (q : List Entry) (p k i : ℕ) → i ≡ k + p → Left c₀ c s q p → All (λ e. e.address < N) q → FitsBehind geo N (length q) Ws → p < takes Ws
        → Throughout X q Ws s k → Stopped N c₀ (run (planned Ws) c) X s i
    plan-short X [] c s q p k i z l low f h x = absurd (omega arith)
    plan-short X (W ∷ Ws) c s q p k i z l low f h x =
        go (dec_le p (length W))
        (λ m.
        plan-short X Ws (run (batch W) c) (settle (q ++ W) s) [] (p - (length W + 1)) (k + (length W + 1)) i (omega arith) (batch-done c s q p W l f.0 m) tt (fits_none geo N Ws f.1) (omega arith) x.1)
      where
        go : Dec (p ≤ length W) → (length W < p → Stopped N c₀ (run (planned Ws) (run (batch W) c)) X (settle (q ++ W) s) i) → Stopped N c₀ (run (batch W ++ planned Ws) c) X s i
        go (yes m) more = record {
          s = s;
          q = q ++ take p W;
          left = rw (run-append (batch W) (planned Ws) c) (left_dead c₀ (run (batch W) c) s (q ++ take p W) (planned Ws) (batch-short c s q p W l f.0 m));
          long = refl;
          few = let e : length (q ++ take p W) ≡ length q + length (take p W) = length-append q (take p W) in let t = length-take p W in omega (arith, f.0.few);
          low = all_append (λ e. e.address < N) q (take p W) low (all_take (λ e. e.address < N) p W f.0.low);
          met = x.0 p i m z;
        }
        go (no m) more =
            let y = more (omega arith) in
            record { s = y.s; q = y.q; left = rw (run-append (batch W) (planned Ws) c) y.left; long = y.long ∙ length-settle (q ++ W) s; few = y.few; low = y.low; met = y.met }
