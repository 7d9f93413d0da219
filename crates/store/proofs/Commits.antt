-- Commit: what joining the first open entries leaves, and that it has room.
use Rattle.std.specs.Prelude.{Option, Some, None}
use Prim.Native.Nat.{ℕ, zero, suc, ◌+◌, ◌*◌, ◌≤◌, ◌<◌}
use mathlib.Core.Path.{◌≡◌, refl, ap, sym, ◌∙◌}
use mathlib.Core.Bool.{cond, true≢false}
use mathlib.Core.List.{List, [], ◌∷◌, ◌++◌}
use native.Mathlib.Decide.{ℕ_discrete}
use native.Mathlib.Numerals.{add-one}
use native.Mathlib.Omega.{arith}
use lib.Dec.{lit<}
use lib.ListN.{length, take, drop, take-append-drop}
use lib.Seq.{length-take-le}
use Rattle.cells.specs.Cell.{cell}
use Rattle.cells.specs.Cell.Laws.{length-cell, bytes_take}
use Rattle.cells.specs.Little.{le, num, Bytes}
use Rattle.cells.specs.Little.Laws.{le-num}
use Rattle.cells.specs.Entry.{Entry, entry_bytes, to_bytes, entry_at, set_entry}
use Rattle.cells.specs.Entry.Laws.{length-set_entry, entry_same, entry_other, length_block, address_lt}
use Rattle.journal.specs.Geometry.{Geometry}
use Rattle.store.specs.Lists.{open_from, group_from, listed, find}
use Rattle.store.specs.Causes.{work_bytes, is_found, newcomers}
use Rattle.store.specs.Commit.{Group, join_at, join, joined}
use Rattle.store.proofs.Lookups.{find_at, find-some}

-- ---- an entry copied

-- a part of a run of bytes is one
pub middle_bytes : (x v z : List ℕ) → Bytes (x ++ (v ++ z)) → Bytes v
middle_bytes [] [] z b j = lit< tt
middle_bytes [] (y ∷ v) z b zero = b zero
middle_bytes [] (y ∷ v) z b (suc j) = middle_bytes [] v z (λ i. b (suc i)) j
middle_bytes (y ∷ x) v z b j = middle_bytes x v z (λ i. b (suc i)) j

-- the bytes of an entry that was read are its cell
pub entry_cell : (s : List ℕ) (i : ℕ) → Bytes (cell entry_bytes s i) → entry_bytes * i + entry_bytes ≤ length s → to_bytes (entry_at s i) ≡ cell entry_bytes s i
unfolding entry_at to_bytes
entry_cell s i b h =
    let c : List ℕ = cell entry_bytes s i in
    let size : length c ≡ entry_bytes = length-cell entry_bytes s i h in
    let four : length (take 4 c) ≡ 4 = length-take-le 4 c (omega arith) in
    let low : le 4 (num (take 4 c)) ≡ take 4 c = ap (λ (k : ℕ). le k (num (take 4 c))) (sym four) ∙ le-num (take 4 c) (bytes_take 4 c b) in
    ap (λ (l : List ℕ). l ++ drop 4 c) low ∙ take-append-drop 4 c

-- ---- newcomers

module _ (geo : Geometry) where
  pub newcomers_mono : (work : List ℕ) (g m n : ℕ) → m ≤ n → newcomers geo work g m ≤ newcomers geo work g n
  unfolding newcomers
  newcomers_mono work g m zero h = let e : m ≡ 0 = omega arith in rw e (omega arith)
  newcomers_mono work g m (suc n) h = go (ℕ_discrete m (suc n)) (newcomers_mono work g m n)
    where
      go : Dec (m ≡ suc n) → (m ≤ n → newcomers geo work g m ≤ newcomers geo work g n)
          → newcomers geo work g m ≤ newcomers geo work g n + cond (is_found (find work (group_from geo) g (listed work open_from n).address)) 0 1
      go (yes e) k = rw e (omega arith)
      go (no e) k = let less = k (omega arith) in omega arith

  -- one more open entry
  pub newcomers_more : (work : List ℕ) (g n : ℕ) → newcomers geo work g (n + 1) ≡ newcomers geo work g n + cond (is_found (find work (group_from geo) g (listed work open_from n).address)) 0 1
  unfolding newcomers
  newcomers_more work g n = rw (add-one)

  pub joined_more : (n : ℕ) (g : Group) → joined geo (n + 1) g ≡ join geo (listed g.work open_from n) (joined geo n g)
  unfolding joined
  joined_more n g = rw (add-one)

  -- ---- what is left

  -- open, and the addresses that the group had, are as they were; each newcomer makes the group longer by at most one
  pub record Joining (work : List ℕ) (g n : ℕ) (now : Group) : Type 0 where
    pub least : g ≤ now.count
    pub most : now.count ≤ g + newcomers geo work g n
    pub size : length now.work ≡ length work
    pub same_open : (k : ℕ) → k < geo.slots → listed now.work open_from k ≡ listed work open_from k
    pub same-group : (j : ℕ) → j < g → (listed now.work (group_from geo) j).address ≡ (listed work (group_from geo) j).address

  module _ (work : List ℕ) (bytes : Bytes work) (long : work_bytes geo ≤ length work) (g n : ℕ) (few : n < geo.slots) (now : Group) (j : Joining work g n now) where
    -- an address that the group still lacks is a newcomer's
    new : find now.work (group_from geo) now.count (listed work open_from n).address ≡ None → newcomers geo work g (suc n) ≡ newcomers geo work g n + 1
    unfolding newcomers
    new absent = go (find work (group_from geo) g (listed work open_from n).address) refl
      where
        go : (f : Option ℕ) → find work (group_from geo) g (listed work open_from n).address ≡ f → newcomers geo work g n + cond (is_found f) 0 1 ≡ newcomers geo work g n + 1
        go (Some i) e =
            let found = find_at work (group_from geo) g (listed work open_from n).address i e in
            let inside : i < now.count = omega (arith, j.least) in
            absurd (true≢false (sym (find-some now.work (group_from geo) now.count (listed work open_from n).address i inside (j.same-group i found.0 ∙ found.1)) ∙ ap is_found absent))
        go None e = refl

    -- so it has room
    pub free : g + newcomers geo work g (suc n) ≤ geo.slots → find now.work (group_from geo) now.count (listed work open_from n).address ≡ None → now.count < geo.slots
    free room absent = let one = new absent in omega (arith, j.most)

    -- one more
    step : g + newcomers geo work g (suc n) ≤ geo.slots → Joining work g (suc n) (join geo (listed work open_from n) now)
    unfolding join
    step room = go (find now.work (group_from geo) now.count e.address) refl
      where
        e : Entry
        e = listed work open_from n

        more : newcomers geo work g n ≤ newcomers geo work g (suc n)
        more = newcomers_mono work g n (suc n) (omega arith)

        same : (i : ℕ) → now.count ≤ geo.slots → (found : (i < now.count) × ((listed now.work (group_from geo) i).address ≡ e.address))
            → (k : ℕ) → k < g → (listed (set_entry now.work (group_from geo + i) e) (group_from geo) k).address ≡ (listed work (group_from geo) k).address
        same i h found k p = at (ℕ_discrete k i)
          where
            at : Dec (k ≡ i) → (listed (set_entry now.work (group_from geo + i) e) (group_from geo) k).address ≡ (listed work (group_from geo) k).address
            at (yes q) =
                let size = j.size in
                ap (λ (x : ℕ). (listed (set_entry now.work (group_from geo + i) e) (group_from geo) x).address) q
                ∙ ap (λ (x : Entry). x.address)
                (entry_same now.work (group_from geo + i) e (omega (arith, found.0)) (length_block work (open_from + n) (omega arith)) (address_lt work (open_from + n) bytes (omega arith)))
                ∙ sym found.1
                ∙ ap (λ (x : ℕ). (listed now.work (group_from geo) x).address) (sym q)
                ∙ j.same-group k p
            at (no q) = ap (λ (x : Entry). x.address) (entry_other now.work (group_from geo + i) (group_from geo + k) e (λ r. q (omega arith))) ∙ j.same-group k p

        go : (f : Option ℕ) → find now.work (group_from geo) now.count e.address ≡ f → Joining work g (suc n) (join_at geo f e now)
        go (Some i) h = record {
          least = j.least;
          most = omega (arith, j.most, more);
          size = length-set_entry now.work (group_from geo + i) e ∙ j.size;
          same_open = λ k p. entry_other now.work (group_from geo + i) (open_from + k) e (λ q. omega arith) ∙ j.same_open k p;
          same-group = same i (omega (arith, j.most, more)) (find_at now.work (group_from geo) now.count e.address i h);
        }
        go None h = record {
          least = omega (arith, j.least);
          most = omega (arith, j.most, new h);
          size = length-set_entry now.work (group_from geo + now.count) e ∙ j.size;
          same_open = λ k p. entry_other now.work (group_from geo + now.count) (open_from + k) e (λ q. omega arith) ∙ j.same_open k p;
          same-group = λ k p. ap (λ (x : Entry). x.address) (entry_other now.work (group_from geo + now.count) (group_from geo + k) e (λ q. omega (arith, j.least))) ∙ j.same-group k p;
        }

  pub joining : (work : List ℕ) → Bytes work → work_bytes geo ≤ length work → (g n : ℕ) → n ≤ geo.slots → g + newcomers geo work g n ≤ geo.slots
      → Joining work g n (joined geo n (record { work = work; count = g }))
  unfolding joined
  joining work bytes long g zero few room = record { least = omega arith; most = omega arith; size = refl; same_open = λ k p. refl; same-group = λ k p. refl }
  joining work bytes long g (suc n) few room =
      let more = newcomers_mono work g n (suc n) (omega arith) in
      step work bytes long g n (omega arith) (joined geo n (record { work = work; count = g })) (joining work bytes long g n (omega arith) (omega arith)) room
