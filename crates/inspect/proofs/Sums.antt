-- The laws of sums of bytes.
use Rattle.std.specs.Prelude.{Ok, Err}
use Prim.Native.Nat.{ℕ, zero, suc, ◌+◌, ◌*◌, ◌≤◌, ◌<◌}
use mathlib.Core.Path.{◌≡◌, refl, ap, sym, ◌∙◌}
use mathlib.Core.Bool.{true}
use mathlib.Core.Logic.{◌≢◌}
use mathlib.Core.List.{List, [], ◌∷◌, ◌++◌, map}
use native.Mathlib.Nat.{zero-add, add_assoc, mul-add, mul-one}
use native.Mathlib.Numerals.{add-one}
use native.Mathlib.Decide.{ℕ_discrete}
use native.Mathlib.Omega.{arith}
use borrow.Author.Tests.{ne_eqb}
use lib.ListN.{length, take, drop, get_or, length-drop}
use lib.Seq.{take-add}
use Rattle.std.specs.List.{sum, sum_by, range_with_len}
use Rattle.std.specs.Simd.{first_chunks}
use Rattle.std.proofs.lemmas.List.{take-append-drop}
use Rattle.std.proofs.lemmas.List.Sums.{sum_by-cons}
use Rattle.std.proofs.lemmas.List.FromFn.{sum_by-map-range_with_len_more}
use Rattle.cells.specs.Cell.Laws.{get_or-cell}
use Rattle.cells.specs.Entry.{block_bytes, Entry}
use Rattle.card.specs.Card.{blocks_in, block_at}
use Rattle.card.specs.Disk.{Disk, lay}
use Rattle.card.proofs.Overlays.{lay-same, lay_other}
use Rattle.journal.specs.Geometry.{Geometry}
use Rattle.journal.specs.Layout.{first_data, is_data}
use Rattle.journal.proofs.Logs.{data_bounds, length-block_at}
use Rattle.refusals.specs.declared.Refusal.{Refusal}
use Rattle.refusals.specs.Numbers.{number_of}
use Rattle.inspect.specs.declared.reading.Reading.{Reading}
use Rattle.inspect.specs.Reading.{inspection, laid, data_blocks}
use Rattle.inspect.specs.Tally.{sum_bytes, sum_data, tally_of, tally_answer}
use Rattle.inspect.specs.CodeReading.{Taken}
use Rattle.inspect.proofs.Readings.{refusal_positive}

pub bytes_none : sum_bytes [] ≡ 0
unfolding sum_bytes
bytes_none = refl

bytes-append : (a b : List ℕ) → sum_bytes (a ++ b) ≡ sum_bytes a + sum_bytes b
unfolding sum_bytes
bytes-append [] b = sym (zero-add (sum_bytes b))
bytes-append (x ∷ a) b = rw (bytes-append a b) (sym (add_assoc x (sum_bytes a) (sum_bytes b)))

-- as the library sums a list
pub bytes-sum : (bs : List ℕ) → sum bs ≡ sum_bytes bs
unfolding sum_bytes
bytes-sum [] = refl
bytes-sum (b ∷ bs) = sum_by-cons (λ (x : ℕ). x) b bs ∙ ap (λ (n : ℕ). b + n) (bytes-sum bs)

-- and chunks of 64 bytes
pub chunks-sum : (n : ℕ) (bs : List ℕ) → length bs ≡ 64 * n → sum_by sum_bytes (first_chunks 64 n bs) ≡ sum_bytes bs
unfolding sum_bytes
chunks-sum zero [] h = refl
chunks-sum zero (b ∷ bs) h = absurd (omega arith)
chunks-sum (suc n) bs h =
    let rest : length (drop 64 bs) ≡ 64 * n = omega (arith, length-drop 64 bs) in
    sum_by-cons sum_bytes (take 64 bs) (first_chunks 64 n (drop 64 bs))
    ∙ ap (λ (k : ℕ). sum_bytes (take 64 bs) + k) (chunks-sum n (drop 64 bs) rest)
    ∙ sym (bytes-append (take 64 bs) (drop 64 bs))
    ∙ ap sum_bytes (take-append-drop 64 bs)

-- 255 at most for each
pub bytes_bound : (bs : List ℕ) → ((i : ℕ) → i < length bs → get_or bs i 0 < 256) → sum_bytes bs ≤ 255 * length bs
unfolding sum_bytes
bytes_bound [] h = omega arith
bytes_bound (b ∷ bs) h =
    let rest = bytes_bound bs (λ i l. h (suc i) (omega arith)) in
    let one : b < 256 = h 0 (omega arith) in
    omega arith

pub block_bound : (s : List ℕ) (a : ℕ) → ((i : ℕ) → get_or s i 0 < 256) → a < blocks_in s → sum_bytes (block_at s a) ≤ 255 * block_bytes
block_bound s a h l =
    let long = length-block_at s a l in
    let most = bytes_bound (block_at s a) (λ i b. rw (get_or-cell block_bytes s a i (omega arith)) (h (block_bytes * a + i))) in
    omega arith

module _ (geo : Geometry) where
  -- as the library sums the data blocks
  pub homes-sum : (d : Disk) (k : ℕ) → sum (map (λ a. sum_bytes (d a)) (range_with_len (first_data geo) k)) ≡ sum_data geo d k
  unfolding sum_data
  homes-sum d zero = refl
  homes-sum d (suc k) =
      ap (λ (n : ℕ). sum (map each (range_with_len (first_data geo) n))) (sym (add-one k))
      ∙ sum_by-map-range_with_len_more (λ (x : ℕ). x) each (first_data geo) k (first_data geo + k) refl
      ∙ ap (λ (n : ℕ). n + each (first_data geo + k)) (homes-sum d k)
    where
      each : ℕ → ℕ
      each a = sum_bytes (d a)

  pub homes_bound : (d : Disk) (k m : ℕ) → ((i : ℕ) → i < k → sum_bytes (d (first_data geo + i)) ≤ m) → sum_data geo d k ≤ m * k
  unfolding sum_data
  homes_bound d zero m h = omega arith
  homes_bound d (suc k) m h =
      let before = homes_bound d k m (λ i l. h i (omega arith)) in
      let one = h k (omega arith) in
      rw (← add-one k, mul-add m k 1, mul-one m) (omega arith)

  -- ---- one block of a disk replaced

  -- the sum reads data blocks alone
  pub data_agree : (c d : Disk) (k : ℕ) → ((i : ℕ) → i < k → c (first_data geo + i) ≡ d (first_data geo + i)) → sum_data geo c k ≡ sum_data geo d k
  unfolding sum_data
  data_agree c d zero h = refl
  data_agree c d (suc k) h = rw (data_agree c d k (λ i p. h i (omega arith)), h k (omega arith))

  replaced : (e : Entry) (d : Disk) (k i : ℕ) → i < k → e.address ≡ first_data geo + i → sum_data geo (lay e d) k + sum_bytes (d e.address) ≡ sum_data geo d k + sum_bytes e.block
  unfolding sum_data
  replaced e d zero i h p = absurd (omega arith)
  replaced e d (suc k) i h p = go (ℕ_discrete i k) (λ q. replaced e d k i q p)
    where
      other : (j : ℕ) → j ≢ i → lay e d (first_data geo + j) ≡ d (first_data geo + j)
      other j q = lay_other e d (first_data geo + j) (λ z. q (omega arith))

      go : Dec (i ≡ k) → (i < k → sum_data geo (lay e d) k + sum_bytes (d e.address) ≡ sum_data geo d k + sum_bytes e.block)
          → sum_data geo (lay e d) k + sum_bytes (lay e d (first_data geo + k)) + sum_bytes (d e.address) ≡ sum_data geo d k + sum_bytes (d (first_data geo + k)) + sum_bytes e.block
      go (yes q) below =
          let here : first_data geo + k ≡ e.address = omega arith in
          rw (data_agree (lay e d) d k (λ j l. other j (omega arith)), here, lay-same e d e.address refl) (omega arith)
      go (no q) below =
          let before = below (omega arith) in
          rw (other k (λ z. q (sym z))) (omega arith)

  -- the sum grows by the new block's bytes and falls by the old one's
  pub data_replaced : (e : Entry) (d : Disk) (N : ℕ) → is_data geo N e.address ≡ true
      → sum_data geo (lay e d) (data_blocks geo N) + sum_bytes (d e.address) ≡ sum_data geo d (data_blocks geo N) + sum_bytes e.block
  data_replaced e d N h =
      let b = data_bounds geo N e.address h in
      replaced e d (data_blocks geo N) (data_blocks geo e.address) (omega arith) (omega arith)

  -- so a data block's bytes are no more than all of them
  pub data_has : (d : Disk) (N a : ℕ) → is_data geo N a ≡ true → sum_bytes (d a) ≤ sum_data geo d (data_blocks geo N)
  data_has d N a h =
      let all = data_replaced (record { address = a; block = [] }) d N h in
      let none = bytes_none in
      omega arith

  -- ---- the answer of a tally

  pub tally_refused : (s : List ℕ) (e : Refusal) → number_of e ≡ inspection geo s → tally_answer (Err e) ≡ tally_of geo s
  unfolding tally_of
  tally_refused s e h = rw (← h, ne_eqb (number_of e) 0 (refusal_positive e))

  pub tally_done : (s : List ℕ) (r : Reading) (v : ℕ) → Taken geo s r → v ≡ sum_data geo (laid geo r.settled.now r.count) (data_blocks geo r.blocks) → tally_answer (Ok v) ≡ tally_of geo s
  unfolding tally_of
  tally_done s r v t e = rw (t.none, e, t.settled, t.blocks, t.count)

-- ---- a law that nothing cites today

-- one more chunk of k bytes, of sum v: n is its length as the code computes it
chunk_next : (k : ℕ) (s : List ℕ) (i n u v : ℕ) → n ≡ k → u ≡ sum_bytes (take (k * i) s) → v ≡ sum_bytes (take n (drop (k * i) s)) → u + v ≡ sum_bytes (take (k * (i + 1)) s)
chunk_next k s i n u v e p q = rw (p, q, e, mul-add k i 1, mul-one k, take-add (k * i) k s) (sym (bytes-append (take (k * i) s) (take k (drop (k * i) s))))
