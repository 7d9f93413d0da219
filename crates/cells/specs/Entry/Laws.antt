-- The laws of entries in a run of bytes.
use Rattle.std.specs.Prelude.{ℕ, ◌+◌, ◌*◌, ◌-◌, ◌^◌, ◌≤◌, ◌<◌, ◌≡◌, refl, ◌≢◌, List, [], ◌∷◌, ◌++◌, length, take, drop}
use Rattle.std.proofs.Common.{ap, sym, ◌∙◌, append_assoc, append-nil, arith, length-append, length-drop, take_at, drop_at, take-take, drop-drop, length-take-le}
use Rattle.std.proofs.lemmas.List.Edits.{sets}
use Rattle.cells.specs.Cell.{cell, set_cell}
use Rattle.cells.specs.Cell.Laws.{length-cell, cell_part, cell_same, cell_other, length_set_cell, sets-append, sets-cell, drop-take, bytes_take, bytes-cell}
use Rattle.cells.specs.Little.{le, num, Bytes}
use Rattle.cells.specs.Little.Laws.{length-le, num-le, num_lt}
use Rattle.cells.specs.Entry.{block_bytes, entry_bytes, Entry, to_bytes, flat, entry_at, set_entry}

-- equal parts make equal entries
pub entry_eq : {a b : Entry} → a.address ≡ b.address → a.block ≡ b.block → a ≡ b
entry_eq p q = λ j. record { address = p j; block = q j }

pub length-to_bytes : (e : Entry) → length (to_bytes e) ≡ 4 + length e.block
unfolding to_bytes
length-to_bytes e = length-append (le 4 e.address) e.block ∙ ap (λ (k : ℕ). k + length e.block) (length-le 4 e.address)

pub flat_nil : flat [] ≡ []
unfolding flat
flat_nil = refl

pub flat-one : (e : Entry) → flat (e ∷ []) ≡ to_bytes e
unfolding flat
flat-one e = append-nil (to_bytes e)

pub flat_append : (a b : List Entry) → flat (a ++ b) ≡ flat a ++ flat b
unfolding flat
flat_append [] b = refl
flat_append (e ∷ a) b = ap (λ (l : List ℕ). to_bytes e ++ l) (flat_append a b) ∙ sym (append_assoc (to_bytes e) (flat a) (flat b))

-- ---- in a run

pub length-set_entry : (s : List ℕ) (i : ℕ) (e : Entry) → length (set_entry s i e) ≡ length s
unfolding set_entry
length-set_entry s i e = length_set_cell entry_bytes s i (to_bytes e)

pub entry_same : (s : List ℕ) (i : ℕ) (e : Entry) → entry_bytes * i + entry_bytes ≤ length s → length e.block ≡ block_bytes → e.address < 2 ^ 32
    → entry_at (set_entry s i e) i ≡ e
unfolding entry_at set_entry to_bytes
entry_same s i e h l a =
    let size : length (to_bytes e) ≡ entry_bytes = length-to_bytes e ∙ ap (λ (k : ℕ). 4 + k) l in
    let same : cell entry_bytes (set_cell entry_bytes s i (to_bytes e)) i ≡ to_bytes e = cell_same entry_bytes s i (to_bytes e) h size in
    entry_eq
    (ap (λ (c : List ℕ). num (take 4 c)) same ∙ ap num (take_at (le 4 e.address) e.block 4 (length-le 4 e.address)) ∙ num-le 4 e.address a)
    (ap (λ (c : List ℕ). drop 4 c) same ∙ drop_at (le 4 e.address) e.block 4 (length-le 4 e.address))

pub entry_other : (s : List ℕ) (i j : ℕ) (e : Entry) → j ≢ i → entry_at (set_entry s i e) j ≡ entry_at s j
unfolding entry_at set_entry
entry_other s i j e h =
    let other : cell entry_bytes (set_cell entry_bytes s i (to_bytes e)) j ≡ cell entry_bytes s j = cell_other entry_bytes s i j (to_bytes e) h in
    entry_eq (ap (λ (c : List ℕ). num (take 4 c)) other) (ap (λ (c : List ℕ). drop 4 c) other)

pub length_block : (s : List ℕ) (i : ℕ) → entry_bytes * i + entry_bytes ≤ length s → length (entry_at s i).block ≡ block_bytes
unfolding entry_at
length_block s i h =
    let l : length (cell entry_bytes s i) ≡ entry_bytes = length-cell entry_bytes s i h in
    length-drop 4 (cell entry_bytes s i) ∙ ap (λ (k : ℕ). k - 4) l

-- ---- where its parts lie

pub address_part : (s : List ℕ) (i : ℕ) → (entry_at s i).address ≡ num (take 4 (drop (entry_bytes * i) s))
unfolding entry_at
address_part s i = ap num (ap (take 4) (cell_part entry_bytes s i) ∙ take-take 4 entry_bytes (drop (entry_bytes * i) s) (lib.Dec.lit≤ tt))

pub block_part : (s : List ℕ) (i : ℕ) → (entry_at s i).block ≡ take block_bytes (drop (entry_bytes * i + 4) s)
unfolding entry_at
block_part s i =
    ap (drop 4) (cell_part entry_bytes s i) ∙ drop-take 4 block_bytes (drop (entry_bytes * i) s) ∙ ap (take block_bytes) (drop-drop 4 (entry_bytes * i) s)

-- what is left once the address and then the block have been stored in place
pub stored : (s : List ℕ) (i : ℕ) (e : Entry) → length e.block ≡ block_bytes
    → sets (sets s (entry_bytes * i) (le 4 e.address)) (entry_bytes * i + 4) e.block ≡ set_entry s i e
unfolding set_entry to_bytes
stored s i e l =
    let size : length (to_bytes e) ≡ entry_bytes = length-to_bytes e ∙ ap (λ (k : ℕ). 4 + k) l in
    ap (λ (k : ℕ). sets (sets s (entry_bytes * i) (le 4 e.address)) (entry_bytes * i + k) e.block) (sym (length-le 4 e.address))
    ∙ sym (sets-append (le 4 e.address) e.block s (entry_bytes * i))
    ∙ sets-cell entry_bytes s i (to_bytes e) size

-- an address that was read from bytes fits four
pub address_lt : (s : List ℕ) (i : ℕ) → Bytes s → entry_bytes * i + entry_bytes ≤ length s → (entry_at s i).address < 2 ^ 32
unfolding entry_at
address_lt s i b h =
    let l : length (cell entry_bytes s i) ≡ entry_bytes = length-cell entry_bytes s i h in
    let four : length (take 4 (cell entry_bytes s i)) ≡ 4 = length-take-le 4 (cell entry_bytes s i) (omega arith) in
    let small : num (take 4 (cell entry_bytes s i)) < 256 ^ length (take 4 (cell entry_bytes s i)) =
    num_lt (take 4 (cell entry_bytes s i)) (bytes_take 4 (cell entry_bytes s i) (bytes-cell entry_bytes s i b)) in
    rw four at small

-- ---- a part of a run

-- m entries from place `from` on, as a run of their own
pub entry_of_part : (s : List ℕ) (from m i : ℕ) → i < m → entry_at (take (entry_bytes * m) (drop (entry_bytes * from) s)) i ≡ entry_at s (from + i)
unfolding entry_at
entry_of_part s from m i h = entry_eq (ap (λ (c : List ℕ). num (take 4 c)) same) (ap (drop 4) same)
  where
    rest : ℕ
    rest = entry_bytes * m - entry_bytes * i

    l : List ℕ
    l = drop (entry_bytes * from) s

    at : entry_bytes * from + entry_bytes * i ≡ entry_bytes * (from + i)
    at = omega arith

    all : entry_bytes * m ≡ entry_bytes * i + rest
    all = omega arith

    same : cell entry_bytes (take (entry_bytes * m) l) i ≡ cell entry_bytes s (from + i)
    same =
        cell_part entry_bytes (take (entry_bytes * m) l) i
        ∙ ap (λ (n : ℕ). take entry_bytes (drop (entry_bytes * i) (take n l))) all
        ∙ ap (take entry_bytes) (drop-take (entry_bytes * i) rest l)
        ∙ take-take entry_bytes rest (drop (entry_bytes * i) l) (omega arith)
        ∙ ap (take entry_bytes) (drop-drop (entry_bytes * i) (entry_bytes * from) s)
        ∙ ap (λ (n : ℕ). take entry_bytes (drop n s)) at
        ∙ sym (cell_part entry_bytes s (from + i))
