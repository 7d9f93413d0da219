-- The laws of the descriptor's bytes.
use Prim.Native.Nat.{ℕ, zero, suc, ◌+◌, ◌*◌, ◌-◌, ◌/◌, ◌≤◌, ◌<◌}
use mathlib.Core.Path.{◌≡◌, refl, ap, sym, ◌∙◌}
use mathlib.Core.List.{List, [], ◌∷◌, ◌++◌, append_assoc, append-nil}
use native.Mathlib.Numerals.{add-one}
use native.Mathlib.Omega.{arith}
use lib.ListN.{length, get_or, take, drop, replicate, length-append, length-take, length-drop, length-replicate, get_or-append}
use lib.Seq.{sets, sets-eq, length-take-le, take_at, take-take, take-append-add, drop-drop, drop-append-add, get_or-take, get_or-drop}
use Rattle.cells.specs.Cell.{cell}
use Rattle.cells.specs.Cell.Laws.{cell_part, drop-take, sets-append}
use Rattle.cells.specs.Little.{le}
use Rattle.cells.specs.Little.Laws.{length-le}
use Rattle.cells.specs.Upto.{up_to}
use Rattle.cells.specs.Upto.Laws.{length-up_to}
use Rattle.cells.specs.Entry.{block_bytes, Entry}
use Rattle.card.specs.Card.{block_at}
use Rattle.journal.specs.Geometry.{per_descriptor}
use Rattle.journal.specs.Layout.{descriptor_at, described_in, described_at}
use Rattle.journal.specs.Orders.{address_bytes, describe, descriptor_entry}

-- ---- addresses in a row

pub length-address_bytes : (es : List Entry) → length (address_bytes es) ≡ 4 * length es
unfolding address_bytes
length-address_bytes [] = refl
length-address_bytes (e ∷ es) = rw (length-append, length-le, length-address_bytes es) (omega arith)

pub address_bytes-append : (a b : List Entry) → address_bytes (a ++ b) ≡ address_bytes a ++ address_bytes b
unfolding address_bytes
address_bytes-append [] b = refl
address_bytes-append (e ∷ a) b =
    ap (λ (l : List ℕ). le 4 e.address ++ l) (address_bytes-append a b) ∙ sym (append_assoc (le 4 e.address) (address_bytes a) (address_bytes b))

-- one address more, stored behind i others
pub addresses_more : (s : List ℕ) (at : ℕ) (f : ℕ → Entry) (i a : ℕ) → a ≡ (f i).address
    → sets (sets s at (address_bytes (up_to f i))) (at + 4 * i) (le 4 a) ≡ sets s at (address_bytes (up_to f (i + 1)))
unfolding address_bytes
addresses_more s at f i a e =
    let size : length (address_bytes (up_to f i)) ≡ 4 * i = length-address_bytes (up_to f i) ∙ ap (λ (k : ℕ). 4 * k) (length-up_to f i) in
    rw (add-one, address_bytes-append, append-nil, sets-append, size, e)

-- ---- a descriptor block; what stands behind the list plays no part

-- the old addresses, the new ones, and a tail
abbrev tailed : List ℕ → ℕ → List Entry → List ℕ → List ℕ
tailed old n es z = take block_bytes (take (4 * n) old ++ (address_bytes es ++ z))

length-tailed : (old : List ℕ) (n : ℕ) (es : List Entry) (z : List ℕ) → block_bytes ≤ length z → length (tailed old n es z) ≡ block_bytes
length-tailed old n es z h = length-take-le block_bytes (take (4 * n) old ++ (address_bytes es ++ z)) (rw (length-append, length-append) (omega arith))

pub length-describe : (old : List ℕ) (n : ℕ) (es : List Entry) → length (describe old n es) ≡ block_bytes
unfolding describe
length-describe old n es =
    let tail : length (replicate {A = ℕ} block_bytes 0) ≡ block_bytes = length-replicate {A = ℕ} block_bytes 0 in
    length-tailed old n es (replicate block_bytes 0) (omega arith)

take-zeros : (k n : ℕ) → k ≤ n → take k (replicate {A = ℕ} n 0) ≡ replicate k 0
take-zeros zero n h = refl
take-zeros (suc k) zero h = absurd (omega arith)
take-zeros (suc k) (suc n) h = ap (λ (l : List ℕ). 0 ∷ l) (take-zeros k n (omega arith))

-- one that holds the whole list
pub describe_room : (old : List ℕ) (n : ℕ) (es : List Entry) → 4 * n ≤ length old → 4 * (n + length es) ≤ block_bytes
    → describe old n es ≡ take (4 * n) old ++ (address_bytes es ++ replicate (block_bytes - 4 * (n + length es)) 0)
unfolding describe
describe_room old n es h k =
    let front : length (take (4 * n) old) ≡ 4 * n = length-take-le (4 * n) old h in
    let new : length (address_bytes es) ≡ 4 * length es = length-address_bytes es in
    let zeros : List ℕ = replicate block_bytes 0 in
    let size : block_bytes ≡ length (take (4 * n) old) + (length (address_bytes es) + (block_bytes - 4 * (n + length es))) = omega arith in
    ap (λ (i : ℕ). take i (take (4 * n) old ++ (address_bytes es ++ zeros))) size
    ∙ take-append-add (take (4 * n) old) (address_bytes es ++ zeros) (length (address_bytes es) + (block_bytes - 4 * (n + length es)))
    ∙ ap (λ (l : List ℕ). take (4 * n) old ++ l)
    (take-append-add (address_bytes es) zeros (block_bytes - 4 * (n + length es))
    ∙ ap (λ (l : List ℕ). address_bytes es ++ l) (take-zeros (block_bytes - 4 * (n + length es)) block_bytes (omega arith)))

-- with no address kept, the old block plays no part
pub describe_afresh : (a b : List ℕ) (n : ℕ) (es : List Entry) → n ≡ 0 → describe a n es ≡ describe b n es
unfolding describe
describe_afresh a b n es z = rw z

drop-zeros : (k n : ℕ) → drop k (replicate {A = ℕ} n 0) ≡ replicate (n - k) 0
drop-zeros zero n = let e : n - 0 ≡ n = omega arith in rw e
drop-zeros (suc k) zero = let e : 0 - suc k ≡ 0 = omega arith in rw e
drop-zeros (suc k) (suc n) = let e : suc n - suc k ≡ n - k = omega arith in rw e (drop-zeros k n)

-- the old addresses copied into zeros, and the new ones stored behind them
pub described : (old z : List ℕ) (n : ℕ) (es : List Entry) → 4 * n ≤ length old → z ≡ replicate block_bytes 0 → 4 * (n + length es) ≤ block_bytes
    → sets (take (4 * n) old ++ drop (4 * n) z) (4 * n) (address_bytes es) ≡ describe old n es
described old z n es h zeros k =
    rw (describe_room old n es h k, sets-eq (address_bytes es) (take (4 * n) old ++ drop (4 * n) z) (4 * n) room, take_at (take (4 * n) old) (drop (4 * n) z) (4 * n) front, append_assoc, new)
    (ap (λ (r : List ℕ). take (4 * n) old ++ (address_bytes es ++ r)) behind)
  where
    front : length (take (4 * n) old) ≡ 4 * n
    front = length-take-le (4 * n) old h

    new : length (address_bytes es) ≡ 4 * length es
    new = length-address_bytes es

    room : 4 * n + length (address_bytes es) ≤ length (take (4 * n) old ++ drop (4 * n) z)
    room = let size : length z ≡ block_bytes = ap length zeros in rw (length-append, length-drop, front, new) (omega arith)

    behind : drop (4 * n + 4 * length es) (take (4 * n) old ++ drop (4 * n) z) ≡ replicate (block_bytes - 4 * (n + length es)) 0
    behind =
        let sum : 4 * n + 4 * length es ≡ 4 * (n + length es) = omega arith in
        ap (λ (i : ℕ). drop (i + 4 * length es) (take (4 * n) old ++ drop (4 * n) z)) (sym front)
        ∙ drop-append-add (take (4 * n) old) (drop (4 * n) z) (4 * length es)
        ∙ drop-drop (4 * length es) (4 * n) z
        ∙ rw (zeros, sum, drop-zeros)

-- ---- read back

-- the bytes of the old list's addresses stand as they did
tailed_byte : (old : List ℕ) (n : ℕ) (es : List Entry) (z : List ℕ) (j : ℕ) → length old ≡ block_bytes → j < 4 * n → j < block_bytes → get_or (tailed old n es z) j 0 ≡ get_or old j 0
tailed_byte old n es z j h k l =
    let front : j < length (take (4 * n) old) = rw (length-take) (omega arith) in
    get_or-take block_bytes (take (4 * n) old ++ (address_bytes es ++ z)) j 0 l
    ∙ get_or-append (take (4 * n) old) (address_bytes es ++ z) 0 j front
    ∙ get_or-take (4 * n) old j 0 k

describe_byte : (old : List ℕ) (n : ℕ) (es : List Entry) (j : ℕ) → length old ≡ block_bytes → j < 4 * n → j < block_bytes → get_or (describe old n es) j 0 ≡ get_or old j 0
unfolding describe
describe_byte old n es j = tailed_byte old n es (replicate block_bytes 0) j

address-at : (es : List Entry) (i : ℕ) (d : Entry) (rest : List ℕ) → i < length es
    → take 4 (drop (4 * i) (address_bytes es ++ rest)) ≡ le 4 (get_or es i d).address
unfolding address_bytes
address-at [] i d rest h = elim h [ ]
address-at (e ∷ es) zero d rest h =
    rw (append_assoc (le 4 e.address) (address_bytes es) rest) (take_at (le 4 e.address) (address_bytes es ++ rest) 4 (length-le 4 e.address))
address-at (e ∷ es) (suc i) d rest h =
    let four : 4 * suc i ≡ 4 + 4 * i = omega arith in
    rw (four, append_assoc (le 4 e.address) (address_bytes es) rest)
    (ap (take 4) (ap (λ (k : ℕ). drop (k + 4 * i) (le 4 e.address ++ (address_bytes es ++ rest))) (sym (length-le 4 e.address)) ∙ drop-append-add (le 4 e.address) (address_bytes es ++ rest) (4 * i))
    ∙ address-at es i d rest (omega arith))

-- and the new ones behind them
tailed_new : (old : List ℕ) (n : ℕ) (es : List Entry) (z : List ℕ) (i : ℕ) (d : Entry) → 4 * n ≤ length old → i < length es → 4 * (n + i) + 4 ≤ block_bytes
    → cell 4 (tailed old n es z) (n + i) ≡ le 4 (get_or es i d).address
tailed_new old n es z i d h k l =
    let front : length (take (4 * n) old) ≡ 4 * n = length-take-le (4 * n) old h in
    let place : 4 * (n + i) ≡ length (take (4 * n) old) + 4 * i = omega arith in
    let whole : block_bytes ≡ 4 * (n + i) + (block_bytes - 4 * (n + i)) = omega arith in
    cell_part 4 (tailed old n es z) (n + i)
    ∙ ap (λ (x : ℕ). take 4 (drop (4 * (n + i)) (take x (take (4 * n) old ++ (address_bytes es ++ z))))) whole
    ∙ ap (take 4) (drop-take (4 * (n + i)) (block_bytes - 4 * (n + i)) (take (4 * n) old ++ (address_bytes es ++ z)))
    ∙ take-take 4 (block_bytes - 4 * (n + i)) (drop (4 * (n + i)) (take (4 * n) old ++ (address_bytes es ++ z))) (omega arith)
    ∙ ap (λ (x : ℕ). take 4 (drop x (take (4 * n) old ++ (address_bytes es ++ z)))) place
    ∙ ap (take 4) (drop-append-add (take (4 * n) old) (address_bytes es ++ z) (4 * i))
    ∙ address-at es i d z k

describe_new : (old : List ℕ) (n : ℕ) (es : List Entry) (i : ℕ) (d : Entry) → 4 * n ≤ length old → i < length es → 4 * (n + i) + 4 ≤ block_bytes
    → cell 4 (describe old n es) (n + i) ≡ le 4 (get_or es i d).address
unfolding describe
describe_new old n es i d = tailed_new old n es (replicate block_bytes 0) i d

-- ---- by slots: the block that has a slot's address, and the place in it

-- an old slot's bytes, in whichever block of the descriptor they are
pub listed-old : (s : List ℕ) (n : ℕ) (es : List Entry) (j i b : ℕ) → (descriptor_entry s n es j).address ≡ described_in i → length (block_at s (described_in i)) ≡ block_bytes → i < n → b < 4
    → get_or (descriptor_entry s n es j).block (4 * described_at i + b) 0 ≡ get_or (block_at s (described_in i)) (4 * described_at i + b) 0
listed-old s n es j i b z h k l =
    let old : length (block_at s (descriptor_at + j)) ≡ block_bytes = ap (λ (a : ℕ). length (block_at s a)) z ∙ h in
    describe_byte (block_at s (descriptor_at + j)) (n - per_descriptor * j) (drop (per_descriptor * j - n) es) (4 * described_at i + b) old (omega arith) (omega arith)
    ∙ ap (λ (a : ℕ). get_or (block_at s a) (4 * described_at i + b) 0) z

-- a new slot's address
pub listed_new : (s : List ℕ) (n : ℕ) (es : List Entry) (i : ℕ) (d : Entry) → length (block_at s (described_in (n + i))) ≡ block_bytes → i < length es
    → ((descriptor_entry s n es ((n + i) / per_descriptor)).address ≡ described_in (n + i)) × (cell 4 (descriptor_entry s n es ((n + i) / per_descriptor)).block (described_at (n + i)) ≡ le 4 (get_or es i d).address)
listed_new s n es i d h k =
    let j : ℕ = (n + i) / per_descriptor in
    let skip : ℕ = per_descriptor * j - n in
    let rest : length (drop skip es) ≡ length es - skip = length-drop skip es in
    let place : described_at (n + i) ≡ n - per_descriptor * j + (i - skip) = omega arith in
    let at : skip + (i - skip) ≡ i = omega arith in (
      refl,
      ap (cell 4 (descriptor_entry s n es j).block) place
          ∙ describe_new (block_at s (descriptor_at + j)) (n - per_descriptor * j) (drop skip es) (i - skip) d (omega arith) (omega arith) (omega arith)
          ∙ ap (λ (y : Entry). le 4 y.address) (get_or-drop skip es (i - skip) d ∙ ap (λ (k : ℕ). get_or es k d) at),
    )
