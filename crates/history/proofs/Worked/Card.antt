-- The card of the worked scripts: a first append of one entry, and a second one that is cut short behind its header, its descriptor lost or
-- half of its log block, or its descriptor torn.
use Prim.Native.Nat.{ℕ, zero, suc, ◌+◌, ◌*◌, ◌-◌, ◌≤◌, ◌<◌}
use mathlib.Core.Path.{◌≡◌, refl, ap, ap₂, sym, ◌∙◌}
use mathlib.Core.Bool.{Bool, true, false, cond}
use mathlib.Core.List.{List, [], ◌∷◌, ◌++◌, append_assoc}
use native.Mathlib.Omega.{arith}
use lib.ListN.{length, get_or, take, drop, replicate, length-append, get_or-replicate}
use lib.Dec.{eqb}
use lib.Seq.{ext_get_or, length-take-le, drop-append-add}
use Rattle.cells.specs.Cell.{cell}
use Rattle.cells.specs.Cell.Laws.{cell_part, length-cell, get_or-cell, cell-zeros}
use Rattle.cells.specs.Little.{num}
use Rattle.cells.specs.Little.Laws.{num_nil, num_cons, num-le}
use Rattle.cells.specs.Entry.{block_bytes, Entry}
use Rattle.cells.specs.Entry.Laws.{entry_eq}
use Rattle.card.specs.Disk.{lay, overlay}
use Rattle.crash.specs.Laid.{Laid}
use Rattle.card.specs.Card.{Card, queue, cut, settle, torn, block_at, blocks_in}
use Rattle.card.specs.Marks.{marks_at, kept_at, marks_for, whole_at, marks_fit}
use Rattle.card.proofs.Torn.{length-torn, get_or-torn}
use Rattle.card.proofs.All.{All}
use Rattle.card.proofs.Runs.{Whole, settle_other, settle-overlay}
use Rattle.card.proofs.MarkLaws.{fits_last}
use Rattle.card.proofs.Spreads.{marks_of_for, marks_of_whole, marks_of-kept, marks_of-lost}
use Rattle.card.proofs.Cuts.{cut-one, torn-kept, torn-lost}
use Rattle.card.proofs.Leaves.{Leaves}
use Rattle.journal.specs.Geometry.{trap}
use Rattle.journal.specs.Layout.{descriptor_at}
use Rattle.journal.specs.Header.{header}
use Rattle.journal.specs.Log.{sum_of}
use Rattle.journal.specs.Orders.{address_bytes, describe, descriptor_entry}
use Rattle.journal.proofs.Logs.{length-block_at}
use Rattle.journal.proofs.Descriptors.{length-address_bytes, describe_room, listed_new}
use Rattle.journal.proofs.OrderLists.{slot_block, slot_blocks, header_entry, append_writes}
use Rattle.crash.proofs.Batches.{Left}
use Rattle.crash.proofs.CallCuts.{left_leaves}
use Rattle.crash.proofs.Leads.{found_in, found-log}
use Rattle.crash.proofs.Logs.{slot_e, log_d}
use Rattle.history.specs.Worked.{at40, cut101, half, cut_half, fifth, cut_fifth}
use Rattle.crash.proofs.Appends.{writes_whole}
use Rattle.history.proofs.Steps.AppendEnds.{Appends, top-last, done_card}
use Rattle.history.proofs.Worked.Sums.{forty}
use Rattle.history.proofs.Worked.TornMarks.{log-half, descriptor_half, header-half, whole_half, for_half, log-fifth, descriptor_fifth, header-fifth, whole_fifth, for_fifth}

-- "a sync writes the slots from its new count on […] as zero"
describe_beyond : (old : List ℕ) (n : ℕ) (es : List Entry) (i : ℕ) → 4 * n ≤ length old → n + length es ≤ i → 4 * i + 4 ≤ block_bytes
    → cell 4 (describe old n es) i ≡ replicate 4 0
describe_beyond old n es i h l k =
    let front : List ℕ = take (4 * n) old ++ address_bytes es in
    let j : ℕ = i - (n + length es) in
    let zeros : List ℕ = replicate (block_bytes - 4 * (n + length es)) 0 in
    let size : length front ≡ 4 * n + 4 * length es =
    length-append (take (4 * n) old) (address_bytes es) ∙ ap₂ (λ (x y : ℕ). x + y) (length-take-le (4 * n) old h) (length-address_bytes es) in
    let past : 4 * i ≡ length front + 4 * j = omega arith in
    ap (λ (b : List ℕ). cell 4 b i) (describe_room old n es h (omega arith))
    ∙ cell_part 4 (take (4 * n) old ++ (address_bytes es ++ zeros)) i
    ∙ ap (λ (x : List ℕ). take 4 (drop (4 * i) x)) (sym (append_assoc (take (4 * n) old) (address_bytes es) zeros))
    ∙ ap (λ (x : ℕ). take 4 (drop x (front ++ zeros))) past
    ∙ ap (take 4) (drop-append-add front zeros (4 * j))
    ∙ sym (cell_part 4 zeros j)
    ∙ cell-zeros 4 (block_bytes - 4 * (n + length es)) j (omega arith)

-- where nothing waits before
pub as_settled : {N : ℕ} {s : List ℕ} {n h : ℕ} {G v : List Entry} {S : Laid} → Appends trap N s [] n h G v S → Appends trap N (settle [] s) [] n h G v S
unfolding settle
as_settled x = x

pub no_number : num (replicate 4 0) ≡ 0
no_number = rw (num_cons, num_cons, num_cons, num_cons, num_nil)

-- after a first append of one entry the descriptor has 0 in its second place
pub second_zero : {N : ℕ} {s : List ℕ} {h : ℕ} {e : Entry} {v : List Entry} {S : Laid} → Appends trap N s [] 0 h (e ∷ []) v S
    → cell 4 (block_at (settle (append_writes trap N s 0 h (S.groups + 1) (e ∷ [])) s) descriptor_at) 1 ≡ replicate 4 0
unfolding overlay lay slot_blocks trap
second_zero {N} {s} {h} {e} {v} {S} x =
    let now : block_at (settle (append_writes trap N s 0 h (S.groups + 1) (e ∷ [])) s) descriptor_at ≡ describe (block_at s descriptor_at) 0 (e ∷ []) =
    settle-overlay (append_writes trap N s 0 h (S.groups + 1) (e ∷ [])) s descriptor_at (omega (arith, x.behind.big, x.behind.size)) (writes_whole trap N s 0 h (S.groups + 1) (e ∷ []) x.blocks) in
    ap (λ (b : List ℕ). cell 4 b 1) now
    ∙ describe_beyond (block_at s descriptor_at) 0 (e ∷ []) 1 (omega arith) (omega arith) (omega arith)

-- ---- a second append, by what a cut leaves of it

-- after a first append of one entry the second slot is as it was
pub second_slot : {N : ℕ} {s : List ℕ} {h : ℕ} {e : Entry} {v : List Entry} {S : Laid} → Appends trap N s [] 0 h (e ∷ []) v S
    → block_at (settle (append_writes trap N s 0 h (S.groups + 1) (e ∷ [])) s) 3 ≡ block_at s 3
unfolding slot_blocks trap
second_slot {N} {s} {h} {e} {v} {S} x =
    settle_other (append_writes trap N s 0 h (S.groups + 1) (e ∷ [])) s 3 ((λ z. omega arith), ((λ z. omega arith), ((λ z. omega arith), tt)))

-- marks of three writes, the last one whole, fit the second
fits_writes : {N : ℕ} {s : List ℕ} {h : ℕ} {e : Entry} {v : List Entry} {S : Laid} (ms : List ℕ) → Appends trap N s [] 1 h (e ∷ []) v S → marks_for ms 3 ≡ true → whole_at ms 2 ≡ true
    → marks_fit ms (append_writes trap N s 1 h (S.groups + 1) (e ∷ [])) ≡ true
unfolding slot_blocks trap
fits_writes {N} {s} {h} {e} {v} {S} ms x f w = fits_last true ms (append_writes trap N s 1 h (S.groups + 1) (e ∷ [])) (top-last trap x 3 refl) ∙ rw (f, w)

-- a second one behind a cut that keeps its header: descriptor and log block are torn by their marks
torn-found : {N : ℕ} {s : List ℕ} {h : ℕ} {e : Entry} {v : List Entry} {S : Laid} (ms : List ℕ) → Appends trap N s [] 1 h (e ∷ []) v S
    → (c r : Card) → Left c r s (take 3 (append_writes trap N s 1 h (S.groups + 1) (e ∷ []))) 0 → marks_for ms 3 ≡ true → whole_at ms 2 ≡ true → kept_at ms 2 ≡ true
    → (d b : List ℕ) → torn (marks_at ms 1) (descriptor_entry s 1 (e ∷ []) 0).block (block_at s 1) ≡ d → torn (marks_at ms 0) e.block (block_at s 3) ≡ b
    → found_in trap (cut ms r).settled ≡ record { address = num (cell 4 d 0); block = block_at s 2 } ∷ record { address = num (cell 4 d 1); block = b } ∷ []
unfolding slot_blocks slot_e trap
torn-found {N} {s} {h} {e} {v} {S} ms x c r f fits whole_top kept d b one three =
    let k : ℕ = S.groups + 1 in
    let W : List Entry = append_writes trap N s 1 h k (e ∷ []) in
    let inside : blocks_in r.settled ≡ N = ap blocks_in f.settled ∙ sym x.behind.size in
    let whole : All Whole W = writes_whole trap N s 1 h k (e ∷ []) x.blocks in
    let waits : All Whole (queue r) = rw f.waits whole in
    let slot : Entry = slot_block trap 1 e in
    let described : Entry = descriptor_entry s 1 (e ∷ []) 0 in
    let top : Entry = header_entry (header N 1 h 2 (sum_of h (e ∷ [])) k) in
    let now-one : block_at (cut ms r).settled 1 ≡ d =
    cut-one ms r 1 (slot ∷ []) (top ∷ []) described f.waits (omega (arith, inside, x.behind.big)) waits whole.1.0 refl ((λ z. omega arith), tt) ((λ z. omega arith), tt)
    ∙ ap (λ (t : List ℕ). torn (marks_at ms 1) described.block (block_at t 1)) f.settled
    ∙ one in
    let now-three : block_at (cut ms r).settled 3 ≡ b =
    cut-one ms r 3 [] (described ∷ top ∷ []) slot f.waits (omega (arith, inside, x.behind.big)) waits whole.0 refl tt ((λ z. omega arith), ((λ z. omega arith), tt))
    ∙ ap (λ (t : List ℕ). torn (marks_at ms 0) e.block (block_at t 3)) f.settled
    ∙ three in
    let leaves : Leaves N ms W (block_at s) (block_at (cut ms r).settled) = left_leaves c r s W 0 N ms f (omega (arith, x.behind.big)) x.behind.size (fits_writes ms x fits whole_top) whole in
    found-log trap x (cut ms r).settled ms leaves kept
    ∙ ap₂ (λ (a b : Entry). a ∷ b ∷ [])
    (entry_eq (ap (λ (y : List ℕ). num (cell 4 y 0)) now-one) (leaves.untouched 2 (omega (arith, x.behind.big)) ((λ z. omega arith), ((λ z. omega arith), ((λ z. omega arith), tt)))))
    (entry_eq (ap (λ (y : List ℕ). num (cell 4 y 1)) now-one) now-three)

-- its descriptor block, and the one that stood there
described_whole : {N : ℕ} {s : List ℕ} {h : ℕ} {e : Entry} {v : List Entry} {S : Laid} → Appends trap N s [] 1 h (e ∷ []) v S
    → (length (descriptor_entry s 1 (e ∷ []) 0).block ≡ block_bytes) × (length (block_at s 1) ≡ block_bytes)
unfolding slot_blocks trap
described_whole {N} {s} {h} {e} {v} {S} x =
    ((writes_whole trap N s 1 h (S.groups + 1) (e ∷ []) x.blocks).1.0, length-block_at s 1 (omega (arith, x.behind.size, x.behind.big)))

-- whose descriptor alone is lost: the new block is found under the address that stood there
pub lost-found : {N : ℕ} {s : List ℕ} {h : ℕ} {e : Entry} {v : List Entry} {S : Laid} → Appends trap N s [] 1 h (e ∷ []) v S
    → (c r : Card) → Left c r s (take 3 (append_writes trap N s 1 h (S.groups + 1) (e ∷ []))) 0
    → found_in trap (cut cut101 r).settled ≡ slot_e trap (block_at s) 0 ∷ record { address = num (cell 4 (block_at s descriptor_at) 1); block = e.block } ∷ []
unfolding slot_e trap
lost-found {N} {s} {h} {e} {v} {S} x c r f =
    let ks : List Bool = true ∷ false ∷ true ∷ [] in
    let size = described_whole x in
    torn-found cut101 x c r f (marks_of_for ks) (marks_of_whole ks 2 (lib.Dec.lit< tt)) (marks_of-kept ks 2 (lib.Dec.lit< tt)) (block_at s 1) e.block
    (torn-lost cut101 1 (descriptor_entry s 1 (e ∷ []) 0).block (block_at s 1) (marks_of-lost ks 1 (lib.Dec.lit< tt)) size.0 size.1)
    (torn-kept cut101 0 e.block (block_at s 3) (marks_of-kept ks 0 (lib.Dec.lit< tt)) x.blocks.0 (length-block_at s 3 (omega (arith, x.behind.size, x.behind.big))))

-- of whose log block the first half is kept: that half is found in its slot, before the half that stood there
pub halved-found : {N : ℕ} {s : List ℕ} {h : ℕ} {e : Entry} {v : List Entry} {S : Laid} → Appends trap N s [] 1 h (e ∷ []) v S
    → (c r : Card) → Left c r s (take 3 (append_writes trap N s 1 h (S.groups + 1) (e ∷ []))) 0
    → found_in trap (cut cut_half r).settled ≡ slot_e trap (block_at s) 0 ∷ record { address = e.address; block = torn half e.block (block_at s 3) } ∷ []
unfolding slot_blocks slot_e overlay lay trap
halved-found {N} {s} {h} {e} {v} {S} x c r f =
    let W : List Entry = append_writes trap N s 1 h (S.groups + 1) (e ∷ []) in
    let described : List ℕ = (descriptor_entry s 1 (e ∷ []) 0).block in
    let now : block_at (settle W s) 1 ≡ described = settle-overlay W s 1 (omega (arith, x.behind.big, x.behind.size)) (writes_whole trap N s 1 h (S.groups + 1) (e ∷ []) x.blocks) in
    let all : slot_e trap (block_at s) 0 ∷ e ∷ [] ≡ log_d trap (block_at (settle W s)) 2 = (done_card trap x (as_settled x)).same in
    torn-found cut_half x c r f for_half whole_half header-half described _ (torn-kept cut_half 1 described (block_at s 1) descriptor_half (described_whole x).0 (described_whole x).1)
    (ap (λ (m : List ℕ). torn m e.block (block_at s 3)) log-half)
    ∙ ap₂ (λ (a b : Entry). a ∷ b ∷ [])
    (entry_eq (ap (λ (b : List ℕ). num (cell 4 b 0)) (sym now) ∙ sym (ap (λ (l : List Entry). (get_or l 0 e).address) all)) refl)
    (entry_eq (ap (λ (b : List ℕ). num (cell 4 b 1)) (sym now) ∙ sym (ap (λ (l : List Entry). (get_or l 1 e).address) all)) refl)

-- ---- a torn descriptor

-- the fifth byte of a descriptor: the addresses before it stand, and behind zeros a small one is whole
fifth-kept : (new old : List ℕ) → length new ≡ block_bytes → length old ≡ block_bytes → cell 4 new 1 ≡ 40 ∷ 0 ∷ 0 ∷ 0 ∷ [] → cell 4 old 1 ≡ replicate 4 0
    → (cell 4 (torn fifth new old) 0 ≡ cell 4 old 0) × (cell 4 (torn fifth new old) 1 ≡ 40 ∷ 0 ∷ 0 ∷ 0 ∷ [])
fifth-kept new old n o a z = (
  ext_get_or 0 (cell 4 T 0) (cell 4 old 0) (short 0 (omega arith) ∙ sym (length-cell 4 old 0 (omega arith))) (λ j l. front j (rw (short 0 (omega arith)) at l)),
  ext_get_or 0 (cell 4 T 1) (40 ∷ 0 ∷ 0 ∷ 0 ∷ []) (short 1 (omega arith)) (λ j l. behind j (rw (short 1 (omega arith)) at l)),
)
  where
    T : List ℕ
    T = torn fifth new old

    long : length T ≡ block_bytes
    long = length-torn fifth new old ∙ o

    short : (i : ℕ) → 4 * i + 4 ≤ block_bytes → length (cell 4 T i) ≡ 4
    short i h = length-cell 4 T i (rw long h)

    byte : (i j : ℕ) → j < 4 → 4 * i + j < block_bytes → get_or (cell 4 T i) j 0 ≡ cond (eqb (get_or fifth (4 * i + j) 0) 1) (get_or new (4 * i + j) 0) (get_or old (4 * i + j) 0)
    byte i j h l = get_or-cell 4 T i j h ∙ get_or-torn fifth new old (4 * i + j) (n ∙ sym o) (rw o l)

    front : (j : ℕ) → j < 4 → get_or (cell 4 T 0) j 0 ≡ get_or (cell 4 old 0) j 0
    front zero h = byte 0 0 h (omega arith) ∙ sym (get_or-cell 4 old 0 0 h)
    front (suc zero) h = byte 0 1 h (omega arith) ∙ sym (get_or-cell 4 old 0 1 h)
    front (suc (suc zero)) h = byte 0 2 h (omega arith) ∙ sym (get_or-cell 4 old 0 2 h)
    front (suc (suc (suc zero))) h = byte 0 3 h (omega arith) ∙ sym (get_or-cell 4 old 0 3 h)
    front (suc (suc (suc (suc j)))) h = absurd (omega arith)

    stale : (j : ℕ) → j < 4 → get_or old (4 * 1 + j) 0 ≡ 0
    stale j h = sym (get_or-cell 4 old 1 j h) ∙ ap (λ (b : List ℕ). get_or b j 0) z ∙ get_or-replicate 4 j 0 0 h

    behind : (j : ℕ) → j < 4 → get_or (cell 4 T 1) j 0 ≡ get_or (40 ∷ 0 ∷ 0 ∷ 0 ∷ []) j 0
    behind zero h = byte 1 0 h (omega arith) ∙ sym (get_or-cell 4 new 1 0 h) ∙ ap (λ (b : List ℕ). get_or b 0 0) a
    behind (suc zero) h = byte 1 1 h (omega arith) ∙ stale 1 h
    behind (suc (suc zero)) h = byte 1 2 h (omega arith) ∙ stale 2 h
    behind (suc (suc (suc zero))) h = byte 1 3 h (omega arith) ∙ stale 3 h
    behind (suc (suc (suc (suc j)))) h = absurd (omega arith)

-- of whose descriptor that byte alone is kept: the log written is found
pub fifth-found : {N : ℕ} {s : List ℕ} {h : ℕ} {b : List ℕ} {v : List Entry} {S : Laid} → Appends trap N s [] 1 h (at40 b ∷ []) v S
    → (c r : Card) → Left c r s (take 3 (append_writes trap N s 1 h (S.groups + 1) (at40 b ∷ []))) 0 → cell 4 (block_at s descriptor_at) 1 ≡ replicate 4 0
    → found_in trap (cut cut_fifth r).settled ≡ slot_e trap (block_at s) 0 ∷ at40 b ∷ []
unfolding slot_e trap
fifth-found {N} {s} {h} {b} {v} {S} x c r f z =
    let described : List ℕ = (descriptor_entry s 1 (at40 b ∷ []) 0).block in
    let size = described_whole x in
    let bytes = fifth-kept described (block_at s 1) size.0 size.1 ((listed_new s 1 (at40 b ∷ []) 0 (at40 b) size.1 (omega arith)).1 ∙ forty) z in
    torn-found cut_fifth x c r f for_fifth whole_fifth header-fifth _ b (ap (λ (m : List ℕ). torn m described (block_at s 1)) descriptor_fifth)
    (torn-kept cut_fifth 0 b (block_at s 3) log-fifth x.blocks.0 (length-block_at s 3 (omega (arith, x.behind.size, x.behind.big))))
    ∙ ap₂ (λ (a b : Entry). a ∷ b ∷ [])
    (entry_eq (ap num bytes.0) refl)
    (entry_eq (ap num (bytes.1 ∙ sym forty) ∙ num-le 4 40 (lib.Dec.lit< tt)) refl)
