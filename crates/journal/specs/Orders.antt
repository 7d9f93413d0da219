-- The orders by which the log is written: each list is computed from what stands on the card when it begins.
use Rattle.std.specs.Prelude.{ℕ, suc, ◌+◌, ◌*◌, ◌-◌, cond, List, [], ◌∷◌, ◌++◌, map, eqb, leb, length, take, drop, replicate}
use Rattle.cells.specs.Little.{le}
use Rattle.cells.specs.Upto.{up_to}
use Rattle.cells.specs.Entry.{block_bytes, Entry}
use Rattle.fnv.specs.Fnv.{start}
use Rattle.card.specs.Card.{Order, write, flush, block_at}
use Rattle.journal.specs.declared.header.Header.{Header}
use Rattle.journal.specs.Geometry.{Geometry, per_descriptor}
use Rattle.journal.specs.Layout.{header_at, descriptor_at, slot_at}
use Rattle.journal.specs.Header.{encode, header, empty_header}
use Rattle.journal.specs.Log.{entries, sum_of}

-- "a header": one write of block 0
abbrev pub header_write : Header → Order
header_write h = write (record { address = header_at; block = encode h })

unfoldable pub address_bytes : List Entry → List ℕ
address_bytes [] = []
address_bytes (e ∷ es) = le 4 e.address ++ address_bytes es

-- a descriptor block: n addresses as they stand, then the new ones, as far as it holds them; "a sync writes the slots from its new
-- count on, and bytes 128–511, as zero"
unfoldable pub describe : List ℕ → ℕ → List Entry → List ℕ
describe old n es = take block_bytes (take (4 * n) old ++ (address_bytes es ++ replicate block_bytes 0))

-- block j of the descriptor, as it lists es behind n entries: the slots from 128 j on are its own
abbrev pub descriptor_entry : List ℕ → ℕ → List Entry → ℕ → Entry
descriptor_entry s n es j =
    record { address = descriptor_at + j; block = describe (block_at s (descriptor_at + j)) (n - per_descriptor * j) (drop (per_descriptor * j - n) es) }

-- "n home blocks in slot order, flush, an empty log's header, flush: n+3 orders". The header's save number is c
unfoldable pub checkpoint_orders : ℕ → ℕ → List Entry → List Order
checkpoint_orders N c es = map write es ++ (flush ∷ header_write (empty_header N c) ∷ flush ∷ [])

-- "a header with both counts p and both sums p's, then flush". Its save number is c
unfoldable pub fallback_orders : ℕ → ℕ → ℕ → ℕ → List Order
fallback_orders N p sum c = header_write (header N p sum p sum c) ∷ flush ∷ []

-- W-209: w writes wait: "flushes if anything waits, one order; otherwise none"
unfoldable pub barrier : ℕ → List Order
barrier w = cond (eqb w 0) [] (flush ∷ [])

module _ (geo : Geometry) where
  -- "the descriptor": its blocks in turn, one at the trap
  abbrev pub descriptors : List ℕ → ℕ → List Entry → List Entry
  descriptors s n es = up_to (descriptor_entry s n es) geo.descriptors

  -- "m log blocks in slot order", from slot n on
  unfoldable pub slot_writes : ℕ → List Entry → List Order
  slot_writes n [] = []
  slot_writes n (e ∷ es) = write (record { address = slot_at geo n; block = e.block }) ∷ slot_writes (suc n) es

  -- "m log blocks in slot order, the descriptor, a header with p = n and count n+m, one flush: m+3 orders. […] Sums continue from
  -- the record's." The list es is appended to n entries whose sum is h; the header's save number is c
  unfoldable pub append_orders : ℕ → List ℕ → ℕ → ℕ → ℕ → List Entry → List Order
  append_orders N s n h c es =
      slot_writes n es
      ++ (map write (descriptors s n es)
      ++ (header_write (header N n h (n + length es) (sum_of h es) c)
      ∷ flush
      ∷ []))

  -- apply: "n = 0: done, no orders". Its header has the record's save number c: "apply keeps it"
  unfoldable pub apply_orders : ℕ → List ℕ → ℕ → ℕ → List Order
  apply_orders N s n c = cond (eqb n 0) [] (checkpoint_orders N c (entries geo s n))

  -- sync of the group es, where w writes wait. W-209: "A sync with an empty group flushes if anything waits, one order; otherwise none."
  -- "If n+m > 32, apply runs first and n is then 0." The slots that a checkpoint leaves in the descriptor play no part at n = 0. c is the
  -- record's save number: W-201: "one more with each sync that writes its own header; apply keeps it"
  unfoldable pub sync_orders : ℕ → List ℕ → ℕ → ℕ → ℕ → ℕ → List Entry → List Order
  sync_orders N s w n h c es =
      cond (eqb (length es) 0) (barrier w)
      (cond (leb (n + length es) geo.slots)
      (append_orders N s n h (c + 1) es)
      (checkpoint_orders N c (entries geo s n) ++ append_orders N s 0 start (c + 1) es))
