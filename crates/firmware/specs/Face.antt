-- "The firmware is C: it passes the record as 36 lent bytes (seven 4-byte numbers in the order above, then the sum); another
-- length is 1." W-201: the save number "as 8 further bytes of the C face".
use Rattle.std.specs.Prelude.{ℕ, cond, List, [], ◌∷◌, eqb, length, get_or}
use Rattle.cells.specs.Row.{Field, row, values_from}
use Rattle.store.specs.declared.place.Place.{Place}
use Rattle.store.specs.declared.place.Place.TheVariants.{Settled, Waiting, Work, Nowhere}
use Rattle.store.specs.declared.record.Record.{Record}
use Rattle.store.specs.State.{State, Outcome}
use Rattle.store.specs.CodeState.{state_of}
use Rattle.store.specs.Request.{get}
use Rattle.store.specs.Causes.{cause}
use Rattle.store.specs.Get.{get_place}
use Rattle.store.specs.GetList.{Listing, listing_of, listing}
use Rattle.store.specs.Cost.{Cost, no_figures}
use Rattle.inspect.specs.Tally.{Tally}
use Rattle.inspect.specs.Alike.{alike_of}
use Rattle.journal.specs.Geometry.{Geometry}

-- "36 lent bytes" and "8 further bytes"
abbrev pub record_bytes : ℕ
record_bytes = 44

-- "seven 4-byte numbers in the order above, then the sum", the order being "mode (0 closed, 1 open, 2 down), N, open count, group
-- count, log count n, waiting count, power count, the log's sum"; W-201: then the save number
abbrev pub record_fields : List (Field Record)
record_fields =
    (4, λ r. r.mode)
    ∷ (4, λ r. r.blocks)
    ∷ (4, λ r. r.opened)
    ∷ (4, λ r. r.grouped)
    ∷ (4, λ r. r.logged)
    ∷ (4, λ r. r.waiting)
    ∷ (4, λ r. r.power)
    ∷ (8, λ r. r.sum)
    ∷ (8, λ r. r.save)
    ∷ []

-- the record of these numbers, in that order
abbrev pub record_of_values : List ℕ → Record
record_of_values v = record {
  mode = get_or v 0 0;
  blocks = get_or v 1 0;
  opened = get_or v 2 0;
  grouped = get_or v 3 0;
  logged = get_or v 4 0;
  waiting = get_or v 5 0;
  power = get_or v 6 0;
  sum = get_or v 7 0;
  save = get_or v 8 0;
}

unfoldable pub encode_record : Record → List ℕ
encode_record r = row record_fields r

unfoldable pub decode_record : List ℕ → Record
decode_record b = record_of_values (values_from record_fields 0 b)

-- what C sees after a call: the number, the orders (0 for a call that gives none), the record's bytes and every other lent byte
pub record Face : Type 0 where
  pub number : ℕ
  pub orders : ℕ
  pub rec : List ℕ
  pub settled : List ℕ
  pub waiting : List ℕ
  pub work : List ℕ

abbrev pub face_of : ℕ → ℕ → List ℕ → List ℕ → List ℕ → List ℕ → Face
face_of n o r s w k = record { number = n; orders = o; rec = r; settled = s; waiting = w; work = k }

-- the store's outcome, its record as bytes
abbrev pub handed : Outcome → Face
handed o = face_of o.answer o.orders (encode_record o.state.rec) o.state.settled o.state.waiting o.state.work

-- a call of the store on the record's bytes and the other lent bytes; "another length is 1", and leaves every byte
unfoldable pub faced : (State → Outcome) → List ℕ → List ℕ → List ℕ → List ℕ → Face
faced call r s w k = cond (eqb (length r) record_bytes) (handed (call (state_of (decode_record r) s w k))) (face_of 1 0 r s w k)

-- ---- get: "handed out as a part of work memory or of the card"; W-209: or "a part of the queue". C is told the buffer and the byte in it
-- where the part starts.

abbrev pub buffer_number : Place → ℕ
buffer_number (Settled o) = 1
buffer_number (Work o) = 2
buffer_number (Waiting o) = 3
buffer_number Nowhere = 0

abbrev pub buffer_offset : Place → ℕ
buffer_offset (Settled o) = o
buffer_offset (Work o) = o
buffer_offset (Waiting o) = o
buffer_offset Nowhere = 0

pub record Got : Type 0 where
  pub number : ℕ
  pub buffer : ℕ
  pub offset : ℕ

abbrev pub got_of : ℕ → ℕ → ℕ → Got
got_of n b o = record { number = n; buffer = b; offset = o }

module _ (geo : Geometry) where
  -- "its number comes from a question with the same inputs"
  abbrev pub got_in : ℕ → State → Got
  got_in a st = got_of (cause geo (get a) st) (buffer_number (get_place geo a st)) (buffer_offset (get_place geo a st))

  unfoldable pub got : ℕ → List ℕ → List ℕ → List ℕ → List ℕ → Got
  got a r s w k = cond (eqb (length r) record_bytes) (got_in a (state_of (decode_record r) s w k)) (got_of 1 0 0)

-- ---- W-207: a list of gets; the buffer for the blocks is lent for writing

module _ (geo : Geometry) where
  unfoldable pub listed : List ℕ → List ℕ → List ℕ → List ℕ → List ℕ → List ℕ → Listing
  listed xs bs r s w k = cond (eqb (length r) record_bytes) (listing geo xs bs (state_of (decode_record r) s w k)) (listing_of 1 0 bs)

-- ---- W-202: what a sync, an apply or a recover will take

-- the number and the figures, 1 for yes or 0
pub record Asked : Type 0 where
  pub number : ℕ
  pub orders : ℕ
  pub applies : ℕ
  pub peak : ℕ
  pub reaches : ℕ

abbrev pub told : Cost → Asked
told c = record { number = c.number; orders = c.orders; applies = cond c.applies 1 0; peak = c.peak; reaches = cond c.reaches 1 0 }

-- an inquiry on the record's bytes and the other lent bytes, none of which it can change; "another length is 1", and has no figures
unfoldable pub asked : (State → Cost) → List ℕ → List ℕ → List ℕ → List ℕ → Asked
asked cost r s w k = cond (eqb (length r) record_bytes) (told (cost (state_of (decode_record r) s w k))) (told (no_figures 1))

-- ---- "Two calls read settled bytes alone"

abbrev pub tallied : ℕ → ℕ → Tally
tallied n sum = record { number = n; sum = sum }

-- alike: the number, and 1 for yes or 0
pub record Compared : Type 0 where
  pub number : ℕ
  pub yes : ℕ

abbrev pub compared_of : ℕ → ℕ → Compared
compared_of n y = record { number = n; yes = y }

module _ (geo : Geometry) where
  unfoldable pub compared : List ℕ → List ℕ → Compared
  compared a b = compared_of (alike_of geo a b).number (cond (alike_of geo a b).yes 1 0)
