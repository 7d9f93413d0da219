-- The state and the outcome of a call as the code holds them: the record by value, three lent buffers.
use Rattle.std.specs.Prelude.{ℕ, Result, Ok, Err, ◌+◌, ◌*◌, ◌/◌, ◌%◌, ◌≤◌, ◌<◌, ◌≡◌, List, length}
use Rattle.cells.specs.Entry.{block_bytes, entry_bytes}
use Rattle.fnv.specs.Fnv.{start}
use Rattle.refusals.specs.Numbers.{number_of}
use Rattle.refusals.specs.declared.Refusal.{Refusal}
use Rattle.card.specs.Card.{blocks_in}
use Rattle.journal.specs.Layout.{most_blocks}
use Rattle.store.specs.declared.place.Place.{Place}
use Rattle.store.specs.declared.place.Place.TheVariants.{Settled, Waiting, Work, Nowhere}
use Rattle.store.specs.declared.record.Record.{Record}
use Rattle.store.specs.declared.saved.Saved.{Saved}
use Rattle.store.specs.declared.saved.Stopped.{Stopped}
use Rattle.store.specs.declared.saved.Stopped.TheVariants.{Refused, PowerLost}
use Rattle.store.specs.State.{State, Outcome, open_mode}

abbrev pub state_of : Record → List ℕ → List ℕ → List ℕ → State
state_of r settled waiting work = record { rec = r; settled = settled; waiting = waiting; work = work }

-- the record that a format leaves; its save number is "0 at format"
abbrev pub fresh : ℕ → Record
fresh N = record { mode = open_mode; blocks = N; opened = 0; grouped = 0; logged = 0; waiting = 0; power = 1000000; sum = start; save = 0 }

-- the number, the orders carried out, the record and the buffers after the call
abbrev pub outcome_of : ℕ → ℕ → Record → List ℕ → List ℕ → List ℕ → Outcome
outcome_of number orders r settled waiting work = record { answer = number; orders = orders; state = state_of r settled waiting work }

-- a call that gives no orders: the record that it hands back; or the number that refuses it, and the record as it was
abbrev pub answered : Result Record Refusal → Record → List ℕ → List ℕ → List ℕ → Outcome
answered (Ok r) before settled waiting work = outcome_of 0 0 r settled waiting work
answered (Err refusal) before settled waiting work = outcome_of (number_of refusal) 0 before settled waiting work

-- a call that gives orders; 4 where its power was gone before the last of them
abbrev pub ended_as : Result Saved Stopped → Record → List ℕ → List ℕ → List ℕ → Outcome
ended_as (Ok s) before settled waiting work = outcome_of 0 s.orders s.rec settled waiting work
ended_as (Err (Refused refusal)) before settled waiting work = outcome_of (number_of refusal) 0 before settled waiting work
ended_as (Err (PowerLost s)) before settled waiting work = outcome_of 4 s.orders s.rec settled waiting work

-- a place that holds a whole block: one of the settled blocks, or that of an entry in the waiting bytes or in work memory
abbrev pub HoldsBlock : Place → List ℕ → List ℕ → List ℕ → Type 0
HoldsBlock (Settled o) settled waiting work = (o % block_bytes ≡ 0) × (o / block_bytes < blocks_in settled) × (o / block_bytes < most_blocks)
HoldsBlock (Waiting o) settled waiting work = (o % entry_bytes ≡ 4) × (entry_bytes * (o / entry_bytes) + entry_bytes ≤ length waiting)
HoldsBlock (Work o) settled waiting work = (o % entry_bytes ≡ 4) × (entry_bytes * (o / entry_bytes) + entry_bytes ≤ length work)
HoldsBlock Nowhere settled waiting work = Unit {0}
