-- A card of 64 blocks that format takes: the card of zeros.
use Prim.Native.Nat.{ℕ, ◌/◌, ◌*◌}
use mathlib.Core.Path.{◌≡◌, ap}
use mathlib.Core.List.{List}
use lib.Dec.{lit≤}
use lib.ListN.{length, replicate, length-replicate}
use Rattle.cells.specs.Entry.{block_bytes}
use Rattle.card.specs.Card.{blocks_in}
use Rattle.journal.specs.Geometry.{trap}
use Rattle.store.specs.declared.record.Record.{Record}
use Rattle.store.specs.State.{State}
use Rattle.store.specs.CodeState.{state_of, fresh as fresh_record}
use Rattle.store.specs.Causes.{waiting_bytes, work_bytes}
use Rattle.store.specs.Format.{format_call}
use Rattle.history.proofs.Boundary.Formats.{zeros-served}

naughts : ℕ → List ℕ
naughts n = replicate n 0

length_naughts : (n : ℕ) → length (naughts n) ≡ n
unfolding naughts
length_naughts n = length-replicate n 0

taken : (r : Record) (q k : List ℕ) → length q ≡ waiting_bytes trap → length k ≡ work_bytes trap → (format_call trap (state_of r (naughts (block_bytes * 64)) q k)).answer ≡ 0
unfolding naughts trap
taken r q k a b = zeros-served trap 64 (lit≤ tt) (lit≤ tt) r q k a b

pub blank : (st : State) × ((format_call trap st).answer ≡ 0) × (blocks_in st.settled ≡ 64)
blank =
    let s = naughts (block_bytes * 64) in
    let q = naughts (waiting_bytes trap) in
    let k = naughts (work_bytes trap) in
    (state_of (fresh_record 64) s q k, taken (fresh_record 64) q k (length_naughts (waiting_bytes trap)) (length_naughts (work_bytes trap)), ap (λ (x : ℕ). x / block_bytes) (length_naughts (block_bytes * 64)))
