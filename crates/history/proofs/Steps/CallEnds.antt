-- A list of orders carried out: with power for all of them, and without.
use Prim.Native.Nat.{ℕ, ◌≤◌, ◌<◌, min}
use mathlib.Core.Path.{◌≡◌, ap}
use mathlib.Core.List.{List}
use native.Mathlib.Omega.{arith}
use borrow.Author.Tests.{le-leb, lt-leb}
use lib.ListN.{length}
use Rattle.card.specs.Card.{Order, run}
use Rattle.store.specs.declared.record.Record.{Record}
use Rattle.store.specs.State.{State, down, with_mode, with_record, with_card, card_in}
use Rattle.store.specs.Saves.{carried}

pub carried-done : (os : List Order) (done gone : Record) (st : State) → length os ≤ st.rec.power
    → carried os done gone st ≡ record { answer = 0; orders = length os; state = with_card (run os (card_in st)) (with_record done st) }
unfolding carried
carried-done os done gone st h = rw (le-leb _ _ h) (ap (λ (k : ℕ). record { answer = 0; orders = k; state = with_card (run os (card_in st)) (with_record done st) }) (let e : min (length os) st.rec.power ≡ length os = omega arith in e))

pub carried-short : (os : List Order) (done gone : Record) (st : State) → st.rec.power < length os
    → carried os done gone st ≡ record { answer = 4; orders = st.rec.power; state = with_card (run os (card_in st)) (with_record (with_mode down gone) st) }
unfolding carried
carried-short os done gone st h = rw (lt-leb _ _ h) (ap (λ (k : ℕ). record { answer = 4; orders = k; state = with_card (run os (card_in st)) (with_record (with_mode down gone) st) }) (let e : min (length os) st.rec.power ≡ st.rec.power = omega arith in e))
