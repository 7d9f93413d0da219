-- The logs found after cut 101 and behind the torn log block, and the log written: other lists, with other sums.
use Prim.Native.Nat.{ℕ}
use mathlib.Core.Path.{◌≡◌, refl, ap, ap₂, ◌∙◌}
use mathlib.Core.Bool.{true, false}
use mathlib.Core.List.{List, [], ◌∷◌}
use lib.Dec.{eqb}
use Rattle.cells.specs.Little.{le}
use Rattle.cells.specs.Little.Laws.{le_zero, le_suc}
use Rattle.cells.specs.Entry.{Entry}
use Rattle.cells.specs.Same.{same}
use Rattle.cells.specs.Same.Laws.{same_self}
use Rattle.fnv.specs.Fnv.{start, step, sum_from}
use Rattle.journal.specs.Log.{sum_of}
use Rattle.journal.proofs.Logs.{sum_of-append, sum_of-one}
use Rattle.history.specs.Ledger.{same_log, collides}
use Rattle.card.specs.Card.{torn}
use Rattle.history.specs.Worked.{sevens, nines, at40}
use Rattle.history.proofs.Worked.TornMarks.{halved}

pub forty : le 4 40 ≡ 40 ∷ 0 ∷ 0 ∷ 0 ∷ []
forty = rw (le_suc 3 40, le_suc 2 0, le_suc 1 0, le_suc 0 0, le_zero 0)

naught : le 4 0 ≡ 0 ∷ 0 ∷ 0 ∷ 0 ∷ []
naught = rw (le_suc 3 0, le_suc 2 0, le_suc 1 0, le_suc 0 0, le_zero 0)

-- the first entry
sum_first : sum_from (sum_from start (40 ∷ 0 ∷ 0 ∷ 0 ∷ [])) sevens ≡ 16658246527270002781
unfolding sum_from step sevens
sum_first = refl

-- the second, as written and as found
sum-written : sum_from (sum_from 16658246527270002781 (40 ∷ 0 ∷ 0 ∷ 0 ∷ [])) nines ≡ 8305000308539619397
unfolding sum_from step nines
sum-written = refl

sum-found : sum_from (sum_from 16658246527270002781 (0 ∷ 0 ∷ 0 ∷ 0 ∷ [])) nines ≡ 6262144168982186669
unfolding sum_from step nines
sum-found = refl

sum-halved : sum_from (sum_from 16658246527270002781 (40 ∷ 0 ∷ 0 ∷ 0 ∷ [])) halved ≡ 5213699731820803909
unfolding sum_from step nines halved torn
sum-halved = refl

-- two entries, by the bytes of their addresses
sum_two : (e f : Entry) (a b : List ℕ) → le 4 e.address ≡ a → le 4 f.address ≡ b
    → sum_of start (e ∷ f ∷ []) ≡ sum_from (sum_from (sum_from (sum_from start a) e.block) b) f.block
sum_two e f a b p q =
    sum_of-append start (e ∷ []) (f ∷ [])
    ∙ ap (λ (h : ℕ). sum_of h (f ∷ [])) (sum_of-one start e ∙ ap (λ (x : List ℕ). sum_from (sum_from start x) e.block) p)
    ∙ sum_of-one (sum_from (sum_from start a) e.block) f
    ∙ ap (λ (x : List ℕ). sum_from (sum_from (sum_from (sum_from start a) e.block) x) f.block) q

sum_of_written : sum_of start (at40 sevens ∷ at40 nines ∷ []) ≡ 8305000308539619397
sum_of_written = sum_two (at40 sevens) (at40 nines) _ _ forty forty ∙ ap (λ (h : ℕ). sum_from (sum_from h (40 ∷ 0 ∷ 0 ∷ 0 ∷ [])) nines) sum_first ∙ sum-written

other_sum : eqb (sum_of start (at40 sevens ∷ record { address = 0; block = nines } ∷ [])) (sum_of start (at40 sevens ∷ at40 nines ∷ [])) ≡ false
other_sum =
    ap₂ eqb
    (sum_two (at40 sevens) (record { address = 0; block = nines }) _ _ forty naught
    ∙ ap (λ (h : ℕ). sum_from (sum_from h (0 ∷ 0 ∷ 0 ∷ 0 ∷ [])) nines) sum_first ∙ sum-found)
    sum_of_written

halved-sum : eqb (sum_of start (at40 sevens ∷ at40 halved ∷ [])) (sum_of start (at40 sevens ∷ at40 nines ∷ [])) ≡ false
halved-sum =
    ap₂ eqb
    (sum_two (at40 sevens) (at40 halved) _ _ forty forty
    ∙ ap (λ (h : ℕ). sum_from (sum_from h (40 ∷ 0 ∷ 0 ∷ 0 ∷ [])) halved) sum_first ∙ sum-halved)
    sum_of_written

-- ---- the logs found and the log written

abbrev pub log-written : List Entry
log-written = at40 sevens ∷ at40 nines ∷ []

abbrev pub log-found : List Entry
log-found = at40 sevens ∷ record { address = 0; block = nines } ∷ []

pub other_log : same_log log-found log-written ≡ false
unfolding same_log
other_log = rw (same_self sevens)

pub no_collision : collides log-found log-written ≡ false
unfolding collides
no_collision = rw (other_log, other_sum)

-- behind the torn log block
abbrev pub log-halved : List Entry
log-halved = at40 sevens ∷ at40 halved ∷ []

unlike : same halved nines ≡ false
unfolding same nines halved torn
unlike = refl

pub halved-log : same_log log-halved log-written ≡ false
unfolding same_log
halved-log = rw (same_self sevens, unlike)

pub halved_no_collision : collides log-halved log-written ≡ false
unfolding collides
halved_no_collision = rw (halved-log, halved-sum)

-- the same log collides with nothing
pub same_fits : (a b : List Entry) → same_log a b ≡ true → collides a b ≡ false
unfolding collides
same_fits a b h = rw h
