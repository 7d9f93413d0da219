-- The headers of a call in the ledger, by the orders carried out.
use Prim.Native.Nat.{ℕ, suc, ◌≤◌, ◌<◌}
use mathlib.Core.Path.{◌≡◌, refl}
use mathlib.Core.List.{List, [], ◌∷◌}
use native.Mathlib.Omega.{arith}
use borrow.Author.Tests.{eq-eqb, ne_eqb, le-leb, lt-leb}
use Rattle.history.specs.Ledger.{Ledger, PlannedHeader, noted, waits_behind, settled_by}

pub note_before : (x : PlannedHeader) (hs : List PlannedHeader) (k : ℕ) (l : Ledger) → k ≤ x.at → noted (x ∷ hs) k l ≡ l
unfolding noted
note_before x hs k l h = rw (le-leb _ _ h)

pub note_at : (x : PlannedHeader) (hs : List PlannedHeader) (k : ℕ) (l : Ledger) → k ≡ suc x.at → noted (x ∷ hs) k l ≡ waits_behind x.place x.list l
unfolding noted
note_at x hs k l h = rw (lt-leb k x.at (omega arith), eq-eqb k (suc x.at) h)

pub note_past : (x : PlannedHeader) (hs : List PlannedHeader) (k : ℕ) (l : Ledger) → suc x.at < k → noted (x ∷ hs) k l ≡ noted hs k (settled_by x.list)
unfolding noted
note_past x hs k l h = rw (lt-leb k x.at (omega arith), ne_eqb k (suc x.at) (λ e. omega arith))

pub noted_end : (k : ℕ) (l : Ledger) → noted [] k l ≡ l
unfolding noted
noted_end k l = refl
