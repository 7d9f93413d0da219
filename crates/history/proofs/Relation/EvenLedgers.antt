-- Ledgers whose lists are as long and have the same sums: what a collision leaves of the log written.
use Prim.Native.Nat.{ℕ, suc}
use mathlib.Core.Path.{◌≡◌, refl, ◌∙◌}
use mathlib.Core.Bool.{Bool, true, false, cond}
use mathlib.Core.List.{List, [], ◌∷◌}
use lib.Dec.{eqb, leb}
use lib.ListN.{length}
use Rattle.cells.specs.Entry.{Entry}
use Rattle.fnv.specs.Fnv.{start}
use Rattle.card.specs.Marks.{kept_at}
use Rattle.journal.specs.Geometry.{Geometry}
use Rattle.journal.specs.Log.{sum_of}
use Rattle.store.specs.State.{State}
use Rattle.history.specs.Call.{Call, local, direct, save, cut}
use Rattle.history.specs.Dispatch.{dispatch}
use Rattle.history.specs.Ledger.{PlannedHeader, Pending, nothing, waits, Ledger, settled_by, waits_behind, headers_of, noted, resolved, entered}

-- as long, with the same sum
abbrev pub EvenLists : List Entry → List Entry → Type 0
EvenLists a b = (length a ≡ length b) × (sum_of start a ≡ sum_of start b)

abbrev pub EvenPending : Pending → Pending → Type 0
EvenPending nothing nothing = Unit {0}
EvenPending nothing (waits q b) = ⊥
EvenPending (waits p a) nothing = ⊥
EvenPending (waits p a) (waits q b) = (p ≡ q) × EvenLists a b

pub record Even (l m : Ledger) : Type 0 where
  pub written : EvenLists l.written m.written
  pub pending : EvenPending l.pending m.pending

pending_refl : (p : Pending) → EvenPending p p
pending_refl nothing = tt
pending_refl (waits p a) = (refl, (refl, refl))

pub even_refl : (l : Ledger) → Even l l
even_refl l = record { written = (refl, refl); pending = pending_refl l.pending }

pending_trans : (p q r : Pending) → EvenPending p q → EvenPending q r → EvenPending p r
pending_trans nothing nothing r e f = f
pending_trans nothing (waits q b) r e f = absurd e
pending_trans (waits p a) nothing r e f = absurd e
pending_trans (waits p a) (waits q b) nothing e f = absurd f
pending_trans (waits p a) (waits q b) (waits r c) e f = (e.0 ∙ f.0, (e.1.0 ∙ f.1.0, e.1.1 ∙ f.1.1))

pub even_trans : (k l m : Ledger) → Even k l → Even l m → Even k m
even_trans k l m e f = record { written = (e.written.0 ∙ f.written.0, e.written.1 ∙ f.written.1); pending = pending_trans k.pending l.pending m.pending e.pending f.pending }

-- a call's headers are the same for both
noted_even : (hs : List PlannedHeader) (k : ℕ) (l m : Ledger) → Even l m → Even (noted hs k l) (noted hs k m)
unfolding noted
noted_even [] k l m e = e
noted_even (h ∷ hs) k l m e =
    go (leb k h.at) (eqb k (suc h.at))
    (noted_even hs k (settled_by h.list) (settled_by h.list) (record { written = (refl, refl); pending = tt }))
  where
    go : (s t : Bool) → Even (noted hs k (settled_by h.list)) (noted hs k (settled_by h.list))
        → Even (cond s l (cond t (waits_behind h.place h.list l) (noted hs k (settled_by h.list))))
        (cond s m (cond t (waits_behind h.place h.list m) (noted hs k (settled_by h.list))))
    go true t r = e
    go false true r = record { written = e.written; pending = (refl, (refl, refl)) }
    go false false r = r

-- a cut decides the same for both
resolved_even : (ms : List ℕ) (p q : Pending) (a b : List Entry) → EvenPending p q → EvenLists a b → EvenLists (resolved ms p a) (resolved ms q b)
unfolding resolved
resolved_even ms nothing nothing a b e f = f
resolved_even ms nothing (waits q y) a b e f = absurd e
resolved_even ms (waits p x) nothing a b e f = absurd e
resolved_even ms (waits p x) (waits q y) a b e f = rw e.0 (go (kept_at ms q))
  where
    go : (t : Bool) → EvenLists (cond t x a) (cond t y b)
    go true = e.1
    go false = f

module _ (geo : Geometry) where
  pub entered_even : (c : Call) (st : State) (l m : Ledger) → Even l m → Even (entered geo c st l) (entered geo c st m)
  unfolding entered
  entered_even (local c) st l m e = e
  entered_even (direct a b) st l m e = e
  entered_even (save c) st l m e = noted_even (headers_of geo c st) (dispatch geo (save c) st).orders l m e
  entered_even (cut ms) st l m e = go (eqb (dispatch geo (cut ms) st).answer 0)
    where
      go : (t : Bool) → Even (cond t (settled_by (resolved ms l.pending l.written)) l) (cond t (settled_by (resolved ms m.pending m.written)) m)
      go true = record { written = resolved_even ms l.pending m.pending l.written m.written e.pending e.written; pending = tt }
      go false = e
