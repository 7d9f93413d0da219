-- A call that is no accepted cut, on a record that is not closed, leaves it not closed, and a save number that is one more at most, and the
-- same if it is the largest: so the largest stays to the end of a list without a cut.
use Rattle.std.specs.Prelude.{Option, Some, None}
use Prim.Native.Nat.{ℕ, ◌+◌, ◌≤◌}
use mathlib.Core.Path.{◌≡◌, refl, ap, sym, ◌∙◌}
use mathlib.Core.Logic.{◌≢◌}
use mathlib.Core.Bool.{Bool, true, false, cond, not, ◌&&◌, true≢false}
use mathlib.Core.List.{List, [], ◌∷◌}
use native.Mathlib.Omega.{arith}
use borrow.Author.Tests.{eq-eqb, eqb-false}
use lib.Dec.{eqb, leb}
use lib.ListN.{length}
use Rattle.fnv.specs.Fnv.{start}
use Rattle.card.specs.Card.{Order}
use Rattle.journal.specs.Geometry.{Geometry}
use Rattle.journal.specs.Header.{most_save}
use Rattle.store.specs.declared.record.Record.{Record}
use Rattle.store.specs.Local.{Local}
use Rattle.store.specs.Save.{Save}
use Rattle.store.specs.Request as Request
use Rattle.store.specs.State.{State, Outcome, closed, open_mode, down, with_mode, with_log}
use Rattle.store.specs.Lists.{open_from, find}
use Rattle.store.specs.Causes.{cause}
use Rattle.store.specs.Outcomes.{completed}
use Rattle.store.specs.Put.{put_at}
use Rattle.store.specs.Saves.{carried, emptying, saved_as, met_by_append, inner_orders, applies, syncing, applying, save_orders}
use Rattle.store.specs.Direct.{direct_orders, directing}
use Rattle.history.specs.Call.{Call, local, direct, save, cut}
use Rattle.history.specs.Dispatch.{called, dispatch, served_local, served_save, served}
use Rattle.history.specs.AlikeCards.{Uncut, left}
use Rattle.history.proofs.Relation.CauseLaws.{record_facts, cause_passes}
use Rattle.history.proofs.Relation.Forms.{unless_either}
use Rattle.history.proofs.Steps.Cut.{cut-served}

-- what it comes to, from a state
pub record Goes (st : State) (o : Outcome) : Type 0 where
  pub mode : o.state.rec.mode ≢ closed
  pub last : st.rec.save ≡ most_save → o.state.rec.save ≡ most_save
  pub next : o.state.rec.save ≤ st.rec.save + 1

carried_goes : (os : List Order) (done gone : Record) (st : State) → done.mode ≢ closed → (st.rec.save ≡ most_save → done.save ≡ most_save) → done.save ≤ st.rec.save + 1
    → gone.save ≡ st.rec.save → Goes st (carried os done gone st)
unfolding carried
carried_goes os done gone st m d n g = record { mode = (go (leb (length os) st.rec.power)).0; last = (go (leb (length os) st.rec.power)).1; next = (go (leb (length os) st.rec.power)).2 }
  where
    go : (t : Bool)
        → ((cond t done (with_mode down gone)).mode ≢ closed)
        × (st.rec.save ≡ most_save → (cond t done (with_mode down gone)).save ≡ most_save)
        × ((cond t done (with_mode down gone)).save ≤ st.rec.save + 1)
    go true = (m, d, n)
    go false = ((λ e. omega arith), (λ e. g ∙ e), omega (arith, g))

module _ (geo : Geometry) (st : State) where
  pub cut_accepted : (ms : List ℕ) → cause geo (Request.cut ms) st ≡ 0 → (dispatch geo (cut ms) st).answer ≡ 0
  cut_accepted ms e = ap (λ (o : Outcome). o.answer) (cut-served geo ms st e)

module _ (geo : Geometry) (st : State) (z : st.rec.mode ≢ closed) where
  -- mode and number as they were
  kept : (o : Outcome) → o.state.rec.mode ≡ st.rec.mode → o.state.rec.save ≡ st.rec.save → Goes st o
  kept o m n = record { mode = λ e. z (sym m ∙ e); last = λ e. n ∙ e; next = omega (arith, n) }

  local_goes : (c : Local) → Goes st (completed (served_local geo c st))
  local_goes (Local.power k) = kept _ refl refl
  local_goes (Local.put a b) = go (find st.work open_from st.rec.opened a)
    where
      go : (r : Option ℕ) → Goes st (completed (put_at r (record { address = a; block = b }) st))
      go (Some i) = kept _ refl refl
      go None = kept _ refl refl
  local_goes (Local.get a) = kept _ refl refl
  local_goes (Local.get_list xs bs) = kept _ refl refl
  local_goes Local.commit = kept _ refl refl
  local_goes Local.abandon = kept _ refl refl

  direct_goes : (a : ℕ) (b : List ℕ) → Goes st (directing geo a b st)
  direct_goes a b = carried_goes (direct_orders geo a b st) st.rec st.rec st z (λ e. e) (omega arith) refl

  met_mode : (met_by_append geo st).mode ≡ st.rec.mode
  met_mode = go (applies geo st)
    where
      go : (t : Bool) → (cond t (with_log 0 start st.rec) st.rec).mode ≡ st.rec.mode
      go true = refl
      go false = refl

  gone_save : (t : Bool) → (cond t (met_by_append geo st) st.rec).save ≡ st.rec.save
  gone_save true = go (applies geo st)
    where
      go : (t : Bool) → (cond t (with_log 0 start st.rec) st.rec).save ≡ st.rec.save
      go true = refl
      go false = refl
  gone_save false = refl

  -- a sync that meets the largest number has an empty group
  kept_number : cause geo Request.sync st ≡ 0 → st.rec.save ≡ most_save → saved_as st ≡ most_save
  kept_number e s =
      let row : not (eqb st.rec.grouped 0) && eqb st.rec.save most_save ≡ false = (cause_passes geo Request.sync st e).own.0 in
      go (eqb st.rec.grouped 0) (ap (λ (t : Bool). not (eqb st.rec.grouped 0) && t) (sym (eq-eqb _ _ s)) ∙ row)
    where
      go : (t : Bool) → not t && true ≡ false → cond t st.rec.save (st.rec.save + 1) ≡ most_save
      go true q = s
      go false q = absurd (true≢false q)

  -- and counts one at most
  next_number : saved_as st ≤ st.rec.save + 1
  next_number = go (eqb st.rec.grouped 0)
    where
      go : (t : Bool) → cond t st.rec.save (st.rec.save + 1) ≤ st.rec.save + 1
      go true = omega arith
      go false = omega arith

  sync_goes : cause geo Request.sync st ≡ 0 → Goes st (syncing geo st)
  sync_goes e =
      carried_goes (save_orders geo Save.sync st) _ _ st (λ q. z (sym met_mode ∙ q)) (kept_number e) next_number (gone_save (leb (length (inner_orders geo st)) st.rec.power))

  apply_goes : Goes st (applying geo st)
  apply_goes = go (eqb st.rec.logged 0)
    where
      go : (t : Bool) → Goes st (cond t (completed st) (emptying geo st))
      go true = kept _ refl refl
      go false = carried_goes _ _ _ st z (λ e. e) (omega arith) refl

  -- a recover that is not refused meets a closed record
  pub recover-refused : cause geo Request.recover st ≡ 0 → ⊥
  recover-refused e =
      let p = cause_passes geo Request.recover st e in
      let a : st.rec.mode ≢ down = eqb-false _ _ p.own.0 in
      let b : st.rec.mode ≢ open_mode = eqb-false _ _ p.own.1.0 in
      let k : st.rec.mode ≤ down = (record_facts geo st p.counts).mode in
      z (omega arith)

  pub goes : (c : Call) → ((ms : List ℕ) → c ≡ cut ms → (dispatch geo c st).answer ≢ 0) → Goes st (dispatch geo c st)
  unfolding called
  goes (local c) u = unless_either (Goes st) (cause geo (Request.local c) st) st (completed (served_local geo c st)) (λ e. local_goes c) (kept _ refl refl)
  goes (direct a b) u = unless_either (Goes st) (cause geo (Request.direct a b) st) st (directing geo a b st) (λ e. direct_goes a b) (kept _ refl refl)
  goes (save Save.sync) u = unless_either (Goes st) (cause geo Request.sync st) st (syncing geo st) sync_goes (kept _ refl refl)
  goes (save Save.apply) u = unless_either (Goes st) (cause geo Request.apply st) st (applying geo st) (λ e. apply_goes) (kept _ refl refl)
  goes (save Save.recover) u = unless_either (Goes st) (cause geo Request.recover st) st (served_save geo Save.recover st) (λ e. absurd (recover-refused e)) (kept _ refl refl)
  goes (cut ms) u =
      unless_either (Goes st) (cause geo (Request.cut ms) st) st (served geo (Request.cut ms) st)
      (λ e. absurd (u ms refl (cut_accepted geo st ms e)))
      (kept _ refl refl)

module _ (geo : Geometry) where
  -- so the largest save number stays to the end of a list without a cut
  pub stays_last : (cs : List Call) (st : State) → st.rec.mode ≢ closed → Uncut geo cs st → st.rec.save ≡ most_save → (left geo cs st).rec.save ≡ most_save
  unfolding left
  stays_last [] st z u e = e
  stays_last (c ∷ cs) st z u e = let g = goes geo st z c u.0 in stays_last cs (dispatch geo c st).state g.mode u.1 (g.last e)

  -- and any number grows by one at most with each call
  pub grows : (cs : List Call) (st : State) → st.rec.mode ≢ closed → Uncut geo cs st → (left geo cs st).rec.save ≤ st.rec.save + length cs
  unfolding left
  grows [] st z u = omega arith
  grows (c ∷ cs) st z u = let g = goes geo st z c u.0 in let rest = grows cs (dispatch geo c st).state g.mode u.1 in omega (arith, g.next, rest)
