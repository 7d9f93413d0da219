-- The place of a get holds a whole block, and the part promised there has the bytes that the statements speak of.
use Rattle.std.specs.Prelude.{Option, Some, None}
use Prim.Native.Nat.{ℕ, ◌<◌}
use mathlib.Core.Path.{◌≡◌, refl, sym}
use mathlib.Core.Bool.{Bool, true, false, cond}
use mathlib.Core.List.{List}
use native.Mathlib.Omega.{arith}
use borrow.Author.Tests.{eqb-true, ltb-true, not-false}
use denote.Ref.{Bor}
use lib.Dec.{eqb, leb, ltb}
use lib.ListN.{length, length-take, length-drop}
use Rattle.cells.specs.Entry.{block_bytes}
use Rattle.journal.specs.Geometry.{Geometry}
use Rattle.journal.specs.Layout.{is_data, first_data}
use Rattle.journal.specs.Log.{slot_address}
use Rattle.journal.specs.Lookup.{last_slot}
use Rattle.journal.proofs.Choices.{both}
use Rattle.store.specs.declared.place.Place.{Place}
use Rattle.store.specs.declared.place.Place.TheVariants.{Settled, Waiting, Work, Nowhere}
use Rattle.store.specs.declared.record.Record.{Record}
use Rattle.store.specs.State.{State}
use Rattle.store.specs.CodeState.{state_of, HoldsBlock}
use Rattle.store.specs.Lists.{open_from, group_from, find}
use Rattle.store.specs.Request.{get}
use Rattle.store.specs.Causes.{cause}
use Rattle.store.specs.Get.{waiting_from, find_waiting, home_place, waiting_place, log_place, group_place, open_place, newest, get_place, bytes_at, block_of, part_at}
use Rattle.store.proofs.Causes.{any_waits, Checked, cause_passes, passes_sound}
use Rattle.store.proofs.Lookups.{last_at, find_at}

module _ (geo : Geometry) where
  -- the address of a data block is below N
  pub data_lt : (N a : ℕ) → is_data geo N a ≡ true → a < N
  data_lt N a d = ltb-true a N (both (leb (first_data geo) a) (ltb a N) d).1

  pub newest_within : (a : ℕ) (st : State) → Checked geo st → is_data geo st.rec.blocks a ≡ true → HoldsBlock (newest geo a st) st.settled st.waiting st.work
  unfolding newest
  newest_within a st s d = in_open (find st.work open_from st.rec.opened a) refl
    where
      in_waiting : (f : Option ℕ) → find_waiting st a ≡ f → HoldsBlock (waiting_place f (home_place a)) st.settled st.waiting st.work
      in_waiting (Some k) e =
          let inside = find_at st.waiting waiting_from st.rec.waiting a k e in
          let few = any_waits geo st s.counts in
          omega arith
      in_waiting None e = let inside = data_lt st.rec.blocks a d in omega arith

      in_log : (f : Option ℕ) → last_slot st.settled a st.rec.logged ≡ f → HoldsBlock (log_place geo f (waiting_place (find_waiting st a) (home_place a))) st.settled st.waiting st.work
      in_log (Some k) e = let inside = last_at (slot_address st.settled) a st.rec.logged k e in omega arith
      in_log None e = in_waiting (find_waiting st a) refl

      in_group : (f : Option ℕ) → find st.work (group_from geo) st.rec.grouped a ≡ f → HoldsBlock (group_place geo f (log_place geo (last_slot st.settled a st.rec.logged) (waiting_place (find_waiting st a) (home_place a)))) st.settled st.waiting st.work
      in_group (Some j) e = let inside = find_at st.work (group_from geo) st.rec.grouped a j e in omega arith
      in_group None e = in_log (last_slot st.settled a st.rec.logged) refl

      in_open : (f : Option ℕ) → find st.work open_from st.rec.opened a ≡ f
          → HoldsBlock (open_place f (group_place geo (find st.work (group_from geo) st.rec.grouped a) (log_place geo (last_slot st.settled a st.rec.logged) (waiting_place (find_waiting st a) (home_place a))))) st.settled st.waiting st.work
      in_open (Some i) e = let inside = find_at st.work open_from st.rec.opened a i e in omega arith
      in_open None e = in_group (find st.work (group_from geo) st.rec.grouped a) refl

  pub get_within : (a : ℕ) (st : State) → HoldsBlock (get_place geo a st) st.settled st.waiting st.work
  unfolding get_place
  get_within a st = go (eqb (cause geo (get a) st) 0) refl
    where
      go : (t : Bool) → eqb (cause geo (get a) st) 0 ≡ t → HoldsBlock (cond t (newest geo a st) Nowhere) st.settled st.waiting st.work
      go true e =
          let z : cause geo (get a) st ≡ 0 = eqb-true _ _ e in
          newest_within a st (passes_sound geo (get a) st 0 refl (sym z) refl) (not-false _ (cause_passes geo (get a) st 0 (sym z) refl).own.0)
      go false e = tt

-- ---- the block of a get that is served has 512 bytes

abbrev Somewhere : Place → Type 0
Somewhere (Settled o) = Unit {0}
Somewhere (Waiting o) = Unit {0}
Somewhere (Work o) = Unit {0}
Somewhere Nowhere = ⊥

held_length : (p : Place) (st : State) → HoldsBlock p st.settled st.waiting st.work → Somewhere p → length (bytes_at p st) ≡ block_bytes
held_length (Settled o) st h s = rw (length-take, length-drop) (omega arith)
held_length (Waiting o) st h s = rw (length-take, length-drop) (omega arith)
held_length (Work o) st h s = rw (length-take, length-drop) (omega arith)
held_length Nowhere st h s = absurd s

module _ (geo : Geometry) where
  newest_somewhere : (a : ℕ) (st : State) → Somewhere (newest geo a st)
  unfolding newest
  newest_somewhere a st = in_open (find st.work open_from st.rec.opened a) (find st.work (group_from geo) st.rec.grouped a) (last_slot st.settled a st.rec.logged) (find_waiting st a)
    where
      in_open : (o g l w : Option ℕ) → Somewhere (open_place o (group_place geo g (log_place geo l (waiting_place w (home_place a)))))
      in_open (Some i) g l w = tt
      in_open None (Some i) l w = tt
      in_open None None (Some i) w = tt
      in_open None None None (Some i) = tt
      in_open None None None None = tt

  pub block_length : (a : ℕ) (st : State) → cause geo (get a) st ≡ 0 → length (block_of geo a st) ≡ block_bytes
  unfolding get_place
  block_length a st z = held_length (get_place geo a st) st (get_within geo a st) (rw (z) (newest_somewhere a st))

pub part_bytes : (p : Place) (r : Record) (settled waiting work : Bor (List ℕ)) → (part_at p settled waiting work).bytes ≡ bytes_at p (state_of r settled.now waiting.now work.now)
part_bytes (Settled o) r s w k = refl
part_bytes (Waiting o) r s w k = refl
part_bytes (Work o) r s w k = refl
part_bytes Nowhere r s w k = refl
