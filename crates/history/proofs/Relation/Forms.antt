-- What a call comes to: refused; or, where nothing refuses it, done without orders, or its orders carried out. `form` is the list of the
-- calls by which the lengths of the buffers and the theorem of refusals go.
use Rattle.std.specs.Prelude.{Option, Some, None}
use Prim.Native.Nat.{ℕ, zero, suc, ◌+◌}
use mathlib.Core.Path.{◌≡◌, refl, ap, sym, ◌∙◌}
use mathlib.Core.Logic.{◌≢◌}
use mathlib.Core.Bool.{Bool, true, false, cond, ◌&&◌}
use mathlib.Core.List.{List, []}
use native.Mathlib.Omega.{arith}
use borrow.Author.Tests.{eqb-true, ne_eqb}
use lib.Dec.{eqb, leb}
use lib.ListN.{length, length-replicate}
use Rattle.cells.specs.Cell.Laws.{length_set_cell}
use Rattle.cells.specs.Upto.Laws.{length-up_to}
use Rattle.cells.specs.Entry.{Entry}
use Rattle.cells.specs.Entry.Laws.{length-set_entry}
use Rattle.fnv.specs.Fnv.{start}
use Rattle.card.specs.Card as Card
use Rattle.card.specs.Card.{Order}
use Rattle.card.proofs.Runs.{run_lengths}
use Rattle.card.proofs.Cuts.{cut-length}
use Rattle.journal.specs.Geometry.{Geometry}
use Rattle.journal.specs.Log.{entries, sum_of, slot_entry}
use Rattle.journal.specs.Orders.{checkpoint_orders}
use Rattle.journal.proofs.OrderLists.{length-checkpoint}
use Rattle.store.specs.declared.record.Record.{Record}
use Rattle.store.specs.Local as Local
use Rattle.store.specs.Save as Save
use Rattle.store.specs.Request.{Request, format, local, direct, save, cut, get, get_list, sync, apply, recover}
use Rattle.store.specs.State.{State, Outcome, with_log, with_grouped, with_save, card_in}
use Rattle.store.specs.Lists.{open_from, group_from, listed, find}
use Rattle.store.specs.Causes.{cause}
use Rattle.store.specs.Outcomes.{refused, completed, unless}
use Rattle.store.specs.Format.{formatted}
use Rattle.store.specs.Put.{put_at}
use Rattle.store.specs.Commit.{Group, join_at, join, joined}
use Rattle.store.specs.Saves.{carried, group_of, applies, met_by_append, saved_as, inner_orders}
use Rattle.store.proofs.Saves.{apply-carried}
use Rattle.history.specs.Dispatch.{served, called}
use Rattle.history.specs.Refusals.{orders_of, inner_done}

-- ---- a refused call leaves everything

module _ (geo : Geometry) where
  pub called-refused : (q : Request) (st : State) → cause geo q st ≢ 0 → called geo q st ≡ refused (cause geo q st) st
  unfolding called
  called-refused q st h = ap (λ (t : Bool). cond t (served geo q st) (refused (cause geo q st) st)) (ne_eqb (cause geo q st) 0 h)

-- ---- no call changes a buffer's length

pub record SameSizes (st st' : State) : Type 0 where
  pub settled : length st'.settled ≡ length st.settled
  pub waiting : length st'.waiting ≡ length st.waiting
  pub work : length st'.work ≡ length st.work

same_size : (st : State) → SameSizes st st
same_size st = record { settled = refl; waiting = refl; work = refl }

unless_sized : (k : ℕ) (st : State) (o : Outcome) → SameSizes st o.state → SameSizes st (unless k st o).state
unless_sized k st o h = go (eqb k 0)
  where
    go : (t : Bool) → SameSizes st (cond t o (refused k st)).state
    go true = h
    go false = same_size st

carried_sized : (os : List Order) (done gone : Record) (st : State) → SameSizes st (carried os done gone st).state
unfolding carried
carried_sized os done gone st = record { settled = (run_lengths os (card_in st)).0; waiting = (run_lengths os (card_in st)).1; work = refl }

put_sized : (f : Option ℕ) (e : Entry) (st : State) → SameSizes st (put_at f e st)
put_sized (Some i) e st = record { settled = refl; waiting = refl; work = length-set_entry st.work i e }
put_sized None e st = record { settled = refl; waiting = refl; work = length-set_entry st.work st.rec.opened e }

module _ (geo : Geometry) where
  join_sized : (f : Option ℕ) (e : Entry) (g : Group) → length (join_at geo f e g).work ≡ length g.work
  join_sized (Some i) e g = length-set_entry g.work _ e
  join_sized None e g = length-set_entry g.work _ e

  one_sized : (e : Entry) (g : Group) → length (join geo e g).work ≡ length g.work
  unfolding join
  one_sized e g = join_sized (find g.work (group_from geo) g.count e.address) e g

  joined_sized : (n : ℕ) (g : Group) → length (joined geo n g).work ≡ length g.work
  unfolding joined
  joined_sized zero g = refl
  joined_sized (suc n) g = one_sized (listed g.work open_from n) (joined geo n g) ∙ joined_sized n g

format_sized : (st : State) → SameSizes st (formatted st)
unfolding formatted
format_sized st = record {
  settled = simp (length_set_cell, length-replicate);
  waiting = length-replicate {A = ℕ} (length st.waiting) 0;
  work = length-replicate {A = ℕ} (length st.work) 0;
}

cut_sized : (ms : List ℕ) (st : State) → length (Card.cut ms (card_in st)).settled ≡ length st.settled
cut_sized ms st = cut-length ms (card_in st)

cut-queue : (ms : List ℕ) (st : State) → (Card.cut ms (card_in st)).waiting ≡ st.waiting
unfolding Card.cut
cut-queue ms st = refl

-- ---- every call, by its cause

-- the record that a call cut short leaves, its mode and its queue apart: that before the call, or the same with an empty log
abbrev pub left : Bool → State → Record
left t st = cond t (with_log 0 start st.rec) st.rec

module _ (geo : Geometry) where
  -- t: the call is a sync whose apply was done
  pub record AppliedFirst (q : Request) (st : State) (t : Bool) : Type 0 where
    pub is : q ≡ sync → inner_done geo st ≡ t
    pub not : (q ≡ sync → inner_done geo st ≡ false) → t ≡ false

  -- where nothing refuses: no orders, and done; or orders
  pub data Form (q : Request) (st : State) : Type 0 where
    quiet : (now : State) → called geo q st ≡ unless (cause geo q st) st (completed now) → orders_of geo q st ≡ [] → SameSizes st now → Form q st
    gives : (t : Bool) (done : Record) → called geo q st ≡ unless (cause geo q st) st (carried (orders_of geo q st) done (left t st) st) → AppliedFirst q st t → Form q st

-- what holds of the refusal, and of the outcome where nothing refuses
pub unless_either : (P : Outcome → Type 0) (k : ℕ) (st : State) (o : Outcome) → (k ≡ 0 → P o) → P (refused k st) → P (unless k st o)
unless_either P k st o done turned = go (eqb k 0) refl
  where
    go : (t : Bool) → eqb k 0 ≡ t → P (cond t o (refused k st))
    go true p = done (eqb-true k 0 p)
    go false p = turned

module _ (geo : Geometry) where
  -- a get leaves everything, refused or not, and answers its cause
  pub get-called : (a : ℕ) (st : State) → called geo (get a) st ≡ refused (cause geo (get a) st) st
  unfolding called
  get-called a st =
      unless_either (λ o. o ≡ refused (cause geo (get a) st) st) (cause geo (get a) st) st (completed st) (λ e. ap (λ (n : ℕ). refused n st) (sym e)) refl

  -- and so does a list of them
  pub list-called : (xs bs : List ℕ) (st : State) → called geo (get_list xs bs) st ≡ refused (cause geo (get_list xs bs) st) st
  unfolding called
  list-called xs bs st =
      unless_either (λ o. o ≡ refused (cause geo (get_list xs bs) st) st) (cause geo (get_list xs bs) st) st (completed st) (λ e. ap (λ (n : ℕ). refused n st) (sym e)) refl

  -- the record that a sync leaves when cut short: that before the call, or the same with an empty log
  sync-left : (st : State) → cond (leb (length (inner_orders geo st)) st.rec.power) (met_by_append geo st) st.rec ≡ left (inner_done geo st) st
  sync-left st = go (applies geo st)
    where
      N : ℕ
      N = st.rec.blocks

      c : ℕ
      c = st.rec.save

      log : List Entry
      log = entries geo st.settled st.rec.logged

      either : (t : Bool) → cond t st.rec st.rec ≡ st.rec
      either true = refl
      either false = refl

      go : (t : Bool)
          → cond (leb (length (cond t (checkpoint_orders N c log) [])) st.rec.power) (cond t (with_log 0 start st.rec) st.rec) st.rec
          ≡ cond (t && leb (st.rec.logged + 3) st.rec.power) (with_log 0 start st.rec) st.rec
      go true = ap (λ (k : ℕ). cond (leb k st.rec.power) (with_log 0 start st.rec) st.rec) (length-checkpoint N c log ∙ ap (λ (k : ℕ). k + 3) (length-up_to (slot_entry geo st.settled) st.rec.logged))
      go false = either (leb 0 st.rec.power)

-- none of these is a sync
pub direct_other : (a : ℕ) (b : List ℕ) → direct a b ≡ sync → ⊥
direct_other a b e = let z : ◌≡◌ {A = ℕ} 0 1 = cc in omega arith

pub apply_other : apply ≡ sync → ⊥
apply_other e = let z : ◌≡◌ {A = ℕ} 0 1 = cc in omega arith

pub recover_other : recover ≡ sync → ⊥
recover_other e = let z : ◌≡◌ {A = ℕ} 0 1 = cc in omega arith

module _ (geo : Geometry) where
  pub form : (q : Request) (st : State) → Form geo q st
  unfolding called
  form format st = quiet _ refl refl (format_sized st)
  form (local (Local.power k)) st = quiet _ refl refl (record { settled = refl; waiting = refl; work = refl })
  form (local (Local.put a b)) st = quiet _ refl refl (put_sized (find st.work open_from st.rec.opened a) (record { address = a; block = b }) st)
  form (local (Local.get a)) st = quiet _ refl refl (same_size st)
  form (local (Local.get_list xs bs)) st = quiet _ refl refl (same_size st)
  form (local Local.commit) st =
      quiet _ refl refl (record { settled = refl; waiting = refl; work = joined_sized geo st.rec.opened (record { work = st.work; count = st.rec.grouped }) })
  form (local Local.abandon) st = quiet _ refl refl (record { settled = refl; waiting = refl; work = refl })
  form (direct a b) st = gives false st.rec refl (record { is = λ e. absurd (direct_other a b e); not = λ h. refl })
  form (save Save.sync) st =
      let done = with_grouped 0 (with_log ((met_by_append geo st).logged + st.rec.grouped) (sum_of (met_by_append geo st).sum (group_of geo st)) (with_save (saved_as st) (met_by_append geo st))) in
      gives (inner_done geo st) done (ap (λ (r : Record). unless (cause geo sync st) st (carried (orders_of geo sync st) done r st)) (sync-left geo st)) (record { is = λ e. refl; not = λ h. h refl })
  form (save Save.apply) st =
      gives false _ (ap (λ (o : Outcome). unless (cause geo apply st) st o) (apply-carried geo st)) (record { is = λ e. absurd (apply_other e); not = λ h. refl })
  form (save Save.recover) st = gives false _ refl (record { is = λ e. absurd (recover_other e); not = λ h. refl })
  form (cut ms) st = quiet _ refl refl (record { settled = cut_sized ms st; waiting = ap length (cut-queue ms st); work = refl })

  -- no call changes a buffer's length
  pub called_sized : (q : Request) (st : State) → SameSizes st (called geo q st).state
  called_sized q st = go (form q st)
    where
      go : Form geo q st → SameSizes st (called geo q st).state
      go (quiet now call none sized) = rw call (unless_sized (cause geo q st) st (completed now) sized)
      go (gives t done call first) = rw call (unless_sized (cause geo q st) st (carried (orders_of geo q st) done (left t st) st) (carried_sized (orders_of geo q st) done (left t st) st))
