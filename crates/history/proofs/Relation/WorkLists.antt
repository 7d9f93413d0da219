-- Lists in work memory against the plain disk's lists: an entry set, put, commit, get.
use Rattle.std.specs.Prelude.{Option, Some, None}
use Prim.Native.Nat.{ℕ, zero, suc, ◌+◌, ◌*◌, ◌≤◌, ◌<◌}
use mathlib.Core.Path.{◌≡◌, refl, ap, ap₂, sym, ◌∙◌}
use mathlib.Core.Bool.{Bool, true, false, cond, ◌||◌}
use mathlib.Core.Logic.{◌≢◌}
use mathlib.Core.List.{List, [], ◌∷◌}
use native.Mathlib.Nat.{zero-add, add-zero, add_assoc}
use native.Mathlib.Numerals.{add-one}
use native.Mathlib.Omega.{arith}
use borrow.Author.Tests.{eqb-true, eqb-false}
use lib.Dec.{eqb}
use lib.ListN.{length}
use Rattle.cells.specs.Cell.Laws.{cell_part}
use Rattle.cells.specs.Upto.{up_to}
use Rattle.cells.specs.Upto.Laws.{length-up_to, ext_up_to}
use Rattle.cells.specs.Entry.{block_bytes, entry_bytes, Entry, entry_at, set_entry}
use Rattle.cells.specs.Entry.Laws.{length-set_entry, entry_same, entry_other, length_block, block_part}
use Rattle.card.specs.Disk.{Disk, overlay}
use Rattle.card.specs.Card.{queue, block_at}
use Rattle.card.proofs.All.{All, all_left, all_right, all_map}
use Rattle.card.proofs.Runs.{Whole, NarrowAddress}
use Rattle.journal.specs.Geometry.{Geometry}
use Rattle.journal.specs.Layout.{slot_at, most_blocks}
use Rattle.journal.specs.Log.{slot_entry, entries}
use Rattle.journal.specs.Lookup.{last_of, last_slot}
use Rattle.journal.proofs.Lookups.{found_in, overlay-found}
use Rattle.store.specs.declared.place.Place.{Place}
use Rattle.store.specs.State.{State, with_opened, with_record, with_work, card_in}
use Rattle.store.specs.Lists.{open_from, group_from, listed, list_of, find}
use Rattle.store.specs.Causes.{work_bytes, is_found, newcomers}
use Rattle.store.specs.Put.{put_at}
use Rattle.store.specs.Get.{newest, bytes_at, open_place, group_place, log_place, waiting_from, find_waiting, home_place, waiting_place}
use Rattle.store.specs.Commit.{Group, join_at, join, joined}
use Rattle.store.proofs.Lookups.{last_at}
use Rattle.store.proofs.Places.{data_lt}
use Rattle.history.specs.Plain.{has, insert, merge}
use Rattle.history.proofs.Relation.Lists.{Data, Distinct, distinct_front, distinct_last, distinct_merge, find-has, has-merge, insert_joins, insert_replaces, length-insert, merge_snoc}

-- ---- an entry set in work memory

module _ (geo : Geometry) where
  -- addresses of data blocks fit four bytes
  pub data_short : (N : ℕ) → N ≤ most_blocks → (l : List Entry) → All (Data geo N) l → All NarrowAddress l
  data_short N h l p = all_map (Data geo N) NarrowAddress (λ e d. let q : e.address < N = data_lt geo N e.address d in omega arith) l p

-- the j-th entry, once the i-th is e
pub listed-set : (work : List ℕ) (from i : ℕ) (e : Entry) → entry_bytes * (from + i) + entry_bytes ≤ length work → Whole e → NarrowAddress e
    → (j : ℕ) → listed (set_entry work (from + i) e) from j ≡ cond (eqb j i) e (listed work from j)
listed-set work from i e room whole short j = go (eqb j i) refl
  where
    go : (t : Bool) → eqb j i ≡ t → listed (set_entry work (from + i) e) from j ≡ cond t e (listed work from j)
    go true p = let q : j ≡ i = eqb-true j i p in rw q (entry_same work (from + i) e room whole short)
    go false p = let q : j ≢ i = eqb-false j i p in entry_other work (from + i) (from + j) e (λ c. omega arith)

-- a list that the place is not in
pub list_of_apart : (work : List ℕ) (place : ℕ) (e : Entry) (from n : ℕ) → ((j : ℕ) → j < n → from + j ≢ place)
    → list_of (set_entry work place e) from n ≡ list_of work from n
list_of_apart work place e from n h =
    ext_up_to (listed (set_entry work place e) from) (listed work from) n (λ j p. entry_other work place (from + j) e (h j p))

module _ (work : List ℕ) (from n : ℕ) (e : Entry) (whole : Whole e) (short : NarrowAddress e) where
  -- set where its address was found
  pub list_of_replaced : (i : ℕ) → find work from n e.address ≡ Some i → Distinct (list_of work from n) → entry_bytes * (from + n) ≤ length work
      → list_of (set_entry work (from + i) e) from n ≡ insert e (list_of work from n)
  list_of_replaced i h d room =
      let below : i < n = (last_at (λ j. (listed work from j).address) e.address n i h).0 in
      ext_up_to (listed (set_entry work (from + i) e) from) (λ j. cond (eqb j i) e (listed work from j)) n (λ j p. listed-set work from i e (omega arith) whole short j)
      ∙ sym (insert_replaces (listed work from) n i e d h)

  -- set behind the list, which lacks its address
  pub list_of-joined : find work from n e.address ≡ None → entry_bytes * (from + n) + entry_bytes ≤ length work
      → list_of (set_entry work (from + n) e) from (n + 1) ≡ insert e (list_of work from n)
  list_of-joined h room =
      rw (add-one, list_of_apart work (from + n) e from n (λ j p c. omega arith), entry_same work (from + n) e room whole short)
      (sym (insert_joins e (list_of work from n) (sym (find-has work from n e.address) ∙ ap is_found h)))

-- ---- put

module _ (geo : Geometry) where
  -- what a put leaves: e in the open list, all else as it was
  pub record PutOpen (e : Entry) (st now : State) : Type 0 where
    pub open_list : list_of now.work open_from now.rec.opened ≡ insert e (list_of st.work open_from st.rec.opened)
    pub group-list : (g : ℕ) → g ≤ geo.slots → list_of now.work (group_from geo) g ≡ list_of st.work (group_from geo) g
    pub size : length now.work ≡ length st.work
    pub few : now.rec.opened ≤ geo.slots
    pub rest : now ≡ with_record (with_opened now.rec.opened st.rec) (with_work now.work st)

  pub put_open : (e : Entry) (st : State) → length st.work ≡ work_bytes geo → st.rec.opened ≤ geo.slots → Whole e → NarrowAddress e
      → Distinct (list_of st.work open_from st.rec.opened)
      → (find st.work open_from st.rec.opened e.address ≡ None → st.rec.opened < geo.slots)
      → PutOpen e st (put_at (find st.work open_from st.rec.opened e.address) e st)
  put_open e st size few whole short d room = go (find st.work open_from st.rec.opened e.address) refl
    where
      go : (f : Option ℕ) → find st.work open_from st.rec.opened e.address ≡ f → PutOpen e st (put_at f e st)
      go (Some i) h =
          let below : i < st.rec.opened = (last_at (λ j. (listed st.work open_from j).address) e.address st.rec.opened i h).0 in
          record {
            open_list = rw (zero-add) at (list_of_replaced st.work open_from st.rec.opened e whole short i h d (omega arith));
            group-list = λ g p. list_of_apart st.work i e (group_from geo) g (λ j q c. omega arith);
            size = length-set_entry st.work i e;
            few = few;
            rest = refl;
          }
      go None h =
          let free : st.rec.opened < geo.slots = room h in
          record {
            open_list = rw (zero-add) at (list_of-joined st.work open_from st.rec.opened e whole short h (omega arith));
            group-list = λ g p. list_of_apart st.work st.rec.opened e (group_from geo) g (λ j q c. omega arith);
            size = length-set_entry st.work st.rec.opened e;
            few = omega arith;
            rest = refl;
          }

  -- ---- commit

  -- how a list grows: an open entry joins unless the group has its address
  pub newcomers-merge : (work : List ℕ) (g n : ℕ) → Distinct (list_of work open_from n)
      → g + newcomers geo work g n ≡ length (merge (list_of work open_from n) (list_of work (group_from geo) g))
  unfolding newcomers merge
  newcomers-merge work g zero d = rw (add-zero) (sym (length-up_to (listed work (group_from geo)) g))
  newcomers-merge work g (suc n) d =
      sym (add_assoc g (newcomers geo work g n) (cond (is_found (find work (group_from geo) g a)) 0 1))
      ∙ ap₂ (λ (k : ℕ) (t : Bool). k + cond t 0 1) (newcomers-merge work g n (distinct_front T (e ∷ []) d)) (find-has work (group_from geo) g a ∙ sym known)
      ∙ sym (length-insert e (merge T G))
      ∙ ap length (sym (merge_snoc T e G))
    where
      e : Entry
      e = listed work open_from n

      a : ℕ
      a = e.address

      T : List Entry
      T = list_of work open_from n

      G : List Entry
      G = list_of work (group_from geo) g

      known : has a (merge T G) ≡ has a G
      known = has-merge a T G ∙ ap (λ (t : Bool). t || has a G) (distinct_last T e d)

  -- e in the group, open as it was
  pub record JoinGroup (e : Entry) (g now : Group) : Type 0 where
    pub group-list : list_of now.work (group_from geo) now.count ≡ insert e (list_of g.work (group_from geo) g.count)
    pub open_list : (k : ℕ) → k ≤ geo.slots → list_of now.work open_from k ≡ list_of g.work open_from k
    pub size : length now.work ≡ length g.work

  pub join-group : (e : Entry) (g : Group) → length g.work ≡ work_bytes geo → g.count ≤ geo.slots → Whole e → NarrowAddress e
      → Distinct (list_of g.work (group_from geo) g.count)
      → (find g.work (group_from geo) g.count e.address ≡ None → g.count < geo.slots)
      → JoinGroup e g (join geo e g)
  unfolding join
  join-group e g size few whole short d room = go (find g.work (group_from geo) g.count e.address) refl
    where
      go : (f : Option ℕ) → find g.work (group_from geo) g.count e.address ≡ f → JoinGroup e g (join_at geo f e g)
      go (Some i) h = record {
        group-list = list_of_replaced g.work (group_from geo) g.count e whole short i h d (omega arith);
        open_list = λ k p. list_of_apart g.work (group_from geo + i) e open_from k (λ j q c. omega arith);
        size = length-set_entry g.work (group_from geo + i) e;
      }
      go None h =
          let free : g.count < geo.slots = room h in
          record {
            group-list = list_of-joined g.work (group_from geo) g.count e whole short h (omega arith);
            open_list = λ k p. list_of_apart g.work (group_from geo + g.count) e open_from k (λ j q c. omega arith);
            size = length-set_entry g.work (group_from geo + g.count) e;
          }

  -- what joining the first n open entries leaves
  pub record Merged (work : List ℕ) (g n : ℕ) (now : Group) : Type 0 where
    pub group-list : list_of now.work (group_from geo) now.count ≡ merge (list_of work open_from n) (list_of work (group_from geo) g)
    pub count : now.count ≡ length (merge (list_of work open_from n) (list_of work (group_from geo) g))
    pub open_list : (k : ℕ) → k ≤ geo.slots → list_of now.work open_from k ≡ list_of work open_from k
    pub size : length now.work ≡ length work

  pub joined-merge : (work : List ℕ) (g n : ℕ) → length work ≡ work_bytes geo → n ≤ geo.slots → Distinct (list_of work (group_from geo) g)
      → All NarrowAddress (list_of work open_from n) → length (merge (list_of work open_from n) (list_of work (group_from geo) g)) ≤ geo.slots
      → Merged work g n (joined geo n (record { work = work; count = g }))
  unfolding joined merge
  joined-merge work g zero size few d short room =
      record { group-list = refl; count = sym (length-up_to (listed work (group_from geo)) g); open_list = λ k p. refl; size = refl }
  joined-merge work g (suc n) size few d short room =
      let before : length (merge T G) ≤ geo.slots = omega (arith, grown) in
      step (joined geo n (record { work = work; count = g })) (joined-merge work g n size (omega arith) d (all_left NarrowAddress T (e ∷ []) short) before)
    where
      e : Entry
      e = listed work open_from n

      T : List Entry
      T = list_of work open_from n

      G : List Entry
      G = list_of work (group_from geo) g

      grown : length (merge T G) + cond (has e.address (merge T G)) 0 1 ≤ geo.slots
      grown = rw (merge_snoc T e G, length-insert e (merge T G)) at room

      free : (r : Group) → Merged work g n r → find r.work (group_from geo) r.count e.address ≡ None → r.count < geo.slots
      free r m h =
          let same = find-has r.work (group_from geo) r.count e.address ∙ ap (has e.address) m.group-list in
          let new : has e.address (merge T G) ≡ false = sym same ∙ ap is_found h in
          let one : length (merge T G) + 1 ≤ geo.slots = rw new at grown in
          omega arith

      step : (r : Group) → Merged work g n r → Merged work g (suc n) (join geo e r)
      step r m =
          let whole : Whole e = length_block work (open_from + n) (omega arith) in
          let d' : Distinct (list_of r.work (group_from geo) r.count) = rw m.group-list (distinct_merge T G d) in
          let j = join-group e r (m.size ∙ size) (omega (arith, grown)) whole (all_right NarrowAddress T (e ∷ []) short).0 d' (free r m) in
          let list = j.group-list ∙ ap (insert e) m.group-list ∙ sym (merge_snoc T e G) in
          record {
            group-list = list;
            count = sym (length-up_to (listed (join geo e r).work (group_from geo)) (join geo e r).count) ∙ ap length list;
            open_list = λ k p. j.open_list k p ∙ m.open_list k p;
            size = j.size ∙ m.size;
          }

  -- the room that a commit asks for
  pub joined-group : (work : List ℕ) (g n : ℕ) → length work ≡ work_bytes geo → n ≤ geo.slots → Distinct (list_of work open_from n) → Distinct (list_of work (group_from geo) g)
      → All NarrowAddress (list_of work open_from n) → g + newcomers geo work g n ≤ geo.slots → Merged work g n (joined geo n (record { work = work; count = g }))
  joined-group work g n size few t d short room = joined-merge work g n size few d short (rw (newcomers-merge work g n t) at room)

-- ---- get: the newest of open, group, log, waiting writes, home

pub overlay_at : (f : ℕ → Entry) (d : Disk) (a n i : ℕ) → last_of (λ j. (f j).address) a n ≡ Some i → overlay (up_to f n) d a ≡ (f i).block
overlay_at f d a n i h = overlay-found f n d a ∙ ap (λ (w : Option ℕ). found_in w (λ k. (f k).block) (d a)) h

pub overlay_absent : (f : ℕ → Entry) (d : Disk) (a n : ℕ) → last_of (λ j. (f j).address) a n ≡ None → overlay (up_to f n) d a ≡ d a
overlay_absent f d a n h = overlay-found f n d a ∙ ap (λ (w : Option ℕ). found_in w (λ k. (f k).block) (d a)) h

-- the waiting writes are a list from the first place on
pub queue-listed : (st : State) → queue (card_in st) ≡ list_of st.waiting waiting_from st.rec.waiting
unfolding queue
queue-listed st = ext_up_to (entry_at st.waiting) (listed st.waiting waiting_from) st.rec.waiting (λ i h. ap (entry_at st.waiting) (sym (zero-add i)))

module _ (geo : Geometry) where
  pub newest-get : (a : ℕ) (st : State)
      → bytes_at (newest geo a st) st
      ≡ overlay (list_of st.work open_from st.rec.opened)
      (overlay (list_of st.work (group_from geo) st.rec.grouped) (overlay (entries geo st.settled st.rec.logged) (overlay (queue (card_in st)) (block_at st.settled)))) a
  unfolding newest slot_entry
  newest-get a st = in_open (find st.work open_from st.rec.opened a) refl
    where
      waits : Disk
      waits = overlay (queue (card_in st)) (block_at st.settled)

      log : Disk
      log = overlay (entries geo st.settled st.rec.logged) waits

      group : Disk
      group = overlay (list_of st.work (group_from geo) st.rec.grouped) log

      -- the places in the log and outside it
      outside : Place
      outside = waiting_place (find_waiting st a) (home_place a)

      logged : Place
      logged = log_place geo (last_slot st.settled a st.rec.logged) outside

      in_waiting : (f : Option ℕ) → find_waiting st a ≡ f → bytes_at (waiting_place f (home_place a)) st ≡ waits a
      in_waiting (Some i) h =
          sym (ap (λ (q : List Entry). overlay q (block_at st.settled) a) (queue-listed st)
          ∙ overlay_at (listed st.waiting waiting_from) (block_at st.settled) a st.rec.waiting i h ∙ block_part st.waiting (waiting_from + i))
      in_waiting None h =
          sym (ap (λ (q : List Entry). overlay q (block_at st.settled) a) (queue-listed st)
          ∙ overlay_absent (listed st.waiting waiting_from) (block_at st.settled) a st.rec.waiting h ∙ cell_part block_bytes st.settled a)

      in_log : (f : Option ℕ) → last_slot st.settled a st.rec.logged ≡ f → bytes_at (log_place geo f outside) st ≡ log a
      in_log (Some i) h = sym (overlay_at (slot_entry geo st.settled) waits a st.rec.logged i h ∙ cell_part block_bytes st.settled (slot_at geo i))
      in_log None h = in_waiting (find_waiting st a) refl ∙ sym (overlay_absent (slot_entry geo st.settled) waits a st.rec.logged h)

      in_group : (f : Option ℕ) → find st.work (group_from geo) st.rec.grouped a ≡ f
          → bytes_at (group_place geo f logged) st ≡ group a
      in_group (Some i) h = sym (overlay_at (listed st.work (group_from geo)) log a st.rec.grouped i h ∙ block_part st.work (group_from geo + i))
      in_group None h =
          in_log (last_slot st.settled a st.rec.logged) refl ∙ sym (overlay_absent (listed st.work (group_from geo)) log a st.rec.grouped h)

      in_open : (f : Option ℕ) → find st.work open_from st.rec.opened a ≡ f
          → bytes_at (open_place f (group_place geo (find st.work (group_from geo) st.rec.grouped a) logged)) st
          ≡ overlay (list_of st.work open_from st.rec.opened) group a
      in_open (Some i) h = sym (overlay_at (listed st.work open_from) group a st.rec.opened i h ∙ block_part st.work (open_from + i))
      in_open None h =
          in_group (find st.work (group_from geo) st.rec.grouped a) refl ∙ sym (overlay_absent (listed st.work open_from) group a st.rec.opened h)
