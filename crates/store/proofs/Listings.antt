-- The blocks of a list as the code copies them, by the places where they were met.
use Rattle.std.specs.Prelude.{Option, Some, None}
use Prim.Native.Nat.{ℕ, ◌+◌, ◌*◌, ◌%◌, ◌≤◌, ◌<◌}
use mathlib.Core.Path.{◌≡◌, refl, ap, sym, ◌∙◌}
use mathlib.Core.Bool.{true, false, cond, not}
use mathlib.Core.Logic.{◌≢◌}
use mathlib.Core.List.{List, [], ◌++◌, append-nil}
use native.Mathlib.Omega.{arith}
use native.Mathlib.Numerals.{add-one}
use native.Mathlib.Decide.{ℕ_discrete}
use borrow.Author.Tests.{eq-eqb, ne_eqb, eqb-true, ltb-false, not-false}
use lib.Dec.{eqb}
use lib.ListN.{length, get_or, take, drop, drop_of_length-le}
use lib.Seq.{length-sets}
use Rattle.cells.specs.Cell.Laws.{put-sets}
use Rattle.cells.specs.Entry.{block_bytes}
use Rattle.cells.specs.Upto.{up_to, joined}
use Rattle.cells.specs.Upto.Laws.{length-up_to, ext_joined, length-joined, joined_more}
use Rattle.journal.specs.Geometry.{Geometry, trap}
use Rattle.journal.specs.Layout.{is_data}
use Rattle.journal.specs.Log.{slot_address}
use Rattle.journal.specs.Lookup.{last_of}
use Rattle.journal.specs.Wanted.{wanted_bytes, wanted_count, wanted_at, walked}
use Rattle.journal.specs.CodeWanted.{Met}
use Rattle.journal.proofs.Logs.{neither}
use Rattle.journal.proofs.Chains.{last-in}
use Rattle.journal.proofs.Lookups.{Means, last_means}
use Rattle.store.specs.declared.place.Place.{Place}
use Rattle.store.specs.declared.place.Place.TheVariants.{Settled, Waiting, Work, Nowhere}
use Rattle.store.specs.declared.record.Record.{Record}
use Rattle.store.specs.State.{State}
use Rattle.store.specs.CodeState.{state_of, fresh}
use Rattle.store.specs.Lists.{open_from, group_from, listed, addresses_of}
use Rattle.store.specs.Request.{get, get_list}
use Rattle.store.specs.Causes.{cause, most_wanted, wrong_list}
use Rattle.store.specs.Get.{waiting_from, home_place, waiting_place, log_place, group_place, open_place, newest, get_place, bytes_at, block_of}
use Rattle.store.specs.GetList.{listing_of, list_walk, newest_blocks, shown, listing}
use Rattle.store.proofs.Causes.{some_none, Checked, cause_passes, passes_sound}

-- of a state, bytes at a place are those of its buffers, whatever the record
pub bytes_any : (p : Place) (r q : Record) (s w k : List ℕ) → bytes_at p (state_of r s w k) ≡ bytes_at p (state_of q s w k)
bytes_any (Settled o) r q s w k = refl
bytes_any (Waiting o) r q s w k = refl
bytes_any (Work o) r q s w k = refl
bytes_any Nowhere r q s w k = refl

-- the i-th block, from where it was met
abbrev pub copied : List ℕ → List ℕ → List ℕ → List ℕ → List (Option ℕ) → List (Option ℕ) → List (Option ℕ) → List (Option ℕ) → ℕ → List ℕ
copied settled waiting work list opened grouped logged waited i =
    bytes_at
    (open_place (get_or opened i None)
    (group_place trap (get_or grouped i None)
    (log_place trap (get_or logged i None) (waiting_place (get_or waited i None) (home_place (wanted_at list i))))))
    (state_of (fresh 0) settled waiting work)

-- what was met is what a lookup finds
pub met-last : (list : List ℕ) (met : List (Option ℕ)) (f : ℕ → ℕ) (n i : ℕ) → Met list (up_to f n) met → i < wanted_count list → get_or met i None ≡ last_of f (wanted_at list i) n
met-last list met f n i m h = m i h ∙ last-in f n (wanted_at list i)

-- and within what was looked through
pub met-lt : (list : List ℕ) (met : List (Option ℕ)) (f : ℕ → ℕ) (n i : ℕ) → Met list (up_to f n) met → i < wanted_count list → (k : ℕ) → get_or met i None ≡ Some k → k < n
met-lt list met f n i m h k e =
    let found : last_of f (wanted_at list i) n ≡ Some k = sym (met-last list met f n i m h) ∙ e in
    let means : Means f (wanted_at list i) n (Some k) = rw found at (last_means f (wanted_at list i) n) in
    means.inside

-- so it is what a get finds
pub copied-newest : (r : Record) (settled waiting work list : List ℕ) (opened grouped logged waited : List (Option ℕ)) (i : ℕ)
    → Met list (addresses_of work open_from r.opened) opened
    → Met list (addresses_of work (group_from trap) r.grouped) grouped
    → Met list (walked settled r.logged) logged
    → Met list (addresses_of waiting waiting_from r.waiting) waited
    → i < wanted_count list
    → copied settled waiting work list opened grouped logged waited i
    ≡ bytes_at (newest trap (wanted_at list i) (state_of r settled waiting work)) (state_of r settled waiting work)
unfolding newest
copied-newest r settled waiting work list opened grouped logged waited i mo mg ml mw h =
    let o = met-last list opened (λ j. (listed work open_from j).address) r.opened i mo h in
    let g = met-last list grouped (λ j. (listed work (group_from trap) j).address) r.grouped i mg h in
    let l = met-last list logged (slot_address settled) r.logged i ml h in
    let w = met-last list waited (λ j. (listed waiting waiting_from j).address) r.waiting i mw h in
    rw (o, g, l, w) (bytes_any (newest trap (wanted_at list i) (state_of r settled waiting work)) (fresh 0) r settled waiting work)

-- ---- copying out: i blocks are, the rest of the buffer is as it was

pub record CopiedOut (f : ℕ → List ℕ) (old blocks : List ℕ) (i : ℕ) : Type 0 where
  pub size : length blocks ≡ length old
  pub sizes : (j : ℕ) → j < i → length (f j) ≡ block_bytes
  pub out : blocks ≡ joined f i ++ drop (block_bytes * i) old

-- one more
pub one_out : (f : ℕ → List ℕ) (old blocks v : List ℕ) (i n : ℕ) → CopiedOut f old blocks i → block_bytes * i + block_bytes ≤ length old → n ≡ block_bytes → length v ≡ block_bytes → v ≡ f i
    → CopiedOut f old (take (block_bytes * i) blocks ++ (v ++ drop n (drop (block_bytes * i) blocks))) (i + 1)
one_out f old blocks v i n c room p s e =
    record {
      size = ap length (put-sets (block_bytes * i) n blocks v (omega (arith, c.size)) (omega arith)) ∙ length-sets blocks (block_bytes * i) v ∙ c.size;
      sizes = λ j h. sizes j h (ℕ_discrete j i);
      out = rw (c.out, add-one) (joined_more f block_bytes i n old v (length-joined f block_bytes i c.sizes) p e);
    }
  where
    sizes : (j : ℕ) → j < i + 1 → Dec (j ≡ i) → length (f j) ≡ block_bytes
    sizes j h (yes q) = rw q (ap length (sym e) ∙ s)
    sizes j h (no q) = c.sizes j (omega arith)

-- all of them
pub all_out : (f : ℕ → List ℕ) (old blocks : List ℕ) (n : ℕ) → CopiedOut f old blocks n → length old ≡ block_bytes * n → blocks ≡ joined f n
all_out f old blocks n c e =
    let none : drop (block_bytes * n) old ≡ [] = drop_of_length-le old {i = block_bytes * n} (omega arith) in
    c.out ∙ rw none (append-nil (joined f n))

-- ---- a list that no cause refuses

pub right-list : (xs bs : List ℕ) → wrong_list xs bs ≡ false → (length xs ≡ wanted_bytes * wanted_count xs) × (wanted_count xs ≤ most_wanted) × (length bs ≡ block_bytes * wanted_count xs)
unfolding wrong_list
right-list xs bs e =
    let a = neither _ _ e in
    let b = neither _ _ a.0 in
    let z : length xs % wanted_bytes ≡ 0 = eqb-true _ _ (not-false _ b.0) in
    (omega arith, ltb-false _ _ b.1, eqb-true _ _ (not-false _ a.1))

module _ (geo : Geometry) where
  pub record ListFacts (xs bs : List ℕ) (st : State) : Type 0 where
    pub sound : Checked geo st
    pub whole : length xs ≡ wanted_bytes * wanted_count xs
    pub few : wanted_count xs ≤ most_wanted
    pub room : length bs ≡ block_bytes * wanted_count xs
    pub data-blocks : (i : ℕ) → i < wanted_count xs → is_data geo st.rec.blocks (wanted_at xs i) ≡ true
    -- each get of it is served
    pub gets : (i : ℕ) → i < wanted_count xs → cause geo (get (wanted_at xs i)) st ≡ 0

  pub list_facts : (xs bs : List ℕ) (st : State) → cause geo (get_list xs bs) st ≡ 0 → ListFacts xs bs st
  list_facts xs bs st z =
      let p = cause_passes geo (get_list xs bs) st 0 (sym z) refl in
      let s = right-list xs bs p.block in
      let right = some_none (λ i. not (is_data geo st.rec.blocks (wanted_at xs i))) (wanted_count xs) p.own.0 in
      record {
        sound = passes_sound geo (get_list xs bs) st 0 refl (sym z) refl;
        whole = s.0;
        few = s.1;
        room = s.2;
        data-blocks = λ i h. not-false _ (right i h);
        gets = λ i h. rw (p.sizes, p.counts, p.not-closed, p.not_down, right i h);
      }

  -- what a get shows is the newest
  get-place : (a : ℕ) (st : State) → cause geo (get a) st ≡ 0 → get_place geo a st ≡ newest geo a st
  unfolding get_place
  get-place a st z = rw (z)

  pub get-newest : (a : ℕ) (st : State) → cause geo (get a) st ≡ 0 → block_of geo a st ≡ bytes_at (newest geo a st) st
  get-newest a st z = ap (λ (p : Place). bytes_at p st) (get-place a st z)

  pub shown-newest : (xs bs : List ℕ) (st : State) → cause geo (get_list xs bs) st ≡ 0
      → shown geo xs st ≡ newest_blocks geo xs st
  shown-newest xs bs st z = ext_joined _ _ (wanted_count xs) (λ i h. get-newest (wanted_at xs i) st ((list_facts xs bs st z).gets i h))

  pub listing-served : (xs bs : List ℕ) (st : State) (k : ℕ) (b : List ℕ) → cause geo (get_list xs bs) st ≡ 0 → k ≡ length (list_walk xs st) → b ≡ shown geo xs st
      → listing_of 0 k b ≡ listing geo xs bs st
  unfolding listing
  listing-served xs bs st k b z ek eb = rw (z, ek, eb)

  pub listing-refused : (xs bs : List ℕ) (st : State) → cause geo (get_list xs bs) st ≢ 0 → listing geo xs bs st ≡ listing_of (cause geo (get_list xs bs) st) 0 bs
  unfolding listing
  listing-refused xs bs st h = rw (ne_eqb _ 0 h)

  -- the walk reads every slot of the log, or there is none
  pub walk_length : (xs bs : List ℕ) (st : State) → cause geo (get_list xs bs) st ≡ 0 → length (list_walk xs st) ≡ cond (eqb (length xs) 0) 0 st.rec.logged
  walk_length xs bs st z = go (ℕ_discrete (length xs) 0)
    where
      whole : length xs ≡ wanted_bytes * wanted_count xs
      whole = (list_facts xs bs st z).whole

      go : Dec (length xs ≡ 0) → length (list_walk xs st) ≡ cond (eqb (length xs) 0) 0 st.rec.logged
      go (yes e) =
          let none : wanted_count xs ≡ 0 = omega (arith, whole) in
          rw (eq-eqb _ 0 e, eq-eqb _ 0 none)
      go (no e) =
          let many : wanted_count xs ≢ 0 = λ q. e (omega (arith, whole)) in
          rw (ne_eqb _ 0 e, ne_eqb _ 0 many) (length-up_to (slot_address st.settled) st.rec.logged)

  pub listing_number : (xs bs : List ℕ) (st : State) → (listing geo xs bs st).number ≡ cause geo (get_list xs bs) st
  unfolding listing
  listing_number xs bs st = go (ℕ_discrete (cause geo (get_list xs bs) st) 0)
    where
      go : Dec (cause geo (get_list xs bs) st ≡ 0) → (listing geo xs bs st).number ≡ cause geo (get_list xs bs) st
      go (yes h) = rw (h)
      go (no h) = rw (ne_eqb _ 0 h)
