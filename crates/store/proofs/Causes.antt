-- The laws of the table of causes.
use Prim.Native.Nat.{ℕ, zero, suc, ◌+◌, ◌*◌, ◌%◌, ◌≤◌, ◌<◌}
use mathlib.Core.Path.{◌≡◌, refl, ap, sym, ◌∙◌}
use mathlib.Core.Bool.{Bool, true, false, cond, not, ◌&&◌, ◌||◌, or-true, or-false, false≢true}
use mathlib.Core.List.{List, [], ◌∷◌}
use mathlib.Core.Logic.{◌≢◌}
use mathlib.Core.List.{List}
use native.Mathlib.Omega.{arith}
use native.Mathlib.Numerals.{add-one}
use Rattle.std.proofs.Common.{zero-add}
use native.Mathlib.Decide.{ℕ_discrete}
use borrow.Author.Tests.{eq-eqb, ne_eqb, eqb-true, eqb-false, ltb-true, ltb-false, not-false}
use lib.Dec.{eqb, ltb}
use lib.ListN.{length}
use Rattle.std.specs.List.{list_any, range_with_len}
use Rattle.std.proofs.lemmas.List.Folds.{list_any-append}
use Rattle.cells.specs.Entry.{block_bytes, entry_at}
use Rattle.card.specs.Card.{blocks_in}
use Rattle.card.specs.CodeQueue.{Below}
use Rattle.card.proofs.All.{All}
use Rattle.journal.specs.Geometry.{Geometry}
use Rattle.journal.specs.Layout.{is_data, least_blocks, most_blocks, wrong_size}
use Rattle.journal.specs.Log.{slot_address}
use Rattle.journal.proofs.Logs.{neither, slot_data}
use Rattle.refusals.specs.Numbers.{number_of}
use Rattle.refusals.specs.declared.Refusal.{Refusal}
use Rattle.refusals.proofs.Nonzero.{refusal_nonzero}
use Rattle.store.specs.State.{State, closed, open_mode, down}
use Rattle.store.specs.Lists.{open_from, group_from, listed, find}
use Rattle.store.specs.Request.{Request, power, abandon}
use Rattle.store.specs.Causes.{waiting_bytes, work_bytes, most_waiting, Row, wrong_sizes, some, wrong_counts, wrong_waiting, is_found, wrong_lists, wrong_record, down_row, open_row, Rules, of_bytes, of_record, of_open, rules, own_size, wrong_block, first, cause_by, cause}
use Rattle.store.proofs.Lookups.{range_more}

-- ---- a search from the first place up: none of the first i passed

pub climb_none : (f : ℕ → Bool) → some f 0 ≡ false
unfolding some
climb_none f = refl

pub climb_hit : (f : ℕ → Bool) (i n : ℕ) → i < n → f i ≡ true → true ≡ some f n
unfolding some
climb_hit f i zero h e = absurd (omega arith)
climb_hit f i (suc n) h e = go (ℕ_discrete i n) (λ q. climb_hit f i n q e)
  where
    go : Dec (i ≡ n) → (i < n → true ≡ some f n) → true ≡ some f n || f n
    go (yes p) below = sym (or-true (some f n)) ∙ ap (λ (b : Bool). some f n || b) (sym e ∙ ap f p)
    go (no p) below = ap (λ (b : Bool). b || f n) (below (omega arith))

pub climb_on : (f : ℕ → Bool) (i : ℕ) → some f i ≡ false → f i ≡ false → some f (i + 1) ≡ false
unfolding some
climb_on f i none e = rw (add-one, none, e)

-- the library's search of the places
pub some_any : (f : ℕ → Bool) (n : ℕ) → list_any f (range_with_len 0 n) ≡ some f n
unfolding some
some_any f zero = refl
some_any f (suc n) =
    ap (list_any f) (range_more 0 n)
    ∙ list_any-append f (range_with_len 0 n) ((0 + n) ∷ [])
    ∙ rw (zero-add n, some_any f n, or-false (f n))

-- of two tests that do not both pass, one passes
pub other : (a b : Bool) → a && b ≡ false → a ≡ true → b ≡ false
other true b e p = e
other false b e p = absurd (false≢true p)

-- no number below n passes
pub some_none : (f : ℕ → Bool) (n : ℕ) → some f n ≡ false → (i : ℕ) → i < n → f i ≡ false
unfolding some
some_none f zero e i h = elim h [ ]
some_none f (suc n) e i h = go (ℕ_discrete i n) (λ q. some_none f n (neither _ _ e).0 i q)
  where
    go : Dec (i ≡ n) → (i < n → f i ≡ false) → f i ≡ false
    go (yes p) below = rw p (neither (some f n) (f n) e).1
    go (no p) below = below (omega arith)

module _ (geo : Geometry) where
  -- row 1
  pub record SizeFacts (st : State) : Type 0 where
    pub settled : length st.settled ≡ block_bytes * blocks_in st.settled
    pub least : least_blocks geo ≤ blocks_in st.settled
    pub most : blocks_in st.settled ≤ most_blocks
    pub waiting : length st.waiting ≡ waiting_bytes geo
    pub work : length st.work ≡ work_bytes geo

  pub sizes_facts : (st : State) → wrong_sizes geo st ≡ false → SizeFacts st
  unfolding wrong_sizes wrong_size
  sizes_facts st e =
      let a = neither _ _ e in
      let b = neither _ _ a.0 in
      let c = neither _ _ b.0 in
      let d = neither _ _ c.0 in
      let whole : length st.settled % block_bytes ≡ 0 = eqb-true _ _ (not-false _ d.0) in
      record {
        settled = omega arith;
        least = ltb-false _ _ d.1;
        most = ltb-false _ _ c.1;
        waiting = eqb-true _ _ (not-false _ b.1);
        work = eqb-true _ _ (not-false _ a.1);
      }

  -- row 2: mode, counts and N
  pub record CountFacts (st : State) : Type 0 where
    pub mode : st.rec.mode ≤ down
    pub open_count : st.rec.opened ≤ geo.slots
    pub group_count : st.rec.grouped ≤ geo.slots
    pub log_count : st.rec.logged ≤ geo.slots
    pub waiting_count : st.rec.waiting ≤ most_waiting geo st.rec.mode
    pub blocks : st.rec.blocks ≡ blocks_in st.settled

  -- what may wait, by the mode
  pub open_waits : (st : State) → CountFacts st → st.rec.mode ≡ open_mode → st.rec.waiting ≤ geo.direct
  open_waits st f o = rw o at f.waiting_count

  pub closed_waits : (st : State) → CountFacts st → st.rec.mode ≡ closed → st.rec.waiting ≡ 0
  closed_waits st f o = let l : st.rec.waiting ≤ 0 = rw o at f.waiting_count in omega arith

  pub any_waits : (st : State) → CountFacts st → st.rec.waiting ≤ geo.places
  any_waits st f = go (eqb st.rec.mode closed) (eqb st.rec.mode open_mode) f.waiting_count
    where
      go : (t u : Bool) → st.rec.waiting ≤ cond t 0 (cond u geo.direct geo.places) → st.rec.waiting ≤ geo.places
      go true u l = omega arith
      go false true l = omega (arith, geo.queued)
      go false false l = l

  pub counts_facts : (st : State) → wrong_counts geo st ≡ false → CountFacts st
  unfolding wrong_counts
  counts_facts st e =
      let a = neither _ _ e in
      let b = neither _ _ a.0 in
      let c = neither _ _ b.0 in
      let d = neither _ _ c.0 in
      let f = neither _ _ d.0 in
      record {
        mode = ltb-false _ _ f.0;
        open_count = ltb-false _ _ f.1;
        group_count = ltb-false _ _ d.1;
        log_count = ltb-false _ _ c.1;
        waiting_count = ltb-false _ _ b.1;
        blocks = eqb-true _ _ (not-false _ a.1);
      }

  -- row 2: the lists, "read when open"
  pub record ListFacts (st : State) : Type 0 where
    pub open_data : (i : ℕ) → i < st.rec.opened → is_data geo st.rec.blocks (listed st.work open_from i).address ≡ true
    pub group_data : (i : ℕ) → i < st.rec.grouped → is_data geo st.rec.blocks (listed st.work (group_from geo) i).address ≡ true
    pub log_data : (i : ℕ) → i < st.rec.logged → is_data geo st.rec.blocks (slot_address st.settled i) ≡ true
    pub open_once : (i : ℕ) → i < st.rec.opened → is_found (find st.work open_from i (listed st.work open_from i).address) ≡ false
    pub group_once : (i : ℕ) → i < st.rec.grouped → is_found (find st.work (group_from geo) i (listed st.work (group_from geo) i).address) ≡ false

  pub lists_facts : (st : State) → wrong_lists geo st ≡ false → ListFacts st
  unfolding wrong_lists
  lists_facts st e =
      let a = neither _ _ e in
      let b = neither _ _ a.0 in
      let c = neither _ _ b.0 in
      let d = neither _ _ c.0 in
      record {
        open_data = λ i h. not-false _ (some_none (λ j. not (is_data geo st.rec.blocks (listed st.work open_from j).address)) st.rec.opened d.0 i h);
        group_data = λ i h. not-false _ (some_none (λ j. not (is_data geo st.rec.blocks (listed st.work (group_from geo) j).address)) st.rec.grouped d.1 i h);
        log_data = λ i h. slot_data geo st.settled st.rec.blocks st.rec.logged i h (not-false _ c.1);
        open_once = some_none (λ j. is_found (find st.work open_from j (listed st.work open_from j).address)) st.rec.opened b.1;
        group_once = some_none (λ j. is_found (find st.work (group_from geo) j (listed st.work (group_from geo) j).address)) st.rec.grouped a.1;
      }

pub waiting_facts : (st : State) → wrong_waiting st ≡ false → Below st.rec.blocks st.waiting st.rec.waiting
unfolding wrong_waiting
waiting_facts st e i h = ltb-true _ _ (not-false _ (some_none (λ j. not (ltb (entry_at st.waiting j).address st.rec.blocks)) st.rec.waiting e i h))

module _ (geo : Geometry) where
  -- rows 1 and 2: what a call that reads the record may count on
  pub record Checked (st : State) : Type 0 where
    pub sizes : SizeFacts geo st
    pub counts : CountFacts geo st
    pub waiting_below : Below st.rec.blocks st.waiting st.rec.waiting
    pub lists : st.rec.mode ≡ open_mode → ListFacts geo st

  pub sound : (st : State) → wrong_sizes geo st ≡ false → wrong_record geo st ≡ false → Checked st
  sound st s r =
      let l = neither _ _ r in
      let c = neither _ _ l.0 in
      record {
        sizes = sizes_facts geo st s;
        counts = counts_facts geo st c.0;
        waiting_below = waiting_facts st c.1;
        lists = λ o. lists_facts geo st (other _ _ l.1 (eq-eqb _ _ o));
      }

-- ---- what a call has of the shared rows, and its own behind them

abbrev pub reads_of : Rules → Bool
reads_of (of_bytes own rest) = false
reads_of (of_record own rest) = true
reads_of (of_open own rest) = true

abbrev pub opens_of : Rules → Bool
opens_of (of_bytes own rest) = false
opens_of (of_record own rest) = false
opens_of (of_open own rest) = true

abbrev pub rest_of : Rules → List Row
rest_of (of_bytes own rest) = rest
rest_of (of_record own rest) = rest
rest_of (of_open own rest) = rest

module _ (geo : Geometry) where
  abbrev pub reads_record : Request → Bool
  reads_record q = reads_of (rules geo q)

  abbrev pub needs_open : Request → Bool
  needs_open q = opens_of (rules geo q)

  abbrev pub own_rows : Request → List Row
  own_rows q = rest_of (rules geo q)

  -- ---- a call that no row refuses

  pub record PassesRules (r : Rules) (st : State) : Type 0 where
    pub sizes : wrong_sizes geo st ≡ false
    pub block : own_size r ≡ false
    pub counts : reads_of r && wrong_record geo st ≡ false
    pub not-closed : opens_of r && eqb st.rec.mode closed ≡ false
    pub not_down : opens_of r && eqb st.rec.mode down ≡ false
    pub own : All (λ row. row.test st ≡ false) (rest_of r)

  abbrev pub Passes : Request → State → Type 0
  Passes q st = PassesRules (rules geo q) st

-- a row that does not apply
passed : (t : Bool) (k rest : ℕ) → 0 < k → cond t k rest ≡ 0 → (t ≡ false) × (rest ≡ 0)
passed true k rest h e = absurd (omega arith)
passed false k rest h e = (refl, e)

all_passed : (rs : List Row) (st : State) → first rs st ≡ 0 → All (λ r. r.test st ≡ false) rs
all_passed [] st e = tt
all_passed (r ∷ rs) st e =
    let h : 2 < r.number = r.behind in
    let p = passed (r.test st) r.number (first rs st) (omega arith) e in
    (p.0, all_passed rs st p.1)

module _ (geo : Geometry) where
  pub rules_pass : (r : Rules) (st : State) → cause_by geo r st ≡ 0 → PassesRules geo r st
  rules_pass (of_bytes own rest) st e =
      let a = passed _ 1 _ (omega arith) e in
      let l = neither _ _ a.0 in
      record { sizes = l.0; block = l.1; counts = refl; not-closed = refl; not_down = refl; own = all_passed rest st a.1 }
  rules_pass (of_record own rest) st e =
      let a = passed _ 1 _ (omega arith) e in
      let b = passed _ 2 _ (omega arith) a.1 in
      let l = neither _ _ a.0 in
      record { sizes = l.0; block = l.1; counts = b.0; not-closed = refl; not_down = refl; own = all_passed rest st b.1 }
  rules_pass (of_open own rest) st e =
      let a = passed _ 1 _ (omega arith) e in
      let b = passed _ 2 _ (omega arith) a.1 in
      let c = passed _ 3 _ (omega arith) b.1 in
      let d = passed _ 4 _ (omega arith) c.1 in
      let l = neither _ _ a.0 in
      record { sizes = l.0; block = l.1; counts = b.0; not-closed = c.0; not_down = d.0; own = all_passed rest st d.1 }

  -- n being the number that was computed
  pub cause_passes : (q : Request) (st : State) (n : ℕ) → n ≡ cause geo q st → n ≡ 0 → Passes geo q st
  cause_passes q st n e z = rules_pass (rules geo q) st (sym e ∙ z)

  -- a call that reads the record and passes finds it sound
  pub passes_sound : (q : Request) (st : State) (n : ℕ) → reads_record geo q ≡ true → n ≡ cause geo q st → n ≡ 0 → Checked geo st
  passes_sound q st n r e z = let p = cause_passes q st n e z in sound geo st p.sizes (other _ _ p.counts r)

  -- one that needs an open record finds it open, and so many waiting writes at most
  pub passes_open : (q : Request) (st : State) (n : ℕ) → reads_record geo q ≡ true → needs_open geo q ≡ true → n ≡ cause geo q st → n ≡ 0 → st.rec.mode ≡ open_mode
  passes_open q st n r o e z =
      let p = cause_passes q st n e z in
      only st.rec.mode (passes_sound q st n r e z).counts.mode (eqb-false _ _ (other _ _ p.not-closed o)) (eqb-false _ _ (other _ _ p.not_down o))
    where
      only : (m : ℕ) → m ≤ down → m ≢ closed → m ≢ down → m ≡ open_mode
      only m l c d = omega arith

  pub passes_waits : (q : Request) (st : State) (n : ℕ) → reads_record geo q ≡ true → needs_open geo q ≡ true → n ≡ cause geo q st → n ≡ 0 → st.rec.waiting ≤ geo.direct
  passes_waits q st n r o e z = open_waits geo st (passes_sound q st n r e z).counts (passes_open q st n r o e z)

  -- ---- the first rows, shared by the calls

  -- a put's block of a wrong length is 1
  pub cause_block : (q : Request) (st : State) → wrong_block geo q ≡ true → cause geo q st ≡ 1
  cause_block q st = go (rules geo q)
    where
      go : (r : Rules) → own_size r ≡ true → cause_by geo r st ≡ 1
      go (of_bytes own rest) b = rw (b, or-true)
      go (of_record own rest) b = rw (b, or-true)
      go (of_open own rest) b = rw (b, or-true)

-- rows 1 and 2, and the rest
rows_2 : (a b : Bool) (n rest : ℕ) → n ≡ cond a 1 (cond b 2 0) → cond a 1 (cond b 2 rest) ≡ cond (eqb n 0) rest n
rows_2 true b n rest e = rw e
rows_2 false true n rest e = rw e
rows_2 false false n rest e = rw e

-- rows 1 and 2, two more, and the rest
rows_4 : (j k : ℕ) (a b c d : Bool) (n rest : ℕ) → n ≡ cond a 1 (cond b 2 (cond c (suc j) (cond d (suc k) 0)))
    → cond a 1 (cond b 2 (cond c (suc j) (cond d (suc k) rest))) ≡ cond (eqb n 0) rest n
rows_4 j k true b c d n rest e = rw e
rows_4 j k false true c d n rest e = rw e
rows_4 j k false false true d n rest e = rw (e, ne_eqb (suc j) 0 (λ z. omega arith))
rows_4 j k false false false true n rest e = rw (e, ne_eqb (suc k) 0 (λ z. omega arith))
rows_4 j k false false false false n rest e = rw e

module _ (geo : Geometry) where
  module _ (st : State) (n : ℕ) (rest : List Row) where
    -- power has rows 1 and 2 alone. n is what they come to: a call that reads the record gives it, or what its own rows come to
    pub cause_2 : n ≡ cause geo (power 0) st → cause_by geo (of_record false rest) st ≡ cond (eqb n 0) (first rest st) n
    cause_2 e = rows_2 (wrong_sizes geo st || false) (wrong_record geo st) n _ e

    -- abandon has rows 1 to 4 alone: likewise for a call that needs an open record
    pub cause_4 : (own : Bool) → own ≡ false → n ≡ cause geo abandon st → cause_by geo (of_open own rest) st ≡ cond (eqb n 0) (first rest st) n
    cause_4 own block e = rw block (rows_4 2 3 (wrong_sizes geo st || false) (wrong_record geo st) (eqb st.rec.mode closed) (eqb st.rec.mode down) n _ e)

    -- likewise for a call that needs a closed record
    pub cause_5 : n ≡ cause_by geo (of_record false (down_row ∷ open_row ∷ [])) st → cause_by geo (of_record false (down_row ∷ open_row ∷ rest)) st ≡ cond (eqb n 0) (first rest st) n
    cause_5 e = rows_4 3 4 (wrong_sizes geo st || false) (wrong_record geo st) (eqb st.rec.mode down) (eqb st.rec.mode open_mode) n _ e

-- ---- a refusal by the shared rows

module _ (geo : Geometry) (st : State) (e : Refusal) (rest : List Row) where
  -- what rows 1 and 2 refuse, each call that reads the record refuses
  pub refused_2 : number_of e ≡ cause geo (power 0) st → number_of e ≡ cause_by geo (of_record false rest) st
  refused_2 h = sym (cause_2 geo st (number_of e) rest h ∙ rw (refusal_nonzero e))

  -- what rows 1 to 4 refuse, each call that needs an open record refuses
  pub refused_4 : (own : Bool) → own ≡ false → number_of e ≡ cause geo abandon st → number_of e ≡ cause_by geo (of_open own rest) st
  refused_4 own block h = sym (cause_4 geo st (number_of e) rest own block h ∙ rw (refusal_nonzero e))
