-- What checks 1 and 2 say in plain facts, and what `cause` comes to in a state that passes them.
use Prim.Native.Nat.{ℕ, ◌%◌, ◌≤◌, ◌<◌}
use mathlib.Core.Path.{◌≡◌, refl, ap, sym}
use mathlib.Core.Bool.{Bool, true, false, cond, not, ◌&&◌, ◌||◌, false≢true}
use mathlib.Core.Logic.{◌≢◌}
use mathlib.Core.List.{List, [], ◌∷◌}
use native.Mathlib.Omega.{arith}
use borrow.Author.Tests.{eq-eqb, le-ltb, lt-ltb, eqb-true, eqb-false, not-false}
use lib.Dec.{eqb, ltb}
use lib.ListN.{length}
use Rattle.cells.specs.Upto.Laws.{length-up_to}
use Rattle.cells.specs.Entry.{block_bytes, entry_at}
use Rattle.card.specs.Card.{blocks_in, queue}
use Rattle.card.specs.Marks.{marks_fit}
use Rattle.card.specs.CodeQueue.{Below}
use Rattle.card.proofs.All.{All}
use Rattle.journal.specs.Geometry.{Geometry}
use Rattle.journal.specs.Layout.{wrong_size}
use Rattle.journal.specs.Log.{entries}
use Rattle.journal.specs.Choice.{choose, choice_number}
use Rattle.journal.proofs.Logs.{neither, all_data-all, all-all_data}
use Rattle.store.specs.State.{State, closed, open_mode, down, card_in}
use Rattle.store.specs.Lists.{open_from, group_from, listed, list_of}
use Rattle.store.specs.Local as Local
use Rattle.store.specs.Save as Save
use Rattle.store.specs.Request.{Request}
use Rattle.store.specs.Causes.{most_waiting, wrong_sizes, wrong_list, wrong_counts, wrong_waiting, wrong_lists, wrong_record, Row, closed_row, down_row, address_row, addresses_row, listed_row, open_full_row, group_full_row, last_save_row, Rules, of_bytes, of_record, of_open, rules, own_size, wrong_block, some, first, cause_by, cause}
use Rattle.store.proofs.Causes.{reads_record, needs_open, other, SizeFacts, sizes_facts, counts_facts, waiting_facts, Passes, cause_passes as causes_passes}
use Rattle.history.specs.Call.{Call, request_of, local, direct, save, cut, recover}
use Rattle.history.specs.Plain.{Plain, addresses, when_open, plain_fit, refusal}
use Rattle.history.proofs.Relation.Lists.{none_some, find-has, slot_among, Distinct, twice_distinct, distinct_twice, Data, strays-all, all-strays}
use Rattle.history.proofs.Relation.WorkLists.{newcomers-merge}

-- ---- 1: the sizes

module _ (geo : Geometry) where
  pub facts_sizes : (st : State) → SizeFacts geo st → wrong_sizes geo st ≡ false
  unfolding wrong_sizes wrong_size
  facts_sizes st f =
      let whole : length st.settled % block_bytes ≡ 0 = omega arith in
      rw (eq-eqb _ _ whole, le-ltb _ _ f.least, le-ltb _ _ f.most, eq-eqb _ _ f.waiting, eq-eqb _ _ f.work)

  -- ---- 2: the record

  -- "read when open"
  pub record ListFacts (st : State) : Type 0 where
    pub open_data : All (Data geo st.rec.blocks) (list_of st.work open_from st.rec.opened)
    pub group_data : All (Data geo st.rec.blocks) (list_of st.work (group_from geo) st.rec.grouped)
    pub log_data : All (Data geo st.rec.blocks) (entries geo st.settled st.rec.logged)
    pub open_distinct : Distinct (list_of st.work open_from st.rec.opened)
    pub group_distinct : Distinct (list_of st.work (group_from geo) st.rec.grouped)

  pub record RecordFacts (st : State) : Type 0 where
    pub mode : st.rec.mode ≤ down
    pub open_count : st.rec.opened ≤ geo.slots
    pub group_count : st.rec.grouped ≤ geo.slots
    pub log_count : st.rec.logged ≤ geo.slots
    pub waiting_count : st.rec.waiting ≤ most_waiting geo st.rec.mode
    pub blocks : st.rec.blocks ≡ blocks_in st.settled
    pub waiting_below : Below st.rec.blocks st.waiting st.rec.waiting
    pub lists : st.rec.mode ≡ open_mode → ListFacts st

  pub lists_facts : (st : State) → wrong_lists geo st ≡ false → ListFacts st
  unfolding wrong_lists
  lists_facts st e =
      let a = neither _ _ e in
      let b = neither _ _ a.0 in
      let c = neither _ _ b.0 in
      let d = neither _ _ c.0 in
      record {
        open_data = strays-all geo st.work st.rec.blocks open_from st.rec.opened d.0;
        group_data = strays-all geo st.work st.rec.blocks (group_from geo) st.rec.grouped d.1;
        log_data = all_data-all geo st.rec.blocks (entries geo st.settled st.rec.logged) (not-false _ c.1);
        open_distinct = twice_distinct st.work open_from st.rec.opened b.1;
        group_distinct = twice_distinct st.work (group_from geo) st.rec.grouped a.1;
      }

  pub facts_lists : (st : State) → ListFacts st → wrong_lists geo st ≡ false
  unfolding wrong_lists
  facts_lists st f =
      rw (
        all-strays geo st.work st.rec.blocks open_from st.rec.opened f.open_data,
        all-strays geo st.work st.rec.blocks (group_from geo) st.rec.grouped f.group_data,
        all-all_data geo st.rec.blocks (entries geo st.settled st.rec.logged) f.log_data,
        distinct_twice st.work open_from st.rec.opened f.open_distinct,
        distinct_twice st.work (group_from geo) st.rec.grouped f.group_distinct,
      )

  pub record_facts : (st : State) → wrong_record geo st ≡ false → RecordFacts st
  record_facts st e =
      let r = neither _ _ e in
      let q = neither _ _ r.0 in
      let c = counts_facts geo st q.0 in
      record {
        mode = c.mode;
        open_count = c.open_count;
        group_count = c.group_count;
        log_count = c.log_count;
        waiting_count = c.waiting_count;
        blocks = c.blocks;
        waiting_below = waiting_facts st q.1;
        lists = λ p. lists_facts st (other _ _ r.1 (eq-eqb _ _ p));
      }

  pub facts_record : (st : State) → RecordFacts st → wrong_record geo st ≡ false
  unfolding wrong_counts wrong_waiting
  facts_record st f =
      rw (le-ltb _ _ f.mode, le-ltb _ _ f.open_count, le-ltb _ _ f.group_count, le-ltb _ _ f.log_count, le-ltb _ _ f.waiting_count, eq-eqb _ _ f.blocks, addresses)
      (go (eqb st.rec.mode open_mode) refl)
    where
      addresses : some (λ i. not (ltb (entry_at st.waiting i).address st.rec.blocks)) st.rec.waiting ≡ false
      addresses =
          none_some (λ i. not (ltb (entry_at st.waiting i).address st.rec.blocks)) st.rec.waiting (λ i p. ap not (lt-ltb _ _ (f.waiting_below i p)))

      go : (t : Bool) → eqb st.rec.mode open_mode ≡ t → t && wrong_lists geo st ≡ false
      go true p = facts_lists st (f.lists (eqb-true _ _ p))
      go false p = refl

  -- ---- both

  pub record SoundFacts (st : State) : Type 0 where
    pub sizes : SizeFacts geo st
    pub counts : RecordFacts st

  pub sound_facts : (st : State) → wrong_sizes geo st ≡ false → wrong_record geo st ≡ false → SoundFacts st
  sound_facts st s r = record { sizes = sizes_facts geo st s; counts = record_facts st r }

  -- a closed record has nothing that waits, an open one direct writes alone
  pub idle : (st : State) → RecordFacts st → st.rec.mode ≡ closed → st.rec.waiting ≡ 0
  idle st f h = let l : st.rec.waiting ≤ 0 = rw h at f.waiting_count in omega arith

  pub few_wait : (st : State) → RecordFacts st → st.rec.mode ≡ open_mode → st.rec.waiting ≤ geo.direct
  few_wait st f h = rw h at f.waiting_count

  -- ---- the plain disk's refusal

  -- the plain disk has what a refusal reads
  pub record Mirrors (st : State) (d : Plain) : Type 0 where
    pub mode : d.mode ≡ st.rec.mode
    pub N : d.N ≡ st.rec.blocks
    pub waiting : d.waiting ≡ st.rec.waiting
    pub T : st.rec.mode ≡ open_mode → d.T ≡ list_of st.work open_from st.rec.opened
    pub G : st.rec.mode ≡ open_mode → d.G ≡ list_of st.work (group_from geo) st.rec.grouped
    pub save : st.rec.mode ≡ open_mode → d.S.groups ≡ st.rec.save
    pub log : st.rec.mode ≡ open_mode → d.log ≡ addresses (entries geo st.settled st.rec.logged)
    pub writes : st.rec.mode ≡ open_mode → d.writes ≡ addresses (queue (card_in st))

-- tests behind the modes count when open
when-open : (m x y : ℕ) → m ≤ down → (m ≡ open_mode → x ≡ y) → cond (eqb m closed) 3 (cond (eqb m down) 4 x) ≡ cond (eqb m closed) 3 (cond (eqb m down) 4 y)
when-open m x y h e = go (eqb m closed) (eqb m down) refl refl
  where
    go : (s t : Bool) → eqb m closed ≡ s → eqb m down ≡ t → cond s 3 (cond t 4 x) ≡ cond s 3 (cond t 4 y)
    go true t p q = refl
    go false true p q = refl
    go false false p q =
        let a : m ≢ closed = eqb-false _ _ p in
        let b : m ≢ down = eqb-false _ _ q in
        e (omega arith)

module _ (geo : Geometry) where
  module _ (st : State) (d : Plain) (sizes : wrong_sizes geo st ≡ false) (counts : wrong_record geo st ≡ false) (m : Mirrors geo st d) where
    -- rows 1 to 4 of a call that needs an open record; its own rows count when open
    open_refusal : (own : Bool) (rs : List Row) (k : ℕ) → (st.rec.mode ≡ open_mode → first rs st ≡ k) → cause_by geo (of_open own rs) st ≡ cond own 1 (when_open d k)
    open_refusal own rs k e =
        rw (sizes, counts, m.mode) (ap (λ (n : ℕ). cond own 1 n) (when-open st.rec.mode (first rs st) k (record_facts geo st counts).mode e))

    pub cause-refusal : (c : Call) → (c ≡ recover → st.rec.mode ≡ closed → choice_number (choose geo st.rec.blocks st.settled) ≡ 0) → ((ms : List ℕ) → marks_fit ms (queue (card_in st)) ≡ plain_fit geo ms d)
        → cause geo (request_of c) st ≡ refusal geo c d
    unfolding refusal
    cause-refusal (local (Local.power k)) h f = rw (sizes, counts)
    cause-refusal (local (Local.put a b)) h f =
        open_refusal (not (eqb (length b) block_bytes)) (address_row geo a ∷ open_full_row geo a ∷ []) _
        (λ o. rw (m.N, find-has st.work open_from st.rec.opened a, m.T o, length-up_to (listed st.work open_from) st.rec.opened))
    cause-refusal (local (Local.get a)) h f = open_refusal false (address_row geo a ∷ []) _ (λ o. rw m.N)
    cause-refusal (local (Local.get_list xs bs)) h f = open_refusal (wrong_list xs bs) (addresses_row geo xs ∷ []) _ (λ o. rw m.N)
    cause-refusal (local Local.commit) h f =
        open_refusal false (group_full_row geo ∷ []) _
        (λ o. rw (newcomers-merge geo st.work st.rec.grouped st.rec.opened ((record_facts geo st counts).lists o).open_distinct, m.T o, m.G o))
    cause-refusal (local Local.abandon) h f = open_refusal false [] 0 (λ o. refl)
    cause-refusal (direct a b) h f =
        open_refusal (not (eqb (length b) block_bytes)) (address_row geo a ∷ listed_row geo a ∷ []) _
        (λ o. rw (m.N, find-has st.work open_from st.rec.opened a, find-has st.work (group_from geo) st.rec.grouped a, slot_among geo st.settled a st.rec.logged, m.T o, m.G o, m.log o))
    cause-refusal (save Save.sync) h f =
        open_refusal false (last_save_row ∷ []) _
        (λ o. rw (m.save o, m.G o, length-up_to (listed st.work (group_from geo)) st.rec.grouped))
    cause-refusal (save Save.apply) h f = open_refusal false [] 0 (λ o. refl)
    cause-refusal (save Save.recover) h f = rw (sizes, counts, m.mode) (go (eqb st.rec.mode down) (eqb st.rec.mode open_mode) refl refl)
      where
        choice : ℕ
        choice = choice_number (choose geo st.rec.blocks st.settled)

        go : (s t : Bool) → eqb st.rec.mode down ≡ s → eqb st.rec.mode open_mode ≡ t
            → ◌≡◌ {A = ℕ} (cond s 4 (cond t 5 (cond (eqb choice 8) 8 (cond (eqb choice 9) 9 0)))) (cond s 4 (cond t 5 0))
        go true t p q = refl
        go false true p q = refl
        go false false p q =
            let a : st.rec.mode ≢ down = eqb-false _ _ p in
            let b : st.rec.mode ≢ open_mode = eqb-false _ _ q in
            let k : st.rec.mode ≤ down = (record_facts geo st counts).mode in
            rw (h refl (omega arith))
    cause-refusal (cut ms) h f = rw (sizes, counts, f ms)

-- ---- numbers that are not given

-- a row of another number in front
else_not : (t : Bool) (j k rest : ℕ) → j ≢ k → rest ≢ k → cond t j rest ≢ k
else_not true j k rest n f = n
else_not false j k rest n f = f

-- the rows behind 1 and 2 give neither
behind_not : (rs : List Row) (k : ℕ) (st : State) → k ≤ 2 → k ≢ 0 → first rs st ≢ k
behind_not [] k st small z = λ e. z (sym e)
behind_not (r ∷ rs) k st small z =
    let h : 2 < r.number = r.behind in
    else_not (r.test st) r.number k (first rs st) (λ e. omega arith) (behind_not rs k st small z)

module _ (geo : Geometry) where
  -- 1 is for the call's own block
  pub cause-one : (q : Request) (st : State) → wrong_sizes geo st ≡ false → cause geo q st ≡ 1 → wrong_block geo q ≡ true
  cause-one q st sizes = go (rules geo q)
    where
      own-one : (t own : Bool) (rest : ℕ) → t ≡ false → rest ≢ 1 → cond (t || own) 1 rest ≡ 1 → own ≡ true
      own-one true own rest z h e = absurd (false≢true (sym z))
      own-one false true rest z h e = refl
      own-one false false rest z h e = absurd (h e)

      behind : (rs : List Row) → first rs st ≢ 1
      behind rs = behind_not rs 1 st (omega arith) (omega arith)

      go : (r : Rules) → cause_by geo r st ≡ 1 → own_size r ≡ true
      go (of_bytes own rest) = own-one (wrong_sizes geo st) own _ sizes (behind rest)
      go (of_record own rest) = own-one (wrong_sizes geo st) own _ sizes (else_not (wrong_record geo st) 2 1 _ (omega arith) (behind rest))
      go (of_open own rest) = own-one (wrong_sizes geo st) own _ sizes (else_not (wrong_record geo st) 2 1 _ (omega arith) (behind (closed_row ∷ down_row ∷ rest)))

  pub cause_two : (q : Request) (st : State) → wrong_record geo st ≡ false → cause geo q st ≢ 2
  cause_two q st counts = go (rules geo q)
    where
      behind : (rs : List Row) → first rs st ≢ 2
      behind rs = behind_not rs 2 st (omega arith) (omega arith)

      go : (r : Rules) → cause_by geo r st ≢ 2
      go (of_bytes own rest) = else_not (wrong_sizes geo st || own) 1 2 _ (omega arith) (behind rest)
      go (of_record own rest) = else_not (wrong_sizes geo st || own) 1 2 _ (omega arith) (rw counts (behind rest))
      go (of_open own rest) = else_not (wrong_sizes geo st || own) 1 2 _ (omega arith) (rw counts (behind (closed_row ∷ down_row ∷ rest)))

  -- ---- a call that no row of the table refuses

  pub cause_passes : (q : Request) (st : State) → cause geo q st ≡ 0 → Passes geo q st
  cause_passes q st e = causes_passes geo q st 0 (sym e) refl

  -- a call that needs an open store
  pub record IsOpen (st : State) : Type 0 where
    pub facts : SoundFacts geo st
    pub mode : st.rec.mode ≡ open_mode
    pub lists : ListFacts geo st

  pub cause_opened : (q : Request) (st : State) → reads_record geo q ≡ true → needs_open geo q ≡ true → cause geo q st ≡ 0 → IsOpen st
  cause_opened q st reads needs e =
      let p = cause_passes q st e in
      let f = sound_facts geo st p.sizes (other _ _ p.counts reads) in
      let a : st.rec.mode ≢ closed = eqb-false _ _ (other _ _ p.not-closed needs) in
      let b : st.rec.mode ≢ down = eqb-false _ _ (other _ _ p.not_down needs) in
      let few : st.rec.mode ≤ down = f.counts.mode in
      let mode : st.rec.mode ≡ open_mode = omega arith in
      record { facts = f; mode = mode; lists = f.counts.lists mode }
