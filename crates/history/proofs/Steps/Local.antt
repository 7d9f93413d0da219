-- The steps of power, put, get, a list of gets, commit and abandon: they give no orders and leave the card and the ledger as they are.
use Prim.Native.Nat.{ℕ, ◌<◌, ◌≤◌, ◌^◌}
use mathlib.Core.Path.{◌≡◌, refl, ap, ap₂, sym, ◌∙◌}
use mathlib.Core.Logic.{◌⊎◌}
use mathlib.Core.Bool.{true, true≢false, cond}
use mathlib.Core.List.{List, []}
use native.Mathlib.Omega.{arith}
use native.Mathlib.Decide.{ℕ_discrete}
use borrow.Author.Tests.{eq-eqb, ne_eqb, eqb-true, ltb-false, leb-false, not-false}
use lib.Dec.{eqb}
use lib.ListN.{length}
use Rattle.cells.specs.Entry.{Entry}
use Rattle.cells.specs.Upto as Upto
use Rattle.cells.specs.Upto.Laws.{ext_joined}
use Rattle.card.specs.Card.{cut, queue}
use Rattle.card.proofs.All.{All}
use Rattle.card.proofs.Overlays.{overlay_agree}
use Rattle.journal.specs.Geometry.{Geometry}
use Rattle.journal.specs.Layout.{is_data, most_blocks}
use Rattle.journal.specs.Wanted.{wanted_count, wanted_at}
use Rattle.crash.proofs.Logs.{entries_disk}
use Rattle.store.specs.State.{State, Outcome, open_mode, with_opened, with_grouped, with_queue, with_record, with_work}
use Rattle.store.specs.Lists.{open_from, group_from, list_of, find}
use Rattle.store.specs.Request as Request
use Rattle.store.specs.Request.{Request}
use Rattle.store.specs.Causes.{work_bytes, wrong_sizes, wrong_counts, wrong_waiting, wrong_lists, cause}
use Rattle.store.specs.Outcomes.{completed}
use Rattle.store.specs.Put.{put_at}
use Rattle.store.specs.Get.{newest, bytes_at, block_of}
use Rattle.store.specs.GetList.{list_walk, shown, listing}
use Rattle.store.specs.Commit.{Group, joined}
use Rattle.store.proofs.Causes.{sizes_facts, needs_open, Passes}
use Rattle.store.proofs.Places.{data_lt}
use Rattle.store.proofs.Listings.{list_facts, get-newest, listing-served, listing-refused, walk_length}
use Rattle.history.specs.Call.{Call, request_of, power, put, get, get_list, commit, abandon}
use Rattle.history.specs.Plain.{Plain, Done, insert, merge, refusal, with_lists, with_power, still, served, plain_step, plain_get, plain_listing}
use Rattle.history.specs.Dispatch.{called, dispatch}
use Rattle.history.specs.Ledger.{Ledger, entered}
use Rattle.history.specs.History.{World, fed}
use Rattle.history.proofs.Relation.Lists.{Distinct, Data, distinct_insert, all_insert, distinct_merge, all-merge}
use Rattle.history.proofs.Relation.WorkLists.{data_short, put_open, newcomers-merge, joined-group, newest-get}
use Rattle.history.proofs.Relation.CauseLaws.{facts_sizes, record_facts, facts_record, cause_passes}
use Rattle.history.proofs.Relation.Sim.{OpenSim, ClosedSim, DownSim, Sim}
use Rattle.history.proofs.Relation.OpenFacts.{open_disk}
use Rattle.history.proofs.Steps.Shown.{WorldSim, StepOK, sim_step, sim_at, small_N, same-cause, refused-step, plain_served}

-- ---- a call that is done at once

module _ (geo : Geometry) where
  -- it leaves the state `now`, and the plain disk becomes d
  record Serves (c : Call) (w : World) (d : Plain) : Type 0 where
    now : State
    call : dispatch geo c w.store ≡ completed now
    block : (a : ℕ) → c ≡ get a → block_of geo a w.store ≡ plain_get a w.plain
    sim : Sim geo now w.ledger d

  quiet_step : (c : Call) (w : World) (d : Plain) → WorldSim geo w → entered geo c w.store w.ledger ≡ w.ledger
      → served geo c (fed geo c w) w.plain ≡ still d → (cause geo (request_of c) w.store ≡ 0 → Serves c w d) → StepOK geo c w
  quiet_step c w d m l p s = go (ℕ_discrete (refusal geo c w.plain) 0)
    where
      go : Dec (refusal geo c w.plain ≡ 0) → StepOK geo c w
      go (no h) = refused-step geo c w m h
      go (yes h) =
          let r = s (same-cause geo w.store w.ledger w.plain m c ∙ h) in
          let P : plain_step geo c (fed geo c w) w.plain ≡ still d = plain_served geo c (fed geo c w) w.plain h ∙ p in
          sim_step geo c w
          (record {
            answer = ap (λ (o : Outcome). o.answer) r.call ∙ sym (ap (λ (o : Done). o.answer) P);
            orders = ap (λ (o : Outcome). o.orders) r.call ∙ sym (ap (λ (o : Done). o.orders) P);
            block = λ a q z. r.block a q;
            sim = sim_at geo (ap (λ (o : Outcome). o.state) r.call) l (ap (λ (o : Done). o.plain) P) r.sim;
          })

  -- ---- power

  power_sim : (k : ℕ) (st : State) (l : Ledger) (d : Plain) → Sim geo st l d → Sim geo (with_record (with_queue st.rec.waiting k st.rec) st) l (with_power k d)
  unfolding wrong_sizes wrong_counts wrong_waiting wrong_lists cut queue
  power_sim k st l d m =
      let b = m.basics in
      let r = b.mirrors in
      record {
        basics = record {
          sizes = b.sizes;
          counts = b.counts;
          mirrors = record { mode = r.mode; N = r.N; waiting = r.waiting; T = r.T; G = r.G; save = r.save; log = r.log; writes = r.writes };
          power = refl;
        };
        phase = go m.phase;
      }
    where
      now : State
      now = with_record (with_queue st.rec.waiting k st.rec) st

      go : OpenSim geo st l d ⊎ (ClosedSim geo st l d ⊎ DownSim geo st l d) → OpenSim geo now l (with_power k d) ⊎ (ClosedSim geo now l (with_power k d) ⊎ DownSim geo now l (with_power k d))
      go (◌⊎◌.inl o) = ◌⊎◌.inl (record { mode = o.mode; n = o.n; F = o.F; short = o.short; loose = o.loose; pending = o.pending; sum = o.sum; waits = o.waits; card = o.card })
      go (◌⊎◌.inr (◌⊎◌.inl o)) = ◌⊎◌.inr (◌⊎◌.inl (record { mode = o.mode; T = o.T; G = o.G; short = o.short; writes = o.writes; log = o.log; pending = o.pending; save = o.save; card = o.card }))
      go (◌⊎◌.inr (◌⊎◌.inr o)) = ◌⊎◌.inr (◌⊎◌.inr (record { mode = o.mode; top = o.top; cuts = o.cuts }))

  pub power-step : (k : ℕ) (w : World) → WorldSim geo w → StepOK geo (power k) w
  unfolding called entered
  power-step k w m =
      quiet_step (power k) w (with_power k w.plain) m refl refl
      (λ e. record {
        now = with_record (with_queue w.store.rec.waiting k w.store.rec) w.store;
        call = rw (eq-eqb _ 0 e);
        block = λ a q. let z : ◌≡◌ {A = ℕ} 0 1 = cc in absurd (omega arith);
        sim = power_sim k w.store w.ledger w.plain m;
      })

  -- ---- the calls that need the mode open

  -- work memory holds the list l, as check 2 wants it
  record Held (N : ℕ) (work : List ℕ) (from n : ℕ) (l : List Entry) : Type 0 where
    list : list_of work from n ≡ l
    count : n ≤ geo.slots
    all : All (Data geo N) l
    distinct : Distinct l

  none_held : (N : ℕ) (work : List ℕ) (from : ℕ) → Held N work from 0 []
  none_held N work from = record { list = refl; count = omega arith; all = tt; distinct = tt }

  -- open is T and group is G
  record Lists (N : ℕ) (work : List ℕ) (t g : ℕ) (T G : List Entry) : Type 0 where
    size : length work ≡ work_bytes geo
    in_open : Held N work open_from t T
    in_group : Held N work (group_from geo) g G

  abbrev ListsIn : State → Plain → Type 0
  ListsIn st d = Lists st.rec.blocks st.work st.rec.opened st.rec.grouped d.T d.G

-- other lists, and nothing else
abbrev lists_set : List ℕ → ℕ → ℕ → State → State
lists_set work t g st = with_record (with_opened t (with_grouped g st.rec)) (with_work work st)

module _ (geo : Geometry) where
  module _ (st : State) (l : Ledger) (d : Plain) (m : Sim geo st l d) where
    pub is_open : (q : Request) → needs_open geo q ≡ true → Passes geo q st → OpenSim geo st l d
    is_open q n p = go m.phase
      where
        go : OpenSim geo st l d ⊎ (ClosedSim geo st l d ⊎ DownSim geo st l d) → OpenSim geo st l d
        go (◌⊎◌.inl o) = o
        go (◌⊎◌.inr (◌⊎◌.inl o)) = absurd (true≢false (rw (n, eq-eqb _ _ o.mode) at p.not-closed))
        go (◌⊎◌.inr (◌⊎◌.inr o)) = absurd (true≢false (rw (n, eq-eqb _ _ o.mode) at p.not_down))

    lists_in : st.rec.mode ≡ open_mode → ListsIn geo st d
    lists_in o =
        let r = record_facts geo st m.basics.counts in
        let f = r.lists o in
        let T = m.basics.mirrors.T o in
        let G = m.basics.mirrors.G o in
        record {
          size = (sizes_facts geo st m.basics.sizes).work;
          in_open = record { list = sym T; count = r.open_count; all = rw T f.open_data; distinct = rw T f.open_distinct };
          in_group = record { list = sym G; count = r.group_count; all = rw G f.group_data; distinct = rw G f.group_distinct };
        }

    lists_sim : OpenSim geo st l d → (work : List ℕ) (k i : ℕ) (T G : List Entry) → Lists geo st.rec.blocks work k i T G → Sim geo (lists_set work k i st) l (with_lists G T d)
    lists_sim o work k i T G n =
        let s = sizes_facts geo st m.basics.sizes in
        let r = record_facts geo st m.basics.counts in
        let b = m.basics.mirrors in
        let t = n.in_open in
        let g = n.in_group in
        record {
          basics = record {
            sizes = facts_sizes geo (lists_set work k i st) (record { settled = s.settled; least = s.least; most = s.most; waiting = s.waiting; work = n.size });
            counts = facts_record geo (lists_set work k i st) (record {
              mode = r.mode;
              open_count = t.count;
              group_count = g.count;
              log_count = r.log_count;
              waiting_count = r.waiting_count;
              blocks = r.blocks;
              waiting_below = r.waiting_below;
              lists = λ h. record {
                open_data = rw t.list t.all;
                group_data = rw g.list g.all;
                log_data = (r.lists o.mode).log_data;
                open_distinct = rw t.list t.distinct;
                group_distinct = rw g.list g.distinct;
              };
            });
            mirrors = record { mode = b.mode; N = b.N; waiting = b.waiting; T = λ h. sym t.list; G = λ h. sym g.list; save = b.save; log = b.log; writes = b.writes };
            power = m.basics.power;
          };
          phase = ◌⊎◌.inl (record { mode = o.mode; n = o.n; F = o.F; short = o.short; loose = o.loose; pending = o.pending; sum = o.sum; waits = o.waits; card = o.card });
        }

  -- a call that is not refused leaves T and G and changes nothing else
  record Sets (c : Call) (st : State) (T G : List Entry) : Type 0 where
    work : List ℕ
    t : ℕ
    g : ℕ
    call : dispatch geo c st ≡ completed (lists_set work t g st)
    lists : Lists geo st.rec.blocks work t g T G

  lists_step : (c : Call) (w : World) (T G : List Entry) → WorldSim geo w → needs_open geo (request_of c) ≡ true → ((a : ℕ) → c ≡ get a → ⊥)
      → entered geo c w.store w.ledger ≡ w.ledger → served geo c (fed geo c w) w.plain ≡ still (with_lists G T w.plain)
      → (cause geo (request_of c) w.store ≡ 0 → Passes geo (request_of c) w.store → ListsIn geo w.store w.plain → Sets c w.store T G)
      → StepOK geo c w
  lists_step c w T G m n k l p f =
      quiet_step geo c w (with_lists G T w.plain) m l p
      (λ e.
      let q = cause_passes geo (request_of c) w.store e in
      let o = is_open w.store w.ledger w.plain m (request_of c) n q in
      let r = f e q (lists_in w.store w.ledger w.plain m o.mode) in
      record {
        now = lists_set r.work r.t r.g w.store;
        call = r.call;
        block = λ a z. absurd (k a z);
        sim = lists_sim w.store w.ledger w.plain m o r.work r.t r.g T G r.lists;
      })

  pub abandon-step : (w : World) → WorldSim geo w → StepOK geo abandon w
  unfolding called entered
  abandon-step w m =
      lists_step abandon w [] w.plain.G m refl (λ a q. let z : ◌≡◌ {A = ℕ} 0 1 = cc in omega arith) refl refl
      (λ e q b. record {
        work = w.store.work;
        t = 0;
        g = w.store.rec.grouped;
        call = rw (eq-eqb _ 0 e);
        lists = record { size = b.size; in_open = none_held geo _ _ open_from; in_group = b.in_group };
      })

  pub put_step : (a : ℕ) (b : List ℕ) (w : World) → WorldSim geo w → StepOK geo (put a b) w
  unfolding called entered
  put_step a b w m =
      lists_step (put a b) w (insert x w.plain.T) w.plain.G m refl (λ i q. let z : ◌≡◌ {A = ℕ} 0 1 = cc in omega arith) refl refl
      (λ e q f.
      let T = f.in_open in
      let G = f.in_group in
      let place : is_data geo N a ≡ true = not-false _ q.own.0 in
      let small : a < 2 ^ 32 = omega (arith, data_lt geo N a place, small_N geo st w.plain m.basics) in
      let r = put_open geo x st f.size T.count (eqb-true _ _ (not-false _ q.block)) small (rw T.list T.distinct) (λ h. leb-false _ _ (rw h at q.own.1.0)) in
      record {
        work = now.work;
        t = now.rec.opened;
        g = st.rec.grouped;
        call = rw (eq-eqb _ 0 e) (ap completed r.rest);
        lists = record {
          size = r.size ∙ f.size;
          in_open = record {
            list = r.open_list ∙ ap (insert x) T.list;
            count = r.few;
            all = all_insert (Data geo N) x w.plain.T place T.all;
            distinct = distinct_insert x w.plain.T T.distinct;
          };
          in_group = record { list = r.group-list _ G.count ∙ G.list; count = G.count; all = G.all; distinct = G.distinct };
        };
      })
    where
      st : State
      st = w.store

      N : ℕ
      N = st.rec.blocks

      x : Entry
      x = record { address = a; block = b }

      now : State
      now = put_at (find st.work open_from st.rec.opened a) x st

  pub commit-step : (w : World) → WorldSim geo w → StepOK geo commit w
  unfolding called entered
  commit-step w m =
      lists_step commit w [] (merge w.plain.T w.plain.G) m refl (λ a q. let z : ◌≡◌ {A = ℕ} 0 1 = cc in omega arith) refl refl
      (λ e q f.
      let T = f.in_open in
      let G = f.in_group in
      let room = ltb-false _ _ q.own.0 in
      let most : N ≤ most_blocks = omega (arith, (sizes_facts geo st m.basics.sizes).most, (record_facts geo st m.basics.counts).blocks) in
      let apart : Distinct (list_of st.work open_from n) = rw T.list T.distinct in
      let r = joined-group geo st.work k n f.size T.count apart (rw G.list G.distinct) (rw T.list (data_short geo N most w.plain.T T.all)) room in
      record {
        work = now.work;
        t = 0;
        g = now.count;
        call = rw (eq-eqb _ 0 e);
        lists = record {
          size = r.size ∙ f.size;
          in_open = none_held geo N now.work open_from;
          in_group = record {
            list = r.group-list ∙ ap₂ merge T.list G.list;
            count = omega (arith, r.count, newcomers-merge geo st.work k n apart, room);
            all = all-merge (Data geo N) w.plain.T w.plain.G T.all G.all;
            distinct = distinct_merge w.plain.T w.plain.G G.distinct;
          };
        };
      })
    where
      st : State
      st = w.store

      N : ℕ
      N = st.rec.blocks

      n : ℕ
      n = st.rec.opened

      k : ℕ
      k = st.rec.grouped

      now : Group
      now = joined geo n (record { work = st.work; count = k })

  -- ---- get

  -- the newest block is the plain disk's
  newest_plain : (a : ℕ) (st : State) (l : Ledger) (d : Plain) → Sim geo st l d → OpenSim geo st l d → ListsIn geo st d → is_data geo st.rec.blocks a ≡ true
      → bytes_at (newest geo a st) st ≡ plain_get a d
  unfolding plain_get
  newest_plain a st l d m o f h =
      newest-get geo a st
      ∙ rw (f.in_open.list, f.in_group.list, entries_disk geo st.settled st.rec.logged)
      (overlay_agree d.T _ _ a (overlay_agree d.G _ _ a (sym (open_disk geo st l d m.basics o a h))))

  -- so a get that is served shows the plain disk's block
  pub get_plain : (a : ℕ) (st : State) (l : Ledger) (d : Plain) → Sim geo st l d → cause geo (Request.get a) st ≡ 0 → block_of geo a st ≡ plain_get a d
  get_plain a st l d m e =
      let q = cause_passes geo (Request.get a) st e in
      let o = is_open st l d m (Request.get a) refl q in
      get-newest geo a st e ∙ newest_plain a st l d m o (lists_in st l d m o.mode) (not-false _ q.own.0)

  pub get-step : (a : ℕ) (w : World) → WorldSim geo w → StepOK geo (get a) w
  unfolding called entered
  get-step a w m =
      quiet_step geo (get a) w d m refl refl
      (λ e.
      let b : block_of geo a st ≡ plain_get a d = get_plain a st l d m e in
      record {
        now = st;
        call = rw (eq-eqb _ 0 e);
        block = λ i z. let j : a ≡ i = cc in rw j at b;
        sim = m;
      })
    where
      st : State
      st = w.store

      l : Ledger
      l = w.ledger

      d : Plain
      d = w.plain

  -- ---- a list of gets

  pub list-step : (xs bs : List ℕ) (w : World) → WorldSim geo w → StepOK geo (get_list xs bs) w
  unfolding called entered
  list-step xs bs w m =
      quiet_step geo (get_list xs bs) w w.plain m refl refl
      (λ e. record { now = w.store; call = rw (eq-eqb _ 0 e); block = λ a z. absurd (let n : ◌≡◌ {A = ℕ} 0 1 = cc in omega arith); sim = m })

  -- it hands out what the plain disk's does
  pub list_plain : (xs bs : List ℕ) (st : State) (l : Ledger) (d : Plain) → Sim geo st l d → listing geo xs bs st ≡ plain_listing geo xs bs d
  unfolding plain_listing
  list_plain xs bs st l d m = go (ℕ_discrete (cause geo (Request.get_list xs bs) st) 0)
    where
      same : cause geo (Request.get_list xs bs) st ≡ refusal geo (get_list xs bs) d
      same = same-cause geo st l d m (get_list xs bs)

      go : Dec (cause geo (Request.get_list xs bs) st ≡ 0) → listing geo xs bs st ≡ plain_listing geo xs bs d
      go (no h) = listing-refused geo xs bs st h ∙ rw (← same, ne_eqb _ 0 h)
      go (yes h) =
          let o = is_open st l d m (Request.get_list xs bs) refl (cause_passes geo (Request.get_list xs bs) st h) in
          let slots : length (list_walk xs st) ≡ cond (eqb (length xs) 0) 0 d.n = walk_length geo xs bs st h ∙ rw o.n in
          let blocks : shown geo xs st ≡ Upto.joined (λ i. plain_get (wanted_at xs i) d) (wanted_count xs) = ext_joined _ _ (wanted_count xs) (λ i p. get_plain (wanted_at xs i) st l d m ((list_facts geo xs bs st h).gets i p)) in
          sym (listing-served geo xs bs st _ _ h refl refl) ∙ rw (← same, h, slots, blocks)
