-- The step of a direct write (W-209): one order, or two with as many waiting as may.
use Prim.Native.Nat.{ℕ, ◌+◌, ◌*◌, ◌-◌, ◌≤◌, ◌<◌, min}
use mathlib.Core.Path.{◌≡◌, refl, ap, ap₂, sym, subst, ◌∙◌}
use mathlib.Core.Logic.{◌≢◌, ◌⊎◌}
use mathlib.Core.Bool.{Bool, false, cond, ◌||◌}
use mathlib.Core.List.{List, [], ◌∷◌, ◌++◌, append-nil}
use native.Mathlib.Omega.{arith}
use native.Mathlib.Decide.{ℕ_discrete, dec_le}
use borrow.Author.Tests.{eq-eqb, ne_eqb, eqb-true, not-false}
use lib.Dec.{eqb}
use lib.ListN.{length, take, length-append}
use lib.Seq.{take_all}
use Rattle.cells.specs.Entry.{entry_bytes, Entry}
use Rattle.crash.specs.Laid.{Laid}
use Rattle.card.specs.Card.{Card, Order, write, flush, queue, settle, run, block_at}
use Rattle.card.specs.Marks.{whole_block, marks_fit}
use Rattle.card.proofs.All.{All, all_append, all_map}
use Rattle.card.proofs.Runs.{Whole, NarrowAddress, settle-append, length-settle, run-append, run-power, run_lengths, run_dead, writes_settled, writes_count, writes_queue, queue_below}
use Rattle.journal.specs.Geometry.{Geometry}
use Rattle.journal.specs.Log.{entries}
use Rattle.journal.proofs.Logs.{neither}
use Rattle.crash.proofs.Batches.{Left, queued_done}
use Rattle.crash.proofs.CallCuts.{still_cuts}
use Rattle.crash.proofs.Cards.{Every, WholeCard}
use Rattle.crash.proofs.Frames.{Besides}
use Rattle.crash.proofs.Leads.{Behind, none_behind}
use Rattle.crash.proofs.Logs.{log_d, entries_disk, data_below}
use Rattle.crash.proofs.Waiting.{leads_sub, drawn_card}
use Rattle.store.specs.Request as Request
use Rattle.store.specs.State.{State, Outcome, down, with_mode, with_record, with_card, card_in}
use Rattle.journal.specs.Lookup.{last_slot}
use Rattle.store.specs.Lists.{open_from, group_from, find}
use Rattle.store.specs.Causes.{is_found, cause}
use Rattle.store.specs.Saves.{carried}
use Rattle.store.specs.Direct.{direct_write, direct_orders}
use Rattle.store.proofs.Causes.{SizeFacts, sizes_facts}
use Rattle.history.specs.Call.{get, direct}
use Rattle.history.specs.Plain.{Plain, of_direct, among, addresses, flushes, unchanged, Done, done, refusal, plain_step, plain_direct, direct_takes, direct_waits, cut_short, drawn, written, with_s, with_waiting, with_writes, with_power}
use Rattle.history.specs.Dispatch.{called, dispatch}
use Rattle.history.specs.Ledger.{entered, resolved}
use Rattle.history.specs.History.{World, ledger_next, fed}
use Rattle.history.proofs.Relation.Lists.{Data, slot_among, firm_besides, addresses-append, addresses-take, waits_besides}
use Rattle.history.proofs.Relation.CauseLaws.{RecordFacts, facts_sizes, record_facts, facts_record, cause_passes}
use Rattle.history.proofs.Relation.OpenFacts as Facts
use Rattle.history.proofs.Relation.PlainLaws.{plain_eq, direct-done, direct_short, choose_direct, header_direct}
use Rattle.history.proofs.Relation.Sim.{Basics, Firm, Waits, flushed_bytes, OpenSim, Sim, cut_loose, chosen_by, chosen-still}
use Rattle.history.proofs.Steps.CallEnds.{carried-done, carried-short}
use Rattle.history.proofs.Steps.Ends.{sizes_kept, waiting-left}
use Rattle.history.proofs.Steps.Shown.{WorldSim, StepOK, sim_step, sim_at, same-cause, plain_served}
use Rattle.history.proofs.Steps.Worlds.{settled_ledger, plain_now, open_world, Opened, opened_sim, open_step}

direct_no_get : (a : ℕ) (b : List ℕ) (i : ℕ) → direct a b ≡ get i → ⊥
direct_no_get a b i e = let z : ◌≡◌ {A = ℕ} 0 1 = cc in omega arith

module _ (geo : Geometry) where
  module _ (st : State) (v : List Entry) (S : Laid) (f : Opened geo st v S) where
    abbrev d : Plain
    d = plain_now geo st S

    abbrev N : ℕ
    N = st.rec.blocks

    abbrev b : Basics geo st (plain_now geo st S)
    b = f.basics

    abbrev o : OpenSim geo st (settled_ledger v) (plain_now geo st S)
    o = f.sim

    sz : SizeFacts geo st
    sz = sizes_facts geo st b.sizes

    rc : RecordFacts geo st
    rc = record_facts geo st b.counts

    abbrev waiting : List Entry
    waiting = queue (card_in st)

    -- ---- the card c: the settled bytes s, on which the log is as before, and direct writes q that wait

    pub record Holds (c : Card) (s : List ℕ) (q : List Entry) (p : ℕ) : Type 0 where
      pub left : Left (card_in st) c s q p
      pub long : length s ≡ length st.settled
      pub log : entries geo s st.rec.logged ≡ entries geo st.settled st.rec.logged
      pub waits : All (Waits geo st) q
      pub few : length q ≤ geo.direct

    module _ (c : Card) (s : List ℕ) (q : List Entry) (p : ℕ) (h : Holds c s q p) where
      long_settled : length c.settled ≡ length st.settled
      long_settled = ap length h.left.settled ∙ h.long

      log_is : entries geo c.settled st.rec.logged ≡ entries geo st.settled st.rec.logged
      log_is = ap (λ (x : List ℕ). entries geo x st.rec.logged) h.left.settled ∙ h.log

      low : All (λ e. e.address < N) q
      low = all_map (Waits geo st) (λ e. e.address < N) (λ e z. data_below geo N e.address z.0) q h.waits

      -- open, with other data blocks
      abbrev now_plain : Laid → Plain
      now_plain T = with_s T (with_waiting (length q) (with_writes (addresses q) (with_power p d)))

      pub now_sim : (T : Laid) → T.groups ≡ S.groups → WholeCard geo Every N (block_at (settle q s)) v T st.rec.logged
          → Sim geo (with_card c (with_record st.rec st)) (settled_ledger v) (now_plain T)
      now_sim T e card = record {
        basics = record {
          sizes = facts_sizes geo _ (sizes_kept geo st _ long_settled h.left.room refl sz);
          counts = facts_record geo _
              (record {
                mode = rc.mode;
                open_count = rc.open_count;
                group_count = rc.group_count;
                log_count = rc.log_count;
                waiting_count = rw o.mode (omega (arith, h.left.count, h.few));
                blocks = rw long_settled rc.blocks;
                waiting_below = queue_below N c (rw h.left.waits low);
                lists = λ z. record {
                  open_data = (rc.lists z).open_data;
                  group_data = (rc.lists z).group_data;
                  log_data = rw log_is (rc.lists z).log_data;
                  open_distinct = (rc.lists z).open_distinct;
                  group_distinct = (rc.lists z).group_distinct;
                };
              });
          mirrors = record { mode = sym o.mode; N = refl; waiting = sym h.left.count; T = λ z. refl; G = λ z. refl; save = λ z. e ∙ b.mirrors.save o.mode; log = λ z. ap addresses (sym log_is); writes = λ z. ap addresses (sym h.left.waits) };
          power = sym h.left.power;
        };
        phase = ◌⊎◌.inl (record {
          mode = o.mode;
          n = refl;
          F = refl;
          short = refl;
          loose = refl;
          pending = refl;
          sum = rw log_is o.sum;
          waits = subst (All (Waits geo (with_card c (with_record st.rec st)))) (sym h.left.waits) (all_map (Waits geo st) (Waits geo (with_card c (with_record st.rec st))) (λ i z. (z.0, ap (λ (l : List Entry). among i.address (addresses l)) log_is ∙ z.1)) q h.waits);
          card = rw (h.left.waits, h.left.settled) card;
        });
      }

      -- down, the direct write cut short after k orders
      abbrev down_plain : ℕ → Plain
      down_plain k = (cut_short geo (of_direct k) (length q) d).plain

      pub down_sim : (k : ℕ) → p ≡ 0 → cond (flushes geo (of_direct k) st.rec.logged (length d.G)) [] (addresses waiting) ≡ addresses q → Behind geo (Besides q) (Besides q) N s q v S st.rec.logged false
          → Sim geo (with_card c (with_record (with_mode down st.rec) st)) (settled_ledger v) (down_plain k)
      unfolding resolved
      down_sim k z loose behind = record {
        basics = record {
          sizes = facts_sizes geo _ (sizes_kept geo st _ long_settled h.left.room refl sz);
          counts = facts_record geo _
              (record {
                mode = omega arith;
                open_count = rc.open_count;
                group_count = rc.group_count;
                log_count = rc.log_count;
                waiting_count = omega (arith, h.left.count, h.few, geo.queued);
                blocks = rw long_settled rc.blocks;
                waiting_below = queue_below N c (rw h.left.waits low);
                lists = λ y. absurd (omega arith);
              });
          mirrors = record { mode = refl; N = refl; waiting = sym h.left.count; T = λ y. absurd (omega arith); G = λ y. absurd (omega arith); save = λ y. absurd (omega arith); log = λ y. absurd (omega arith); writes = λ y. absurd (omega arith) };
          power = sym (h.left.power ∙ z);
        };
        phase = ◌⊎◌.inr (◌⊎◌.inr (record {
          mode = refl;
          top = rw (header_direct geo k st.rec.logged (length d.G), h.left.waits) (all_map (Waits geo st) (λ e. whole_block ≢ e.address) (λ e y. high e y.0) q h.waits);
          cuts = λ ms y.
              chosen_by geo _ _ _ (down_plain k) _ (unchanged st.rec.logged false) (choose_direct geo k st.rec.logged (length d.G) false _ _)
              (chosen-still geo _ _ _ (down_plain k) _ refl
              (leads_sub geo (Besides q) (Firm geo (cut_loose (down_plain k))) (λ a u. waits_besides q a (rw loose at u)) N _ v S st.rec.logged false
              (still_cuts geo behind (card_in st) c 0 ms (subst (Left (card_in st) c s q) z h.left) (ap (marks_fit ms) (sym h.left.waits) ∙ y)))
              (rw (Facts.log_are geo st (settled_ledger v) d b o, Facts.written_is geo st (settled_ledger v) d b o) (sym (addresses-take st.rec.logged _))));
        }));
      }
        where
          high : (e : Entry) → Data geo N e → whole_block ≢ e.address
          high e y u = let k = Rattle.crash.proofs.Logs.data_above geo N e.address y in omega arith

    -- ---- what the orders leave

    module _ (e : Entry) (place : Waits geo st e) (whole : Whole e) where
      narrow : NarrowAddress e
      narrow = let k : e.address < N = data_below geo N e.address place.0 in omega (arith, sz.most, rc.blocks)

      -- behind the waiting writes q on a card c
      write_left : (c : Card) (s : List ℕ) (q : List Entry) (p : ℕ) → Holds c s q (p + 1) → length q < geo.direct → Holds (run (write e ∷ []) c) s (q ++ (e ∷ [])) p
      write_left c s q p h room =
          let size : length c.waiting ≡ entry_bytes * geo.places = h.left.room ∙ sz.waiting in
          let power : c.power ≡ p + 1 = h.left.power in
          let one : take c.power (e ∷ []) ≡ e ∷ [] = take_all c.power (e ∷ []) (omega arith) in
          let length-new : length (q ++ (e ∷ [])) ≡ length q + 1 = length-append q (e ∷ []) in
          let count : (run (write e ∷ []) c).count ≡ c.count + min c.power 1 = writes_count (e ∷ []) c in
          record {
            left = record {
              settled = writes_settled (e ∷ []) c ∙ h.left.settled;
              waits = writes_queue (e ∷ []) c (omega (arith, h.left.count, geo.queued)) (whole, tt) (narrow, tt) ∙ ap₂ (λ (x y : List Entry). x ++ y) h.left.waits one;
              count = omega (arith, h.left.count);
              power = run-power (write e ∷ []) c ∙ (omega arith);
              room = (run_lengths (write e ∷ []) c).1 ∙ h.left.room;
            };
            long = h.long;
            log = h.log;
            waits = all_append (Waits geo st) q (e ∷ []) h.waits (place, tt);
            few = omega arith;
          }

      -- as the call finds it
      found : (p : ℕ) → st.rec.power ≡ p → Holds (card_in st) st.settled waiting p
      found p z = record {
        left = subst (Left (card_in st) (card_in st) st.settled waiting) z (waiting-left st);
        long = refl;
        log = refl;
        waits = o.waits;
        few = omega (arith, Facts.length-waiting geo st (settled_ledger v) d b o, Facts.few geo st (settled_ledger v) d b o);
      }

      -- the flush
      flushed-log : entries geo (flushed_bytes geo st) st.rec.logged ≡ entries geo st.settled st.rec.logged
      flushed-log = entries_disk geo (flushed_bytes geo st) st.rec.logged ∙ Facts.flushed-log geo st (settled_ledger v) d b o ∙ sym (Facts.entries-log geo st (settled_ledger v) d b o)

      flush_left : (p : ℕ) → st.rec.power ≡ p + 1 → Holds (run (flush ∷ []) (card_in st)) (flushed_bytes geo st) [] p
      flush_left p z =
          let l = queued_done (card_in st) [] (record { places = omega (arith, sz.waiting, Facts.few geo st (settled_ledger v) d b o, geo.queued); whole = tt; low = tt }) (omega arith) in
          record {
            left = record {
              settled = l.settled ∙ ap (λ (q : List Entry). settle q st.settled) (append-nil waiting);
              waits = l.waits;
              count = l.count;
              power = l.power ∙ (omega arith);
              room = l.room;
            };
            long = length-settle waiting st.settled;
            log = flushed-log;
            waits = tt;
            few = omega arith;
          }

      -- the card with the block drawn
      drawn-now : WholeCard geo Every N (block_at (settle (e ∷ []) (flushed_bytes geo st))) v (drawn e S) st.rec.logged
      drawn-now =
          drawn_card geo N (flushed_bytes geo st) v S st.rec.logged e (Facts.size_flushed geo st (settled_ledger v) d b o) whole place.0
          (firm_besides e.address (log_d geo (block_at (flushed_bytes geo st)) st.rec.logged) (ap (λ (l : List Entry). among e.address (addresses l)) (sym (entries_disk geo (flushed_bytes geo st) st.rec.logged) ∙ flushed-log) ∙ place.1)) o.card

      -- the settled bytes behind it, flushed before or not
      drawn-behind : settle (waiting ++ (e ∷ [])) st.settled ≡ settle (e ∷ []) (flushed_bytes geo st)
      drawn-behind = settle-append waiting (e ∷ []) st.settled

  -- ---- the call

  module _ (a : ℕ) (x : List ℕ) (st : State) (v : List Entry) (S : Laid) (y : Bool) (f : Opened geo st v S) (h : refusal geo (direct a x) (plain_now geo st S) ≡ 0) where
    abbrev w : World
    w = open_world geo st v S y

    abbrev e : Entry
    e = record { address = a; block = x }

    accepted : cause geo (Request.direct a x) st ≡ 0
    accepted = same-cause geo st (settled_ledger v) (plain_now geo st S) (opened_sim geo f) (direct a x) ∙ h

    whole : Whole e
    whole = eqb-true _ _ (not-false _ (cause_passes geo (Request.direct a x) st accepted).block)

    place : Waits geo st e
    place =
        let q = (cause_passes geo (Request.direct a x) st accepted).own in
        (not-false _ q.0, sym (slot_among geo st.settled a st.rec.logged) ∙ (neither (is_found (find st.work open_from st.rec.opened a) || is_found (find st.work (group_from geo) st.rec.grouped a)) (is_found (last_slot st.settled a st.rec.logged)) q.1.0).1)

    call : dispatch geo (direct a x) st ≡ carried (direct_orders geo a x st) st.rec st.rec st
    unfolding called
    call = rw (eq-eqb _ 0 accepted)

    plain : plain_step geo (direct a x) (fed geo (direct a x) w) (plain_now geo st S) ≡ plain_direct geo a x (plain_now geo st S)
    plain = plain_served geo (direct a x) (fed geo (direct a x) w) (plain_now geo st S) h

    same_ledger : ledger_next geo (direct a x) w ≡ settled_ledger v
    unfolding entered
    same_ledger = refl

    shows : (o : Outcome) (p : Done) → dispatch geo (direct a x) st ≡ o → plain_direct geo a x (plain_now geo st S) ≡ p → o.answer ≡ p.answer → o.orders ≡ p.orders → Sim geo o.state (settled_ledger v) p.plain → StepOK geo (direct a x) w
    shows o p D P same k m =
        sim_step geo (direct a x) w
        (record {
          answer = ap (λ (z : Outcome). z.answer) D ∙ same ∙ sym (ap (λ (z : Done). z.answer) (plain ∙ P));
          orders = ap (λ (z : Outcome). z.orders) D ∙ k ∙ sym (ap (λ (z : Done). z.orders) (plain ∙ P));
          block = λ i z u. absurd (direct_no_get a x i z);
          sim = sim_at geo (ap (λ (z : Outcome). z.state) D) same_ledger (ap (λ (z : Done). z.plain) (plain ∙ P)) m;
        })

    -- how many orders it has
    full : st.rec.waiting ≡ geo.direct → direct_orders geo a x st ≡ flush ∷ direct_write a x ∷ []
    unfolding direct_orders
    full z = rw (eq-eqb _ _ z)

    room : st.rec.waiting ≢ geo.direct → direct_orders geo a x st ≡ direct_write a x ∷ []
    unfolding direct_orders
    room z = rw (ne_eqb _ _ z)

    -- cut short after k orders, which left the card c
    cut_step : (os : List Order) (k : ℕ) (s : List ℕ) (q : List Entry) → direct_orders geo a x st ≡ os → st.rec.power ≡ k → k < length os → direct_takes geo st.rec.waiting ≡ length os
        → Holds st v S f (run os (card_in st)) s q 0 → direct_waits st.rec.waiting k ≡ length q
        → cond (flushes geo (of_direct k) st.rec.logged (length (plain_now geo st S).G)) [] (addresses (queue (card_in st))) ≡ addresses q → Behind geo (Besides q) (Besides q) st.rec.blocks s q v S st.rec.logged false
        → StepOK geo (direct a x) w
    cut_step os k s q is z less takes holds waits loose behind =
        shows _ _ (call ∙ ap (λ (l : List Order). carried l st.rec st.rec st) is ∙ carried-short os st.rec st.rec st (omega arith))
        (direct_short geo a x (plain_now geo st S) (omega arith) ∙ (λ i. cut_short geo (of_direct (z i)) ((ap (direct_waits st.rec.waiting) z ∙ waits) i) (plain_now geo st S))) refl refl
        (down_sim st v S f (run os (card_in st)) s q 0 holds k refl loose behind)

    -- power for all of them
    done-step : (os : List Order) (p : ℕ) (s : List ℕ) (q : List Entry) → direct_orders geo a x st ≡ os → st.rec.power ≡ p + length os → direct_takes geo st.rec.waiting ≡ length os
        → Holds st v S f (run os (card_in st)) s q p → cond (eqb st.rec.waiting geo.direct) 0 st.rec.waiting + 1 ≡ length q → cond (eqb st.rec.waiting geo.direct) [] (addresses (queue (card_in st))) ++ (a ∷ []) ≡ addresses q
        → WholeCard geo Every st.rec.blocks (block_at (settle q s)) v (drawn e S) st.rec.logged → StepOK geo (direct a x) w
    done-step os p s q is z takes holds waits writes card =
        let enough : direct_takes geo st.rec.waiting ≤ st.rec.power = omega arith in
        let after : written geo a x (plain_now geo st S) ≡ now_plain st v S f (run os (card_in st)) s q p holds (drawn e S) =
        plain_eq refl refl refl refl refl refl (let u : st.rec.power - direct_takes geo st.rec.waiting ≡ p = omega arith in u) waits refl refl refl writes refl in
        shows _ _ (call ∙ ap (λ (l : List Order). carried l st.rec st.rec st) is ∙ carried-done os st.rec st.rec st (omega arith))
        (direct-done geo a x (plain_now geo st S) enough ∙ (λ i. done (takes i) (after i))) refl refl
        (now_sim st v S f (run os (card_in st)) s q p holds (drawn e S) refl card)

    -- no order happened
    powerless : (os : List Order) → direct_orders geo a x st ≡ os → 0 < length os → direct_takes geo st.rec.waiting ≡ length os → st.rec.power ≡ 0 → StepOK geo (direct a x) w
    unfolding flushes
    powerless os is some takes z =
        cut_step os 0 st.settled (queue (card_in st)) is z some takes
        (subst (λ (c : Card). Holds st v S f c st.settled (queue (card_in st)) 0) (sym (run_dead os (card_in st) z)) (found st v S f e place whole 0 z))
        (sym (Facts.length-waiting geo st (settled_ledger v) (plain_now geo st S) f.basics f.sim)) refl
        (Facts.behind geo st (settled_ledger v) (plain_now geo st S) f.basics f.sim)

    -- with as many waiting as may
    abbrev both : List Order
    both = flush ∷ direct_write a x ∷ []

    two : st.rec.waiting ≡ geo.direct → direct_takes geo st.rec.waiting ≡ 2
    two z = rw (eq-eqb _ _ z)

    both_run : run both (card_in st) ≡ run (direct_write a x ∷ []) (run (flush ∷ []) (card_in st))
    both_run = run-append (flush ∷ []) (direct_write a x ∷ []) (card_in st)

    flushed_only : st.rec.waiting ≡ geo.direct → st.rec.power ≡ 1 → StepOK geo (direct a x) w
    unfolding flushes addresses
    flushed_only z u =
        let l = flush_left st v S f e place whole 0 u in
        cut_step both 1 (flushed_bytes geo st) [] (full z) u (omega arith) (two z)
        (subst (λ (c : Card). Holds st v S f c (flushed_bytes geo st) [] 0) (sym (both_run ∙ run_dead (direct_write a x ∷ []) (run (flush ∷ []) (card_in st)) l.left.power)) l) refl refl
        (none_behind geo (Facts.big geo st (settled_ledger v) (plain_now geo st S) f.basics f.sim) (Facts.small geo st (settled_ledger v) (plain_now geo st S) f.basics f.sim)
        (Facts.size_flushed geo st (settled_ledger v) (plain_now geo st S) f.basics f.sim) f.sim.card)

    flushed-written : st.rec.waiting ≡ geo.direct → (p : ℕ) → st.rec.power ≡ p + 2 → StepOK geo (direct a x) w
    unfolding addresses
    flushed-written z p u =
        let l = flush_left st v S f e place whole (p + 1) (omega arith) in
        done-step both p (flushed_bytes geo st) (e ∷ []) (full z) u (two z)
        (subst (λ (c : Card). Holds st v S f c (flushed_bytes geo st) (e ∷ []) p) (sym both_run) (write_left st v S f e place whole (run (flush ∷ []) (card_in st)) (flushed_bytes geo st) [] p l geo.directed))
        (rw (eq-eqb _ _ z)) (rw (eq-eqb _ _ z)) (drawn-now st v S f e place whole)

    -- with fewer
    one : st.rec.waiting ≢ geo.direct → direct_takes geo st.rec.waiting ≡ 1
    one z = rw (ne_eqb _ _ z)

    one_address : addresses (queue (card_in st)) ++ addresses (e ∷ []) ≡ addresses (queue (card_in st)) ++ (a ∷ [])
    unfolding addresses
    one_address = refl

    written_only : st.rec.waiting ≢ geo.direct → (p : ℕ) → st.rec.power ≡ p + 1 → StepOK geo (direct a x) w
    written_only z p u =
        let size : length (queue (card_in st)) ≡ st.rec.waiting = Facts.length-waiting geo st (settled_ledger v) (plain_now geo st S) f.basics f.sim in
        let most : st.rec.waiting ≤ geo.direct = Facts.few geo st (settled_ledger v) (plain_now geo st S) f.basics f.sim in
        done-step (direct_write a x ∷ []) p st.settled (queue (card_in st) ++ (e ∷ [])) (room z) u (one z)
        (write_left st v S f e place whole (card_in st) st.settled (queue (card_in st)) p (found st v S f e place whole (p + 1) u) (omega arith))
        (rw (ne_eqb _ _ z) (sym (length-append (queue (card_in st)) (e ∷ []) ∙ ap (λ (k : ℕ). k + 1) size))) (rw (ne_eqb _ _ z) (sym (addresses-append (queue (card_in st)) (e ∷ []) ∙ one_address)))
        (rw (drawn-behind st v S f e place whole) (drawn-now st v S f e place whole))

    direct_open : StepOK geo (direct a x) w
    direct_open = go (ℕ_discrete st.rec.waiting geo.direct) (dec_le st.rec.power 0) (dec_le st.rec.power 1)
      where
        go : Dec (st.rec.waiting ≡ geo.direct) → Dec (st.rec.power ≤ 0) → Dec (st.rec.power ≤ 1) → StepOK geo (direct a x) w
        go (yes z) (yes p) q = powerless both (full z) (omega arith) (two z) (omega arith)
        go (yes z) (no p) (yes q) = flushed_only z (omega arith)
        go (yes z) (no p) (no q) = flushed-written z (st.rec.power - 2) (omega arith)
        go (no z) (yes p) q = powerless (direct_write a x ∷ []) (room z) (omega arith) (one z) (omega arith)
        go (no z) (no p) q = written_only z (st.rec.power - 1) (omega arith)

  pub direct_step : (a : ℕ) (b : List ℕ) (w : World) → WorldSim geo w → StepOK geo (direct a b) w
  direct_step a b = open_step geo (direct a b) refl (λ st v S x f h. direct_open a b st v S x f h)
