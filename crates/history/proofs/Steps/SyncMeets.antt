-- What the append of a sync meets: the state itself; or what the apply inside left.
use Prim.Native.Nat.{ℕ, ◌+◌, ◌^◌, ◌≤◌, ◌<◌}
use mathlib.Core.Path.{◌≡◌, refl, ap, ap₂, sym, ◌∙◌}
use mathlib.Core.Logic.{◌≢◌}
use mathlib.Core.Bool.{Bool, true, false, cond}
use mathlib.Core.List.{List, [], ◌∷◌, ◌++◌, append-nil}
use native.Mathlib.Omega.{arith}
use native.Mathlib.Decide.{dec_le}
use borrow.Author.Tests.{ne_eqb, le-leb, lt-leb, lt-ltb}
use lib.ListN.{length, take}
use lib.Seq.{take_all}
use Rattle.cells.specs.Upto.Laws.{length-up_to}
use Rattle.cells.specs.Entry.{Entry}
use Rattle.fnv.specs.Fnv.{start}
use Rattle.crash.specs.Laid.{Laid}
use Rattle.card.specs.Card.{Order, queue, settle, block_at}
use Rattle.journal.specs.Geometry.{Geometry}
use Rattle.journal.specs.Log.{sum_of}
use Rattle.journal.specs.Orders.{append_orders, sync_orders}
use Rattle.journal.proofs.Logs.{sum_of_nil}
use Rattle.journal.proofs.OrderLists.{append_writes, append-writes, append_afresh}
use Rattle.crash.proofs.Logs.{log_d}
use Rattle.crash.proofs.Cards.{Every}
use Rattle.crash.proofs.Frames.{Besides}
use Rattle.crash.proofs.Leads.{Behind, none_behind}
use Rattle.store.specs.State.{State, with_log, card_in}
use Rattle.store.specs.Saves.{group_of, applies, met_by_append}
use Rattle.history.specs.Plain.{Plain, of_sync, addresses, flushes, sync_waits, apply_waits, apply_verdict, header_kept}
use Rattle.history.specs.Ledger.{PlannedHeader, sync_headers, noted, apply_header, own_header, standing, inner, waiting_met}
use Rattle.history.specs.History.{World}
use Rattle.crash.proofs.Plans.{Plan, planned, takes, settles, rest, Fits, FitsBehind, Throughout, planned-append, throughout_map}
use Rattle.history.proofs.Steps.AppendEnds.{Appends}
use Rattle.history.proofs.Relation.CauseLaws.{RecordFacts, record_facts}
use Rattle.history.proofs.Relation.Sim.{flushed_bytes, chosen_by, chosen-still}
use Rattle.history.proofs.Relation.Lists.{length-addresses}
use Rattle.history.proofs.Relation.PlainLaws.{inner_takes, count_met, waits_met, no_apply, do_apply, sync_waits_apply, choose-sync-apply, header-sync-apply, apply-laid}
use Rattle.history.proofs.Steps.Notes.{note_past}
use Rattle.history.proofs.Steps.Gives.{cut_from, CutsAt}
use Rattle.history.proofs.Relation.OpenFacts as Facts
use Rattle.history.proofs.Steps.Worlds.{settled_ledger, plain_now, open_world, Opened}
use Rattle.history.proofs.Steps.Checkpoints.{checkpoint, checkpoint-orders, checkpoint-takes, checkpoint_fits, CheckpointCuts, checkpoint_cuts, size_emptied, emptied_card}

module _ (geo : Geometry) where
  module _ (st : State) (v : List Entry) (S : Laid) (x : Bool) where
    abbrev w : World
    w = open_world geo st v S x

    abbrev N : ℕ
    N = st.rec.blocks

    abbrev G : List Entry
    G = group_of geo st

    -- the direct writes that wait
    abbrev waiting : List Entry
    waiting = queue (card_in st)

    -- behind the batches of the apply inside: n entries with this sum, list the log written; q waits there, and settled it makes no difference
    pub record Met : Type 0 where
      pub front : Plan
      pub q : List Entry
      pub n : ℕ
      pub sum : ℕ
      pub list : List Entry
      pub meets : Appends geo N (settles waiting front st.settled) q n sum G list S
      pub settled : Appends geo N (settle q (settles waiting front st.settled)) [] n sum G list S
      -- the store
      pub q_is : rest waiting front ≡ q
      pub few : length q ≤ geo.direct
      pub fits : (W : List Entry) → Fits geo N (length q) W → FitsBehind geo N (length waiting) (front ++ (W ∷ []))
      pub empties : (W : List Entry) → rest waiting (front ++ (W ∷ [])) ≡ []
      pub orders : length G ≢ 0 → sync_orders geo N st.settled st.rec.waiting st.rec.logged st.rec.sum st.rec.save G ≡ planned (front ++ (append_writes geo N (settles waiting front st.settled) n sum (S.groups + 1) G ∷ []))
      pub record_is : met_by_append geo st ≡ with_log n sum st.rec
      -- the ledger
      pub inner_is : inner geo st ≡ takes front
      pub standing_is : standing geo st ≡ log_d geo (block_at (settles waiting front st.settled)) n
      pub place_is : waiting_met geo st ≡ length q
      pub notes : (k : ℕ) → takes front ≤ k → noted (sync_headers geo st) k (settled_ledger v) ≡ noted (own_header geo st ∷ []) k (settled_ledger list)
      -- the plain disk
      pub inner_plain : inner_takes geo st.rec.logged (length G) ≡ takes front
      pub n_is : count_met geo st.rec.logged (length G) ≡ n
      pub waits_is : waits_met geo st.rec.waiting st.rec.logged (length G) ≡ length q
      pub loose_is : (k : ℕ) → takes front ≤ k → cond (flushes geo (of_sync k) st.rec.logged (length G)) [] (addresses waiting) ≡ addresses q
      pub log_is : take n (plain_now geo st S).log ≡ addresses (log_d geo (block_at (settles waiting front st.settled)) n)
      pub list_is : take n (plain_now geo st S).log ≡ addresses (take n list)
      -- cut short inside
      pub cuts : Throughout (CutsAt geo w (sync_headers geo st) of_sync (sync_waits geo st.rec.waiting st.rec.logged (length G))) waiting front st.settled 0

  module _ (st : State) (v : List Entry) (S : Laid) (x : Bool) (f : Opened geo st v S) (z : st.rec.grouped ≢ 0) (next : S.groups + 1 < 2 ^ 64) where
    abbrev d : Plain
    d = plain_now geo st S

    abbrev n : ℕ
    n = st.rec.logged

    abbrev m : ℕ
    m = length (group_of geo st)

    rc : RecordFacts geo st
    rc = record_facts geo st f.basics.counts

    length-G : length (group_of geo st) ≡ st.rec.grouped
    length-G = Facts.length-group geo st (settled_ledger v) d f.basics f.sim

    pub save_is : S.groups ≡ st.rec.save
    save_is = f.basics.mirrors.save f.sim.mode

    pub appends : (s : List ℕ) (q : List Entry) (k h : ℕ) (l : List Entry) → Behind geo (Besides q) (Besides q) st.rec.blocks s q l S k false → k + length (group_of geo st) ≤ geo.slots → h ≡ sum_of start (log_d geo (block_at s) k)
        → Appends geo st.rec.blocks s q k h (group_of geo st) l S
    appends s q k h l behind room sum = record {
      behind = behind;
      room = room;
      sum = sum;
      blocks = Facts.group_whole geo st (settled_ledger v) d f.basics f.sim;
      narrow = Facts.group-short geo st (settled_ledger v) d f.basics f.sim;
      all-data = Facts.group_data geo st (settled_ledger v) d f.basics f.sim;
      next = next;
    }

    -- ---- there is room

    module _ (room : n + length (group_of geo st) ≤ geo.slots) where
      pub single : applies geo st ≡ false
      single = rw (ne_eqb st.rec.grouped 0 z, le-leb (n + st.rec.grouped) geo.slots (omega (arith, length-G)))

      -- as if what waits were settled before
      pub flushed-behind : Behind geo Every Every st.rec.blocks (flushed_bytes geo st) [] v S n false
      flushed-behind =
          none_behind geo (Facts.big geo st (settled_ledger v) d f.basics f.sim) (Facts.small geo st (settled_ledger v) d f.basics f.sim) (Facts.size_flushed geo st (settled_ledger v) d f.basics f.sim)
          f.sim.card

      pub flushed-sum : st.rec.sum ≡ sum_of start (log_d geo (block_at (flushed_bytes geo st)) n)
      flushed-sum = Facts.sum geo st (settled_ledger v) d f.basics f.sim ∙ ap (sum_of start) (sym (Facts.flushed-log geo st (settled_ledger v) d f.basics f.sim))

      pub log-all : take n d.log ≡ d.log
      log-all = take_all n d.log (rw (length-addresses, length-up_to) (omega arith))

      unfoldable pub met_itself : Met st v S x
      unfolding sync_orders sync_headers flushes
      met_itself = record {
        front = [];
        q = queue (card_in st);
        n = n;
        sum = st.rec.sum;
        list = v;
        meets = appends st.settled (queue (card_in st)) n st.rec.sum v (Facts.behind geo st (settled_ledger v) d f.basics f.sim) room (Facts.sum geo st (settled_ledger v) d f.basics f.sim);
        settled = appends (flushed_bytes geo st) [] n st.rec.sum v flushed-behind room flushed-sum;
        q_is = refl;
        few = omega (arith, Facts.few geo st (settled_ledger v) d f.basics f.sim, Facts.length-waiting geo st (settled_ledger v) d f.basics f.sim);
        fits = λ W w. (w, tt);
        empties = λ W. refl;
        orders = λ some. rw (save_is, ne_eqb m 0 some, le-leb (n + m) geo.slots room) (append-writes geo (N st v S x) st.settled n st.rec.sum (st.rec.save + 1) (group_of geo st) ∙ sym (append-nil _));
        record_is = rw single;
        inner_is = rw single;
        standing_is = rw single (Facts.entries-log geo st (settled_ledger v) d f.basics f.sim);
        place_is = rw single (sym (Facts.length-waiting geo st (settled_ledger v) d f.basics f.sim));
        notes = λ k h. rw (single, ne_eqb st.rec.grouped 0 z);
        inner_plain = rw (no_apply geo n m room);
        n_is = rw (no_apply geo n m room);
        waits_is = rw (no_apply geo n m room) (sym (Facts.length-waiting geo st (settled_ledger v) d f.basics f.sim));
        loose_is = λ k h. rw (no_apply geo n m room);
        log_is = log-all ∙ Facts.log_are geo st (settled_ledger v) d f.basics f.sim;
        list_is = log-all ∙ Facts.log_are geo st (settled_ledger v) d f.basics f.sim
            ∙ ap addresses (sym (Facts.written_is geo st (settled_ledger v) d f.basics f.sim))
            ∙ ap addresses (sym (take_all n v (rw (Facts.written_is geo st (settled_ledger v) d f.basics f.sim, Facts.length-log geo st (settled_ledger v) d f.basics f.sim) (omega arith))));
        cuts = tt;
      }

    -- ---- there is none

    module _ (over : geo.slots < n + length (group_of geo st)) where
      applying : applies geo st ≡ true
      applying = rw (ne_eqb st.rec.grouped 0 z, lt-leb (n + st.rec.grouped) geo.slots (omega (arith, length-G)))

      abbrev inside : Plan
      inside = checkpoint geo st (settled_ledger v) d f.basics f.sim

      count : takes inside ≡ n + 3
      count = checkpoint-takes geo st (settled_ledger v) d f.basics f.sim

      heads : sync_headers geo st ≡ apply_header st ∷ own_header geo st ∷ []
      unfolding sync_headers
      heads = rw (applying, ne_eqb st.rec.grouped 0 z)

      orders : m ≢ 0 → sync_orders geo st.rec.blocks st.settled st.rec.waiting n st.rec.sum st.rec.save (group_of geo st)
          ≡ planned (inside ++ (append_writes geo st.rec.blocks (settles (queue (card_in st)) inside st.settled) 0 start (S.groups + 1) (group_of geo st) ∷ []))
      unfolding sync_orders
      orders some =
          rw (ne_eqb m 0 some, lt-leb (n + m) geo.slots over)
          (ap₂ (λ (a b : List Order). a ++ b) (checkpoint-orders geo st (settled_ledger v) d f.basics f.sim)
          (ap (λ (k : ℕ). append_orders geo st.rec.blocks st.settled 0 start (k + 1) (group_of geo st)) (sym save_is)
          ∙ append_afresh geo st.rec.blocks st.settled (settles (queue (card_in st)) inside st.settled) start (S.groups + 1) (group_of geo st)
          ∙ append-writes geo st.rec.blocks (settles (queue (card_in st)) inside st.settled) 0 start (S.groups + 1) (group_of geo st)
          ∙ sym (append-nil _))
          ∙ sym (planned-append inside (append_writes geo st.rec.blocks (settles (queue (card_in st)) inside st.settled) 0 start (S.groups + 1) (group_of geo st) ∷ [])))

      -- the plain disk cut short after k orders
      abbrev short : ℕ → Plain
      short k = cut_from geo of_sync (sync_waits geo st.rec.waiting n m) k d

      cuts : Throughout (CutsAt geo (open_world geo st v S x) (sync_headers geo st) of_sync (sync_waits geo st.rec.waiting n m)) (queue (card_in st)) inside st.settled 0
      unfolding flushes
      cuts =
          throughout_map (CheckpointCuts geo st (settled_ledger v) d f.basics f.sim (own_header geo st ∷ [])) (CutsAt geo (open_world geo st v S x) (sync_headers geo st) of_sync (sync_waits geo st.rec.waiting n m)) (queue (card_in st)) inside st.settled 0
          (λ s q k h y.
          let wt : sync_waits geo st.rec.waiting n m k ≡ apply_waits st.rec.waiting n k = sync_waits_apply geo st.rec.waiting n m k over (omega (arith, count)) in
          record {
            waiting = wt ∙ y.waiting;
            top = rw (header-sync-apply geo k n m over (omega (arith, count))) y.top;
            leads = λ r l ms e.
                rw heads
                (chosen_by geo _ _ _ (short k) _ (apply_verdict k n false (header_kept ms (apply_waits st.rec.waiting n k)))
                (choose-sync-apply geo k n m false _ _ over (λ u. omega (arith, count)) ∙ ap (λ (i : ℕ). apply_verdict k n false (header_kept ms i)) wt)
                (chosen-still geo _ _ _ (short k) _ (apply-laid k n false (header_kept ms (apply_waits st.rec.waiting n k))) (rw (do_apply geo n m over) (y.leads r l ms e)) (y.lists ms)));
          })
          (checkpoint_cuts geo st (settled_ledger v) d f.basics f.sim (own_header geo st ∷ []))

      emptied_appends : Appends geo st.rec.blocks (settles (queue (card_in st)) inside st.settled) [] 0 start (group_of geo st) [] S
      emptied_appends =
          appends _ [] 0 start []
          (none_behind geo (Facts.big geo st (settled_ledger v) d f.basics f.sim) (Facts.small geo st (settled_ledger v) d f.basics f.sim) (size_emptied geo st (settled_ledger v) d f.basics f.sim)
          (emptied_card geo st (settled_ledger v) d f.basics f.sim))
          (omega (arith, length-G, rc.group_count)) (sym (sum_of_nil start))

      met-emptied : Met st v S x
      unfolding flushes addresses settle
      met-emptied = record {
        front = inside;
        q = [];
        n = 0;
        sum = start;
        list = [];
        meets = emptied_appends;
        settled = emptied_appends;
        q_is = refl;
        few = omega arith;
        fits = λ W w. let c = checkpoint_fits geo st (settled_ledger v) d f.basics f.sim in (c.0, (c.1.0, (w, tt)));
        empties = λ W. refl;
        orders = orders;
        record_is = rw applying;
        inner_is = rw applying (sym count);
        standing_is = rw applying;
        place_is = rw applying;
        notes = λ k h. ap (λ (hs : List PlannedHeader). noted hs k (settled_ledger v)) heads ∙ note_past (apply_header st) (own_header geo st ∷ []) k (settled_ledger v) (omega (arith, count));
        inner_plain = rw (do_apply geo n m over) (sym count);
        n_is = rw (do_apply geo n m over);
        waits_is = rw (do_apply geo n m over);
        loose_is = λ k h. rw (do_apply geo n m over, lt-ltb n k (omega (arith, count)));
        log_is = refl;
        list_is = refl;
        cuts = cuts;
      }

    pub met : Met st v S x
    met = go (dec_le (n + m) geo.slots)
      where
        go : Dec (n + m ≤ geo.slots) → Met st v S x
        go (yes p) = met_itself p
        go (no p) = met-emptied (omega arith)
