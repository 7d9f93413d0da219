-- A checkpoint from an open state as a plan: what it leaves, and what every cut of it leads to, alone or first in a sync.
use Prim.Native.Nat.{ℕ, ◌+◌, ◌/◌, ◌≤◌, ◌<◌}
use mathlib.Core.Path.{◌≡◌, refl, ap, ap₂, sym, subst, ◌∙◌}
use mathlib.Core.Bool.{Bool, true, false, cond}
use mathlib.Core.Logic.{◌≢◌}
use mathlib.Core.List.{List, [], ◌∷◌, ◌++◌}
use native.Mathlib.Omega.{arith}
use borrow.Author.Tests.{eq-eqb, ne_eqb, le-ltb}
use lib.Dec.{eqb, ltb}
use lib.ListN.{length, take, length-take, length-append}
use Rattle.cells.specs.Entry.{block_bytes, Entry}
use Rattle.card.specs.Card.{Card, queue, cut, settle, block_at, blocks_in}
use Rattle.card.proofs.All.{All, all_append, all_map, all_take}
use Rattle.card.proofs.Runs.{Whole, settle-append, length-settle}
use Rattle.card.specs.Marks.{whole_block, marks_fit, kept_at}
use Rattle.card.proofs.MarkLaws.{HeaderLast}
use Rattle.journal.specs.Geometry.{Geometry}
use Rattle.journal.specs.Layout.{is_data}
use Rattle.journal.specs.Header.{empty_header}
use Rattle.journal.specs.Log.{entries}
use Rattle.journal.specs.Orders.{checkpoint_orders}
use Rattle.journal.proofs.Headers.{length-encode}
use Rattle.journal.proofs.OrderLists.{header_entry, checkpoint_writes}
use Rattle.crash.proofs.Batches.{Left}
use Rattle.crash.proofs.CallCuts.{homes_settled, homes_cuts, header_cuts, empty_settled, still_cuts}
use Rattle.crash.proofs.Cards.{Every, WholeCard}
use Rattle.crash.proofs.Frames.{Besides}
use Rattle.crash.proofs.Leads.{Leads, Behind, none_behind}
use Rattle.crash.proofs.Waiting.{leads_sub}
use Rattle.crash.proofs.Logs.{log_d, data_above, data_below}
use Rattle.store.specs.State.{State, card_in}
use Rattle.history.specs.Plain.{Plain, addresses, apply_verdict, apply_waits, header_kept}
use Rattle.history.specs.Ledger.{Ledger, PlannedHeader, noted, apply_header, resolved}
use Rattle.crash.proofs.Plans.{Plan, planned, takes, settles, FitsBehind, Throughout, for_one, length-settles}
use Rattle.history.proofs.Relation.Lists.{Data, addresses-take, waits_besides}
use Rattle.history.proofs.Relation.Sim.{Basics, Firm, OpenSim, cut_written}
use Rattle.history.proofs.Relation.PlainLaws.{waits_homes, waits_flushed, waits_header, apply_before, apply_at, kept-mark}
use Rattle.history.proofs.Steps.Notes.{note_before, note_at}
use Rattle.history.proofs.Relation.OpenFacts as Facts

module _ (geo : Geometry) where
  module _ (st : State) (l : Ledger) (d : Plain) (b : Basics geo st d) (o : OpenSim geo st l d) where
    abbrev N : ℕ
    N = st.rec.blocks

    abbrev n : ℕ
    n = st.rec.logged

    abbrev log : List Entry
    log = Facts.log geo st l d b o

    length-log : length log ≡ n
    length-log = Facts.length-log geo st l d b o

    abbrev top : Entry
    top = header_entry (empty_header st.rec.blocks d.S.groups)

    top_whole : Whole top
    top_whole = length-encode (empty_header st.rec.blocks d.S.groups)

    -- the home blocks; an empty log's header
    abbrev pub checkpoint : Plan
    checkpoint = log ∷ (top ∷ []) ∷ []

    pub checkpoint-orders : checkpoint_orders N st.rec.save (entries geo st.settled n) ≡ planned checkpoint
    checkpoint-orders = ap₂ (checkpoint_orders N) (sym (b.mirrors.save o.mode)) (Facts.entries-log geo st l d b o) ∙ checkpoint_writes N d.S.groups log

    pub checkpoint-takes : takes checkpoint ≡ n + 3
    checkpoint-takes = omega (arith, length-log)

    log-low : All (λ e. e.address < N) log
    log-low = all_map (Data geo N) (λ e. e.address < N) (λ e q. data_below geo N e.address q) log (Facts.log_data geo st l d b o)

    log_high : All (λ e. whole_block ≢ e.address) log
    log_high = all_map (Data geo N) (λ e. whole_block ≢ e.address) (λ e q z. let u = data_above geo N e.address q in omega arith) log (Facts.log_data geo st l d b o)

    -- the direct writes that wait
    abbrev waiting : List Entry
    waiting = Facts.waiting geo st l d b o

    pub checkpoint_fits : FitsBehind geo N (length (queue (card_in st))) checkpoint
    checkpoint_fits = (
      record { few = omega (arith, length-log, Facts.n_most geo st l d b o, Facts.length-waiting geo st l d b o, Facts.few geo st l d b o, geo.queued); whole = Facts.log_whole geo st l d b o; low = log-low },
      (record { few = omega (arith, geo.queued); whole = (top_whole, tt); low = (omega (arith, Facts.big geo st l d b o), tt) }, tt),
    )

    -- ---- what it leaves

    abbrev homed : List ℕ
    homed = settle (waiting ++ log) st.settled

    abbrev pub emptied : List ℕ
    emptied = settles (queue (card_in st)) checkpoint st.settled

    size_homed : N ≡ blocks_in homed
    size_homed = Facts.size geo st l d b o ∙ ap (λ (k : ℕ). k / block_bytes) (sym (length-settle (waiting ++ log) st.settled))

    pub size_emptied : N ≡ blocks_in emptied
    size_emptied = Facts.size geo st l d b o ∙ ap (λ (k : ℕ). k / block_bytes) (sym (length-settles waiting checkpoint st.settled))

    -- behind what waits; and as if that were settled before
    begins : Behind geo (Besides waiting) (Besides waiting) N st.settled waiting l.written d.S n false
    begins = Facts.behind geo st l d b o

    abbrev flushed : List ℕ
    flushed = Facts.flushed geo st l d b o

    settled_begins : Behind geo Every Every N flushed [] l.written d.S n false
    settled_begins = none_behind geo (Facts.big geo st l d b o) (Facts.small geo st l d b o) (Facts.size_flushed geo st l d b o) o.card

    homes : WholeCard geo Every N (block_at homed) l.written d.S n × ((a : ℕ) → is_data geo N a ≡ true → Every a → d.S.disk a ≡ block_at homed a)
    homes =
        let e : settle (log_d geo (block_at flushed) n) flushed ≡ homed = ap (λ (x : List Entry). settle x flushed) (Facts.flushed-log geo st l d b o) ∙ sym (settle-append waiting log st.settled) in
        subst (λ (s : List ℕ). WholeCard geo Every N (block_at s) l.written d.S n × ((a : ℕ) → is_data geo N a ≡ true → Every a → d.S.disk a ≡ block_at s a)) e
        (homes_settled geo settled_begins (subst (All Whole) (sym (Facts.flushed-log geo st l d b o)) (Facts.log_whole geo st l d b o)))

    flushed-behind : Behind geo Every Every N homed [] l.written d.S n false
    flushed-behind = none_behind geo (Facts.big geo st l d b o) (Facts.small geo st l d b o) size_homed homes.0

    pub emptied_card : WholeCard geo Every N (block_at emptied) [] d.S 0
    emptied_card = empty_settled geo flushed-behind homes.1

    -- ---- cut short, whatever headers follow

    -- the addresses that are loose then: none behind the flush
    abbrev pub loose_at : ℕ → List ℕ
    loose_at k = cond (ltb n k) [] (addresses (queue (card_in st))) ++ []

    pub record CheckpointCuts (hs : List PlannedHeader) (s : List ℕ) (q : List Entry) (k : ℕ) : Type 0 where
      pub waiting : apply_waits st.rec.waiting n k ≡ length q
      pub top : HeaderLast (eqb k (n + 2)) q
      pub leads : (r : Card) → Left (card_in st) r s q 0 → (ms : List ℕ) → marks_fit ms q ≡ true
          → Leads geo (Firm geo (loose_at k)) N (cut ms r).settled (cut_written ms (noted (apply_header st ∷ hs) k l)) d.S
          (apply_verdict k n false (header_kept ms (apply_waits st.rec.waiting n k))).n (apply_verdict k n false (header_kept ms (apply_waits st.rec.waiting n k))).F
      pub lists : (ms : List ℕ) → take (apply_verdict k n false (header_kept ms (apply_waits st.rec.waiting n k))).n d.log
          ≡ addresses (take (apply_verdict k n false (header_kept ms (apply_waits st.rec.waiting n k))).n (cut_written ms (noted (apply_header st ∷ hs) k l)))

    nothing_waits : (ms : List ℕ) → cut_written ms l ≡ l.written
    unfolding resolved
    nothing_waits ms = rw o.pending

    same-list : (i : ℕ) → take i d.log ≡ addresses (take i l.written)
    same-list i = rw (Facts.log_are geo st l d b o, Facts.written_is geo st l d b o) (sym (addresses-take i log))

    module _ (hs : List PlannedHeader) where
      -- among the home blocks
      at_home : (j k : ℕ) → j ≤ length log → k ≡ 0 + j → CheckpointCuts hs st.settled (waiting ++ take j log) k
      at_home j k h e = record {
        waiting = waits_homes st.rec.waiting n k (omega (arith, length-log))
            ∙ sym (length-append waiting (take j log) ∙ ap₂ (λ (x y : ℕ). x + y) (Facts.length-waiting geo st l d b o) (length-take j log ∙ (omega (arith, length-log))));
        top = rw (ne_eqb k (n + 2) (λ z. omega (arith, length-log)))
            (all_append (λ e. whole_block ≢ e.address) waiting (take j log) (Facts.high geo st l d b o) (all_take (λ e. whole_block ≢ e.address) j log log_high));
        leads = λ r f ms m.
            rw (note_before (apply_header st) hs k l (omega (arith, length-log)), nothing_waits ms, apply_before k n false (header_kept ms (apply_waits st.rec.waiting n k)) (omega (arith, length-log)), le-ltb n k (omega (arith, length-log)))
            (leads_sub geo (Besides waiting) (Firm geo (addresses waiting ++ [])) (waits_besides waiting) N (cut ms r).settled l.written d.S n false
            (homes_cuts geo begins (card_in st) r ms j (Facts.log_whole geo st l d b o) f m));
        lists = λ ms.
            rw (note_before (apply_header st) hs k l (omega (arith, length-log)), nothing_waits ms, apply_before k n false (header_kept ms (apply_waits st.rec.waiting n k)) (omega (arith, length-log)))
            (same-list n);
      }

      -- behind their flush
      past_flush : (k : ℕ) → k ≡ n + 1 → CheckpointCuts hs homed [] k
      past_flush k e = record {
        waiting = waits_flushed st.rec.waiting n k e;
        top = rw (ne_eqb k (n + 2) (λ z. omega arith)) tt;
        leads = λ r f ms m.
            rw (note_before (apply_header st) hs k l (omega arith), nothing_waits ms, apply_before k n false (header_kept ms (apply_waits st.rec.waiting n k)) (omega arith))
            (leads_sub geo Every (Firm geo (loose_at k)) (λ a y. tt) N (cut ms r).settled l.written d.S n false (still_cuts geo flushed-behind (card_in st) r 0 ms f m));
        lists = λ ms.
            rw (note_before (apply_header st) hs k l (omega arith), nothing_waits ms, apply_before k n false (header_kept ms (apply_waits st.rec.waiting n k)) (omega arith))
            (same-list n);
      }

      -- behind the header
      headed : (k : ℕ) → k ≡ n + 2 → CheckpointCuts hs homed (top ∷ []) k
      unfolding resolved addresses
      headed k e =
          let one : apply_waits st.rec.waiting n k ≡ 1 = waits_header st.rec.waiting n k e in
          record {
            waiting = one;
            top = rw (eq-eqb k (n + 2) e) ([], top, refl, tt, refl);
            leads = λ r f ms m.
                rw (note_at (apply_header st) hs k l (omega arith), apply_at k n false (header_kept ms (apply_waits st.rec.waiting n k)) e, kept-mark ms (apply_waits st.rec.waiting n k) 0 one)
                (leads_sub geo Every (Firm geo (loose_at k)) (λ a y. tt) N (cut ms r).settled _ d.S _ false (header_cuts geo flushed-behind (card_in st) r ms homes.1 f m (kept_at ms 0) refl));
            lists = λ ms.
                rw (note_at (apply_header st) hs k l (omega arith), apply_at k n false (header_kept ms (apply_waits st.rec.waiting n k)) e, kept-mark ms (apply_waits st.rec.waiting n k) 0 one)
                (either (kept_at ms 0));
          }
        where
          either : (t : Bool) → take (cond t 0 n) d.log ≡ addresses (take (cond t 0 n) (cond t [] l.written))
          either true = refl
          either false = same-list n

      pub checkpoint_cuts : Throughout (CheckpointCuts hs) (queue (card_in st)) checkpoint st.settled 0
      checkpoint_cuts = (at_home, for_one (CheckpointCuts hs) [] top homed (0 + (length log + 1)) (λ k e. past_flush k (omega (arith, length-log))) (λ k e. headed k (omega (arith, length-log))))
