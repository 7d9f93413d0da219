-- The orders of a plan carried out, all of them, on a state that passes 1 and 2: nothing waits then. An open record, and the card of it.
use Prim.Native.Nat.{ℕ, ◌-◌, ◌/◌, ◌≤◌}
use mathlib.Core.Path.{◌≡◌, refl, ap, sym, subst, ◌∙◌}
use mathlib.Core.Logic.{◌⊎◌}
use mathlib.Core.Bool.{false}
use mathlib.Core.List.{List, []}
use native.Mathlib.Omega.{arith}
use lib.ListN.{length}
use Rattle.cells.specs.Upto.Laws.{length-up_to}
use Rattle.cells.specs.Entry.{block_bytes, Entry, entry_at}
use Rattle.fnv.specs.Fnv.{start}
use Rattle.crash.specs.Laid.{Laid}
use Rattle.card.specs.Card.{Card, queue, settle, run, block_at}
use Rattle.card.proofs.All.{All}
use Rattle.journal.specs.Geometry.{Geometry}
use Rattle.journal.specs.Log.{entries, sum_of}
use Rattle.crash.proofs.Batches.{Left}
use Rattle.crash.proofs.Cards.{Every, WholeCard}
use Rattle.crash.proofs.Logs.{log_d, entries_disk}
use Rattle.store.specs.declared.record.Record.{Record}
use Rattle.store.specs.State.{State, open_mode, with_record, with_card, card_in}
use Rattle.store.specs.Lists.{open_from, group_from, list_of}
use Rattle.store.specs.Causes.{wrong_sizes, wrong_record}
use Rattle.store.proofs.Causes.{SizeFacts, sizes_facts}
use Rattle.history.specs.Plain.{Plain, addresses, with_s, with_lists, with_count, with_power, with_log, blank_plain}
use Rattle.history.specs.Ledger.{settled_by}
use Rattle.journal.proofs.Logs.{all_data-all}
use Rattle.crash.proofs.Plans.{Plan, planned, takes, settles, rest, FitsBehind, length-settles, plan-done}
use Rattle.history.proofs.Relation.Lists.{Data, Distinct}
use Rattle.history.proofs.Relation.CauseLaws.{RecordFacts, facts_sizes, record_facts, facts_record}
use Rattle.history.proofs.Relation.Sim.{Waits, Sim}

-- ---- sizes stay

module _ (geo : Geometry) where
  pub sizes_kept : (st st' : State) → length st'.settled ≡ length st.settled → length st'.waiting ≡ length st.waiting → st'.work ≡ st.work → SizeFacts geo st → SizeFacts geo st'
  sizes_kept st st' p q e s = record {
    settled = rw p s.settled;
    least = rw p s.least;
    most = rw p s.most;
    waiting = q ∙ s.waiting;
    work = ap length e ∙ s.work;
  }

  -- ---- what is asked of the records

  -- k entries of work memory, with data blocks' addresses, none twice
  pub record Listed (N : ℕ) (work : List ℕ) (from k : ℕ) : Type 0 where
    pub count : k ≤ geo.slots
    pub homes : All (Data geo N) (list_of work from k)
    pub distinct : Distinct (list_of work from k)

  pub none_listed : (N : ℕ) (work : List ℕ) (from : ℕ) → Listed N work from 0
  none_listed N work from = record { count = omega arith; homes = tt; distinct = tt }

  module _ (st : State) (rc : RecordFacts geo st) where
    pub open_listed : st.rec.mode ≡ open_mode → Listed st.rec.blocks st.work open_from st.rec.opened
    open_listed e = record { count = rc.open_count; homes = (rc.lists e).open_data; distinct = (rc.lists e).open_distinct }

    pub group-listed : st.rec.mode ≡ open_mode → Listed st.rec.blocks st.work (group_from geo) st.rec.grouped
    group-listed e = record { count = rc.group_count; homes = (rc.lists e).group_data; distinct = (rc.lists e).group_distinct }

  -- the plain disk of an open record where nothing waits, with the data blocks S, the power p and the log's addresses
  abbrev pub open_plain : State → Record → Laid → ℕ → List ℕ → Plain
  open_plain st r S p log =
      with_lists (list_of st.work (group_from geo) r.grouped) (list_of st.work open_from r.opened) (with_count r.logged (with_log log (with_power p (with_s S (blank_plain st.rec.blocks)))))

-- what a card holds where nothing waits
pub flushed_none : (c : Card) → queue c ≡ [] → settle (queue c) c.settled ≡ c.settled
unfolding settle
flushed_none c e = ap (λ (q : List Entry). settle q c.settled) e

-- the waiting writes of a state, as orders find them
pub waiting-left : (st : State) → Left (card_in st) (card_in st) st.settled (queue (card_in st)) st.rec.power
unfolding queue
waiting-left st = record { settled = refl; waits = refl; count = sym (length-up_to (entry_at st.waiting) st.rec.waiting); power = refl; room = refl }

-- ---- the record that the call leaves, and the card of it

module _ (geo : Geometry) where
  pub record Ends (st : State) (plan : Plan) (done : Record) (S : Laid) (list : List Entry) : Type 0 where
    pub none_waits : rest (queue (card_in st)) plan ≡ []
    pub fits : FitsBehind geo st.rec.blocks (length (queue (card_in st))) plan
    pub mode : done.mode ≡ open_mode
    pub blocks : done.blocks ≡ st.rec.blocks
    pub opened : Listed geo st.rec.blocks st.work open_from done.opened
    pub grouped : Listed geo st.rec.blocks st.work (group_from geo) done.grouped
    pub save : S.groups ≡ done.save
    pub sum : done.sum ≡ sum_of start (log_d geo (block_at (settles (queue (card_in st)) plan st.settled)) done.logged)
    pub card : WholeCard geo Every st.rec.blocks (block_at (settles (queue (card_in st)) plan st.settled)) list S done.logged

  module _ (st : State) (plan : Plan) (done : Record) (S : Laid) (list : List Entry) (sizes : wrong_sizes geo st ≡ false) (counts : wrong_record geo st ≡ false)
      (f : Ends st plan done S list) (p : takes plan ≤ st.rec.power) where
    abbrev card_done : Card
    card_done = run (planned plan) (card_in st)

    sz : SizeFacts geo st
    sz = sizes_facts geo st sizes

    rc : RecordFacts geo st
    rc = record_facts geo st counts

    -- the settled bytes that they leave
    abbrev s : List ℕ
    s = settles (queue (card_in st)) plan st.settled

    pub ends_left : Left (card_in st) card_done (settles (queue (card_in st)) plan st.settled) [] (st.rec.power - takes plan)
    ends_left =
        subst (λ (q : List Entry). Left (card_in st) card_done s q (st.rec.power - takes plan)) f.none_waits
        (plan-done geo st.rec.blocks (card_in st) (omega (arith, sz.most, rc.blocks)) sz.waiting plan (card_in st) st.settled (queue (card_in st)) st.rec.power (waiting-left st) f.fits p)

    settled_size : length card_done.settled ≡ length st.settled
    settled_size = ap length ends_left.settled ∙ length-settles (queue (card_in st)) plan st.settled

    log : entries geo card_done.settled done.logged ≡ log_d geo (block_at s) done.logged
    log = entries_disk geo _ done.logged ∙ ap (λ (x : List ℕ). log_d geo (block_at x) done.logged) ends_left.settled

    abbrev now : State
    now = with_card card_done (with_record done st)

    pub ends_sim : Sim geo (with_card card_done (with_record done st)) (settled_by list) (open_plain geo st done S (st.rec.power - takes plan) (addresses list))
    unfolding addresses
    ends_sim = record {
      basics = record {
        sizes = facts_sizes geo _ (sizes_kept geo st _ settled_size ends_left.room refl sz);
        counts = facts_record geo _
            (record {
              mode = omega (arith, f.mode);
              open_count = f.opened.count;
              group_count = f.grouped.count;
              log_count = f.card.head.most;
              waiting_count = omega (arith, ends_left.count);
              blocks = f.blocks ∙ rc.blocks ∙ ap (λ (x : ℕ). x / block_bytes) (sym settled_size);
              waiting_below = λ i z. absurd (omega (arith, ends_left.count));
              lists = λ z. record {
                open_data = rw f.blocks f.opened.homes;
                group_data = rw f.blocks f.grouped.homes;
                log_data = rw (f.blocks, log) (all_data-all geo st.rec.blocks _ f.card.all);
                open_distinct = f.opened.distinct;
                group_distinct = f.grouped.distinct;
              };
            });
        mirrors = record { mode = sym f.mode; N = sym f.blocks; waiting = sym ends_left.count; T = λ z. refl; G = λ z. refl; save = λ z. f.save; log = λ z. ap addresses (f.card.same ∙ sym log); writes = λ z. ap addresses (sym ends_left.waits) };
        power = sym ends_left.power;
      };
      phase = ◌⊎◌.inl (record {
        mode = f.mode;
        n = refl;
        F = refl;
        short = refl;
        loose = refl;
        pending = refl;
        sum = f.sum ∙ ap (sum_of start) (sym log);
        waits = subst (All (Waits geo now)) (sym ends_left.waits) tt;
        card = rw (f.blocks, flushed_none card_done ends_left.waits, ends_left.settled) f.card;
      });
    }
