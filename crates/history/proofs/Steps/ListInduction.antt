-- Every step keeps the relation, and so does every list of calls.
use Prim.Native.Nat.{ℕ, ◌+◌, ◌*◌, ◌≤◌, ◌<◌}
use mathlib.Core.Path.{◌≡◌, refl, ap, sym, ◌∙◌}
use mathlib.Core.Logic.{◌≢◌, ◌⊎◌}
use mathlib.Core.Bool.{true, false}
use mathlib.Core.List.{List, [], ◌∷◌, ◌++◌}
use native.Mathlib.Omega.{arith}
use native.Mathlib.Decide.{ℕ_discrete}
use borrow.Author.Tests.{eq-eqb, ne_eqb}
use lib.ListN.{length, replicate, length-replicate}
use Rattle.cells.specs.Cell.{cell, set_cell}
use Rattle.cells.specs.Cell.Laws.{length_set_cell, cell_same, cell_other, cell-zeros}
use Rattle.cells.specs.Entry.{block_bytes}
use Rattle.fnv.specs.Fnv.{start}
use Rattle.card.specs.Card.{queue, settle, block_at, blocks_in}
use Rattle.journal.specs.Geometry.{Geometry}
use Rattle.journal.specs.Layout.{header_at, is_data}
use Rattle.journal.specs.Header.{encode, empty_header}
use Rattle.journal.proofs.Headers.{length-encode}
use Rattle.journal.proofs.Logs.{neither, sum_of_nil}
use Rattle.crash.proofs.Cards.{Every, emptied}
use Rattle.crash.proofs.Logs.{data_above, data_below}
use Rattle.store.specs.Local as Local
use Rattle.store.specs.Save as Save
use Rattle.store.specs.Request as Request
use Rattle.store.specs.State.{State, Outcome}
use Rattle.store.specs.Causes.{cause}
use Rattle.store.specs.Outcomes.{completed, refused}
use Rattle.store.specs.Format.{formatted, format_call}
use Rattle.store.proofs.Causes.{SizeFacts, sizes_facts}
use Rattle.history.specs.Call.{Call, local, direct, save, cut}
use Rattle.history.specs.Plain.{addresses, blank, fresh}
use Rattle.history.specs.Dispatch.{dispatch}
use Rattle.history.specs.Ledger.{Ledger, entered}
use Rattle.history.specs.History.{World, begun, next, after, exception}
use Rattle.history.proofs.Relation.CauseLaws.{facts_sizes, facts_record, cause_passes}
use Rattle.history.proofs.Relation.EvenLedgers.{even_refl, even_trans, entered_even}
use Rattle.history.proofs.Relation.Sim.{Safe}
use Rattle.history.proofs.Steps.Shown.{WorldSim, StepOK}
use Rattle.history.proofs.Steps.Local.{power-step, put_step, get-step, list-step, commit-step, abandon-step}
use Rattle.history.proofs.Steps.Cut.{cut_step}
use Rattle.history.proofs.Steps.Apply.{apply-step}
use Rattle.history.proofs.Steps.Recover.{recover-step}
use Rattle.history.proofs.Steps.Directs.{direct_step}
use Rattle.history.proofs.Steps.Sync.{sync-step}

-- ---- one call

module _ (geo : Geometry) where
  pub step : (c : Call) (w : World) → WorldSim geo w → StepOK geo c w
  step (local (Local.power k)) w m = power-step geo k w m
  step (local (Local.put a b)) w m = put_step geo a b w m
  step (local (Local.get a)) w m = get-step geo a w m
  step (local (Local.get_list xs bs)) w m = list-step geo xs bs w m
  step (local Local.commit) w m = commit-step geo w m
  step (local Local.abandon) w m = abandon-step geo w m
  step (direct a b) w m = direct_step geo a b w m
  step (save Save.sync) w m = sync-step geo w m
  step (save Save.apply) w m = apply-step geo w m
  step (save Save.recover) w m = recover-step geo w m
  step (cut ms) w m = cut_step geo ms w m

  pub next_sim : (c : Call) (w : World) → WorldSim geo w → exception geo c w ≡ false → WorldSim geo (next geo c w)
  unfolding next
  next_sim c w m h = (step c w m).sim h

  -- what no collision breaks
  pub next_safe : (c : Call) (st : State) (l : Ledger) → Safe geo st l → Safe geo (dispatch geo c st).state (entered geo c st l)
  next_safe c st l s =
      let r = (step c (record { store = st; ledger = s.ledger; plain = s.plain; excepted = false }) s.sim).safe in
      record {
        ledger = r.ledger;
        plain = r.plain;
        sim = r.sim;
        even = even_trans (entered geo c st l) (entered geo c st s.ledger) r.ledger (entered_even geo c st l s.ledger s.even) r.even;
      }

  -- ---- a list of them

  pub after-append : (a b : List Call) (w : World) → after geo (a ++ b) w ≡ after geo b (after geo a w)
  unfolding after
  after-append [] b w = refl
  after-append (c ∷ a) b w = after-append a b (next geo c w)

  -- an exception is never forgotten
  pub clean_before : (cs : List Call) (w : World) → (after geo cs w).excepted ≡ false → w.excepted ≡ false
  unfolding after next
  clean_before [] w h = h
  clean_before (c ∷ cs) w h = (neither w.excepted (exception geo c w) (clean_before cs (next geo c w) h)).0

  pub clean_first : (c : Call) (cs : List Call) (w : World) → (after geo cs (next geo c w)).excepted ≡ false → exception geo c w ≡ false
  unfolding next
  clean_first c cs w h = (neither w.excepted (exception geo c w) (clean_before cs (next geo c w) h)).1

  pub after_sim : (cs : List Call) (w : World) → WorldSim geo w → (after geo cs w).excepted ≡ false → WorldSim geo (after geo cs w)
  unfolding after
  after_sim [] w m h = m
  after_sim (c ∷ cs) w m h = after_sim cs (next geo c w) (next_sim c w m (clean_first c cs w h)) h

  pub after_safe : (cs : List Call) (w : World) → Safe geo w.store w.ledger → Safe geo (after geo cs w).store (after geo cs w).ledger
  unfolding after next
  after_safe [] w s = s
  after_safe (c ∷ cs) w s = after_safe cs (next geo c w) (next_safe c w.store w.ledger s)

  -- ---- a fresh card

  module _ (st : State) (h : (format_call geo st).answer ≡ 0) where
    pub passes : cause geo Request.format st ≡ 0
    unfolding format_call
    passes = go (ℕ_discrete (cause geo Request.format st) 0)
      where
        go : Dec (cause geo Request.format st ≡ 0) → cause geo Request.format st ≡ 0
        go (yes e) = e
        go (no e) =
            let r : format_call geo st ≡ refused (cause geo Request.format st) st = rw (ne_eqb _ 0 e) in
            absurd (e (sym (ap (λ (o : Outcome). o.answer) r) ∙ h))

    pub formatted-now : (format_call geo st).state ≡ formatted st
    unfolding format_call
    formatted-now =
        let r : format_call geo st ≡ completed (formatted st) = rw (eq-eqb _ 0 passes) in
        ap (λ (o : Outcome). o.state) r

    sz : SizeFacts geo st
    sz = sizes_facts geo st (cause_passes geo Request.format st passes).sizes

    abbrev N : ℕ
    N = blocks_in st.settled

    abbrev zeros : List ℕ
    zeros = replicate (length st.settled) 0

    room : (a : ℕ) → a < N → block_bytes * a + block_bytes ≤ length zeros
    room a l = rw (length-replicate) (omega arith)

    header-now : cell block_bytes (set_cell block_bytes zeros header_at (encode (empty_header N 0))) header_at ≡ encode (empty_header N 0)
    header-now = cell_same block_bytes zeros header_at (encode (empty_header N 0)) (room header_at (omega (arith, sz.least))) (length-encode (empty_header N 0))

    blank-now : (a : ℕ) → a ≢ header_at → a < N → cell block_bytes (set_cell block_bytes zeros header_at (encode (empty_header N 0))) a ≡ replicate block_bytes 0
    blank-now a z l = cell_other block_bytes zeros header_at a (encode (empty_header N 0)) z ∙ cell-zeros block_bytes (length st.settled) a (omega arith)

    data_now : (a : ℕ) → is_data geo N a ≡ true → cell block_bytes (set_cell block_bytes zeros header_at (encode (empty_header N 0))) a ≡ replicate block_bytes 0
    data_now a q = blank-now a (λ z. let u = data_above geo N a q in omega arith) (data_below geo N a q)

    -- every block but the header is zero
    pub begun-blank : (a : ℕ) → a ≢ header_at → a < N → block_at (begun geo st).store.settled a ≡ replicate block_bytes 0
    unfolding begun formatted
    begun-blank a z l = rw formatted-now (blank-now a z l)

    pub begun_sim : WorldSim geo (begun geo st)
    unfolding begun fresh formatted addresses queue settle
    begun_sim =
        rw formatted-now
        (record {
          basics = record {
            sizes = facts_sizes geo (formatted st)
                (record {
                  settled = rw (length_set_cell, length-replicate) sz.settled;
                  least = rw (length_set_cell, length-replicate) sz.least;
                  most = rw (length_set_cell, length-replicate) sz.most;
                  waiting = length-replicate (length st.waiting) 0 ∙ sz.waiting;
                  work = length-replicate (length st.work) 0 ∙ sz.work;
                });
            counts = facts_record geo (formatted st)
                (record {
                  mode = omega arith;
                  open_count = omega arith;
                  group_count = omega arith;
                  log_count = omega arith;
                  waiting_count = omega arith;
                  blocks = sym (rw (length_set_cell, length-replicate));
                  waiting_below = λ i z. absurd (omega arith);
                  lists = λ z. record { open_data = tt; group_data = tt; log_data = tt; open_distinct = tt; group_distinct = tt };
                });
            mirrors = record { mode = refl; N = refl; waiting = refl; T = λ z. refl; G = λ z. refl; save = λ z. refl; log = λ z. refl; writes = λ z. refl };
            power = refl;
          };
          phase = ◌⊎◌.inl (record {
            mode = refl;
            n = refl;
            F = refl;
            short = refl;
            loose = refl;
            pending = refl;
            sum = sym (sum_of_nil start);
            waits = tt;
            card = emptied geo Every N (block_at (set_cell block_bytes zeros header_at (encode (empty_header N 0)))) blank (lib.Dec.lit< tt) header-now (λ a q y. sym (data_now a q));
          });
        })

    pub begun_safe : Safe geo (begun geo st).store (begun geo st).ledger
    begun_safe = record { ledger = (begun geo st).ledger; plain = (begun geo st).plain; sim = begun_sim; even = even_refl (begun geo st).ledger }
