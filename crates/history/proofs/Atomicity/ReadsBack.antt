-- A recovery takes the log written, or its first p entries.
use Prim.Native.Nat.{ℕ, ◌+◌, ◌^◌, ◌≤◌, ◌<◌}
use mathlib.Core.Path.{◌≡◌, refl, ap, ap₂, sym, ◌∙◌}
use mathlib.Core.Logic.{◌≢◌, ◌⊎◌}
use mathlib.Core.Bool.{Bool, true, false, true≢false, cond, not}
use mathlib.Core.List.{List, [], ◌∷◌}
use native.Mathlib.Omega.{arith}
use native.Mathlib.Decide.{ℕ_discrete, dec_le}
use borrow.Author.Tests.{eq-eqb, eqb-true, not-true}
use lib.ListN.{length, take}
use Rattle.cells.specs.Upto.Laws.{length-up_to}
use Rattle.cells.specs.Entry.{Entry}
use Rattle.fnv.specs.Fnv.{start}
use Rattle.card.specs.Card.{block_at}
use Rattle.journal.specs.Geometry.{Geometry}
use Rattle.journal.specs.declared.header.Header.{Header}
use Rattle.journal.specs.declared.choice.Choice.{Choice}
use Rattle.journal.specs.Log.{header_of, entries, sum_of}
use Rattle.journal.specs.Choice.{taken_count}
use Rattle.journal.proofs.Choices.{both}
use Rattle.crash.proofs.Cards.{WholeCard, FallCard}
use Rattle.card.specs.Disk.{Disk}
use Rattle.cells.specs.Entry.{block_bytes}
use lib.Dec.{eqb}
use Rattle.crash.proofs.Leads.{read_head, same_logs, logs_same}
use Rattle.crash.proofs.Logs.{slot_e, log_d, entries_disk}
use Rattle.store.specs.Local.{Local}
use Rattle.store.specs.Save as Save
use Rattle.store.specs.Request as Request
use Rattle.store.specs.State.{State, Outcome, closed, open_mode, with_queue, with_record}
use Rattle.store.specs.Causes.{cause}
use Rattle.store.specs.Outcomes.{completed}
use Rattle.history.specs.Call.{Call, request_of, local, direct, save, cut, power, sync, apply, recover}
use Rattle.history.specs.Plain.{Plain, Done, refusal, locally, served, plain_step, plain_recover}
use Rattle.history.specs.Dispatch.{called, dispatch}
use Rattle.history.specs.Ledger.{Ledger, recover_headers, noted, entered, taken, log_found, same_log}
use Rattle.history.specs.History.{World, begun, next, after, store_next, ledger_next, fed, accepted_cut, exception}
use Rattle.history.specs.Statements.{no_cut, Taken, ReadBack, WrittenSummed}
use Rattle.history.proofs.Relation.CauseLaws.{cause_passes}
use Rattle.history.proofs.Relation.Sim.{Firm, OpenSim, ClosedSim, DownSim, Sim, Safe}
use Rattle.history.proofs.Relation.OpenFacts as Facts
use Rattle.history.proofs.Relation.PlainLaws.{recover_whole, recover_fallback, recover-short}
use Rattle.history.proofs.Steps.Shown.{plain_next, WorldSim, same-cause, dispatch-refused, entered-refused, plain_served, noted_none, small_N, choose_fallback}
use Rattle.history.proofs.Steps.Local.{is_open}
use Rattle.history.proofs.Steps.Cut.{served-cut, store_cut}
use Rattle.history.proofs.Steps.Recover.{is_closed}
use Rattle.history.proofs.Steps.ListInduction.{step, next_sim, next_safe, after_sim, after_safe, begun_sim, begun_safe, clean_first, clean_before}
use Rattle.history.proofs.Relation.PlainAnswers.{when-open, save_end, save_mode, direct_mode, LocalKind, powers, opens, local_kind}

-- ---- a call after which the record is closed, that was no accepted cut, found it so

recover_mode : (geo : Geometry) (u : Disk) (d : Plain) → (plain_recover geo u d).plain.mode ≢ 0
recover_mode geo u d e = go d.F refl (dec_le 2 d.power)
  where
    go : (t : Bool) → d.F ≡ t → Dec (2 ≤ d.power) → ⊥
    go false f q = let k : ◌≡◌ {A = ℕ} 1 0 = sym (ap (λ (o : Done). o.plain.mode) (recover_whole geo u d f)) ∙ e in omega arith
    go true f (yes q) = let k : ◌≡◌ {A = ℕ} 1 0 = sym (ap (λ (o : Done). o.plain.mode) (recover_fallback geo u d f q)) ∙ e in omega arith
    go true f (no q) = let k : ◌≡◌ {A = ℕ} 2 0 = sym (ap (λ (o : Done). o.plain.mode) (recover-short geo u d f (omega arith))) ∙ e in omega arith

module _ (geo : Geometry) where
  pub record Unmoved (c : Call) (w : World) : Type 0 where
    pub mode : w.store.rec.mode ≡ closed
    pub settled : (store_next geo c w).settled ≡ w.store.settled
    pub ledger : ledger_next geo c w ≡ w.ledger

  -- a refused call
  unmoved_refused : (c : Call) (w : World) → WorldSim geo w → refusal geo c w.plain ≢ 0 → (store_next geo c w).rec.mode ≡ closed → Unmoved c w
  unmoved_refused c w m h z =
      let k : cause geo (request_of c) w.store ≢ 0 = λ e. h (sym (same-cause geo w.store w.ledger w.plain m c) ∙ e) in
      let D = dispatch-refused geo c w.store k in
      record {
        mode = sym (ap (λ (o : Outcome). o.state.rec.mode) D) ∙ z;
        settled = ap (λ (o : Outcome). o.state.settled) D;
        ledger = entered-refused geo c w.store w.ledger k;
      }

  pub power-served : (k : ℕ) (w : World) → WorldSim geo w → dispatch geo (power k) w.store ≡ completed (with_record (with_queue w.store.rec.waiting k w.store.rec) w.store)
  unfolding called refusal
  power-served k w m =
      let e : cause geo (Request.power k) w.store ≡ 0 = same-cause geo w.store w.ledger w.plain m (power k) in
      rw (eq-eqb _ 0 e)

  power_unmoved : (k : ℕ) (w : World) → WorldSim geo w → (store_next geo (power k) w).rec.mode ≡ closed → Unmoved (power k) w
  unfolding entered
  power_unmoved k w m z =
      let D = power-served k w m in
      record { mode = sym (ap (λ (o : Outcome). o.state.rec.mode) D) ∙ z; settled = ap (λ (o : Outcome). o.state.settled) D; ledger = refl }

  -- a cut that is not refused is accepted
  pub cut_accepted : (ms : List ℕ) (w : World) → WorldSim geo w → refusal geo (cut ms) w.plain ≡ 0 → accepted_cut geo (cut ms) w ≡ true
  unfolding accepted_cut
  cut_accepted ms w m h =
      let e : (dispatch geo (cut ms) w.store).answer ≡ 0 = ap (λ (o : Outcome). o.answer) (served-cut geo ms w m h) in
      rw e

  -- a local call that is not refused: power, or the record was open, and stays so
  local_unmoved : (c : Local) (w : World) → LocalKind geo c → WorldSim geo w → refusal geo (local c) w.plain ≡ 0 → (store_next geo (local c) w).rec.mode ≡ closed
      → (locally c w.plain).mode ≡ 0 → Unmoved (local c) w
  local_unmoved c w (powers k) m h z e = power_unmoved k w m z
  local_unmoved c w (opens _ n s) m h z e =
      let o = is_open geo w.store w.ledger w.plain m (Request.local c) n (cause_passes geo (Request.local c) w.store (same-cause geo w.store w.ledger w.plain m (local c) ∙ h)) in
      let q : ◌≡◌ {A = ℕ} 1 0 = sym (m.basics.mirrors.mode ∙ o.mode) ∙ sym (s w.plain).mode ∙ e in
      absurd (omega arith)

  -- a test in front that passed
  behind : (t : Bool) (k : ℕ) → ◌≡◌ {A = ℕ} (cond (not t) 1 k) 0 → k ≡ 0
  behind true k e = e
  behind false k e = absurd (omega arith)

  -- a call that is not refused: power, or a cut; every other leaves a record that is not closed
  served_unmoved : (c : Call) (w : World) → WorldSim geo w → refusal geo c w.plain ≡ 0 → accepted_cut geo c w ≡ false → (store_next geo c w).rec.mode ≡ closed
      → (served geo c (fed geo c w) w.plain).plain.mode ≡ 0 → Unmoved c w
  unfolding refusal
  served_unmoved (local c) w m h a z e = local_unmoved c w (local_kind geo c) m h z e
  served_unmoved (direct i x) w m h a z e = absurd (direct_mode geo i x w.plain (when-open w.plain _ (behind (eqb (length x) block_bytes) _ h)).0 e)
  served_unmoved (save Save.sync) w m h a z e = absurd (save_mode geo (fed geo sync w).found Save.sync w.plain (save_end geo (fed geo sync w).found Save.sync w.plain) (when-open w.plain _ h).0 e)
  served_unmoved (save Save.apply) w m h a z e = absurd (save_mode geo (fed geo apply w).found Save.apply w.plain (save_end geo (fed geo apply w).found Save.apply w.plain) (when-open w.plain _ h).0 e)
  served_unmoved (save Save.recover) w m h a z e = absurd (recover_mode geo (fed geo recover w).found w.plain e)
  served_unmoved (cut ms) w m h a z e = absurd (true≢false (sym (cut_accepted ms w m h) ∙ a))

  stays : (c : Call) (w : World) → WorldSim geo w → accepted_cut geo c w ≡ false → (store_next geo c w).rec.mode ≡ closed → Unmoved c w
  stays c w m a z = go (ℕ_discrete (refusal geo c w.plain) 0)
    where
      plain_mode : refusal geo c w.plain ≡ 0 → (served geo c (fed geo c w) w.plain).plain.mode ≡ 0
      plain_mode h = sym (ap (λ (o : Done). o.plain.mode) (plain_served geo c (fed geo c w) w.plain h)) ∙ sym (step geo c w m).agrees.mode ∙ z

      go : Dec (refusal geo c w.plain ≡ 0) → Unmoved c w
      go (no h) = unmoved_refused c w m h z
      go (yes h) = served_unmoved c w m h a z (plain_mode h)

-- ---- the card from the last accepted cut to a recovery

pub record AsCut (w v : World) : Type 0 where
  pub mode : w.store.rec.mode ≡ closed
  pub settled : v.store.settled ≡ w.store.settled
  pub written : v.ledger.written ≡ w.ledger.written

module _ (geo : Geometry) where
  pub as_cut : (ds : List Call) (w : World) → WorldSim geo w → (after geo ds w).excepted ≡ false → no_cut geo ds w ≡ true → (after geo ds w).store.rec.mode ≡ closed → AsCut w (after geo ds w)
  unfolding after no_cut next
  as_cut [] w m x n z = record { mode = z; settled = refl; written = refl }
  as_cut (c ∷ ds) w m x n z =
      let p = both (not (accepted_cut geo c w)) (no_cut geo ds (next geo c w)) n in
      let r = as_cut ds (next geo c w) (next_sim geo c w m (clean_first geo c ds w x)) x p.1 z in
      here c ds w m p.0 r
    where
      here : (c : Call) (ds : List Call) (w : World) → WorldSim geo w → not (accepted_cut geo c w) ≡ true → AsCut (next geo c w) (after geo ds (next geo c w)) → AsCut w (after geo ds (next geo c w))
      here c ds w m a r =
          let u = stays geo c w m (not-true _ a) r.mode in
          record { mode = u.mode; settled = r.settled ∙ u.settled; written = r.written ∙ ap (λ (l : Ledger). l.written) u.ledger }

  -- ---- the list that a completed recover takes

  module _ (w : World) (m : WorldSim geo w) (h : (dispatch geo recover w.store).answer ≡ 0) where
    served-now : refusal geo recover w.plain ≡ 0
    served-now = go (ℕ_discrete (refusal geo recover w.plain) 0)
      where
        go : Dec (refusal geo recover w.plain ≡ 0) → refusal geo recover w.plain ≡ 0
        go (yes e) = e
        go (no e) =
            let k : cause geo Request.recover w.store ≢ 0 = λ q. e (sym (same-cause geo w.store w.ledger w.plain m recover) ∙ q) in
            absurd (k (sym (ap (λ (o : Outcome). o.answer) (dispatch-refused geo recover w.store k)) ∙ h))

    pub found-closed : ClosedSim geo w.store w.ledger w.plain
    found-closed = is_closed geo w.store w.ledger w.plain m (cause_passes geo Request.recover w.store (same-cause geo w.store w.ledger w.plain m recover ∙ served-now))

    -- what it is fed
    abbrev found : Disk
    found = (fed geo recover w).found

    -- the plain disk's step, by F
    plain_is : plain_step geo recover (fed geo recover w) w.plain ≡ plain_recover geo found w.plain
    plain_is = plain_served geo recover (fed geo recover w) w.plain served-now

    plain_done : (plain_recover geo found w.plain).answer ≡ 0
    plain_done = ap (λ (o : Done). o.answer) (sym plain_is) ∙ sym (step geo recover w m).agrees.answer ∙ h

    orders_are : (dispatch geo recover w.store).orders ≡ (plain_recover geo found w.plain).orders
    orders_are = (step geo recover w m).agrees.orders ∙ ap (λ (o : Done). o.orders) plain_is

    no_exception : exception geo recover w ≡ false
    unfolding exception accepted_cut
    no_exception = refl

    -- done, the record is open
    done-by : (P : Done → Type 0) → (w.plain.F ≡ false → P (plain_recover geo found w.plain)) → (w.plain.F ≡ true → 2 ≤ w.plain.power → P (plain_recover geo found w.plain)) → P (plain_recover geo found w.plain)
    done-by P a b = go w.plain.F refl (dec_le 2 w.plain.power)
      where
        go : (t : Bool) → w.plain.F ≡ t → Dec (2 ≤ w.plain.power) → P (plain_recover geo found w.plain)
        go false f q = a f
        go true f (yes q) = b f q
        go true f (no q) = absurd (let k : ◌≡◌ {A = ℕ} 4 0 = sym (ap (λ (o : Done). o.answer) (recover-short geo found w.plain f (omega arith))) ∙ plain_done in omega arith)

    plain_open : (plain_recover geo found w.plain).plain.mode ≡ open_mode
    plain_open = done-by (λ o. o.plain.mode ≡ open_mode) (λ f. ap (λ (o : Done). o.plain.mode) (recover_whole geo found w.plain f)) (λ f p. ap (λ (o : Done). o.plain.mode) (recover_fallback geo found w.plain f p))

    pub recovered_sim : Sim geo (store_next geo recover w) (ledger_next geo recover w) (plain_next geo recover w)
    recovered_sim = (step geo recover w m).sim no_exception

    pub recovered_mode : (store_next geo recover w).rec.mode ≡ open_mode
    recovered_mode = (step geo recover w m).agrees.mode ∙ ap (λ (o : Done). o.plain.mode) plain_is ∙ plain_open

    pub recovered_open : OpenSim geo (store_next geo recover w) (ledger_next geo recover w) (plain_next geo recover w)
    recovered_open = go recovered_sim.phase
      where
        go : OpenSim geo (store_next geo recover w) (ledger_next geo recover w) (plain_next geo recover w) ⊎ (ClosedSim geo (store_next geo recover w) (ledger_next geo recover w) (plain_next geo recover w) ⊎ DownSim geo (store_next geo recover w) (ledger_next geo recover w) (plain_next geo recover w))
            → OpenSim geo (store_next geo recover w) (ledger_next geo recover w) (plain_next geo recover w)
        go (◌⊎◌.inl o) = o
        go (◌⊎◌.inr (◌⊎◌.inl o)) = absurd (omega (arith, o.mode, recovered_mode))
        go (◌⊎◌.inr (◌⊎◌.inr o)) = absurd (omega (arith, o.mode, recovered_mode))

    -- the list taken is the one noted
    taken-noted : entries geo (store_next geo recover w).settled (store_next geo recover w).rec.logged ≡ (ledger_next geo recover w).written
    taken-noted = entries_disk geo (store_next geo recover w).settled (store_next geo recover w).rec.logged ∙ sym (Facts.written_is geo (store_next geo recover w) (ledger_next geo recover w) (plain_next geo recover w) recovered_sim.basics recovered_open)

    small : w.store.rec.blocks < 2 ^ 32
    small = small_N geo w.store w.plain m.basics

    -- by what the cut left
    abbrev Chosen : Type 0
    Chosen =
        (ledger_next geo recover w).written
        ≡ cond (same_log (log_found geo w.store) w.ledger.written) w.ledger.written (take (header_of w.store.settled).previous w.ledger.written)

    noted_orders : (k : ℕ) → (plain_recover geo found w.plain).orders ≡ k → ledger_next geo recover w ≡ noted (recover_headers geo w.store) k w.ledger
    unfolding entered
    noted_orders k e = ap (λ (x : ℕ). noted (recover_headers geo w.store) x w.ledger) (orders_are ∙ e)

    -- with no fallback to come the ledger stays
    pub same_ledger : w.plain.F ≡ false → ledger_next geo recover w ≡ w.ledger
    same_ledger f = noted_orders 0 (ap (λ (o : Done). o.orders) (recover_whole geo found w.plain f)) ∙ noted_none (recover_headers geo w.store) w.ledger

    taken_whole : w.plain.F ≡ false → WholeCard geo (Firm geo w.plain.loose) w.store.rec.blocks (block_at w.store.settled) w.ledger.written w.plain.S w.plain.n → Chosen
    unfolding log_found
    taken_whole f r =
        let hd = read_head geo w.store.settled w.store.rec.blocks r.p r.ps w.plain.n _ w.plain.S.groups small r.head in
        let there : log_found geo w.store ≡ w.ledger.written =
        ap (λ (x : Header). entries geo w.store.settled x.count) hd ∙ entries_disk geo w.store.settled w.plain.n ∙ sym r.same in
        let same : same_log (log_found geo w.store) w.ledger.written ≡ true = ap (λ (x : List Entry). same_log x w.ledger.written) there ∙ logs_same w.ledger.written in
        ap (λ (l : Ledger). l.written) (noted_orders 0 (ap (λ (o : Done). o.orders) (recover_whole geo found w.plain f)) ∙ noted_none (recover_headers geo w.store) w.ledger)
        ∙ sym (ap (λ (t : Bool). cond t w.ledger.written (take (header_of w.store.settled).previous w.ledger.written)) same)

    noted_two : (noted (recover_headers geo w.store) 2 w.ledger).written ≡ taken geo w.store
    unfolding recover_headers noted
    noted_two = refl

    taken_fall : w.plain.F ≡ true → 2 ≤ w.plain.power → FallCard geo (Firm geo w.plain.loose) w.store.rec.blocks (block_at w.store.settled) w.ledger.written w.plain.S w.plain.n → Chosen
    unfolding log_found
    taken_fall f p r =
        let s = w.store.settled in
        let hd = read_head geo w.store.settled w.store.rec.blocks w.plain.n _ r.c r.ns (w.plain.S.groups + 1) small r.head in
        let there : log_found geo w.store ≡ log_d geo (block_at w.store.settled) r.c = ap (λ (x : Header). entries geo w.store.settled x.count) hd ∙ entries_disk geo w.store.settled r.c in
        let other : same_log (log_found geo w.store) w.ledger.written ≡ false = differ (same_log (log_found geo w.store) w.ledger.written) refl (λ e. r.other (sym e ∙ there)) in
        ap (λ (l : Ledger). l.written) (noted_orders 2 (ap (λ (o : Done). o.orders) (recover_fallback geo found w.plain f p)))
        ∙ noted_two
        ∙ ap (λ (c : Choice). entries geo w.store.settled (taken_count c)) (choose_fallback geo w.store.rec.blocks w.store.settled small w.ledger.written w.plain.S w.plain.n r)
        ∙ entries_disk geo w.store.settled w.plain.n
        ∙ sym r.front
        ∙ ap (λ (x : Header). take x.previous w.ledger.written) (sym hd)
        ∙ sym (ap (λ (t : Bool). cond t w.ledger.written (take (header_of w.store.settled).previous w.ledger.written)) other)
      where
        differ : (t : Bool) → same_log (log_found geo w.store) w.ledger.written ≡ t → (log_found geo w.store ≡ w.ledger.written → ⊥) → t ≡ false
        differ true e z = absurd (z (same_logs (log_found geo w.store) w.ledger.written e))
        differ false e z = refl

    pub taken_is : Chosen
    taken_is = done-by (λ o. Chosen) (λ f. taken_whole f (rw f at found-closed.card)) (λ f p. taken_fall f p (rw f at found-closed.card))

  -- ---- the theorem

  taken-after : (w : World) (ds : List Call) → WorldSim geo w → (after geo ds w).excepted ≡ false → no_cut geo ds w ≡ true → (dispatch geo recover (after geo ds w).store).answer ≡ 0
      → Taken geo w (dispatch geo recover (after geo ds w).store).state
  unfolding log_found
  taken-after w ds m x n h =
      let v = after geo ds w in
      let mv = after_sim geo ds w m x in
      let r = as_cut ds w m x n (found-closed (after geo ds w) mv h).mode in
      taken-noted (after geo ds w) mv h
      ∙ taken_is (after geo ds w) mv h
      ∙ ap₂ (λ (s : List ℕ) (l : List Entry). cond (same_log (entries geo s (header_of s).count) l) l (take (header_of s).previous l)) r.settled r.written

  pub read_back : ReadBack geo
  unfolding after
  read_back st f cs ms ds a n x h =
      let v = after geo cs (begun geo st) in
      let here : (after geo cs (begun geo st)).excepted ≡ false = clean_before geo (cut ms ∷ ds) (after geo cs (begun geo st)) (first x) in
      taken-after (next geo (cut ms) (after geo cs (begun geo st))) ds
      (next_sim geo (cut ms) (after geo cs (begun geo st)) (after_sim geo cs (begun geo st) (begun_sim geo st f) here) (clean_first geo (cut ms) ds (after geo cs (begun geo st)) x)) x n h
    where
      first : (after geo ds (next geo (cut ms) (after geo cs (begun geo st)))).excepted ≡ false → (after geo (cut ms ∷ ds) (after geo cs (begun geo st))).excepted ≡ false
      first e = e

-- ---- the log written, by the header that a cut left

-- count and sum, where no collision came between
pub record Totals (st : State) (l : Ledger) : Type 0 where
  pub count : (header_of st.settled).count ≡ length l.written
  pub sum : (header_of st.settled).sum ≡ sum_of start l.written

module _ (geo : Geometry) where
  summed : (w : World) → WorldSim geo w → w.store.rec.mode ≡ closed → Totals w.store w.ledger
  summed w m z = by w.plain.F refl (closed_phase m.phase)
    where
      closed_phase : OpenSim geo w.store w.ledger w.plain ⊎ (ClosedSim geo w.store w.ledger w.plain ⊎ DownSim geo w.store w.ledger w.plain) → ClosedSim geo w.store w.ledger w.plain
      closed_phase (◌⊎◌.inl o) = absurd (omega (arith, o.mode))
      closed_phase (◌⊎◌.inr (◌⊎◌.inl o)) = o
      closed_phase (◌⊎◌.inr (◌⊎◌.inr o)) = absurd (omega (arith, o.mode))

      low : w.store.rec.blocks < 2 ^ 32
      low = small_N geo w.store w.plain m.basics

      whole : WholeCard geo (Firm geo w.plain.loose) w.store.rec.blocks (block_at w.store.settled) w.ledger.written w.plain.S w.plain.n → Totals w.store w.ledger
      whole r =
          let hd = read_head geo w.store.settled w.store.rec.blocks r.p r.ps w.plain.n _ w.plain.S.groups low r.head in
          record {
            count = ap (λ (x : Header). x.count) hd ∙ sym (ap length r.same ∙ length-up_to (slot_e geo (block_at w.store.settled)) w.plain.n);
            sum = ap (λ (x : Header). x.sum) hd ∙ ap (sum_of start) (sym r.same);
          }

      fall : FallCard geo (Firm geo w.plain.loose) w.store.rec.blocks (block_at w.store.settled) w.ledger.written w.plain.S w.plain.n → Totals w.store w.ledger
      fall r =
          let hd = read_head geo w.store.settled w.store.rec.blocks w.plain.n _ r.c r.ns (w.plain.S.groups + 1) low r.head in
          record { count = ap (λ (x : Header). x.count) hd ∙ sym r.size; sum = ap (λ (x : Header). x.sum) hd ∙ sym r.total }

      by : (F : Bool) → w.plain.F ≡ F → ClosedSim geo w.store w.ledger w.plain → Totals w.store w.ledger
      by false f o = whole (rw f at o.card)
      by true f o = fall (rw f at o.card)

  -- an accepted cut is not refused
  accepted_serves : (ms : List ℕ) (w : World) → WorldSim geo w → accepted_cut geo (cut ms) w ≡ true → refusal geo (cut ms) w.plain ≡ 0
  unfolding accepted_cut
  accepted_serves ms w m a = go (ℕ_discrete (refusal geo (cut ms) w.plain) 0)
    where
      go : Dec (refusal geo (cut ms) w.plain ≡ 0) → refusal geo (cut ms) w.plain ≡ 0
      go (yes e) = e
      go (no e) =
          let k : cause geo (Request.cut ms) w.store ≢ 0 = λ q. e (sym (same-cause geo w.store w.ledger w.plain m (cut ms)) ∙ q) in
          absurd (k (sym (ap (λ (o : Outcome). o.answer) (dispatch-refused geo (cut ms) w.store k)) ∙ eqb-true _ _ a))

  pub written_summed : WrittenSummed geo
  unfolding next accepted_cut
  written_summed st f cs ms a = record { count = totals.count ∙ sym s.even.written.0; sum = totals.sum ∙ sym s.even.written.1 }
    where
      shut : (w : World) → WorldSim geo w → accepted_cut geo (cut ms) w ≡ true → (store_next geo (cut ms) w).rec.mode ≡ closed
      shut w m a = ap (λ (s : State). s.rec.mode) (store_cut geo ms w m (accepted_serves ms w m a))

      -- what no collision broke before the cut, and what none breaks after it
      t : Safe geo (after geo cs (begun geo st)).store (after geo cs (begun geo st)).ledger
      t = after_safe geo cs (begun geo st) (begun_safe geo st f)

      s : Safe geo (next geo (cut ms) (after geo cs (begun geo st))).store (next geo (cut ms) (after geo cs (begun geo st))).ledger
      s = next_safe geo (cut ms) (after geo cs (begun geo st)).store (after geo cs (begun geo st)).ledger t

      totals : Totals (next geo (cut ms) (after geo cs (begun geo st))).store s.ledger
      totals =
          summed (record { store = (next geo (cut ms) (after geo cs (begun geo st))).store; ledger = s.ledger; plain = s.plain; excepted = false }) s.sim
          (shut (record { store = (after geo cs (begun geo st)).store; ledger = t.ledger; plain = t.plain; excepted = false }) t.sim a)
