-- Behind the first accepted cut: a block that nothing waits for stays up to the recovery, a block that waited is byte by byte as settled or as
-- one of its waiting writes, and the loose addresses are those that waited at that cut.
use Prim.Native.Nat.{ℕ, ◌≤◌, ◌<◌}
use mathlib.Core.Path.{◌≡◌, refl, ap, sym, subst, ◌∙◌}
use mathlib.Core.Logic.{◌≢◌, ◌⊎◌}
use mathlib.Core.Bool.{Bool, true, false, cond, not, ◌&&◌, true≢false, false≢true}
use mathlib.Core.List.{List, [], ◌∷◌, ◌++◌, append-nil}
use native.Mathlib.Omega.{arith}
use native.Mathlib.Decide.{ℕ_discrete, dec_le}
use borrow.Author.Tests.{eq-eqb, eqb-true, eqb-false, not-true}
use lib.Dec.{eqb, leb, lit<}
use lib.ListN.{length, get_or}
use Rattle.cells.specs.Entry.{block_bytes, Entry}
use Rattle.card.specs.Card as Card
use Rattle.card.specs.Card.{Card, queue, run, block_at, blocks_in}
use Rattle.card.specs.Disk.{Disk}
use Rattle.card.proofs.All.{All, all_map, all_take, Any}
use Rattle.card.proofs.Runs.{run_nil, settle_other}
use Rattle.card.proofs.Leaves.{Leaves, cut_leaves}
use Rattle.journal.specs.Geometry.{Geometry}
use Rattle.journal.specs.declared.choice.Choice.{Choice}
use Rattle.journal.specs.declared.choice.Choice.TheVariants.{Whole, Fallback, Foreign, Neither}
use Rattle.journal.specs.Header.{header}
use Rattle.journal.specs.Layout.{header_at, is_data}
use Rattle.journal.specs.Choice.{choose, recover_orders}
use Rattle.journal.proofs.Choices.{both}
use Rattle.journal.proofs.Headers.{length-encode}
use Rattle.journal.proofs.OrderLists.{header_entry, fallback_writes}
use Rattle.crash.proofs.Batches.{batch, Room, no_queue, queued_short, queued_done}
use Rattle.crash.proofs.Logs.{data_above, data_below}
use Rattle.store.specs.Local.{Local}
use Rattle.store.specs.Save as Save
use Rattle.store.specs.Request as Request
use Rattle.store.specs.State.{State, Outcome, closed, open_mode, card_in}
use Rattle.store.specs.Causes.{waiting_bytes, cause}
use Rattle.store.specs.Saves.{carried}
use Rattle.store.proofs.Causes.{needs_open, sizes_facts, sound}
use Rattle.history.specs.Call.{Call, request_of, local, direct, save, cut, power, sync, apply, recover}
use Rattle.history.specs.Plain.{Plain, Done, of_sync, of_apply, of_recover, among, flushes, still, done, spent, flushed, cut_short, synced, cleared, sync_takes, sync_waits, apply_takes, apply_waits, plain_barrier, plain_sync, plain_apply, refusal, served, plain_step, plain_recover, locally}
use Rattle.history.specs.Dispatch.{called, dispatch}
use Rattle.history.specs.History.{World, next, after, store_next, fed, accepted_cut, exception}
use Rattle.history.specs.Statements.{no_cut, finished, none_finished}
use Rattle.history.proofs.Relation.CauseLaws.{record_facts, idle, cause_passes}
use Rattle.history.proofs.Relation.Sim.{ClosedSim}
use Rattle.history.proofs.Relation.PlainLaws.{recover_whole, recover_fallback, recover-short}
use Rattle.history.proofs.Relation.PlainAnswers.{direct_cases, LocalKind, powers, opens, local_kind}
use Rattle.history.proofs.Steps.Shown.{plain_next, WorldSim, same-cause, dispatch-refused, plain_refused, plain_served}
use Rattle.history.proofs.Steps.Local.{is_open}
use Rattle.history.proofs.Steps.Cut.{after_cut, store_cut, plain-cut, fits_cut}
use Rattle.history.proofs.Steps.Recover.{is_closed}
use Rattle.history.proofs.Steps.ListInduction.{step, next_sim, after-append, after_sim, clean_before, clean_first}
use Rattle.history.proofs.Boundary.Cuts.{waits_whole}
use Rattle.history.proofs.Atomicity.ReadsBack.{power-served, cut_accepted, as_cut}

-- ---- the orders of a recovery on a card on which nothing waits

module _ (geo : Geometry) where
  -- a block other than the header's stays, and at most a header waits then
  pub record HeaderAlone (c r : Card) : Type 0 where
    pub blocks : (x : ℕ) → x ≢ header_at → block_at r.settled x ≡ block_at c.settled x
    pub waits : All (λ e. e.address ≡ header_at) (queue r)

  fallback_alone : (c : Card) (e : Entry) → c.count ≡ 0 → Room c (e ∷ []) → e.address ≡ header_at → HeaderAlone c (run (batch (e ∷ [])) c)
  fallback_alone c e z f at = go (dec_le c.power 1)
    where
      none : queue c ≡ []
      none = no_queue c z

      go : Dec (c.power ≤ 1) → HeaderAlone c (run (batch (e ∷ [])) c)
      go (yes p) =
          let l = queued_short c (e ∷ []) f p in
          record {
            blocks = λ x h. ap (λ (s : List ℕ). block_at s x) l.settled;
            waits = rw (l.waits, none) (all_take (λ e. e.address ≡ header_at) c.power (e ∷ []) (at, tt));
          }
      go (no p) =
          let l = queued_done c (e ∷ []) f (omega arith) in
          record {
            blocks = λ x h.
                ap (λ (s : List ℕ). block_at s x) l.settled
                ∙ settle_other (queue c ++ (e ∷ [])) c.settled x (rw none ((λ q. h (q ∙ at)), tt));
            waits = rw l.waits tt;
          }

  orders_alone : (st : State) → st.rec.waiting ≡ 0 → length st.waiting ≡ waiting_bytes geo → (N : ℕ) (c : Choice) → HeaderAlone (card_in st) (run (recover_orders N c) (card_in st))
  orders_alone st z room N (Whole n h k) = rw (run_nil) (record { blocks = λ x h. refl; waits = rw (no_queue (card_in st) z) tt })
  orders_alone st z room N (Fallback p h k) =
      rw (fallback_writes N p h k)
      (fallback_alone (card_in st) (header_entry (header N p h p h k)) z (record { places = omega (arith, geo.queued); whole = (length-encode (header N p h p h k), tt); low = (lit< tt, tt) }) refl)
  orders_alone st z room N Foreign = rw (run_nil) (record { blocks = λ x h. refl; waits = rw (no_queue (card_in st) z) tt })
  orders_alone st z room N Neither = rw (run_nil) (record { blocks = λ x h. refl; waits = rw (no_queue (card_in st) z) tt })

  recover_card : (st : State) → cause geo Request.recover st ≡ 0 → card_in (dispatch geo recover st).state ≡ run (recover_orders st.rec.blocks (choose geo st.rec.blocks st.settled)) (card_in st)
  unfolding called carried
  recover_card st e = rw (eq-eqb _ 0 e)

  -- a call that answers 0 was not refused
  answered : (c : Call) (w : World) → WorldSim geo w → (dispatch geo c w.store).answer ≡ 0 → refusal geo c w.plain ≡ 0
  answered c w m h = go (ℕ_discrete (refusal geo c w.plain) 0)
    where
      go : Dec (refusal geo c w.plain ≡ 0) → refusal geo c w.plain ≡ 0
      go (yes e) = e
      go (no e) =
          let k : cause geo (request_of c) w.store ≢ 0 = λ q. e (sym (same-cause geo w.store w.ledger w.plain m c) ∙ q) in
          absurd (k (sym (ap (λ (o : Outcome). o.answer) (dispatch-refused geo c w.store k)) ∙ h))

  module _ (w : World) (m : WorldSim geo w) (h : refusal geo recover w.plain ≡ 0) where
    recover_passes : cause geo Request.recover w.store ≡ 0
    recover_passes = same-cause geo w.store w.ledger w.plain m recover ∙ h

    recover-shut : ClosedSim geo w.store w.ledger w.plain
    recover-shut = is_closed geo w.store w.ledger w.plain m (cause_passes geo Request.recover w.store recover_passes)

    recover-alone : HeaderAlone (card_in w.store) (card_in (store_next geo recover w))
    recover-alone =
        rw (recover_card w.store recover_passes)
        (orders_alone w.store (idle geo w.store (record_facts geo w.store m.basics.counts) recover-shut.mode) (sizes_facts geo w.store m.basics.sizes).waiting w.store.rec.blocks (choose geo w.store.rec.blocks w.store.settled))

  data_high : (N x : ℕ) → is_data geo N x ≡ true → x ≢ header_at
  data_high N x d z = let u = data_above geo N x d in omega arith

  -- a recover that is done leaves the data blocks
  pub recover-keeps : (x : ℕ) (w : World) → WorldSim geo w → is_data geo w.store.rec.blocks x ≡ true → (dispatch geo recover w.store).answer ≡ 0
      → block_at (store_next geo recover w).settled x ≡ block_at w.store.settled x
  recover-keeps x w m d h = (recover-alone w m (answered recover w m h)).blocks x (data_high w.store.rec.blocks x d)

  -- ---- an accepted cut

  module _ (ms : List ℕ) (w : World) (m : WorldSim geo w) (h : refusal geo (cut ms) w.plain ≡ 0) where
    -- what it leaves
    cut_left : Leaves (blocks_in w.store.settled) ms (queue (card_in w.store)) (block_at w.store.settled) (block_at (Card.cut ms (card_in w.store)).settled)
    cut_left =
        cut_leaves ms (card_in w.store) (omega (arith, (sizes_facts geo w.store m.basics.sizes).least)) (fits_cut geo ms w m h)
        (waits_whole geo w.store (sound geo w.store m.basics.sizes m.basics.counts))

    data_inside : (x : ℕ) → is_data geo w.store.rec.blocks x ≡ true → x < blocks_in w.store.settled
    data_inside x d = omega (arith, data_below geo w.store.rec.blocks x d, (record_facts geo w.store m.basics.counts).blocks)

    cut-settled : (store_next geo (cut ms) w).settled ≡ (Card.cut ms (card_in w.store)).settled
    cut-settled = ap (λ (s : State). s.settled) (store_cut geo ms w m h)

    pub cut-untouched : (x : ℕ) → is_data geo w.store.rec.blocks x ≡ true → All (λ e. x ≢ e.address) (queue (card_in w.store))
        → block_at (store_next geo (cut ms) w).settled x ≡ block_at w.store.settled x
    cut-untouched x d o = ap (λ (s : List ℕ). block_at s x) cut-settled ∙ cut_left.untouched x (data_inside x d) o

    pub cut_long : (x : ℕ) → is_data geo w.store.rec.blocks x ≡ true → length (block_at (store_next geo (cut ms) w).settled x) ≡ block_bytes
    cut_long x d = ap (λ (s : List ℕ). length (block_at s x)) cut-settled ∙ cut_left.long x (data_inside x d)

  -- each byte is as settled or as a waiting write has it
  pub cut-bytes : (ms : List ℕ) (w : World) → WorldSim geo w → refusal geo (cut ms) w.plain ≡ 0 → (x : ℕ) → is_data geo w.store.rec.blocks x ≡ true → (j : ℕ) → j < block_bytes
      → (get_or (block_at (store_next geo (cut ms) w).settled x) j 0 ≡ get_or (block_at w.store.settled x) j 0)
      ⊎ Any (λ e. (e.address ≡ x) × (get_or (block_at (store_next geo (cut ms) w).settled x) j 0 ≡ get_or e.block j 0)) (queue (card_in w.store))
  cut-bytes ms w m h x d j l =
      subst (λ (s : List ℕ). (get_or (block_at s x) j 0 ≡ get_or (block_at w.store.settled x) j 0) ⊎ Any (λ e. (e.address ≡ x) × (get_or (block_at s x) j 0 ≡ get_or e.block j 0)) (queue (card_in w.store)))
      (sym (cut-settled ms w m h)) ((cut_left ms w m h).byte x j (data_inside ms w m h x d))

  -- nothing waits behind it, and the record is closed
  pub record Emptied (st : State) : Type 0 where
    pub queue_none : queue (card_in st) ≡ []
    pub mode : st.rec.mode ≡ closed

  pub cut_empties : (ms : List ℕ) (w : World) → WorldSim geo w → refusal geo (cut ms) w.plain ≡ 0 → Emptied (store_next geo (cut ms) w)
  unfolding Card.cut
  cut_empties ms w m h =
      let e : store_next geo (cut ms) w ≡ after_cut ms w.store = store_cut geo ms w m h in
      record { queue_none = no_queue (card_in (store_next geo (cut ms) w)) (ap (λ (s : State). s.rec.waiting) e); mode = ap (λ (s : State). s.rec.mode) e }

  -- ---- a call on a record that is not open, no accepted cut and no finished recovery

  pub record Passed (c : Call) (w : World) : Type 0 where
    pub mode : (store_next geo c w).rec.mode ≢ open_mode
    pub N : (store_next geo c w).rec.blocks ≡ w.store.rec.blocks
    pub block : (x : ℕ) → x ≢ header_at → block_at (store_next geo c w).settled x ≡ block_at w.store.settled x
    pub waits : (x : ℕ) → x ≢ header_at → All (λ e. x ≢ e.address) (queue (card_in w.store)) → All (λ e. x ≢ e.address) (queue (card_in (store_next geo c w)))
    pub loose : (plain_next geo c w).loose ≡ w.plain.loose
    pub writes : (plain_next geo c w).writes ≡ w.plain.writes

  module _ (w : World) (m : WorldSim geo w) (shut : w.store.rec.mode ≢ open_mode) where
    -- refused
    refused_passed : (c : Call) → refusal geo c w.plain ≢ 0 → Passed c w
    refused_passed c h =
        let k : cause geo (request_of c) w.store ≢ 0 = λ e. h (sym (same-cause geo w.store w.ledger w.plain m c) ∙ e) in
        let D : store_next geo c w ≡ w.store = ap (λ (o : Outcome). o.state) (dispatch-refused geo c w.store k) in
        let P : plain_next geo c w ≡ w.plain = ap (λ (o : Done). o.plain) (plain_refused geo c (fed geo c w) w.plain h) in
        record {
          mode = λ z. shut (sym (ap (λ (s : State). s.rec.mode) D) ∙ z);
          N = ap (λ (s : State). s.rec.blocks) D;
          block = λ x a. ap (λ (s : State). block_at s.settled x) D;
          waits = λ x a o. subst (λ (s : State). All (λ e. x ≢ e.address) (queue (card_in s))) (sym D) o;
          loose = ap (λ (d : Plain). d.loose) P;
          writes = ap (λ (d : Plain). d.writes) P;
        }

    -- one that needs an open record is
    needs-open : (c : Call) → needs_open geo (request_of c) ≡ true → refusal geo c w.plain ≡ 0 → ⊥
    needs-open c n h = shut (is_open geo w.store w.ledger w.plain m (request_of c) n (cause_passes geo (request_of c) w.store (same-cause geo w.store w.ledger w.plain m c ∙ h))).mode

    power_passed : (k : ℕ) → refusal geo (power k) w.plain ≡ 0 → Passed (power k) w
    unfolding queue
    power_passed k h =
        let D = ap (λ (o : Outcome). o.state) (power-served geo k w m) in
        let P = ap (λ (o : Done). o.plain) (plain_served geo (power k) (fed geo (power k) w) w.plain h) in
        record {
          mode = λ z. shut (sym (ap (λ (s : State). s.rec.mode) D) ∙ z);
          N = ap (λ (s : State). s.rec.blocks) D;
          block = λ x a. ap (λ (s : State). block_at s.settled x) D;
          waits = λ x a o. subst (λ (s : State). All (λ e. x ≢ e.address) (queue (card_in s))) (sym D) (same x o);
          loose = ap (λ (d : Plain). d.loose) P;
          writes = ap (λ (d : Plain). d.writes) P;
        }
      where
        same : (x : ℕ) → All (λ e. x ≢ e.address) (queue (card_in w.store))
            → All (λ e. x ≢ e.address) (queue (record { settled = w.store.settled; waiting = w.store.waiting; count = w.store.rec.waiting; power = k }))
        same x o = o

    -- a recover that is not done was cut short
    recover_passed : refusal geo recover w.plain ≡ 0 → (dispatch geo recover w.store).answer ≢ 0 → Passed recover w
    unfolding exception accepted_cut flushes
    recover_passed h z = go w.plain.F refl (dec_le 2 w.plain.power)
      where
        found : Disk
        found = (fed geo recover w).found

        plain_is : plain_step geo recover (fed geo recover w) w.plain ≡ plain_recover geo found w.plain
        plain_is = plain_served geo recover (fed geo recover w) w.plain h

        answers : (dispatch geo recover w.store).answer ≡ (plain_recover geo found w.plain).answer
        answers = (step geo recover w m).agrees.answer ∙ ap (λ (o : Done). o.answer) plain_is

        go : (t : Bool) → w.plain.F ≡ t → Dec (2 ≤ w.plain.power) → Passed recover w
        go false f q = absurd (z (answers ∙ ap (λ (o : Done). o.answer) (recover_whole geo found w.plain f)))
        go true f (yes q) = absurd (z (answers ∙ ap (λ (o : Done). o.answer) (recover_fallback geo found w.plain f q)))
        go true f (no q) =
            let P : plain_next geo recover w ≡ (cut_short geo (of_recover w.plain.power) w.plain.power w.plain).plain =
            ap (λ (o : Done). o.plain) (plain_is ∙ recover-short geo found w.plain f (omega arith)) in
            let alone = recover-alone w m h in
            record {
              mode = λ e. let k : ◌≡◌ {A = ℕ} 2 1 = sym ((step geo recover w m).agrees.mode ∙ ap (λ (d : Plain). d.mode) P) ∙ e in omega arith;
              N = sym ((step geo recover w m).sim refl).basics.mirrors.N ∙ ap (λ (d : Plain). d.N) P ∙ m.basics.mirrors.N;
              block = alone.blocks;
              waits = λ x a o. all_map (λ e. e.address ≡ header_at) (λ e. x ≢ e.address) (λ e b y. a (y ∙ b)) (queue (card_in (store_next geo recover w))) alone.waits;
              loose = ap (λ (d : Plain). d.loose) P;
              writes = ap (λ (d : Plain). d.writes) P;
            }

    local_passed : (c : Local) → LocalKind geo c → refusal geo (local c) w.plain ≡ 0 → Passed (local c) w
    local_passed c (powers k) h = power_passed k h
    local_passed c (opens _ n s) h = absurd (needs-open (local c) n h)

    served_passed : (c : Call) → refusal geo c w.plain ≡ 0 → accepted_cut geo c w ≡ false → finished geo c w ≡ false → Passed c w
    unfolding finished
    served_passed (local c) h a f = local_passed c (local_kind geo c) h
    served_passed (direct x b) h a f = absurd (needs-open (direct x b) refl h)
    served_passed (save Save.sync) h a f = absurd (needs-open sync refl h)
    served_passed (save Save.apply) h a f = absurd (needs-open apply refl h)
    served_passed (save Save.recover) h a f = recover_passed h (eqb-false _ _ f)
    served_passed (cut ms) h a f = absurd (true≢false (sym (cut_accepted geo ms w m h) ∙ a))

    pub passed : (c : Call) → accepted_cut geo c w ≡ false → finished geo c w ≡ false → Passed c w
    passed c a f = go (ℕ_discrete (refusal geo c w.plain) 0)
      where
        go : Dec (refusal geo c w.plain ≡ 0) → Passed c w
        go (no h) = refused_passed c h
        go (yes h) = served_passed c h a f

  -- ---- any call on a record that is not open, no finished recovery

  -- what is accepted as a cut is one
  accepted_is : (c : Call) (w : World) → accepted_cut geo c w ≡ true → (ms : List ℕ) × (c ≡ cut ms)
  unfolding accepted_cut
  accepted_is (local c) w a = absurd (false≢true a)
  accepted_is (direct x b) w a = absurd (false≢true a)
  accepted_is (save c) w a = absurd (false≢true a)
  accepted_is (cut ms) w a = (ms, refl)

  -- and is not refused
  pub accepted_passes : (ms : List ℕ) (w : World) → WorldSim geo w → accepted_cut geo (cut ms) w ≡ true → refusal geo (cut ms) w.plain ≡ 0
  unfolding accepted_cut
  accepted_passes ms w m a = answered (cut ms) w m (eqb-true _ _ a)

  -- a data block to which nothing waits stays, and nothing waits to it then; where no direct write waits, none does then, and the loose
  -- addresses stay
  pub record Onward (c : Call) (w : World) : Type 0 where
    pub mode : (store_next geo c w).rec.mode ≢ open_mode
    pub N : (store_next geo c w).rec.blocks ≡ w.store.rec.blocks
    pub block : (x : ℕ) → is_data geo w.store.rec.blocks x ≡ true → All (λ e. x ≢ e.address) (queue (card_in w.store))
        → block_at (store_next geo c w).settled x ≡ block_at w.store.settled x
    pub waits : (x : ℕ) → is_data geo w.store.rec.blocks x ≡ true → All (λ e. x ≢ e.address) (queue (card_in w.store)) → All (λ e. x ≢ e.address) (queue (card_in (store_next geo c w)))
    pub loose : w.plain.writes ≡ [] → (plain_next geo c w).loose ≡ w.plain.loose
    pub writes : w.plain.writes ≡ [] → (plain_next geo c w).writes ≡ []

  passed_onward : (c : Call) (w : World) → Passed c w → Onward c w
  passed_onward c w p = record {
    mode = p.mode;
    N = p.N;
    block = λ x d o. p.block x (data_high w.store.rec.blocks x d);
    waits = λ x d o. p.waits x (data_high w.store.rec.blocks x d) o;
    loose = λ z. p.loose;
    writes = λ z. p.writes ∙ z;
  }

  -- the loose addresses behind a cut: those that waited join them
  pub cut-loose : (ms : List ℕ) (w : World) → WorldSim geo w → refusal geo (cut ms) w.plain ≡ 0 → (plain_next geo (cut ms) w).loose ≡ w.plain.writes ++ w.plain.loose
  cut-loose ms w m h = ap (λ (o : Done). o.plain.loose) (plain-cut geo ms w m h)

  cut_onward : (ms : List ℕ) (w : World) → WorldSim geo w → refusal geo (cut ms) w.plain ≡ 0 → Onward (cut ms) w
  cut_onward ms w m h =
      let z = cut_empties ms w m h in
      record {
        mode = λ e. omega (arith, z.mode, e);
        N = ap (λ (s : State). s.rec.blocks) (store_cut geo ms w m h);
        block = cut-untouched ms w m h;
        waits = λ x d o. subst (All (λ e. x ≢ e.address)) (sym z.queue_none) tt;
        loose = λ e. cut-loose ms w m h ∙ ap (λ (l : List ℕ). l ++ w.plain.loose) e;
        writes = λ e. ap (λ (o : Done). o.plain.writes) (plain-cut geo ms w m h);
      }

  pub onward : (c : Call) (w : World) → WorldSim geo w → w.store.rec.mode ≢ open_mode → finished geo c w ≡ false → Onward c w
  onward c w m s f = go (accepted_cut geo c w) refl
    where
      by-cut : accepted_cut geo c w ≡ true → (ms : List ℕ) × (c ≡ cut ms) → Onward c w
      by-cut a (ms, e) = subst (λ (k : Call). Onward k w) (sym e) (cut_onward ms w m (accepted_passes ms w m (subst (λ (k : Call). accepted_cut geo k w ≡ true) e a)))

      go : (t : Bool) → accepted_cut geo c w ≡ t → Onward c w
      go false a = passed_onward c w (passed w m s c a f)
      go true a = by-cut a (accepted_is c w a)

  -- ---- a list of them

  -- between w and v
  pub record Behind (w v : World) : Type 0 where
    pub N : v.store.rec.blocks ≡ w.store.rec.blocks
    pub block : (x : ℕ) → is_data geo w.store.rec.blocks x ≡ true → All (λ e. x ≢ e.address) (queue (card_in w.store)) → block_at v.store.settled x ≡ block_at w.store.settled x
    pub loose : w.plain.writes ≡ [] → v.plain.loose ≡ w.plain.loose

  pub behind : (cs : List Call) (w : World) → WorldSim geo w → w.store.rec.mode ≢ open_mode → none_finished geo cs w ≡ true → (after geo cs w).excepted ≡ false → Behind w (after geo cs w)
  unfolding after next none_finished
  behind [] w m s n x = record { N = refl; block = λ a d o. refl; loose = λ z. refl }
  behind (c ∷ cs) w m s n x =
      let p = both (not (finished geo c w)) (none_finished geo cs (next geo c w)) n in
      let o = onward c w m s (not-true _ p.0) in
      here c cs w o (behind cs (next geo c w) (next_sim geo c w m (clean_first geo c cs w x)) o.mode p.1 x)
    where
      here : (c : Call) (cs : List Call) (w : World) → Onward c w → Behind (next geo c w) (after geo cs (next geo c w)) → Behind w (after geo cs (next geo c w))
      here c cs w o r = record {
        N = r.N ∙ o.N;
        block = λ a d q. r.block a (rw o.N d) (o.waits a d q) ∙ o.block a d q;
        loose = λ z. r.loose (o.writes z) ∙ o.loose z;
      }

  -- ---- the first accepted cut

  pub record FirstCut (cs : List Call) (w : World) : Type 0 where
    pub before : List Call
    pub ms : List ℕ
    pub behind : List Call
    pub split : cs ≡ before ++ (cut ms ∷ behind)
    pub uncut : no_cut geo before w ≡ true
    pub accepted : accepted_cut geo (cut ms) (after geo before w) ≡ true

  some-cut : (cs : List Call) (w : World) → no_cut geo cs w ≡ false → FirstCut cs w
  unfolding no_cut after
  some-cut [] w n = absurd (true≢false n)
  some-cut (c ∷ cs) w n = go c cs w (accepted_cut geo c w) refl n (λ z. some-cut cs (next geo c w) z)
    where
      by-cut : (c : Call) (cs : List Call) (w : World) → accepted_cut geo c w ≡ true → (ms : List ℕ) × (c ≡ cut ms) → FirstCut (c ∷ cs) w
      by-cut c cs w a (ms, e) = record { before = []; ms = ms; behind = cs; split = ap (λ (k : Call). k ∷ cs) e; uncut = refl; accepted = subst (λ (k : Call). accepted_cut geo k w ≡ true) e a }

      later : (c : Call) (cs : List Call) (w : World) → accepted_cut geo c w ≡ false → FirstCut cs (next geo c w) → FirstCut (c ∷ cs) w
      later c cs w a f = record { before = c ∷ f.before; ms = f.ms; behind = f.behind; split = ap (λ (l : List Call). c ∷ l) f.split; uncut = rw (a) f.uncut; accepted = f.accepted }

      go : (c : Call) (cs : List Call) (w : World) (t : Bool) → accepted_cut geo c w ≡ t → not (accepted_cut geo c w) && no_cut geo cs (next geo c w) ≡ false → (no_cut geo cs (next geo c w) ≡ false → FirstCut cs (next geo c w)) → FirstCut (c ∷ cs) w
      go c cs w true a n more = by-cut c cs w a (accepted_is c w a)
      go c cs w false a n more = later c cs w a (more (rw a at n))

  -- a list that leaves a closed record, from one that is not, has one
  pub first-cut : (cs : List Call) (w : World) → WorldSim geo w → w.store.rec.mode ≢ closed → (after geo cs w).excepted ≡ false → (after geo cs w).store.rec.mode ≡ closed → FirstCut cs w
  first-cut cs w m o x z = go (no_cut geo cs w) refl
    where
      go : (t : Bool) → no_cut geo cs w ≡ t → FirstCut cs w
      go true n = absurd (o (as_cut geo cs w m x n z).mode)
      go false n = some-cut cs w n

  -- ---- the loose addresses before it

  barrier_loose : (d : Plain) → (plain_barrier geo d).plain.loose ≡ d.loose
  unfolding plain_barrier
  barrier_loose d = go (eqb d.waiting 0) (leb 1 d.power)
    where
      go : (s t : Bool) → (cond s (still d) (cond t (done 1 (flushed (spent 1 d))) (cut_short geo (of_sync d.power) d.waiting d))).plain.loose ≡ d.loose
      go true t = refl
      go false true = refl
      go false false = refl

  sync_loose : (d : Plain) → (plain_sync geo d).plain.loose ≡ d.loose
  unfolding plain_sync
  sync_loose d = go (eqb (length d.G) 0) (leb (sync_takes geo d.n (length d.G)) d.power)
    where
      go : (s t : Bool)
          → (cond s (plain_barrier geo d) (cond t (done (sync_takes geo d.n (length d.G)) (synced geo d)) (cut_short geo (of_sync d.power) (sync_waits geo d.waiting d.n (length d.G) d.power) d))).plain.loose ≡ d.loose
      go true t = barrier_loose d
      go false true = refl
      go false false = refl

  apply_loose : (d : Plain) → (plain_apply geo d).plain.loose ≡ d.loose
  unfolding plain_apply
  apply_loose d = go (eqb d.n 0) (leb (apply_takes d.n) d.power)
    where
      go : (s t : Bool) → (cond s (still d) (cond t (done (apply_takes d.n) (cleared d)) (cut_short geo (of_apply d.power) (apply_waits d.waiting d.n d.power) d))).plain.loose ≡ d.loose
      go true t = refl
      go false true = refl
      go false false = refl

  locally_loose : (c : Local) (d : Plain) → (locally c d).loose ≡ d.loose
  locally_loose (Local.power k) d = refl
  locally_loose (Local.put a b) d = refl
  locally_loose (Local.get a) d = refl
  locally_loose (Local.get_list xs bs) d = refl
  locally_loose Local.commit d = refl
  locally_loose Local.abandon d = refl

  -- only an accepted cut and a finished recovery change them
  pub loose_kept : (c : Call) (w : World) → WorldSim geo w → accepted_cut geo c w ≡ false → finished geo c w ≡ false → (plain_next geo c w).loose ≡ w.plain.loose
  unfolding finished
  loose_kept c w m a f = go (ℕ_discrete (refusal geo c w.plain) 0)
    where
      by : (c : Call) → refusal geo c w.plain ≡ 0 → accepted_cut geo c w ≡ false → finished geo c w ≡ false → (served geo c (fed geo c w) w.plain).plain.loose ≡ w.plain.loose
      by (local c) h a f = locally_loose c w.plain
      by (direct x b) h a f = direct_cases geo (λ o. o.plain.loose ≡ w.plain.loose) x b w.plain (λ q. refl) (λ q. refl)
      by (save Save.sync) h a f = sync_loose w.plain
      by (save Save.apply) h a f = apply_loose w.plain
      by (save Save.recover) h a f =
          sym (ap (λ (o : Done). o.plain.loose) (plain_served geo recover (fed geo recover w) w.plain h))
          ∙ (recover_passed w m (λ z. omega (arith, (recover-shut w m h).mode, z)) h (eqb-false _ _ f)).loose
      by (cut ms) h a f = absurd (true≢false (sym (cut_accepted geo ms w m h) ∙ a))

      go : Dec (refusal geo c w.plain ≡ 0) → (plain_next geo c w).loose ≡ w.plain.loose
      go (no h) = ap (λ (o : Done). o.plain.loose) (plain_refused geo c (fed geo c w) w.plain h)
      go (yes h) = ap (λ (o : Done). o.plain.loose) (plain_served geo c (fed geo c w) w.plain h) ∙ by c h a f

  pub loose_before : (cs : List Call) (w : World) → WorldSim geo w → no_cut geo cs w ≡ true → none_finished geo cs w ≡ true → (after geo cs w).excepted ≡ false → (after geo cs w).plain.loose ≡ w.plain.loose
  unfolding after next no_cut none_finished
  loose_before [] w m u n x = refl
  loose_before (c ∷ cs) w m u n x =
      let p = both (not (finished geo c w)) (none_finished geo cs (next geo c w)) n in
      let q = both (not (accepted_cut geo c w)) (no_cut geo cs (next geo c w)) u in
      loose_before cs (next geo c w) (next_sim geo c w m (clean_first geo c cs w x)) q.1 p.1 x ∙ loose_kept c w m (not-true _ q.0) (not-true _ p.0)

  -- ---- a list split at that cut

  pub none_split : (a b : List Call) (w : World) → none_finished geo (a ++ b) w ≡ true → (none_finished geo a w ≡ true) × (none_finished geo b (after geo a w) ≡ true)
  unfolding none_finished after
  none_split [] b w n = (refl, n)
  none_split (c ∷ a) b w n =
      let p = both (not (finished geo c w)) (none_finished geo (a ++ b) (next geo c w)) n in
      let r = none_split a b (next geo c w) p.1 in
      (rw p.0 r.0, r.1)

  module _ (before : List Call) (ms : List ℕ) (rest : List Call) (w : World) (m : WorldSim geo w)
      (uncut : no_cut geo before w ≡ true) (accepted : accepted_cut geo (cut ms) (after geo before w) ≡ true)
      (none : none_finished geo (before ++ (cut ms ∷ rest)) w ≡ true) (clean : (after geo (before ++ (cut ms ∷ rest)) w).excepted ≡ false) where
    -- where the cut is made, and what it leaves
    abbrev met : World
    met = after geo before w

    abbrev left : World
    left = next geo (cut ms) (after geo before w)

    at-end : after geo (before ++ (cut ms ∷ rest)) w ≡ after geo rest left
    unfolding after
    at-end = after-append geo before (cut ms ∷ rest) w

    clean_end : (after geo rest left).excepted ≡ false
    clean_end = sym (ap (λ (v : World). v.excepted) at-end) ∙ clean

    clean_left : left.excepted ≡ false
    clean_left = clean_before geo rest left clean_end

    clean_met : met.excepted ≡ false
    unfolding after
    clean_met = clean_before geo (cut ms ∷ []) met clean_left

    pub met_sim : WorldSim geo met
    met_sim = after_sim geo before w m clean_met

    pub met_passes : refusal geo (cut ms) met.plain ≡ 0
    met_passes = accepted_passes ms met met_sim accepted

    left_sim : WorldSim geo left
    left_sim = next_sim geo (cut ms) met met_sim (clean_first geo (cut ms) rest met clean_end)

    nones : (none_finished geo before w ≡ true) × (none_finished geo (cut ms ∷ rest) met ≡ true)
    nones = none_split before (cut ms ∷ rest) w none

    none_rest : none_finished geo rest left ≡ true
    unfolding none_finished
    none_rest = (both (not (finished geo (cut ms) met)) (none_finished geo rest left) nones.1).1

    left-shut : left.store.rec.mode ≢ open_mode
    unfolding next
    left-shut e = omega (arith, (cut_empties ms met met_sim met_passes).mode, e)

    pub behind-cut : Behind left (after geo rest left)
    behind-cut = behind rest left left_sim left-shut none_rest clean_end

    -- the loose addresses at the end are those that waited at that cut
    pub loose_waited : w.plain.loose ≡ [] → (after geo (before ++ (cut ms ∷ rest)) w).plain.loose ≡ met.plain.writes
    unfolding next
    loose_waited z =
        ap (λ (v : World). v.plain.loose) at-end
        ∙ behind-cut.loose (ap (λ (o : Done). o.plain.writes) (plain-cut geo ms met met_sim met_passes))
        ∙ cut-loose ms met met_sim met_passes
        ∙ ap (λ (l : List ℕ). met.plain.writes ++ l) (loose_before before w m uncut nones.0 clean_met ∙ z)
        ∙ append-nil met.plain.writes

    pub loose_first : w.plain.loose ≡ [] → (x : ℕ) → among x (after geo (before ++ (cut ms ∷ rest)) w).plain.loose ≡ among x met.plain.writes
    loose_first z x = ap (among x) (loose_waited z)

    -- from that cut on every data block stays
    pub block_end : (x : ℕ) → is_data geo met.store.rec.blocks x ≡ true
        → block_at (after geo (before ++ (cut ms ∷ rest)) w).store.settled x ≡ block_at (store_next geo (cut ms) met).settled x
    unfolding next
    block_end x d =
        ap (λ (v : World). block_at v.store.settled x) at-end
        ∙ behind-cut.block x (rw (ap (λ (s : State). s.rec.blocks) (store_cut geo ms met met_sim met_passes)) d)
        (subst (All (λ e. x ≢ e.address)) (sym (cut_empties ms met met_sim met_passes).queue_none) tt)

    pub N_end : (after geo (before ++ (cut ms ∷ rest)) w).store.rec.blocks ≡ met.store.rec.blocks
    unfolding next
    N_end = ap (λ (v : World). v.store.rec.blocks) at-end ∙ behind-cut.N ∙ ap (λ (s : State). s.rec.blocks) (store_cut geo ms met met_sim met_passes)

  -- the same of a list that has a first accepted cut
  module _ (cs : List Call) (w : World) (f : FirstCut cs w) (m : WorldSim geo w) (none : none_finished geo cs w ≡ true) (clean : (after geo cs w).excepted ≡ false) where
    abbrev there : World
    there = after geo f.before w

    none_there : none_finished geo (f.before ++ (cut f.ms ∷ f.behind)) w ≡ true
    none_there = subst (λ (l : List Call). none_finished geo l w ≡ true) f.split none

    clean_there : (after geo (f.before ++ (cut f.ms ∷ f.behind)) w).excepted ≡ false
    clean_there = subst (λ (l : List Call). (after geo l w).excepted ≡ false) f.split clean

    pub first_sim : WorldSim geo there
    first_sim = met_sim f.before f.ms f.behind w m f.uncut f.accepted none_there clean_there

    pub first_passes : refusal geo (cut f.ms) there.plain ≡ 0
    first_passes = met_passes f.before f.ms f.behind w m f.uncut f.accepted none_there clean_there

    pub first_loose : w.plain.loose ≡ [] → (x : ℕ) → among x (after geo cs w).plain.loose ≡ among x there.plain.writes
    first_loose z x =
        ap (λ (l : List Call). among x (after geo l w).plain.loose) f.split
        ∙ loose_first f.before f.ms f.behind w m f.uncut f.accepted none_there clean_there z x

    pub first_block : (x : ℕ) → is_data geo there.store.rec.blocks x ≡ true → block_at (after geo cs w).store.settled x ≡ block_at (store_next geo (cut f.ms) there).settled x
    first_block x d =
        ap (λ (l : List Call). block_at (after geo l w).store.settled x) f.split
        ∙ block_end f.before f.ms f.behind w m f.uncut f.accepted none_there clean_there x d

    pub first-N : (after geo cs w).store.rec.blocks ≡ there.store.rec.blocks
    first-N =
        ap (λ (l : List Call). (after geo l w).store.rec.blocks) f.split
        ∙ N_end f.before f.ms f.behind w m f.uncut f.accepted none_there clean_there

    -- what a recover behind the list leaves of a data block: byte by byte as settled at that cut or as a write that waited there
    pub first_found : (dispatch geo recover (after geo cs w).store).answer ≡ 0 → (x : ℕ) → is_data geo there.store.rec.blocks x ≡ true
        → block_at (store_next geo recover (after geo cs w)).settled x ≡ block_at (store_next geo (cut f.ms) there).settled x
    first_found h x d = recover-keeps x (after geo cs w) (after_sim geo cs w m clean) (rw (first-N) d) h ∙ first_block x d

    pub first-bytes : (dispatch geo recover (after geo cs w).store).answer ≡ 0 → (x : ℕ) → is_data geo there.store.rec.blocks x ≡ true → (j : ℕ) → j < block_bytes
        → (get_or (block_at (store_next geo recover (after geo cs w)).settled x) j 0 ≡ get_or (block_at there.store.settled x) j 0)
        ⊎ Any (λ e. (e.address ≡ x) × (get_or (block_at (store_next geo recover (after geo cs w)).settled x) j 0 ≡ get_or e.block j 0)) (queue (card_in there.store))
    first-bytes h x d j l =
        subst (λ (b : List ℕ). (get_or b j 0 ≡ get_or (block_at there.store.settled x) j 0) ⊎ Any (λ e. (e.address ≡ x) × (get_or b j 0 ≡ get_or e.block j 0)) (queue (card_in there.store)))
        (sym (first_found h x d)) (cut-bytes f.ms there first_sim first_passes x d j l)

    pub first_long : (dispatch geo recover (after geo cs w).store).answer ≡ 0 → (x : ℕ) → is_data geo there.store.rec.blocks x ≡ true → length (block_at (store_next geo recover (after geo cs w)).settled x) ≡ block_bytes
    first_long h x d = ap length (first_found h x d) ∙ cut_long f.ms there first_sim first_passes x d
