-- A recover that is done, on any card that it accepts, whatever left it: an open record, and the card of it.
use Prim.Native.Nat.{ℕ, ◌-◌, ◌^◌, ◌≤◌, ◌<◌}
use mathlib.Core.Path.{◌≡◌, refl, ap, sym, subst, ◌∙◌}
use mathlib.Core.Logic.{◌≢◌}
use mathlib.Core.Bool.{Bool, true, false}
use mathlib.Core.List.{List, [], ◌∷◌}
use native.Mathlib.Omega.{arith}
use native.Mathlib.Decide.{dec_le}
use borrow.Author.Tests.{eq-eqb, eqb-true}
use lib.Dec.{eqb}
use lib.ListN.{length}
use Rattle.cells.specs.Entry.{block_bytes, Entry}
use Rattle.cells.specs.Little.{Bytes}
use Rattle.cells.specs.Cell.Laws.{bytes-cell}
use Rattle.fnv.specs.Fnv.{start}
use Rattle.card.specs.Disk.{Disk, overlay}
use Rattle.card.specs.Card.{Order, queue, settle, block_at}
use Rattle.card.proofs.Overlays.{lay-same}
use Rattle.card.proofs.Runs.{settle_other, settle-overlay}
use Rattle.crash.specs.Laid.{Laid}
use Rattle.crash.proofs.Batches.{no_queue}
use Rattle.crash.proofs.Cards.{Every, WholeCard, fallen}
use Rattle.crash.proofs.Logs.{sum_lt, log_d, entries_disk, data_above}
use Rattle.crash.proofs.Plans.{Plan, planned, takes, length-planned}
use Rattle.journal.specs.Geometry.{Geometry}
use Rattle.journal.specs.declared.header.Header.{Header}
use Rattle.journal.specs.declared.choice.Choice.{Choice}
use Rattle.journal.specs.declared.choice.Choice.TheVariants.{Whole, Fallback, Foreign, Neither}
use Rattle.journal.specs.Layout.{header_at, first_data, is_data}
use Rattle.journal.specs.Header.{encode, decode, header}
use Rattle.journal.specs.Log.{header_of, entries, sum_of, all_data, good}
use Rattle.journal.specs.Choice.{foreign, choose, choice_number, taken_count, recover_orders}
use Rattle.journal.proofs.Logs.{both, length-block_at}
use Rattle.journal.proofs.Headers.{length-encode, Fitting, decode-encode, decode_fits}
use Rattle.journal.proofs.Choices.{ours, alike_zero, choose-foreign, choose_whole, choose_fallback, choose-neither}
use Rattle.journal.proofs.OrderLists.{header_entry, fallback_writes, length_fallback}
use Rattle.store.specs.declared.record.Record.{Record}
use Rattle.store.specs.Request as Request
use Rattle.store.specs.State.{State, Outcome, closed, card_in}
use Rattle.store.specs.Causes.{wrong_sizes, wrong_record, cause}
use Rattle.store.specs.Saves.{carried, reopened, recovering}
use Rattle.store.proofs.Causes.{SizeFacts, sizes_facts}
use Rattle.history.specs.Call.{recover}
use Rattle.history.specs.Plain.{Plain, addresses, with_s, with_count, with_power, with_log, blank_plain}
use Rattle.history.specs.Dispatch.{called, dispatch}
use Rattle.history.specs.Ledger.{settled_by}
use Rattle.history.proofs.Relation.CauseLaws.{RecordFacts, record_facts, idle}
use Rattle.history.proofs.Relation.Sim.{Sim}
use Rattle.history.proofs.Steps.CallEnds.{carried-done, carried-short}
use Rattle.history.proofs.Steps.Ends.{none_listed, Ends, ends_sim}

-- the plain disk then: N, the data blocks D, into which g groups were laid, n entries in the log, which is the list, the power p
abbrev pub plain_reopened : ℕ → Disk → ℕ → ℕ → List Entry → ℕ → Plain
plain_reopened N D g n list p = with_count n (with_log (addresses list) (with_power p (with_s (record { disk = D; groups = g }) (blank_plain N))))

module _ (geo : Geometry) where
  module _ (st : State) (sizes : wrong_sizes geo st ≡ false) (counts : wrong_record geo st ≡ false) (shut : st.rec.mode ≡ closed) where
    abbrev N : ℕ
    N = st.rec.blocks

    abbrev s : List ℕ
    s = st.settled

    sz : SizeFacts geo st
    sz = sizes_facts geo st sizes

    rc : RecordFacts geo st
    rc = record_facts geo st counts

    none : queue (card_in st) ≡ []
    none = no_queue (card_in st) (idle geo st rc shut)

    -- ---- the call

    passes : choice_number (choose geo N s) ≡ 0 → cause geo Request.recover st ≡ 0
    passes z = rw (sizes, counts, shut, z)

    call : (c : Choice) → choose geo N s ≡ c → choice_number c ≡ 0 → dispatch geo recover st ≡ recovering c st
    unfolding called
    call c e z = rw (eq-eqb _ 0 (passes (ap choice_number e ∙ z))) (ap (λ (y : Choice). recovering y st) e)

    -- done, it had power for all its orders
    enough : (os : List Order) (done gone : Record) → (carried os done gone st).answer ≡ 0 → length os ≤ st.rec.power
    enough os done gone e = go (dec_le (length os) st.rec.power)
      where
        go : Dec (length os ≤ st.rec.power) → length os ≤ st.rec.power
        go (yes p) = p
        go (no p) = absurd (let z : ◌≡◌ {A = ℕ} 4 0 = sym (ap (λ (o : Outcome). o.answer) (carried-short os done gone st (omega arith))) ∙ e in omega arith)

    -- what it leaves, by its plan
    module _ (c : Choice) (plan : Plan) (g : ℕ) (D : Disk) (e : choose geo N s ≡ c) (z : choice_number c ≡ 0) where
      abbrev S : Laid
      S = record { disk = D; groups = g }

      reopens_by : (n sum : ℕ) (list : List Entry) → recovering c st ≡ carried (planned plan) (reopened n sum g st.rec) st.rec st
          → Ends geo st plan (reopened n sum g st.rec) S list
          → (dispatch geo recover st).answer ≡ 0 → (p : ℕ) × Sim geo (dispatch geo recover st).state (settled_by list) (plain_reopened N D g n list p)
      reopens_by n sum list same f d =
          let at = call c e z ∙ same in
          let long : length (planned plan) ≤ st.rec.power = enough (planned plan) _ _ (sym (ap (λ (o : Outcome). o.answer) at) ∙ d) in
          let whole = length-planned plan in
          let left = at ∙ carried-done (planned plan) (reopened n sum g st.rec) st.rec st long in (
            st.rec.power - takes plan,
            subst (λ (t : State). Sim geo t (settled_by list) (plain_reopened N D g n list (st.rec.power - takes plan))) (sym (ap (λ (o : Outcome). o.state) left))
                (ends_sim geo st plan (reopened n sum g st.rec) S list sizes counts f (omega arith)),
          )

    -- ---- the two choices

    abbrev h : Header
    h = header_of st.settled

    big : first_data geo < N
    big = omega (arith, sz.least, rc.blocks)

    -- a list that is good
    module _ (n sum : ℕ) (g : good geo N (entries geo s n) sum ≡ true) where
      good-sum : sum_of start (entries geo s n) ≡ sum
      good-sum = eqb-true _ _ (both (eqb (sum_of start (entries geo s n)) sum) (all_data geo N (entries geo s n)) g).0

      good-log : sum ≡ sum_of start (log_d geo (block_at s) n)
      good-log = sym good-sum ∙ ap (sum_of start) (entries_disk geo s n)

      good_data : all_data geo N (log_d geo (block_at s) n) ≡ true
      good_data = rw (← entries_disk geo s n) (both (eqb (sum_of start (entries geo s n)) sum) (all_data geo N (entries geo s n)) g).1

    fitting : Bytes s → Fitting h
    fitting bytes = decode_fits (block_at s header_at) (bytes-cell block_bytes s header_at bytes) (length-block_at s header_at (omega (arith, big, rc.blocks)))

    -- the disk D is the card's data blocks, with the first n entries laid over
    abbrev Under : Disk → ℕ → Type 0
    Under D n = (a : ℕ) → is_data geo N a ≡ true → D a ≡ overlay (entries geo s n) (block_at s) a

    -- a recover that is done leaves the first n entries as the log, D under it
    abbrev Reopens : Disk → ℕ → Type 0
    Reopens D n = (dispatch geo recover st).answer ≡ 0 → (g : ℕ) × ((p : ℕ) × Sim geo (dispatch geo recover st).state (settled_by (entries geo s n)) (plain_reopened N D g n (entries geo s n) p))

    -- the first n entries are taken, and nothing is written
    module _ (bytes : Bytes s) (f : foreign geo N h ≡ false) (t : good geo N (entries geo s h.count) h.sum ≡ true) where
      abbrev n : ℕ
      n = h.count

      abbrev ns : ℕ
      ns = sum_of start (log_d geo (block_at s) n)

      presum_lt : h.presum < 2 ^ 64
      presum_lt = (fitting bytes).1.1.1.1.0

      save_lt : h.save < 2 ^ 64
      save_lt = (fitting bytes).1.1.1.1.1.1.0

      reads : decode (block_at s header_at) ≡ header N h.previous h.presum n ns h.save
      reads = λ i. record {
        format = (ours geo N h f).format i;
        blocks = (ours geo N h f).blocks i;
        previous = h.previous;
        count = h.count;
        presum = h.presum;
        sum = good-log n h.sum t i;
        save = h.save;
      }

      found : (D : Disk) → Under D n → WholeCard geo Every N (block_at s) (entries geo s n) (record { disk = D; groups = h.save }) n
      found D under =
          let o = ours geo N h f in
          record {
            p = h.previous;
            ps = h.presum;
            head = record {
              reads = reads ∙ sym (decode-encode (header N h.previous h.presum n ns h.save) (omega (arith, rc.blocks, sz.most, o.count, o.previous, geo.addressed, presum_lt, save_lt, sum_lt (log_d geo (block_at s) n))));
              ordered = o.previous;
              most = o.count;
              presum = presum_lt;
              sum = sum_lt (log_d geo (block_at s) n);
              save = save_lt;
              numbered = λ z. ((alike_zero h o.numbered z).0, (alike_zero h o.numbered z).1 ∙ good-log n h.sum t);
            };
            all = good_data n h.sum t;
            same = entries_disk geo s n;
            disk = λ a x y. under a x ∙ ap (λ (es : List Entry). overlay es (block_at s) a) (entries_disk geo s n);
          }

      whole_reopens : (D : Disk) → Under D n → Reopens D n
      whole_reopens D under d = (
        h.save,
        reopens_by (Whole n h.sum h.save) [] h.save D (choose_whole geo N s h refl f t) refl n h.sum (entries geo s n) refl
            (record {
              none_waits = none;
              fits = tt;
              mode = refl;
              blocks = refl;
              opened = none_listed geo _ _ _;
              grouped = none_listed geo _ _ _;
              save = refl;
              sum = good-log n h.sum t;
              card = found D under;
            })
            d,
      )

    -- the first p are, and a header is written
    module _ (bytes : Bytes s) (f : foreign geo N h ≡ false) (no : good geo N (entries geo s h.count) h.sum ≡ false) (t : good geo N (entries geo s h.previous) h.presum ≡ true) where
      abbrev p : ℕ
      p = h.previous

      abbrev g : ℕ
      g = h.save - 1

      abbrev ps : ℕ
      ps = sum_of start (log_d geo (block_at s) p)

      abbrev top : Entry
      top = header_entry (header N p ps p ps g)

      few : p ≤ geo.slots
      few = let o = ours geo N h f in omega (arith, o.count, o.previous)

      number_lt : g < 2 ^ 64
      number_lt = let l = (fitting bytes).1.1.1.1.1.1.0 in omega arith

      stays : (a : ℕ) → a ≢ header_at → block_at (settle (top ∷ []) s) a ≡ block_at s a
      stays a z = settle_other (top ∷ []) s a (z, tt)

      header-now : block_at (settle (top ∷ []) s) header_at ≡ encode (header N p ps p ps g)
      unfolding overlay
      header-now = settle-overlay (top ∷ []) s header_at (omega (arith, big, rc.blocks)) (length-encode (header N p ps p ps g), tt) ∙ lay-same top (block_at s) header_at refl

      list-now : entries geo s p ≡ log_d geo (block_at s) p
      list-now = entries_disk geo s p

      fallen_now : (D : Disk) → Under D p → WholeCard geo Every N (block_at (settle (top ∷ []) s)) (log_d geo (block_at s) p) (record { disk = D; groups = g }) p
      fallen_now D under =
          fallen geo Every Every N (block_at s) (block_at (settle (top ∷ []) s)) (record { disk = D; groups = g }) p few number_lt (good_data p h.presum t)
          (λ a x y. under a x ∙ ap (λ (es : List Entry). overlay es (block_at s) a) list-now)
          header-now (λ a l z. stays a z) (λ a x y. (tt, stays a (λ z. let u = data_above geo N a x in omega arith)))

      orders_are : recover_orders N (Fallback p h.presum g) ≡ planned ((top ∷ []) ∷ [])
      orders_are = ap (λ (x : ℕ). recover_orders N (Fallback p x g)) (good-log p h.presum t) ∙ rw (fallback_writes N p ps g)

      fallback_reopens : (D : Disk) → Under D p → Reopens D p
      fallback_reopens D under d =
          let w = fallen_now D under in (
            g,
            reopens_by (Fallback p h.presum g) ((top ∷ []) ∷ []) g D (choose_fallback geo N s h refl f no t) refl p h.presum (entries geo s p)
                (ap (λ (os : List Order). carried os (reopened p h.presum g st.rec) st.rec st) orders_are)
                (record {
                  none_waits = refl;
                  fits = (record { few = let e : length (queue (card_in st)) ≡ 0 = ap length none in omega (arith, geo.queued); whole = (length-encode (header N p ps p ps g), tt); low = (omega (arith, big), tt) }, tt);
                  mode = refl;
                  blocks = refl;
                  opened = none_listed geo _ _ _;
                  grouped = none_listed geo _ _ _;
                  save = refl;
                  sum = rw none (good-log p h.presum t ∙ ap (sum_of start) w.same);
                  card = rw (none, list-now) w;
                })
                d,
          )

    -- ---- any choice that is no refusal

    pub reopens : Bytes s → choice_number (choose geo N s) ≡ 0 → (D : Disk) → Under D (taken_count (choose geo N s)) → Reopens D (taken_count (choose geo N s))
    reopens bytes z D =
        go (foreign geo N h) (good geo N (entries geo s h.count) h.sum) (good geo N (entries geo s h.previous) h.presum) refl refl refl
      where
        go : (x y v : Bool) → foreign geo N h ≡ x → good geo N (entries geo s h.count) h.sum ≡ y → good geo N (entries geo s h.previous) h.presum ≡ v
            → Under D (taken_count (choose geo N s)) → Reopens D (taken_count (choose geo N s))
        go true y v a b c = absurd (let k : ◌≡◌ {A = ℕ} 8 0 = sym (ap choice_number (choose-foreign geo N s h refl a)) ∙ z in omega arith)
        go false true v a b c = subst (λ (k : ℕ). Under D k → Reopens D k) (sym (ap taken_count (choose_whole geo N s h refl a b))) (whole_reopens bytes a b D)
        go false false true a b c = subst (λ (k : ℕ). Under D k → Reopens D k) (sym (ap taken_count (choose_fallback geo N s h refl a b c))) (fallback_reopens bytes a b c D)
        go false false false a b c = absurd (let k : ◌≡◌ {A = ℕ} 9 0 = sym (ap choice_number (choose-neither geo N s h refl a b c)) ∙ z in omega arith)

    -- with power for two orders it is done
    pub two_enough : choice_number (choose geo N s) ≡ 0 → 2 ≤ st.rec.power → (dispatch geo recover st).answer ≡ 0
    two_enough z l = go (choose geo N s) refl
      where
        by : (c : Choice) → choose geo N s ≡ c → choice_number c ≡ 0 → length (recover_orders N c) ≤ st.rec.power → (dispatch geo recover st).answer ≡ 0
        by c e k w = ap (λ (o : Outcome). o.answer) (call c e k ∙ carried-done (recover_orders N c) _ _ st w)

        go : (c : Choice) → choose geo N s ≡ c → (dispatch geo recover st).answer ≡ 0
        go (Whole n sum save) e = by (Whole n sum save) e refl (omega arith)
        go (Fallback n sum save) e = by (Fallback n sum save) e refl (rw (length_fallback N n sum save) l)
        go Foreign e = absurd (let k : ◌≡◌ {A = ℕ} 8 0 = sym (ap choice_number e) ∙ z in omega arith)
        go Neither e = absurd (let k : ◌≡◌ {A = ℕ} 9 0 = sym (ap choice_number e) ∙ z in omega arith)
