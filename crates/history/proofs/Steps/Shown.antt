-- What a step of a history has to show, and the steps that change nothing: refused calls.
use Prim.Native.Nat.{ℕ, ◌+◌, ◌-◌, ◌^◌, ◌≤◌, ◌<◌}
use mathlib.Core.Path.{◌≡◌, refl, ap, sym, subst, ◌∙◌}
use mathlib.Core.Logic.{◌≢◌, ◌⊎◌}
use mathlib.Core.Bool.{Bool, true, false, not, ◌&&◌}
use mathlib.Core.List.{List, [], ◌∷◌}
use native.Mathlib.Omega.{arith}
use borrow.Author.Tests.{eq-eqb, ne_eqb, eqb-true, le-leb}
use lib.Dec.{eqb}
use lib.ListN.{length}
use Rattle.cells.specs.Upto.Laws.{length-up_to}
use Rattle.cells.specs.Entry.{Entry, entry_at}
use Rattle.fnv.specs.Fnv.{start}
use Rattle.card.specs.Card.{queue, block_at}
use Rattle.card.specs.Marks.{whole_block, marks_fit}
use Rattle.card.proofs.All.{All, all_map}
use Rattle.card.proofs.MarkLaws.{HeaderLast, fits_last}
use Rattle.crash.proofs.Batches.{no_queue}
use Rattle.journal.specs.Geometry.{Geometry}
use Rattle.journal.specs.declared.choice.Choice.TheVariants.{Whole, Fallback}
use Rattle.journal.specs.Layout.{first_data}
use Rattle.journal.specs.Header.{header}
use Rattle.journal.specs.Log.{header_of, entries, sum_of}
use Rattle.journal.specs.Choice.{foreign, choose, choice_number}
use Rattle.crash.specs.Laid.{Laid}
use Rattle.crash.proofs.Cards.{WholeCard, FallCard, ClosedCard}
use Rattle.crash.proofs.Leads.{read_head}
use Rattle.crash.proofs.Frames.{KeepOff, off_low}
use Rattle.crash.proofs.Logs.{log_d, entries_disk, data_above}
use Rattle.store.specs.Request as Request
use Rattle.store.specs.State.{State, Outcome, closed, open_mode, card_in}
use Rattle.store.specs.Causes.{cause}
use Rattle.store.specs.Outcomes.{refused}
use Rattle.store.proofs.Causes.{sizes_facts}
use Rattle.history.specs.Call.{Call, request_of, local, direct, save, cut, get}
use Rattle.history.specs.Plain.{Plain, Short, none, header_waits, plain_fit, Fed, Done, refusal, served, plain_step, plain_get}
use Rattle.store.specs.Get.{block_of}
use Rattle.history.specs.Dispatch.{dispatch}
use Rattle.history.specs.Ledger.{Ledger, PlannedHeader, headers_of, noted, entered}
use Rattle.history.specs.History.{World, store_next, ledger_next, fed, exception}
use Rattle.history.specs.Statements.{Agrees}
use Rattle.history.proofs.Relation.CauseLaws.{record_facts, idle, cause-refusal}
use Rattle.history.proofs.Relation.Forms.{called-refused}
use Rattle.history.proofs.Relation.EvenLedgers.{even_refl}
use Rattle.history.proofs.Relation.PlainLaws.{header_none}
use Rattle.history.proofs.Relation.Sim.{Basics, Firm, Waits, OpenSim, ClosedSim, DownSim, Sim, Safe}

-- ---- what a step has to show

module _ (geo : Geometry) where
  abbrev pub plain_next : Call → World → Plain
  plain_next c w = (plain_step geo c (fed geo c w) w.plain).plain

  abbrev pub WorldSim : World → Type 0
  WorldSim w = Sim geo w.store w.ledger w.plain

  pub record StepOK (c : Call) (w : World) : Type 0 where
    pub agrees : Agrees geo c w
    pub sim : exception geo c w ≡ false → Sim geo (store_next geo c w) (ledger_next geo c w) (plain_next c w)
    pub safe : Safe geo (store_next geo c w) (ledger_next geo c w)

  -- n, when open
  pub sim_n : (st : State) (l : Ledger) (d : Plain) → Sim geo st l d → st.rec.mode ≡ open_mode → st.rec.logged ≡ d.n
  sim_n st l d m h = go m.phase
    where
      go : OpenSim geo st l d ⊎ (ClosedSim geo st l d ⊎ DownSim geo st l d) → st.rec.logged ≡ d.n
      go (◌⊎◌.inl o) = sym o.n
      go (◌⊎◌.inr (◌⊎◌.inl o)) = absurd (omega (arith, o.mode))
      go (◌⊎◌.inr (◌⊎◌.inr o)) = absurd (omega (arith, o.mode))

  -- no save number, when closed
  sim_no_save : (st : State) (l : Ledger) (d : Plain) → Sim geo st l d → st.rec.mode ≡ closed → st.rec.save ≡ 0
  sim_no_save st l d m h = go m.phase
    where
      go : OpenSim geo st l d ⊎ (ClosedSim geo st l d ⊎ DownSim geo st l d) → st.rec.save ≡ 0
      go (◌⊎◌.inl o) = absurd (omega (arith, o.mode))
      go (◌⊎◌.inr (◌⊎◌.inl o)) = o.save
      go (◌⊎◌.inr (◌⊎◌.inr o)) = absurd (omega (arith, o.mode))

  -- what a step shows: the answer, the orders, the block of a get; and the relation after it, whatever was found
  pub record Shows (c : Call) (w : World) : Type 0 where
    pub answer : (dispatch geo c w.store).answer ≡ (plain_step geo c (fed geo c w) w.plain).answer
    pub orders : (dispatch geo c w.store).orders ≡ (plain_step geo c (fed geo c w) w.plain).orders
    pub block : (a : ℕ) → c ≡ get a → (dispatch geo c w.store).answer ≡ 0 → block_of geo a w.store ≡ plain_get a w.plain
    pub sim : Sim geo (store_next geo c w) (ledger_next geo c w) (plain_next c w)

  pub sim_step : (c : Call) (w : World) → Shows c w → StepOK c w
  sim_step c w s =
      let m = s.sim.basics.mirrors in
      record {
        agrees = record {
          answer = s.answer;
          orders = s.orders;
          block = s.block;
          mode = sym m.mode;
          power = sym s.sim.basics.power;
          waiting = sym m.waiting;
          n = sim_n (store_next geo c w) (ledger_next geo c w) (plain_next c w) s.sim;
          save = λ h. sym (m.save h);
          log = λ h. sym (m.log h);
          writes = λ h. sym (m.writes h);
          no_save = sim_no_save (store_next geo c w) (ledger_next geo c w) (plain_next c w) s.sim;
        };
        sim = λ e. s.sim;
        safe = record { ledger = ledger_next geo c w; plain = plain_next c w; sim = s.sim; even = even_refl (ledger_next geo c w) };
      }

  -- the relation carried along equations
  pub sim_at : {st st' : State} {l l' : Ledger} {d d' : Plain} → st' ≡ st → l' ≡ l → d' ≡ d → Sim geo st l d → Sim geo st' l' d'
  sim_at {st} {st'} {l} {l'} {d} {d'} p q r m = rw (p, q, r) m

  -- ---- the choice of a recovery on a card that a cut left

  -- N fits its bytes
  pub small_N : (st : State) (d : Plain) → Basics geo st d → st.rec.blocks < 2 ^ 32
  small_N st d b = let s = sizes_facts geo st b.sizes in let r = record_facts geo st b.counts in omega (arith, s.most, r.blocks)

  pub big-N : (st : State) (d : Plain) → Basics geo st d → first_data geo < st.rec.blocks
  big-N st d b = let s = sizes_facts geo st b.sizes in let r = record_facts geo st b.counts in omega (arith, s.least, r.blocks)

  pub ours : (N p ps c ns k : ℕ) → p ≤ c → c ≤ geo.slots → (k ≡ 0 → (p ≡ c) × (ps ≡ ns)) → foreign geo N (header N p ps c ns k) ≡ false
  ours N p ps c ns k h l z = rw (eq-eqb N N refl, le-leb c geo.slots l, le-leb p c h) (go (eqb k 0) refl)
    where
      go : (t : Bool) → eqb k 0 ≡ t → t && not (eqb p c && eqb ps ns) ≡ false
      go true e = let same = z (eqb-true _ _ e) in rw (eq-eqb _ _ same.0, eq-eqb _ _ same.1)
      go false e = refl

  -- the head of an opened card gives no foreign header
  module _ (N : ℕ) (s : List ℕ) (small : N < 2 ^ 32) where
    pub choose_whole : {X : ℕ → Type 0} (w : List Entry) (S : Laid) (n : ℕ) → WholeCard geo X N (block_at s) w S n → choose geo N s ≡ Whole n (sum_of start (entries geo s n)) S.groups
    unfolding choose
    choose_whole w S n r =
        let h : header_of s ≡ header N r.p r.ps n (sum_of start (log_d geo (block_at s) n)) S.groups = read_head geo s N r.p r.ps n (sum_of start (log_d geo (block_at s) n)) S.groups small r.head in
        let e : entries geo s n ≡ log_d geo (block_at s) n = entries_disk geo s n in
        rw (h, ours N r.p r.ps n (sum_of start (log_d geo (block_at s) n)) S.groups r.head.ordered r.head.most r.head.numbered, e, eq-eqb (sum_of start (log_d geo (block_at s) n)) (sum_of start (log_d geo (block_at s) n)) refl, r.all)

    pub choose_fallback : {X : ℕ → Type 0} (w : List Entry) (S : Laid) (n : ℕ) → FallCard geo X N (block_at s) w S n → choose geo N s ≡ Fallback n (sum_of start (entries geo s n)) S.groups
    unfolding choose
    choose_fallback w S n r =
        let h : header_of s ≡ header N n (sum_of start (log_d geo (block_at s) n)) r.c r.ns (S.groups + 1) = read_head geo s N n (sum_of start (log_d geo (block_at s) n)) r.c r.ns (S.groups + 1) small r.head in
        let e : entries geo s n ≡ log_d geo (block_at s) n = entries_disk geo s n in
        let f : entries geo s r.c ≡ log_d geo (block_at s) r.c = entries_disk geo s r.c in
        let one : S.groups + 1 - 1 ≡ S.groups = omega arith in
        rw (h, ours N n (sum_of start (log_d geo (block_at s) n)) r.c r.ns (S.groups + 1) r.head.ordered r.head.most r.head.numbered, f, r.bad, e, eq-eqb (sum_of start (log_d geo (block_at s) n)) (sum_of start (log_d geo (block_at s) n)) refl, r.all, one)

  pub closed_choice : (X : ℕ → Type 0) (N : ℕ) (s : List ℕ) (w : List Entry) (S : Laid) (n : ℕ) (F : Bool) → N < 2 ^ 32 → ClosedCard geo X N (block_at s) w S n F → choice_number (choose geo N s) ≡ 0
  closed_choice X N s w S n false l r = ap choice_number (choose_whole N s l w S n r)
  closed_choice X N s w S n true l r = ap choice_number (choose_fallback N s l w S n r)

  -- direct writes that wait are to data blocks
  pub waits_off : (st : State) → All (Waits geo st) (queue (card_in st)) → KeepOff geo (queue (card_in st))
  waits_off st h = all_map (Waits geo st) (λ e. first_data geo ≤ e.address) (λ e p. data_above geo st.rec.blocks e.address p.0) (queue (card_in st)) h

  pub waits_high : (st : State) → All (Waits geo st) (queue (card_in st)) → All (λ e. whole_block ≢ e.address) (queue (card_in st))
  waits_high st h = off_low geo (queue (card_in st)) (waits_off st h) whole_block (omega arith)

  -- ---- the number of a call is the plain disk's

  -- marks fit the one if they fit the other
  pub same_fit : (st : State) (l : Ledger) (d : Plain) → Sim geo st l d → (ms : List ℕ) → marks_fit ms (queue (card_in st)) ≡ plain_fit geo ms d
  unfolding plain_fit queue
  same_fit st l d m ms = go m.phase
    where
      waits : length (queue (card_in st)) ≡ d.waiting
      waits = length-up_to (entry_at st.waiting) st.rec.waiting ∙ sym m.basics.mirrors.waiting

      by : (t : Bool) → header_waits geo d.short d.n (length d.G) ≡ t → HeaderLast t (queue (card_in st)) → marks_fit ms (queue (card_in st)) ≡ plain_fit geo ms d
      by t e h = fits_last t ms (queue (card_in st)) h ∙ rw (waits, e)

      quiet : d.short ≡ none → HeaderLast false (queue (card_in st)) → marks_fit ms (queue (card_in st)) ≡ plain_fit geo ms d
      quiet s h = by false (ap (λ (x : Short). header_waits geo x d.n (length d.G)) s ∙ header_none geo d.n (length d.G)) h

      go : OpenSim geo st l d ⊎ (ClosedSim geo st l d ⊎ DownSim geo st l d) → marks_fit ms (queue (card_in st)) ≡ plain_fit geo ms d
      go (◌⊎◌.inl o) = quiet o.short (waits_high st o.waits)
      go (◌⊎◌.inr (◌⊎◌.inl o)) = quiet o.short (subst (HeaderLast false) (sym (no_queue (card_in st) (idle geo st (record_facts geo st m.basics.counts) o.mode))) tt)
      go (◌⊎◌.inr (◌⊎◌.inr o)) = by _ refl o.top

  pub same-cause : (st : State) (l : Ledger) (d : Plain) → Sim geo st l d → (c : Call) → cause geo (request_of c) st ≡ refusal geo c d
  same-cause st l d m c = cause-refusal geo st d m.basics.sizes m.basics.counts m.basics.mirrors c (λ e z. choice z m.phase) (same_fit st l d m)
    where
      choice : st.rec.mode ≡ closed → OpenSim geo st l d ⊎ (ClosedSim geo st l d ⊎ DownSim geo st l d) → choice_number (choose geo st.rec.blocks st.settled) ≡ 0
      choice z (◌⊎◌.inl o) = absurd (omega (arith, o.mode))
      choice z (◌⊎◌.inr (◌⊎◌.inl o)) = closed_choice (Firm geo d.loose) st.rec.blocks st.settled l.written d.S d.n d.F (small_N st d m.basics) o.card
      choice z (◌⊎◌.inr (◌⊎◌.inr o)) = absurd (omega (arith, o.mode))

  -- ---- a refused call changes nothing

  pub dispatch-refused : (c : Call) (st : State) → cause geo (request_of c) st ≢ 0 → dispatch geo c st ≡ refused (cause geo (request_of c) st) st
  dispatch-refused c st h = called-refused geo (request_of c) st h

-- no orders, no header
pub noted_none : (hs : List PlannedHeader) (l : Ledger) → noted hs 0 l ≡ l
unfolding noted
noted_none [] l = refl
noted_none (h ∷ hs) l = rw (le-leb 0 h.at (omega arith))

module _ (geo : Geometry) where
  pub entered-refused : (c : Call) (st : State) (l : Ledger) → cause geo (request_of c) st ≢ 0 → entered geo c st l ≡ l
  unfolding entered
  entered-refused (local c) st l h = refl
  entered-refused (direct a b) st l h = refl
  entered-refused (save c) st l h = ap (λ (o : Outcome). noted (headers_of geo c st) o.orders l) (dispatch-refused geo (save c) st h) ∙ noted_none (headers_of geo c st) l
  entered-refused (cut ms) st l h = rw (dispatch-refused geo (cut ms) st h, ne_eqb (cause geo (Request.cut ms) st) 0 h)

  pub plain_refused : (c : Call) (f : Fed) (d : Plain) → refusal geo c d ≢ 0 → plain_step geo c f d ≡ record { answer = refusal geo c d; orders = 0; plain = d }
  unfolding plain_step
  plain_refused c f d h = rw (ne_eqb (refusal geo c d) 0 h)

  pub refused-step : (c : Call) (w : World) → WorldSim geo w → refusal geo c w.plain ≢ 0 → StepOK geo c w
  refused-step c w m h =
      let st = w.store in
      let e : cause geo (request_of c) st ≡ refusal geo c w.plain = same-cause geo st w.ledger w.plain m c in
      let k : cause geo (request_of c) st ≢ 0 = λ z. h (sym e ∙ z) in
      let D = dispatch-refused geo c st k in
      let P = plain_refused c (fed geo c w) w.plain h in
      sim_step geo c w
      (record {
        answer = ap (λ (o : Outcome). o.answer) D ∙ e ∙ sym (ap (λ (o : Done). o.answer) P);
        orders = ap (λ (o : Outcome). o.orders) D ∙ sym (ap (λ (o : Done). o.orders) P);
        block = λ a q z. absurd (k (sym (ap (λ (o : Outcome). o.answer) D) ∙ z));
        sim = sim_at geo (ap (λ (o : Outcome). o.state) D) (entered-refused c st w.ledger k) (ap (λ (o : Done). o.plain) P) m;
      })

  -- a call that is not refused
  pub plain_served : (c : Call) (f : Fed) (d : Plain) → refusal geo c d ≡ 0 → plain_step geo c f d ≡ served geo c f d
  unfolding plain_step
  plain_served c f d h = rw (eq-eqb (refusal geo c d) 0 h)
