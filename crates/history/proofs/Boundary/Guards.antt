-- The cards that lists of calls leave, before a format. The statements stand in specs/Formats.antt.
use Prim.Native.Nat.{ℕ, suc, ◌+◌, ◌^◌, ◌<◌}
use mathlib.Core.Path.{◌≡◌, refl, ap, sym, subst, ◌∙◌}
use mathlib.Core.Logic.{◌≢◌, ◌⊎◌}
use mathlib.Core.Bool.{Bool, true, false, cond, true≢false}
use mathlib.Core.List.{List, [], ◌∷◌}
use native.Mathlib.Omega.{arith}
use native.Mathlib.Decide.{ℕ_discrete}
use borrow.Author.Tests.{eq-eqb}
use lib.Dec.{leb}
use lib.ListN.{length, replicate, take, length-replicate, get_or-replicate}
use lib.Seq.{take_all}
use Rattle.cells.specs.Entry.{Entry}
use Rattle.fnv.specs.Fnv.{start}
use Rattle.crash.specs.Laid.{Laid}
use Rattle.card.specs.Disk.{Disk}
use Rattle.card.specs.Card as Card
use Rattle.card.specs.Card.{Order, queue, block_at}
use Rattle.card.specs.Marks.{kept_at, marks_fit, marks_of}
use Rattle.card.proofs.Spreads.{marks_of_fit, marks_of-kept}
use Rattle.card.proofs.Leaves.{AllLost, cut_leaves, lost-header}
use Rattle.journal.specs.Geometry.{Geometry}
use Rattle.journal.specs.Layout.{header_at}
use Rattle.journal.specs.Header.{decode}
use Rattle.journal.specs.Log.{header_of, sum_of}
use Rattle.journal.specs.Ours.{OurHeader}
use Rattle.journal.specs.declared.header.Header.{Header}
use Rattle.journal.specs.Choice.{foreign}
use Rattle.journal.proofs.OurHeaders.{known_bytes}
use Rattle.crash.proofs.Cards.{HasHeader, FallCard, ClosedCard}
use Rattle.crash.proofs.Frames.{Besides}
use Rattle.crash.proofs.Leads.{read_head}
use Rattle.crash.proofs.Logs.{log_d}
use Rattle.store.specs.declared.record.Record.{Record}
use Rattle.store.specs.Save as Save
use Rattle.store.specs.Request as Request
use Rattle.store.specs.State.{State, Outcome, open_mode, down, with_mode, card_in}
use Rattle.store.specs.CodeState.{state_of}
use Rattle.store.specs.Causes.{wrong_sizes, cause}
use Rattle.store.specs.Outcomes.{refused, completed}
use Rattle.store.specs.Format.{formatted, format_call}
use Rattle.store.specs.Saves.{carried, save_orders, met_by_append, syncing}
use Rattle.store.proofs.Causes.{sizes_facts, sound}
use Rattle.history.specs.Call.{sync}
use Rattle.history.specs.Plain.{Plain}
use Rattle.history.specs.Dispatch.{called, dispatch}
use Rattle.history.specs.Ledger.{Ledger}
use Rattle.history.specs.History.{World, begun}
use Rattle.history.specs.Statements.{finished}
use Rattle.history.specs.Formats.{header_block, count_in, Known, AtCounter, Begins, Guards, GuardsPlain}
use Rattle.history.proofs.Relation.CauseLaws.{facts_sizes, record_facts}
use Rattle.history.proofs.Relation.Forms.{called-refused}
use Rattle.history.proofs.Relation.Sim.{Firm, OpenSim, ClosedSim, cut_loose, DownSim, Sim, Safe}
use Rattle.history.proofs.Relation.OpenFacts as Facts
use Rattle.history.proofs.Steps.Shown.{small_N, ours, WorldSim}
use Rattle.history.proofs.Steps.Cut.{any_cut_leads}
use Rattle.history.proofs.Steps.ListInduction.{next_safe, formatted-now, begun_safe}
use Rattle.history.proofs.Atomicity.Finished.{finished_opens}
use Rattle.history.proofs.Boundary.Cuts.{waits_whole}
use Rattle.history.proofs.Boundary.Formats.{by_yes, by_no, row, given_up, zeros-served}

-- marks that lose every write
abbrev lost : List Entry → List ℕ
lost q = marks_of (replicate (length q) false)

all-lost : (keeps : ℕ → Bool) (a : ℕ) (q : List Entry) → ((i : ℕ) → i < length q → keeps i ≡ false) → AllLost keeps a q
all-lost keeps a [] h = tt
all-lost keeps a (e ∷ q) h = ((λ z. h 0 (omega arith)), all-lost (λ i. keeps (suc i)) a q (λ i l. h (suc i) (omega arith)))

-- the card as such a cut leaves it
abbrev lost_settled : State → List ℕ
lost_settled st = (Card.cut (lost (queue (card_in st))) (card_in st)).settled

lost_fits : (q : List Entry) → marks_fit (lost q) q ≡ true
lost_fits q = marks_of_fit (replicate (length q) false) q (length-replicate (length q) false)

lost-kept : (q : List Entry) (i : ℕ) → i < length q → kept_at (lost q) i ≡ false
lost-kept q i h = marks_of-kept (replicate (length q) false) i (rw (length-replicate) h) ∙ get_or-replicate (length q) i false false h

-- the record of a call whose orders were all carried out
carried-log : (os : List Order) (done gone : Record) (st : State) → (carried os done gone st).answer ≡ 0 → (carried os done gone st).state.rec.logged ≡ done.logged
unfolding carried
carried-log os done gone st = go (leb (length os) st.rec.power)
  where
    go : (t : Bool) → ◌≡◌ {A = ℕ} (cond t 0 4) 0 → (cond t done (with_mode down gone)).logged ≡ done.logged
    go true h = refl
    go false h = absurd (omega arith)

module _ (geo : Geometry) where
  -- ---- block 0 holds a header of ours, whatever waits

  record Headed (st : State) : Type 0 where
    p : ℕ
    ps : ℕ
    c : ℕ
    ns : ℕ
    k : ℕ
    head : HasHeader geo (block_at st.settled) st.rec.blocks p ps c ns k

  moved : {d e : Disk} {N p ps c ns k : ℕ} → e header_at ≡ d header_at → HasHeader geo d N p ps c ns k → HasHeader geo e N p ps c ns k
  moved h r = record { reads = ap decode h ∙ r.reads; ordered = r.ordered; most = r.most; presum = r.presum; sum = r.sum; save = r.save; numbered = r.numbered }

  -- a cut that loses all that waits leaves block 0
  stays : (st : State) (l : Ledger) (d : Plain) → Sim geo st l d → block_at (lost_settled st) header_at ≡ block_at st.settled header_at
  stays st l d m =
      let s = sound geo st m.basics.sizes m.basics.counts in
      lost-header
      (cut_leaves (lost (queue (card_in st))) (card_in st) (omega (arith, s.sizes.least)) (lost_fits (queue (card_in st))) (waits_whole geo st s))
      (all-lost (kept_at (lost (queue (card_in st)))) header_at (queue (card_in st)) (lost-kept (queue (card_in st))))

  -- and what it leaves has such a header
  headed : (st : State) (l : Ledger) (d : Plain) → Sim geo st l d → Headed st
  headed st l d m =
      let safe = (any_cut_leads geo (lost (queue (card_in st))) st l d m (lost_fits (queue (card_in st)))).0.safe in
      go safe.F safe.w safe.S safe.n safe.card
    where
      go : (F : Bool) (w : List Entry) (S : Laid) (n : ℕ) → ClosedCard geo (Firm geo (cut_loose d)) st.rec.blocks (block_at (lost_settled st)) w S n F → Headed st
      go false w S n r = record { p = r.p; ps = r.ps; c = n; ns = sum_of start (log_d geo (block_at (lost_settled st)) n); k = S.groups; head = moved (sym (stays st l d m)) r.head }
      go true w S n r = record { p = n; ps = sum_of start (log_d geo (block_at (lost_settled st)) n); c = r.c; ns = r.ns; k = S.groups + 1; head = moved (sym (stays st l d m)) r.head }

  -- its count is read as it was written
  count_read : (N : ℕ) (s : List ℕ) (p ps c ns k : ℕ) → N < 2 ^ 32 → HasHeader geo (block_at s) N p ps c ns k → count_in s ≡ c
  unfolding decode
  count_read N s p ps c ns k l h = ap (λ (x : Header). x.count) (read_head geo s N p ps c ns k l h)

  known : (st : State) (l : Ledger) (d : Plain) → Sim geo st l d → Known geo st.settled
  known st l d m =
      let x = headed st l d m in
      let read = read_head geo st.settled st.rec.blocks x.p x.ps x.c x.ns x.k (small_N geo st d m.basics) x.head in
      let f : foreign geo st.rec.blocks (header_of st.settled) ≡ false =
      ap (foreign geo st.rec.blocks) read ∙ ours geo st.rec.blocks x.p x.ps x.c x.ns x.k x.head.ordered x.head.most x.head.numbered in
      subst (λ (N : ℕ). OurHeader geo N (header_block st.settled)) (record_facts geo st m.basics.counts).blocks (known_bytes geo st.rec.blocks st.settled f)

  -- ---- at the counter

  module _ (st : State) (l : Ledger) (d : Plain) (m : Sim geo st l d) where
    sized : AtCounter geo st.settled (λ t. wrong_sizes geo t ≡ false)
    sized r w k a b =
        let f = sizes_facts geo st m.basics.sizes in
        facts_sizes geo (state_of r st.settled w k) (record { settled = f.settled; least = f.least; most = f.most; waiting = a; work = b })

    turned : 0 < count_in st.settled → AtCounter geo st.settled (λ t. format_call geo t ≡ refused 13 t)
    unfolding format_call called
    turned h r w k a b = by_yes (row geo (state_of r st.settled w k) (sized r w k a b)) (record { ours = known st l d m; above = h })

    served : count_in st.settled ≡ 0 → AtCounter geo st.settled (λ t. format_call geo t ≡ completed (formatted t))
    unfolding format_call called
    served h r w k a b = by_no (row geo (state_of r st.settled w k) (sized r w k a b)) (λ u. omega (arith, u.above))

    open_count : st.rec.mode ≡ open_mode → count_in st.settled ≡ st.rec.logged
    open_count o = go m.phase
      where
        go : OpenSim geo st l d ⊎ (ClosedSim geo st l d ⊎ DownSim geo st l d) → count_in st.settled ≡ st.rec.logged
        go (◌⊎◌.inl x) = count_read st.rec.blocks st.settled _ _ _ _ _ (small_N geo st d m.basics) (Facts.behind geo st l d m.basics x).card.head
        go (◌⊎◌.inr (◌⊎◌.inl x)) = absurd (omega (arith, x.mode))
        go (◌⊎◌.inr (◌⊎◌.inr x)) = absurd (omega (arith, x.mode))

  -- ---- behind a save

  -- a finished sync leaves its group in the log
  sync_logs : (st : State) → st.rec.grouped ≢ 0 → (dispatch geo sync st).answer ≡ 0 → 0 < (dispatch geo sync st).state.rec.logged
  unfolding called
  sync_logs st z h = go (ℕ_discrete (cause geo Request.sync st) 0)
    where
      go : Dec (cause geo Request.sync st ≡ 0) → 0 < (dispatch geo sync st).state.rec.logged
      go (no e) = absurd (e (sym (ap (λ (o : Outcome). o.answer) (called-refused geo Request.sync st e)) ∙ h))
      go (yes e) =
          let served : dispatch geo sync st ≡ syncing geo st = rw (eq-eqb _ 0 e) in
          let logs : (syncing geo st).state.rec.logged ≡ (met_by_append geo st).logged + st.rec.grouped =
          carried-log (save_orders geo Save.sync st) _ _ st (sym (ap (λ (o : Outcome). o.answer) served) ∙ h) in
          rw (served, logs) (omega arith)

  module _ (st : State) (l : Ledger) (s : Safe geo st l) where
    world : World
    world = record { store = st; ledger = s.ledger; plain = s.plain; excepted = false }

    saved : st.rec.grouped ≢ 0 → (dispatch geo sync st).answer ≡ 0 → AtCounter geo (dispatch geo sync st).state.settled (λ t. format_call geo t ≡ refused 13 t)
    unfolding world finished called
    saved z h =
        let t = next_safe geo sync st l s in
        let o : (dispatch geo sync st).state.rec.mode ≡ open_mode = finished_opens geo sync world s.sim (eq-eqb _ 0 h) in
        turned (dispatch geo sync st).state t.ledger t.plain t.sim
        (subst (λ (k : ℕ). 0 < k) (sym (open_count (dispatch geo sync st).state t.ledger t.plain t.sim o)) (sync_logs st z h))

  pub guards : (w : World) → Safe geo w.store w.ledger → Guards geo w
  guards w s =
      let m = s.sim in
      record {
        known = known w.store s.ledger s.plain m;
        turned = turned w.store s.ledger s.plain m;
        served = served w.store s.ledger s.plain m;
        open_count = open_count w.store s.ledger s.plain m;
        saved = saved w.store w.ledger s;
      }

  -- ---- by the plain disk

  -- a card that needs a fallback counts more entries than are taken then: with as many they would be those written
  falls_above : {X : ℕ → Type 0} {N : ℕ} {d : Disk} {w : List Entry} {S : Laid} {n : ℕ} (r : FallCard geo X N d w S n) → n < r.c
  falls_above {d = d} {w = w} {n = n} r = go (ℕ_discrete r.c n)
    where
      go : Dec (r.c ≡ n) → n < r.c
      go (yes z) =
          let all : take n w ≡ w = take_all n w (omega (arith, r.size)) in
          absurd (r.other (sym all ∙ r.front ∙ sym (ap (log_d geo d) z)))
      go (no z) = omega (arith, r.head.ordered)

  pub guards_plain : (w : World) → WorldSim geo w → w.store.rec.mode ≢ down → GuardsPlain geo w
  guards_plain w m c = go m.phase
    where
      N : ℕ
      N = w.store.rec.blocks

      small : N < 2 ^ 32
      small = small_N geo w.store w.plain m.basics

      by : (X : ℕ → Type 0) (F : Bool) → w.plain.F ≡ F → ClosedCard geo X N (block_at w.store.settled) w.ledger.written w.plain.S w.plain.n F → GuardsPlain geo w
      by X false f r = record { whole = λ e. count_read N w.store.settled _ _ _ _ _ small r.head; fallback = λ e. absurd (true≢false (sym e ∙ f)) }
      by X true f r = record {
        whole = λ e. absurd (true≢false (sym f ∙ e));
        fallback = λ e. subst (λ (k : ℕ). w.plain.n < k) (sym (count_read N w.store.settled _ _ _ _ _ small r.head)) (falls_above r);
      }

      go : OpenSim geo w.store w.ledger w.plain ⊎ (ClosedSim geo w.store w.ledger w.plain ⊎ DownSim geo w.store w.ledger w.plain) → GuardsPlain geo w
      go (◌⊎◌.inl x) = by (Besides (queue (card_in w.store))) false x.F (rw x.n (Facts.behind geo w.store w.ledger w.plain m.basics x).card)
      go (◌⊎◌.inr (◌⊎◌.inl x)) = by (Firm geo w.plain.loose) w.plain.F refl x.card
      go (◌⊎◌.inr (◌⊎◌.inr x)) = absurd (c x.mode)

  -- ---- a format that is served

  -- what format left has an empty log
  again : (st : State) → (format_call geo st).answer ≡ 0 → AtCounter geo (format_call geo st).state.settled (λ t. (format_call geo t).answer ≡ 0)
  unfolding begun formatted
  again st h r w k a b =
      let s = begun_safe geo st h in
      let now : (format_call geo st).state ≡ formatted st = formatted-now geo st h in
      let none : count_in (format_call geo st).state.settled ≡ 0 =
      open_count (format_call geo st).state s.ledger s.plain s.sim (ap (λ (t : State). t.rec.mode) now) ∙ ap (λ (t : State). t.rec.logged) now in
      ap (λ (o : Outcome). o.answer) (served (format_call geo st).state s.ledger s.plain s.sim none r w k a b)

  pub begins : Begins geo
  begins = record { zeros = zeros-served geo; given_up = given_up geo; again = again }
