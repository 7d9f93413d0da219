-- Format: which cards it turns down. The statements stand in specs/Formats.antt.
use Prim.Native.Nat.{ℕ, ◌*◌, ◌%◌, ◌≤◌, ◌<◌}
use mathlib.Core.Path.{◌≡◌, refl, ap, sym, ◌∙◌}
use mathlib.Core.Logic.{◌≢◌, ◌⊎◌}
use mathlib.Core.Bool.{Bool, true, false, cond, true≢false}
use mathlib.Core.List.{List}
use native.Mathlib.Omega.{arith}
use native.Mathlib.Decide.{ℕ_discrete}
use borrow.Author.Tests.{eq-eqb, ne_eqb, le-ltb}
use lib.Dec.{eqb, leb}
use lib.ListN.{length, replicate, length-replicate}
use Rattle.cells.specs.Cell.Laws.{cell-zeros}
use Rattle.cells.specs.Little.Laws.{num_nil, num_cons}
use Rattle.cells.specs.Entry.{block_bytes}
use Rattle.card.specs.Card.{block_at, blocks_in}
use Rattle.journal.specs.Geometry.{Geometry, most_blocks}
use Rattle.journal.specs.Layout.{header_at, least_blocks, wrong_size}
use Rattle.journal.specs.Header.{format_number}
use Rattle.journal.specs.Log.{header_of}
use Rattle.journal.specs.Choice.{foreign, choose, choice_number, in_use}
use Rattle.journal.specs.Ours.{number_at, OurHeader}
use Rattle.journal.proofs.Choices.{known_chosen, choose-foreign}
use Rattle.journal.proofs.OurHeaders.{known_bytes, bytes_known, used_bytes, bytes_used}
use Rattle.store.specs.declared.record.Record.{Record}
use Rattle.store.specs.Request as Request
use Rattle.store.specs.State.{State, Outcome, closed, with_record, with_mode}
use Rattle.store.specs.CodeState.{state_of, fresh}
use Rattle.store.specs.Causes.{wrong_sizes, wrong_record, cause}
use Rattle.store.specs.Outcomes.{refused, completed}
use Rattle.store.specs.Format.{formatted, format_call}
use Rattle.inspect.specs.Reading.{inspection}
use Rattle.history.specs.Dispatch.{called}
use Rattle.history.specs.Cuts.{first_rows}
use Rattle.history.specs.Refusals.{orders_of, Answers}
use Rattle.history.specs.Formats.{header_block, count_in, Exactly, Known, Used, TurnedDownIf, Formats, AtCounter}
use Rattle.history.proofs.Relation.CauseLaws.{record_facts, facts_record, cause_passes}
use Rattle.history.proofs.Relation.Forms.{called-refused, unless_either}
use Rattle.history.proofs.Boundary.Refusals as RefusalsProof

-- ---- exactly if

pub by_yes : {P A B : Type 0} → Exactly P A B → P → A
by_yes (◌⊎◌.inl (p, a)) q = a
by_yes (◌⊎◌.inr (n, b)) q = absurd (n q)

pub by_no : {P A B : Type 0} → Exactly P A B → (P → ⊥) → B
by_no (◌⊎◌.inl (p, a)) n = absurd (n p)
by_no (◌⊎◌.inr (m, b)) n = b

module _ (geo : Geometry) where
  -- ---- any state

  early : (st : State) → wrong_sizes geo st ≡ true → called geo Request.format st ≡ refused 1 st
  early st h =
      let one : cause geo Request.format st ≡ 1 = rw h in
      called-refused geo Request.format st (λ z. omega arith) ∙ ap (λ (k : ℕ). refused k st) one

  turned_down : (st : State) → wrong_sizes geo st ≡ false → in_use geo (blocks_in st.settled) st.settled ≡ true → called geo Request.format st ≡ refused 13 st
  turned_down st h u =
      let thirteen : cause geo Request.format st ≡ 13 = rw (h, u) in
      called-refused geo Request.format st (λ z. omega arith) ∙ ap (λ (k : ℕ). refused k st) thirteen

  made_anew : (st : State) → wrong_sizes geo st ≡ false → in_use geo (blocks_in st.settled) st.settled ≡ false → called geo Request.format st ≡ completed (formatted st)
  unfolding called
  made_anew st h u = rw (h, u)

  pub row : (st : State) → wrong_sizes geo st ≡ false → TurnedDownIf geo (Used geo st.settled) st
  row st h = go (in_use geo (blocks_in st.settled) st.settled) refl
    where
      go : (t : Bool) → in_use geo (blocks_in st.settled) st.settled ≡ t → TurnedDownIf geo (Used geo st.settled) st
      go true u = ◌⊎◌.inl (used_bytes geo (blocks_in st.settled) st.settled u, turned_down st h u)
      go false u = ◌⊎◌.inr ((λ c. true≢false (sym (bytes_used geo (blocks_in st.settled) st.settled c) ∙ u)), made_anew st h u)

  format_answer : (st : State) → (called geo Request.format st).answer ≡ cause geo Request.format st
  unfolding called
  format_answer st = unless_either (λ (o : Outcome). o.answer ≡ cause geo Request.format st) (cause geo Request.format st) st (completed (formatted st)) (λ e. sym e) refl

  blind : (st : State) (r : Record) → (called geo Request.format (with_record r st)).answer ≡ (called geo Request.format st).answer
  unfolding wrong_sizes
  blind st r = format_answer (with_record r st) ∙ sym (format_answer st)

  blank : (st : State) (r : Record) → (called geo Request.format st).answer ≡ 0 → called geo Request.format (with_record r st) ≡ called geo Request.format st
  unfolding called formatted wrong_sizes
  blank st r h = let none : cause geo Request.format st ≡ 0 = sym (format_answer st) ∙ h in rw (eq-eqb (cause geo Request.format st) 0 none)

  -- ---- who calls a card foreign

  pub choice : (N : ℕ) (s : List ℕ) → Exactly (OurHeader geo N (block_at s header_at)) (choice_number (choose geo N s) ≢ 8) (choice_number (choose geo N s) ≡ 8)
  choice N s = go (foreign geo N (header_of s)) refl
    where
      go : (t : Bool) → foreign geo N (header_of s) ≡ t → Exactly (OurHeader geo N (block_at s header_at)) (choice_number (choose geo N s) ≢ 8) (choice_number (choose geo N s) ≡ 8)
      go true f = ◌⊎◌.inr ((λ o. true≢false (sym f ∙ bytes_known geo N s o)), ap choice_number (choose-foreign geo N s (header_of s) refl f))
      go false f = ◌⊎◌.inl (known_bytes geo N s f, known_chosen geo N s f)

  inspects : (s : List ℕ) → wrong_size geo s ≡ false → Exactly (Known geo s) (inspection geo s ≢ 8) (inspection geo s ≡ 8)
  unfolding inspection
  inspects s h = rw h (choice (blocks_in s) s)

  -- a recover that no cause of 8 refuses does not answer 8
  not_eight : (st : State) → cause geo Request.recover st ≢ 8 → (called geo Request.recover st).answer ≢ 8
  not_eight st h z = go (ℕ_discrete (cause geo Request.recover st) 0) (leb (length (orders_of geo Request.recover st)) st.rec.power) refl
    where
      a : Answers geo Request.recover st
      a = RefusalsProof.calls geo Request.recover st

      go : Dec (cause geo Request.recover st ≡ 0) → (t : Bool) → leb (length (orders_of geo Request.recover st)) st.rec.power ≡ t → ⊥
      go (no e) t p = h (sym (ap (λ (o : Outcome). o.answer) (called-refused geo Request.recover st e)) ∙ z)
      go (yes e) true p = let none : (called geo Request.recover st).answer ≡ 0 = (a.serves e p).0 in omega arith
      go (yes e) false p = let gone : (called geo Request.recover st).answer ≡ 4 = (a.gone e p).answer in omega arith

  -- behind rows 1, 2, 4 and 5 a recover is refused by the choice
  closed-cause : (st : State) → st.rec.mode ≡ closed → first_rows geo st ≡ 0
      → let k = choice_number (choose geo (blocks_in st.settled) st.settled) in cause geo Request.recover st ≡ cond (eqb k 8) 8 (cond (eqb k 9) 9 0)
  closed-cause st m h =
      let p = cause_passes geo (Request.power 0) st h in
      let blocks : st.rec.blocks ≡ blocks_in st.settled = (record_facts geo st p.counts).blocks in
      rw (p.sizes, p.counts, m, blocks)

  recovers : (st : State) → st.rec.mode ≡ closed → first_rows geo st ≡ 0
      → Exactly (Known geo st.settled) ((called geo Request.recover st).answer ≢ 8) (called geo Request.recover st ≡ refused 8 st)
  recovers st m h = go (choice (blocks_in st.settled) st.settled)
    where
      k : ℕ
      k = choice_number (choose geo (blocks_in st.settled) st.settled)

      by : cause geo Request.recover st ≡ cond (eqb k 8) 8 (cond (eqb k 9) 9 0)
      by = closed-cause st m h

      other : (t : Bool) → ◌≢◌ {A = ℕ} (cond t 9 0) 8
      other true z = omega arith
      other false z = omega arith

      go : Exactly (Known geo st.settled) (k ≢ 8) (k ≡ 8) → Exactly (Known geo st.settled) ((called geo Request.recover st).answer ≢ 8) (called geo Request.recover st ≡ refused 8 st)
      go (◌⊎◌.inl (o, n)) =
          let e : cause geo Request.recover st ≡ cond (eqb k 9) 9 0 = by ∙ ap (λ (t : Bool). cond t 8 (cond (eqb k 9) 9 0)) (ne_eqb k 8 n) in
          ◌⊎◌.inl (o, not_eight st (λ z. other (eqb k 9) (sym e ∙ z)))
      go (◌⊎◌.inr (o, n)) =
          let e : cause geo Request.recover st ≡ 8 = by ∙ ap (λ (t : Bool). cond t 8 (cond (eqb k 9) 9 0)) (eq-eqb k 8 n) in
          ◌⊎◌.inr (o, called-refused geo Request.recover st (λ z. omega arith) ∙ ap (λ (x : ℕ). refused x st) e)

  sized_alike : (st : State) (r : Record) → wrong_sizes geo st ≡ false → wrong_sizes geo (with_record r st) ≡ false
  unfolding wrong_sizes
  sized_alike st r h = h

  boots : (st : State) → wrong_sizes geo st ≡ false → (r : Record) × (r.mode ≡ closed) × (first_rows geo (with_record r st) ≡ 0)
  boots st h =
      let r = with_mode closed (fresh (blocks_in st.settled)) in
      let sizes : wrong_sizes geo (with_record r st) ≡ false = sized_alike st r h in
      let counts : wrong_record geo (with_record r st) ≡ false =
      facts_record geo (with_record r st)
      (record {
        mode = omega arith;
        open_count = omega arith;
        group_count = omega arith;
        log_count = omega arith;
        waiting_count = omega arith;
        blocks = refl;
        waiting_below = λ i z. absurd (omega arith);
        lists = λ z. absurd (omega arith);
      }) in
      (r, refl, rw (sizes, counts))

  -- by what recover answers: what it calls foreign is not known, and what is known it does not
  turns : (st : State) (r : Record) → r.mode ≡ closed → first_rows geo (with_record r st) ≡ 0
      → TurnedDownIf geo (((called geo Request.recover (with_record r st)).answer ≢ 8) × (0 < count_in st.settled)) st
  turns st r m z = go (row st sizes)
    where
      sizes : wrong_sizes geo st ≡ false
      sizes = sized_alike (with_record r st) st.rec (cause_passes geo (Request.power 0) (with_record r st) z).sizes

      heard : Exactly (Known geo st.settled) ((called geo Request.recover (with_record r st)).answer ≢ 8) (called geo Request.recover (with_record r st) ≡ refused 8 (with_record r st))
      heard = recovers (with_record r st) m z

      go : TurnedDownIf geo (Used geo st.settled) st
          → TurnedDownIf geo (((called geo Request.recover (with_record r st)).answer ≢ 8) × (0 < count_in st.settled)) st
      go (◌⊎◌.inl (u, e)) = ◌⊎◌.inl ((by_yes heard u.ours, u.above), e)
      go (◌⊎◌.inr (n, e)) =
          ◌⊎◌.inr (
            (λ p.
                let foreign-now = by_no heard (λ k. n (record { ours = k; above = p.1 })) in
                p.0 (ap (λ (o : Outcome). o.answer) foreign-now)),
            e,
          )

  pub any : (st : State) → Formats geo st
  any st = record {
    early = early st;
    row = row st;
    blind = blind st;
    blank = blank st;
    recovers = λ r m h. recovers (with_record r st) m h;
    turns = turns st;
    boots = boots st;
    inspects = inspects st.settled;
  }

  -- ---- a card of another format number, and the card of zeros

  pub other_served : (st : State) → wrong_sizes geo st ≡ false → number_at 0 4 (header_block st.settled) ≢ format_number → (format_call geo st).answer ≡ 0
  unfolding format_call called
  other_served st h n = ap (λ (o : Outcome). o.answer) (by_no (row st h) (λ u. n u.ours.format))

  -- zeros over block 0
  pub blank_other : (s : List ℕ) → header_block s ≡ replicate block_bytes 0 → number_at 0 4 (header_block s) ≢ format_number
  blank_other s z e =
      let none : number_at 0 4 (replicate block_bytes 0) ≡ 0 = simp (num_cons, num_nil) in
      let naught : number_at 0 4 (header_block s) ≡ 0 = ap (number_at 0 4) z ∙ none in
      omega arith

  pub given_up : (s : List ℕ) → wrong_size geo s ≡ false → header_block s ≡ replicate block_bytes 0 → AtCounter geo s (λ st. (format_call geo st).answer ≡ 0)
  unfolding wrong_sizes
  given_up s h z r w k a b = other_served (state_of r s w k) (rw (h, eq-eqb _ _ a, eq-eqb _ _ b)) (blank_other s z)

  pub zeros-blank : (N : ℕ) → 0 < N → header_block (replicate (block_bytes * N) 0) ≡ replicate block_bytes 0
  zeros-blank N h = cell-zeros block_bytes (block_bytes * N) header_at (omega arith)

  zeros_size : (N : ℕ) → least_blocks geo ≤ N → N ≤ most_blocks → wrong_size geo (replicate (block_bytes * N) 0) ≡ false
  unfolding wrong_size
  zeros_size N least most =
      let size : length (replicate {A = ℕ} (block_bytes * N) 0) ≡ block_bytes * N = length-replicate (block_bytes * N) 0 in
      let whole : length (replicate {A = ℕ} (block_bytes * N) 0) % block_bytes ≡ 0 = omega arith in
      let N-is : blocks_in (replicate (block_bytes * N) 0) ≡ N = omega arith in
      rw (eq-eqb _ _ whole, N-is, le-ltb _ _ least, le-ltb _ _ most)

  pub zeros-served : (N : ℕ) → least_blocks geo ≤ N → N ≤ most_blocks → AtCounter geo (replicate (block_bytes * N) 0) (λ st. (format_call geo st).answer ≡ 0)
  zeros-served N least most = given_up (replicate (block_bytes * N) 0) (zeros_size N least most) (zeros-blank N (omega arith))
