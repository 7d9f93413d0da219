-- The cut of any state whatever. The statements stand in specs/Cuts.antt.
use Prim.Native.Nat.{ℕ, ◌<◌}
use mathlib.Core.Path.{◌≡◌, refl, ap, sym, ◌∙◌}
use mathlib.Core.Logic.{◌≢◌, ◌⊎◌}
use mathlib.Core.Bool.{Bool, true, false, cond, not, ◌&&◌, ◌||◌, true≢false}
use mathlib.Core.List.{List, [], ◌∷◌}
use native.Mathlib.Omega.{arith}
use native.Mathlib.Decide.{ℕ_discrete}
use borrow.Author.Tests.{ne_eqb}
use lib.Dec.{eqb}
use lib.ListN.{length, get_or}
use Rattle.cells.specs.Upto.Laws.{length-up_to}
use Rattle.cells.specs.Entry.{block_bytes, Entry, entry_at}
use Rattle.cells.specs.Entry.Laws.{length_block}
use Rattle.card.specs.Card as Card
use Rattle.card.specs.Card.{Card, queue, block_at, blocks_in}
use Rattle.card.specs.Marks.{marks_fit, over_one, spread}
use Rattle.card.specs.Torn.{RightMarks, newest_byte, whole_cut}
use Rattle.card.proofs.All.{All, all-up_to}
use Rattle.card.proofs.Runs.{Whole, below_queue}
use Rattle.card.proofs.Spreads.{spread_fits}
use Rattle.card.proofs.ByMark.{fit_right, right_fit}
use Rattle.card.proofs.Mixtures.{marks_from, marks-from, marks_from_fit, places_of, places_bytes, places_header}
use Rattle.card.proofs.Cuts.{cut-flat, spread_cut}
use Rattle.journal.specs.Geometry.{Geometry}
use Rattle.store.specs.Request as Request
use Rattle.store.specs.State.{State, Outcome, with_queue, with_record, with_card, card_in}
use Rattle.store.specs.Causes.{wrong_sizes, wrong_record, of_record, cause_by, cause}
use Rattle.store.specs.Outcomes.{refused, completed, unless}
use Rattle.store.specs.Cut.{shut}
use Rattle.store.proofs.Causes.{any_waits, Checked, passes_sound}
use Rattle.history.specs.Call.{cut}
use Rattle.history.specs.Dispatch.{called, dispatch}
use Rattle.history.specs.Cuts.{whole_marks_row, whole_cut_call, first_rows, settled_behind, AllCuts, Mixture, WholeHeader, AllMixtures}
use Rattle.history.proofs.Relation.Forms.{called-refused, called_sized}
use Rattle.history.proofs.Steps.Cut.{cut-served}

module _ (geo : Geometry) where
  -- ---- the number

  -- rows 1 and 2 refuse; they do not, and the marks fit; or the marks do not fit
  early_cause : (st : State) (ms : List ℕ) → first_rows geo st ≢ 0 → cause geo (Request.cut ms) st ≡ first_rows geo st
  early_cause st ms h = go (cond (not (marks_fit ms (queue (card_in st)))) 10 0) (wrong_sizes geo st || false) (wrong_record geo st) h
    where
      go : (k : ℕ) (s r : Bool) → ◌≢◌ {A = ℕ} (cond s 1 (cond r 2 0)) 0 → ◌≡◌ {A = ℕ} (cond s 1 (cond r 2 k)) (cond s 1 (cond r 2 0))
      go k true r h = refl
      go k false true h = refl
      go k false false h = absurd (h refl)

  fit_cause : (st : State) (ms : List ℕ) → first_rows geo st ≡ 0 → marks_fit ms (queue (card_in st)) ≡ true → cause geo (Request.cut ms) st ≡ 0
  fit_cause st ms h f = rw f h

  unfit_cause : (st : State) (ms : List ℕ) → first_rows geo st ≡ 0 → marks_fit ms (queue (card_in st)) ≡ false → cause geo (Request.cut ms) st ≡ 10
  unfit_cause st ms h f = rw f (go (wrong_sizes geo st || false) (wrong_record geo st) h)
    where
      go : (s r : Bool) → ◌≡◌ {A = ℕ} (cond s 1 (cond r 2 0)) 0 → ◌≡◌ {A = ℕ} (cond s 1 (cond r 2 10)) 10
      go true r h = absurd (omega arith)
      go false true h = absurd (omega arith)
      go false false h = refl

  cause_fit : (st : State) (ms : List ℕ) → cause geo (Request.cut ms) st ≡ 0 → marks_fit ms (queue (card_in st)) ≡ true
  cause_fit st ms h = go (wrong_sizes geo st || false) (wrong_record geo st) (marks_fit ms (queue (card_in st))) h
    where
      go : (s r f : Bool) → ◌≡◌ {A = ℕ} (cond s 1 (cond r 2 (cond (not f) 10 0))) 0 → f ≡ true
      go true r f h = absurd (omega arith)
      go false true f h = absurd (omega arith)
      go false false false h = absurd (omega arith)
      go false false true h = refl

  -- an accepted cut has no cause
  accepted : (st : State) (ms : List ℕ) → (dispatch geo (cut ms) st).answer ≡ 0 → cause geo (Request.cut ms) st ≡ 0
  accepted st ms h = go (ℕ_discrete (cause geo (Request.cut ms) st) 0)
    where
      go : Dec (cause geo (Request.cut ms) st ≡ 0) → cause geo (Request.cut ms) st ≡ 0
      go (yes e) = e
      go (no e) = absurd (e (sym (ap (λ (o : Outcome). o.answer) (called-refused geo (Request.cut ms) st e)) ∙ h))

  early : (st : State) (ms : List ℕ) → first_rows geo st ≢ 0 → dispatch geo (cut ms) st ≡ refused (first_rows geo st) st
  early st ms h =
      let e : cause geo (Request.cut ms) st ≡ first_rows geo st = early_cause st ms h in
      called-refused geo (Request.cut ms) st (λ z. h (sym e ∙ z)) ∙ ap (λ (k : ℕ). refused k st) e

  row : (st : State) (ms : List ℕ) → first_rows geo st ≡ 0
      → (RightMarks ms (queue (card_in st)) × ((dispatch geo (cut ms) st).answer ≡ 0)) ⊎ ((RightMarks ms (queue (card_in st)) → ⊥) × (dispatch geo (cut ms) st ≡ refused 10 st))
  row st ms h = go (marks_fit ms (queue (card_in st))) refl
    where
      go : (t : Bool) → marks_fit ms (queue (card_in st)) ≡ t
          → (RightMarks ms (queue (card_in st)) × ((dispatch geo (cut ms) st).answer ≡ 0)) ⊎ ((RightMarks ms (queue (card_in st)) → ⊥) × (dispatch geo (cut ms) st ≡ refused 10 st))
      go true f = ◌⊎◌.inl (fit_right ms (queue (card_in st)) f, ap (λ (o : Outcome). o.answer) (cut-served geo ms st (fit_cause st ms h f)))
      go false f =
          let ten : cause geo (Request.cut ms) st ≡ 10 = unfit_cause st ms h f in
          ◌⊎◌.inr
          ((λ r. true≢false (sym (right_fit ms (queue (card_in st)) r) ∙ f)), called-refused geo (Request.cut ms) st (λ z. omega arith) ∙ ap (λ (k : ℕ). refused k st) ten)

  -- ---- what it leaves

  -- a state that passes checks 1 and 2: what waits is whole, and goes to blocks of the card
  module _ (st : State) (s : Checked geo st) where
    pub waits_whole : All Whole (queue (card_in st))
    unfolding queue
    waits_whole =
        all-up_to Whole (entry_at st.waiting) st.rec.waiting
        (λ i h. length_block st.waiting i (omega (arith, s.sizes.waiting, any_waits geo st s.counts)))

    waits_inside : All (λ e. e.address < blocks_in st.settled) (queue (card_in st))
    waits_inside = below_queue (blocks_in st.settled) (card_in st) (λ i h. omega (arith, s.waiting_below i h, s.counts.blocks))

  checked : (ms : List ℕ) (st : State) → cause geo (Request.cut ms) st ≡ 0 → Checked geo st
  checked ms st e = passes_sound geo (Request.cut ms) st 0 refl (sym e) refl

  bytes : (st : State) (ms : List ℕ) → (dispatch geo (cut ms) st).answer ≡ 0 → (a j : ℕ) → a < blocks_in st.settled → j < block_bytes
      → get_or (block_at (settled_behind geo ms st) a) j 0 ≡ newest_byte ms 0 a j (queue (card_in st)) (get_or (block_at st.settled a) j 0)
  bytes st ms h a j l b =
      let e : cause geo (Request.cut ms) st ≡ 0 = accepted st ms h in
      ap (λ (o : Outcome). get_or (block_at o.state.settled a) j 0) (cut-served geo ms st e)
      ∙ cut-flat ms (card_in st) a j l b (waits_whole st (checked ms st e))

  rest : (st : State) (ms : List ℕ) → (dispatch geo (cut ms) st).answer ≡ 0
      → dispatch geo (cut ms) st ≡ completed (record { rec = with_queue 0 st.rec.power (shut st.rec); settled = settled_behind geo ms st; waiting = st.waiting; work = st.work })
  unfolding Card.cut
  rest st ms h =
      let served = cut-served geo ms st (accepted st ms h) in
      served
      ∙ ap (λ (s : List ℕ). completed (record { rec = with_queue 0 st.rec.power (shut st.rec); settled = s; waiting = st.waiting; work = st.work }))
      (sym (ap (λ (o : Outcome). o.state.settled) served))

  size : (st : State) (ms : List ℕ) → length (settled_behind geo ms st) ≡ length st.settled
  size st ms = (called_sized geo (Request.cut ms) st).settled

  -- ---- equal marks

  same_row : (st : State) (ms : List ℕ) → cause geo (Request.cut (spread ms)) st ≡ cause_by geo (of_record false (whole_marks_row ms ∷ [])) st
  unfolding queue
  same_row st ms =
      let e : marks_fit (spread ms) (queue (card_in st)) ≡ eqb (length ms) st.rec.waiting && not (over_one ms) =
      spread_fits ms (queue (card_in st)) ∙ ap (λ (k : ℕ). eqb (length ms) k && not (over_one ms)) (length-up_to (entry_at st.waiting) st.rec.waiting) in
      rw e

  whole : (st : State) (ms : List ℕ) → dispatch geo (cut (spread ms)) st ≡ whole_cut_call geo ms st
  unfolding called whole_cut_call
  whole st ms = rw (← same_row st ms) (go (ℕ_discrete (cause geo (Request.cut (spread ms)) st) 0))
    where
      after : Card → Outcome
      after c = completed (with_card c (with_record (shut st.rec) st))

      go : Dec (cause geo (Request.cut (spread ms)) st ≡ 0)
          → unless (cause geo (Request.cut (spread ms)) st) st (after (Card.cut (spread ms) (card_in st))) ≡ unless (cause geo (Request.cut (spread ms)) st) st (after (whole_cut ms (card_in st)))
      go (yes e) =
          let s = checked (spread ms) st e in
          ap (λ (c : Card). unless (cause geo (Request.cut (spread ms)) st) st (after c)) (spread_cut ms (card_in st) (waits_whole st s) (waits_inside st s))
      go (no e) = rw (ne_eqb (cause geo (Request.cut (spread ms)) st) 0 e)

  pub all_cuts : AllCuts geo
  all_cuts st ms = record { early = early st ms; row = row st ms; bytes = bytes st ms; rest = rest st ms; size = size st ms; whole = whole st ms }

  -- ---- mixtures

  only : (st : State) (ms : List ℕ) → (dispatch geo (cut ms) st).answer ≡ 0 → (from : ℕ → ℕ → ℕ) × WholeHeader from × Mixture from st (settled_behind geo ms st)
  only st ms h =
      let right : RightMarks ms q = fit_right ms q (cause_fit st ms (accepted st ms h)) in
      (places_of ms q, (λ j b. places_header ms q j right b), λ a j l b. bytes st ms h a j l b ∙ places_bytes ms q a j (get_or (block_at st.settled a) j 0))
    where
      q : List Entry
      q = queue (card_in st)

  every : (st : State) → first_rows geo st ≡ 0 → (from : ℕ → ℕ → ℕ) → WholeHeader from → (ms : List ℕ) × ((dispatch geo (cut ms) st).answer ≡ 0) × Mixture from st (settled_behind geo ms st)
  every st h from header =
      let fits : cause geo (Request.cut ms) st ≡ 0 = fit_cause st ms h (marks_from_fit from header (queue (card_in st))) in
      let served : (dispatch geo (cut ms) st).answer ≡ 0 = ap (λ (o : Outcome). o.answer) (cut-served geo ms st fits) in
      (ms, served, λ a j l b. bytes st ms served a j l b ∙ marks-from from (queue (card_in st)) a j (get_or (block_at st.settled a) j 0) b)
    where
      ms : List ℕ
      ms = marks_from from (queue (card_in st))

  pub all_mixtures : AllMixtures geo
  all_mixtures st = record { only = only st; every = every st }
