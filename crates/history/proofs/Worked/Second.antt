-- The second save of the worked scripts, from what the first one leaves to the recovery, for each of the cuts.
use Rattle.std.specs.Prelude.{Option, Some, None}
use Prim.Native.Nat.{ℕ, ◌+◌}
use mathlib.Core.Path.{◌≡◌, refl, ap, ap₂, sym, ◌∙◌}
use mathlib.Core.Bool.{Bool, true, false, cond, not, ◌&&◌}
use mathlib.Core.List.{List, [], ◌∷◌, ◌++◌}
use native.Mathlib.Omega.{arith}
use lib.Dec.{eqb}
use lib.ListN.{length, get_or, replicate, length-replicate}
use Rattle.cells.specs.Cell.{cell}
use Rattle.cells.specs.Little.{num}
use Rattle.cells.specs.Entry.{block_bytes, Entry}
use Rattle.crash.specs.Laid.{Laid, lay_over}
use Rattle.card.specs.Disk.{overlay}
use Rattle.card.specs.Card as Card
use Rattle.card.specs.Card.{queue, block_at}
use Rattle.card.specs.Marks.{marks_fit, kept_at, all_kept}
use Rattle.card.proofs.Spreads.{marks_of-all}
use Rattle.journal.specs.Geometry.{trap}
use Rattle.journal.specs.Geometry.Laws.{trap-descriptors}
use Rattle.journal.specs.Layout.{descriptor_at}
use Rattle.crash.proofs.Leads.{found_in, logs_same}
use Rattle.crash.proofs.Logs.{slot_e, log_d}
use Rattle.store.specs.Request as Request
use Rattle.store.specs.State.{State, Outcome, open_mode, card_in}
use Rattle.store.specs.Lists.{open_from, find}
use Rattle.store.specs.Causes.{cause}
use Rattle.store.specs.Outcomes.{refused, completed, unless}
use Rattle.store.specs.Put.{put_at}
use Rattle.store.specs.Get.{block_of}
use Rattle.history.specs.Call.{power, put, get, commit, sync, recover, cut}
use Rattle.history.specs.Plain.{Plain, Fed, blank, plain_fit, refusal, header_kept, plain_step, plain_get, still}
use Rattle.history.specs.Dispatch.{called, dispatch}
use Rattle.history.specs.Ledger.{same_log, collides}
use Rattle.history.specs.History.{World, next, after, store_next, ledger_next, found_written, fed, accepted_cut, exception}
use Rattle.history.specs.Statements as S
use Rattle.history.specs.Statements.{none_finished, short_sync, quiet, decided, Progress, known, undecided, observe, fate}
use Rattle.history.specs.Worked.{cut101, cut111, half, cut_half, cut_fifth, cut_header, sevens, nines, at40, crashed, answers}
use Rattle.history.proofs.Relation.Forms.{called-refused}
use Rattle.history.proofs.Relation.Sim.{cut_settled, cut_written}
use Rattle.history.proofs.Steps.Shown.{WorldSim, same-cause}
use Rattle.history.proofs.Steps.ListInduction.{step}
use Rattle.history.proofs.Steps.Cut.{fits_cut, found-cut, exception-cut}
use Rattle.history.proofs.Atomicity.ReadsBack.{power-served, cut_accepted}
use Rattle.history.proofs.Worked.TornMarks.{header-half, halved, header-fifth}
use Rattle.history.proofs.Worked.Card.{no_number}
use Rattle.history.proofs.Worked.Sums.{log-written, log-found, other_log, no_collision, log-halved, halved-log, halved_no_collision, same_fits}
use Rattle.history.proofs.Worked.Plain.{open_at, down_at, closed_at, plain_put, plain_commit, plain_power, plain_halted, fits_101, header_101, fits_111, header_111, fits_half, fits_fifth, refused-header, plain_other, plain_new, plain_again, plain_fallback, plain_found, plain_shown, Went, went}
use Rattle.history.proofs.Worked.Sync.{group_is, grouped_is, no_inner, met_none, halted-written, halted-lost, halted-halved, halted-fifth, halted_whole}

-- ---- put and commit leave the settled bytes

unless_settled : (k : ℕ) (st s : State) → s.settled ≡ st.settled → (unless k st (completed s)).state.settled ≡ st.settled
unless_settled k st s e = go (eqb k 0)
  where
    go : (t : Bool) → (cond t (completed s) (refused k st)).state.settled ≡ st.settled
    go true = e
    go false = refl

pub put_settled : (a : ℕ) (b : List ℕ) (st : State) → (dispatch trap (put a b) st).state.settled ≡ st.settled
unfolding called
put_settled a b st = unless_settled (cause trap (Request.put a b) st) st (put_at (find st.work open_from st.rec.opened a) e st) (go (find st.work open_from st.rec.opened a))
  where
    e : Entry
    e = record { address = a; block = b }

    go : (f : Option ℕ) → (put_at f e st).settled ≡ st.settled
    go (Some i) = refl
    go None = refl

pub commit_settled : (st : State) → (dispatch trap commit st).state.settled ≡ st.settled
unfolding called
commit_settled st = unless_settled (cause trap Request.commit st) st _ refl

pub length-sevens : length sevens ≡ block_bytes
unfolding sevens
length-sevens = length-replicate {A = ℕ} block_bytes 7

length-nines : length nines ≡ block_bytes
unfolding nines
length-nines = length-replicate {A = ℕ} block_bytes 9

-- ---- from the completed sync on

abbrev pub zeros : Laid
zeros = blank

abbrev pub old : Laid
old = lay_over (at40 sevens ∷ []) zeros

-- what the first part of the script leaves
pub record Filed (w : World) : Type 0 where
  pub sim : WorldSim trap w
  pub clean : w.excepted ≡ false
  pub plain : w.plain ≡ open_at old [] [] 1 999996
  pub log : log_d trap (block_at w.store.settled) 1 ≡ at40 sevens ∷ []
  pub free : cell 4 (block_at w.store.settled descriptor_at) 1 ≡ replicate 4 0
  pub slot : block_at w.store.settled 3 ≡ replicate block_bytes 0

abbrev v₁ : World → World
v₁ w = next trap (put 40 nines) w

abbrev v₂ : World → World
v₂ w = next trap commit (v₁ w)

abbrev v₃ : World → World
v₃ w = next trap (power 3) (v₂ w)

abbrev v₄ : World → World
v₄ w = next trap sync (v₃ w)

module _ (w : World) (m : Filed w) where
  t₁ : Went (put 40 nines) w (still (open_at old [] (at40 nines ∷ []) 1 999996))
  unfolding exception accepted_cut
  t₁ = went (put 40 nines) w _ _ m.sim refl m.plain (plain_put _ old 1 999996 nines length-nines)

  t₂ : Went commit (v₁ w) (still (open_at old (at40 nines ∷ []) [] 1 999996))
  unfolding exception accepted_cut
  t₂ = went commit (v₁ w) _ _ t₁.sim refl t₁.plain (plain_commit _ old 1 999996 nines)

  t₃ : Went (power 3) (v₂ w) (still (open_at old (at40 nines ∷ []) [] 1 3))
  unfolding exception accepted_cut
  t₃ = went (power 3) (v₂ w) _ _ t₂.sim refl t₂.plain (plain_power _ old (at40 nines ∷ []) 999996 3)

  t₄ : Went sync (v₃ w) (record { answer = 4; orders = 3; plain = down_at old (at40 nines ∷ []) })
  unfolding exception accepted_cut
  t₄ = went sync (v₃ w) _ _ t₃.sim refl t₃.plain (plain_halted _ old nines refl)

  same_settled : (v₃ w).store.settled ≡ w.store.settled
  unfolding next
  same_settled =
      ap (λ (x : Outcome). x.state.settled) (power-served trap 3 (v₂ w) t₂.sim)
      ∙ commit_settled (v₁ w).store
      ∙ put_settled 40 nines w.store

  -- ---- the logs

  first_slot : slot_e trap (block_at (v₃ w).store.settled) 0 ≡ at40 sevens
  first_slot = ap (λ (l : List Entry). get_or l 0 (at40 sevens)) (ap (λ (s : List ℕ). log_d trap (block_at s) 1) same_settled ∙ m.log)

  lost-log : found_in trap (cut_settled cut101 (store_next trap sync (v₃ w))) ≡ log-found
  lost-log =
      halted-lost (v₃ w) t₃.sim old refl nines t₃.plain
      ∙ ap₂ (λ (e : Entry) (a : ℕ). e ∷ record { address = a; block = nines } ∷ []) first_slot
      (ap (λ (s : List ℕ). num (cell 4 (block_at s descriptor_at) 1)) same_settled ∙ ap num m.free ∙ no_number)

  halved-found : found_in trap (cut_settled cut_half (store_next trap sync (v₃ w))) ≡ log-halved
  unfolding halved
  halved-found =
      halted-halved (v₃ w) t₃.sim old refl nines t₃.plain
      ∙ ap₂ (λ (e : Entry) (b : List ℕ). e ∷ at40 (Card.torn half nines b) ∷ []) first_slot
      (ap (λ (s : List ℕ). block_at s 3) same_settled ∙ m.slot)

  fifth-log : found_in trap (cut_settled cut_fifth (store_next trap sync (v₃ w))) ≡ log-written
  fifth-log =
      halted-fifth (v₃ w) t₃.sim old refl nines t₃.plain (ap (λ (s : List ℕ). cell 4 (block_at s descriptor_at) 1) same_settled ∙ m.free)
      ∙ ap (λ (e : Entry). e ∷ at40 nines ∷ []) first_slot

  own-log : (ms : List ℕ) → header_kept ms 3 ≡ true → cut_written ms (ledger_next trap sync (v₃ w)) ≡ log-written
  own-log ms k = halted-written (v₃ w) t₃.sim old refl nines t₃.plain ms k ∙ ap (λ (e : Entry). e ∷ at40 nines ∷ []) first_slot

  -- ---- the sync that is cut short

  open_then : (v₃ w).store.rec.mode ≡ open_mode
  open_then = sym t₃.sim.basics.mirrors.mode ∙ ap (λ (x : Plain). x.mode) t₃.plain

  observed : observe trap sync (v₃ w) (known quiet) ≡ undecided (at40 nines ∷ []) 0 true
  unfolding observe short_sync
  observed =
      let g = group_is (v₃ w) t₃.sim old refl nines 1 3 (omega arith) t₃.plain in
      let k = grouped_is (v₃ w) t₃.sim old refl nines 1 3 (omega arith) t₃.plain in
      let i = no_inner (v₃ w) t₃.sim old refl nines 1 3 (omega arith) t₃.plain in
      let z = met_none (v₃ w) t₃.sim old refl nines 1 3 (omega arith) t₃.plain in
      λ j.
      cond (eqb (open_then j) open_mode && eqb (t₄.answer j) 4) (undecided (g j) (z j) (eqb (t₄.orders j) (i j + (k j + trap-descriptors j + 1)))) (known quiet)

  -- ---- a cut that is accepted

  module _ (ms : List ℕ) (fit : refusal trap (cut ms) (down_at old (at40 nines ∷ [])) ≡ 0) where
    fits : refusal trap (cut ms) (v₄ w).plain ≡ 0
    fits = ap (refusal trap (cut ms)) t₄.plain ∙ fit

    found_is : found_written trap (cut ms) (v₄ w) ≡ same_log (found_in trap (cut_settled ms (store_next trap sync (v₃ w)))) (cut_written ms (ledger_next trap sync (v₃ w)))
    unfolding next
    found_is = found-cut trap ms (v₄ w) t₄.sim fits

    exception_is : exception trap (cut ms) (v₄ w) ≡ collides (found_in trap (cut_settled ms (store_next trap sync (v₃ w)))) (cut_written ms (ledger_next trap sync (v₃ w)))
    unfolding next
    exception_is = exception-cut trap ms (v₄ w) t₄.sim fits

    fits_now : marks_fit ms (queue (card_in (store_next trap sync (v₃ w)))) ≡ true
    unfolding next
    fits_now = fits_cut trap ms (v₄ w) t₄.sim fits

    pub accepted : accepted_cut trap (cut ms) (v₄ w) ≡ true
    accepted = cut_accepted trap ms (v₄ w) t₄.sim fits

-- what it is to the plain disk, and the recovery after it
pub record Cuts (w : World) (ms : List ℕ) (same : Bool) (k : ℕ) (laid : Laid) : Type 0 where
  pub fit : refusal trap (cut ms) (down_at old (at40 nines ∷ [])) ≡ 0
  pub found : found_written trap (cut ms) (v₄ w) ≡ same
  pub usual : exception trap (cut ms) (v₄ w) ≡ false
  pub n : ℕ
  pub F : Bool
  pub left : ℕ
  pub cuts : (t : Fed) → t.same ≡ same → plain_step trap (cut ms) t (down_at old (at40 nines ∷ [])) ≡ still (closed_at laid n 0 F)
  pub recovers : (t : Fed) → plain_step trap recover t (closed_at laid n 100 F) ≡ record { answer = 0; orders = k; plain = open_at laid [] [] n left }

pub all_111 : all_kept cut111 ≡ true
all_111 = marks_of-all _

-- the header kept, and another log found, which is no collision
other_by : (w : World) → Filed w → (ms : List ℕ) (L : List Entry) → plain_fit trap ms (down_at old (at40 nines ∷ [])) ≡ true → kept_at ms 2 ≡ true
    → found_in trap (cut_settled ms (store_next trap sync (v₃ w))) ≡ L → same_log L log-written ≡ false → collides L log-written ≡ false → Cuts w ms false 2 old
unfolding refusal header_kept
other_by w m ms L f k e other usual =
    let fit : refusal trap (cut ms) (down_at old (at40 nines ∷ [])) ≡ 0 = rw f in
    record {
      fit = fit;
      found = found_is w m ms fit ∙ ap₂ same_log e (own-log w m ms k) ∙ other;
      usual = exception_is w m ms fit ∙ ap₂ collides e (own-log w m ms k) ∙ usual;
      n = 1;
      F = true;
      left = 98;
      cuts = plain_other ms old nines f k;
      recovers = λ t. plain_fallback t old 1;
    }

pub lost_cuts : (w : World) → Filed w → Cuts w cut101 false 2 old
lost_cuts w m = other_by w m cut101 log-found (fits_101 old nines) header_101 (lost-log w m) other_log no_collision

-- it needs a fallback
pub lost-falls : (w : World) (m : Filed w) → (lost_cuts w m).F ≡ true
unfolding lost_cuts other_by
lost-falls w m = refl

pub halved_cuts : (w : World) → Filed w → Cuts w cut_half false 2 old
halved_cuts w m = other_by w m cut_half log-halved (fits_half old nines) header-half (halved-found w m) halved-log halved_no_collision

served-by : (ms : List ℕ) → plain_fit trap ms (down_at old (at40 nines ∷ [])) ≡ true → refusal trap (cut ms) (down_at old (at40 nines ∷ [])) ≡ 0
unfolding refusal
served-by ms f = rw f

-- the header kept, and the log written found
new_by_lem : (w : World) → Filed w → (ms : List ℕ) → plain_fit trap ms (down_at old (at40 nines ∷ [])) ≡ true → kept_at ms 2 ≡ true
    → same_log (found_in trap (cut_settled ms (store_next trap sync (v₃ w)))) (cut_written ms (ledger_next trap sync (v₃ w))) ≡ true → Cuts w ms true 0 (lay_over (at40 nines ∷ []) old)
new_by_lem w m ms f k same =
    let fit = served-by ms f in
    record {
      fit = fit;
      found = found_is w m ms fit ∙ same;
      usual = exception_is w m ms fit ∙ same_fits _ _ same;
      n = 2;
      F = false;
      left = 100;
      cuts = plain_new ms old nines f k;
      recovers = λ t. plain_found t (lay_over (at40 nines ∷ []) old) 2;
    }

pub whole_cuts : (w : World) → Filed w → Cuts w cut111 true 0 (lay_over (at40 nines ∷ []) old)
whole_cuts w m =
    new_by_lem w m cut111 (fits_111 old nines) header_111
    (halted_whole (v₃ w) (t₃ w m).sim old refl nines (t₃ w m).plain cut111 (fits_now w m cut111 (served-by cut111 (fits_111 old nines))) all_111)

pub fifth_cuts : (w : World) → Filed w → Cuts w cut_fifth true 0 (lay_over (at40 nines ∷ []) old)
unfolding header_kept
fifth_cuts w m =
    new_by_lem w m cut_fifth (fits_fifth old nines) header-fifth (ap₂ same_log (fifth-log w m) (own-log w m cut_fifth header-fifth) ∙ logs_same log-written)

-- a header that is torn
pub header_refused : (w : World) → Filed w → dispatch trap (cut cut_header) (v₄ w).store ≡ refused 10 (v₄ w).store
header_refused w m =
    let ten : cause trap (Request.cut cut_header) (v₄ w).store ≡ 10 =
    same-cause trap (v₄ w).store (v₄ w).ledger (v₄ w).plain (t₄ w m).sim (cut cut_header) ∙ ap (refusal trap (cut cut_header)) (t₄ w m).plain ∙ refused-header old nines in
    called-refused trap (Request.cut cut_header) (v₄ w).store (λ z. let e : ◌≡◌ {A = ℕ} 10 0 = sym ten ∙ z in omega arith) ∙ ap (λ (k : ℕ). refused k (v₄ w).store) ten

module _ (w : World) (m : Filed w) (ms : List ℕ) (same : Bool) (k : ℕ) (laid : Laid) (c : Cuts w ms same k laid) where
  abbrev v₅ : World
  v₅ = next trap (cut ms) (v₄ w)

  abbrev v₆ : World
  v₆ = next trap (power 100) v₅

  t₅ : Went (cut ms) (v₄ w) (still (closed_at laid c.n 0 c.F))
  t₅ =
      went (cut ms) (v₄ w) _ _ (t₄ w m).sim c.usual (t₄ w m).plain
      (c.cuts (fed trap (cut ms) (v₄ w)) c.found)

  pub t₆ : Went (power 100) v₅ (still (closed_at laid c.n 100 c.F))
  unfolding exception accepted_cut
  t₆ = went (power 100) v₅ _ _ t₅.sim refl t₅.plain (plain_again _ laid c.n 0 100 c.F)

  pub t₇ : Went recover v₆ (record { answer = 0; orders = k; plain = open_at laid [] [] c.n c.left })
  unfolding exception accepted_cut
  t₇ = went recover v₆ _ _ t₆.sim refl t₆.plain (c.recovers _)

  -- then block 40 is read
  abbrev v₇ : World
  v₇ = next trap recover v₆

  t₈ : Went (get 40) v₇ (still (open_at laid [] [] c.n c.left))
  unfolding exception accepted_cut
  t₈ = went (get 40) v₇ _ _ t₇.sim refl t₇.plain (plain_shown _ laid c.n c.left)

  pub block : block_of trap 40 (store_next trap recover v₆) ≡ laid.disk 40
  unfolding next plain_get overlay
  block = (step trap (get 40) v₇ t₇.sim).agrees.block 40 refl t₈.answer ∙ ap (plain_get 40) t₇.plain

  pub number : (store_next trap recover v₆).rec.save ≡ laid.groups
  unfolding next
  number =
      let opens : (store_next trap recover v₆).rec.mode ≡ open_mode = sym t₇.sim.basics.mirrors.mode ∙ ap (λ (d : Plain). d.mode) t₇.plain in
      sym (t₇.sim.basics.mirrors.save opens) ∙ ap (λ (d : Plain). d.S.groups) t₇.plain

  pub all_clean : (after trap (crashed ms) w).excepted ≡ false
  unfolding after
  all_clean = t₆.clean ∙ t₅.clean ∙ (t₄ w m).clean ∙ (t₃ w m).clean ∙ (t₂ w m).clean ∙ (t₁ w m).clean ∙ m.clean

  pub none_done : none_finished trap (crashed ms) w ≡ true
  unfolding none_finished S.finished
  none_done = ap (λ (a : ℕ). not (eqb a 0) && true) (t₄ w m).answer

  pub fated : fate trap (crashed ms) w (known quiet) ≡ known (decided (at40 nines ∷ []) (kept_at ms 2 && same) (all_kept ms))
  unfolding fate observe short_sync
  fated =
      ap (λ (x : Progress). fate trap (cut ms ∷ power 100 ∷ []) (v₄ w) x) (observed w m)
      ∙ (λ j.
      fate trap (power 100 ∷ []) v₅
      (cond (accepted w m ms c.fit j) (known (decided (at40 nines ∷ []) (kept_at ms (0 + (1 + trap-descriptors j)) && c.found j) (all_kept ms))) (undecided (at40 nines ∷ []) 0 true)))

  pub later_lines : answers (crashed ms ++ (recover ∷ get 40 ∷ [])) w ≡ (0, 0) ∷ (0, 0) ∷ (0, 0) ∷ (4, 3) ∷ (0, 0) ∷ (0, 0) ∷ (0, k) ∷ (0, 0) ∷ []
  unfolding answers next
  later_lines =
      λ j.
      ((t₁ w m).answer j, (t₁ w m).orders j) ∷ ((t₂ w m).answer j, (t₂ w m).orders j) ∷ ((t₃ w m).answer j, (t₃ w m).orders j) ∷ ((t₄ w m).answer j, (t₄ w m).orders j)
      ∷ (t₅.answer j, t₅.orders j) ∷ (t₆.answer j, t₆.orders j) ∷ (t₇.answer j, t₇.orders j) ∷ (t₈.answer j, t₈.orders j) ∷ []
