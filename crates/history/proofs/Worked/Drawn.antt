-- W-209: a direct write on a fresh card, cut in half, or settled by a sync.
use Prim.Native.Nat.{ℕ}
use mathlib.Core.Path.{◌≡◌, refl, ap, ap₂, sym, ◌∙◌}
use mathlib.Core.Bool.{Bool, true, false, cond, ◌&&◌}
use mathlib.Core.List.{List, [], ◌∷◌, ◌++◌}
use native.Mathlib.Omega.{arith}
use lib.Dec.{eqb}
use lib.ListN.{length, replicate}
use lib.Seq.{take_all}
use Rattle.cells.specs.Cell.Laws.{cell_part}
use Rattle.cells.specs.Entry.{block_bytes, Entry}
use Rattle.card.specs.Disk.{lay, overlay}
use Rattle.card.specs.Card.{queue, settle, torn, block_at, blocks_in}
use Rattle.card.specs.Marks.{over_one, marks_for, marks_at}
use Rattle.card.proofs.Cuts.{cut-one}
use Rattle.crash.specs.Laid.{Laid}
use Rattle.crash.proofs.Batches.{no_queue}
use Rattle.journal.specs.Geometry.{trap}
use Rattle.journal.specs.Layout.{is_data}
use Rattle.journal.specs.Log.{header_of, entries}
use Rattle.store.specs.State.{State, Outcome, card_in}
use Rattle.store.specs.Format.{format_call}
use Rattle.store.specs.Get.{block_of}
use Rattle.store.specs.Saves.{applies}
use Rattle.history.specs.Call.{Call, power, get, direct, sync, recover, cut}
use Rattle.history.specs.Plain.{Plain, Fed, fresh, blank_plain, with_waiting, with_writes, with_loose, among, has, taking, refusal, plain_fit, header_waits, verdict, plain_direct, plain_barrier, plain_sync, plain_recover, plain_cut, plain_get, plain_step, done, still}
use Rattle.history.specs.Plain as P
use Rattle.history.specs.Dispatch.{dispatch}
use Rattle.history.specs.Ledger.{Ledger, fresh_ledger, apply_header, own_header, entered, noted, sync_headers, resolved, log_found, collides, same_log}
use Rattle.history.specs.History.{World, begun, next, after, store_next, ledger_next, accepted_cut, exception}
use Rattle.history.specs.Statements.{Photo, no_photo, photographed, photo, direct_done}
use Rattle.history.specs.Worked.{sevens, half, drawn, answers, Photographed, Barred}
use Rattle.history.proofs.Relation.OpenFacts as Facts
use Rattle.history.proofs.Relation.CauseLaws.{record_facts}
use Rattle.history.proofs.Steps.Shown.{WorldSim}
use Rattle.history.proofs.Steps.Cut.{store_cut, ledger_cut}
use Rattle.history.proofs.Steps.ListInduction.{step, begun_sim, begun-blank}
use Rattle.history.proofs.Atomicity.Phases.{open_now}
use Rattle.history.proofs.Atomicity.ReadsBack.{power-served, cut_accepted, written_summed}
use Rattle.history.proofs.Atomicity.Loosened.{recover-keeps}
use Rattle.history.proofs.Atomicity.Splits.{shows_S, home_found}
use Rattle.history.proofs.Boundary.AnyDirect.{all_directs}
use Rattle.history.proofs.Worked.Plain.{open_at, closed_at, Went, went}
use Rattle.history.proofs.Worked.Second.{zeros, length-sevens}
use Rattle.history.proofs.Worked.TornMarks.{low_half}

-- ---- the plain disk

abbrev at50 : List ℕ → Entry
at50 b = record { address = 50; block = b }

abbrev now : Laid
now = P.drawn (at50 sevens) zeros

-- the write waits
abbrev waits_at : Plain
waits_at = with_waiting 1 (with_writes (50 ∷ []) (open_at now [] [] 0 999999))

-- behind a cut, with these loose
abbrev shut_at : List ℕ → ℕ → Plain
shut_at xs p = with_loose xs (closed_at now 0 p false)

plain-direct : (t : Fed) → plain_step trap (direct 50 sevens) t (open_at zeros [] [] 0 1000000) ≡ done 1 waits_at
unfolding plain_step refusal plain_direct has among trap
plain-direct t = rw length-sevens

plain_half : (t : Fed) → plain_step trap (cut half) t waits_at ≡ still (shut_at (50 ∷ []) 999999)
unfolding plain_step refusal plain_fit header_waits plain_cut verdict marks_for
plain_half t = rw low_half

plain-barrier : (t : Fed) → plain_step trap sync t waits_at ≡ done 1 (open_at now [] [] 0 999998)
unfolding plain_step refusal plain_sync plain_barrier
plain-barrier t = refl

plain_none : (t : Fed) → plain_step trap (cut []) t (open_at now [] [] 0 999998) ≡ still (shut_at [] 999998)
unfolding plain_step refusal plain_fit header_waits plain_cut verdict marks_for over_one
plain_none t = refl

plain_power : (t : Fed) (xs : List ℕ) (p : ℕ) → plain_step trap (power 100) t (shut_at xs p) ≡ still (shut_at xs 100)
unfolding plain_step refusal
plain_power t xs p = refl

plain-recover : (t : Fed) (xs : List ℕ) → plain_step trap recover t (shut_at xs 100) ≡ still (open_at (taking xs t.found now) [] [] 0 100)
unfolding plain_step refusal plain_recover
plain-recover t xs = refl

plain_shown : (t : Fed) (S : Laid) → plain_step trap (get 50) t (open_at S [] [] 0 100) ≡ still (open_at S [] [] 0 100)
unfolding plain_step refusal trap
plain_shown t S = refl

fits_half : refusal trap (cut half) waits_at ≡ 0
unfolding refusal plain_fit header_waits marks_for
fits_half = rw low_half

fits_none : refusal trap (cut []) (open_at now [] [] 0 999998) ≡ 0
unfolding refusal plain_fit header_waits marks_for over_one
fits_none = refl

is-data : is_data trap 64 50 ≡ true
unfolding trap
is-data = refl

not_full : eqb 0 trap.direct ≡ false
unfolding trap
not_full = refl

-- the first half of the write, before the zeros that stood there
half-torn : torn half sevens (replicate block_bytes 0) ≡ replicate 256 7 ++ replicate 256 0
unfolding torn sevens
half-torn = refl

marks-half : marks_at half 0 ≡ half
marks-half = cell_part block_bytes half 0 ∙ take_all block_bytes half (lib.Dec.lit≤ tt)

-- ---- the two scripts

module _ (st : State) (f : (format_call trap st).answer ≡ 0) (size : blocks_in st.settled ≡ 64) where
  abbrev w₀ : World
  w₀ = begun trap st

  abbrev w₁ : World
  w₁ = next trap (direct 50 sevens) w₀

  plain₀ : w₀.plain ≡ open_at zeros [] [] 0 1000000
  unfolding begun fresh
  plain₀ = ap blank_plain size

  s₁ : Went (direct 50 sevens) w₀ (done 1 waits_at)
  unfolding exception accepted_cut
  s₁ = went (direct 50 sevens) w₀ _ _ (begun_sim trap st f) refl plain₀ (plain-direct _)

  -- a cut with no log written is no exception
  none_collides : (cs : List Call) (ms : List ℕ) → WorldSim trap (after trap cs w₀) → refusal trap (cut ms) (after trap cs w₀).plain ≡ 0 → (after trap cs w₀).ledger ≡ fresh_ledger
      → exception trap (cut ms) (after trap cs w₀) ≡ false
  unfolding exception log_found collides same_log resolved next
  none_collides cs ms m h e =
      let w : World = after trap cs w₀ in
      let a : accepted_cut trap (cut ms) w ≡ true = cut_accepted trap ms w m h in
      let l : (ledger_next trap (cut ms) w).written ≡ [] = ap (λ (x : Ledger). x.written) (ledger_cut trap ms w m h) ∙ ap (λ (x : Ledger). resolved ms x.pending x.written) e in
      let n : (header_of (store_next trap (cut ms) w).settled).count ≡ 0 = (written_summed trap st f cs ms a).count ∙ ap length l in
      (λ i. a i && collides (entries trap (store_next trap (cut ms) w).settled (n i)) (l i))

  -- ---- what waits at the cut

  idle₀ : w₀.store.rec.waiting ≡ 0
  idle₀ = sym (begun_sim trap st f).basics.mirrors.waiting ∙ ap (λ (d : Plain). d.waiting) plain₀

  room₀ : eqb w₀.store.rec.waiting trap.direct ≡ false
  room₀ = ap (λ (k : ℕ). eqb k trap.direct) idle₀ ∙ not_full

  queue₁ : queue (card_in w₁.store) ≡ at50 sevens ∷ []
  unfolding next
  queue₁ =
      ((all_directs trap).directs 50 sevens w₀.store).waits s₁.answer
      ∙ (λ i. cond (room₀ i) [] (no_queue (card_in w₀.store) idle₀ i) ++ (at50 sevens ∷ []))

  settled₁ : w₁.store.settled ≡ w₀.store.settled
  unfolding next
  settled₁ =
      ((all_directs trap).directs 50 sevens w₀.store).settles s₁.answer
      ∙ ap (λ (t : Bool). cond t (settle (queue (card_in w₀.store)) w₀.store.settled) w₀.store.settled) room₀

  zero₁ : block_at w₁.store.settled 50 ≡ replicate block_bytes 0
  zero₁ = ap (λ (s : List ℕ). block_at s 50) settled₁ ∙ begun-blank trap st f 50 (λ z. omega arith) (omega (arith, size))

  shot : photo trap 50 drawn w₀ no_photo ≡ record { before = replicate block_bytes 0; blocks = sevens ∷ [] }
  unfolding photo direct_done among
  shot =
      let d : direct_done trap (direct 50 sevens) w₀ ≡ true = ap (λ (k : ℕ). eqb k 0) s₁.answer in
      (λ i. photo_by50 (d i) (room₀ i) (among 50 (s₁.plain i).writes) ((plain₀ i).S.disk 50))
    where
      photo_by50 : Bool → Bool → Bool → List ℕ → Photo
      photo_by50 finished full kept s =
          let q = cond (finished && full) no_photo no_photo in
          cond kept (cond finished (photographed sevens s q) q) no_photo

  -- ---- the write cut in half

  abbrev w₂ : World
  w₂ = next trap (cut half) w₁

  abbrev w₃ : World
  w₃ = next trap (power 100) w₂

  abbrev w₄ : World
  w₄ = next trap recover w₃

  served₁ : refusal trap (cut half) w₁.plain ≡ 0
  served₁ = ap (refusal trap (cut half)) s₁.plain ∙ fits_half

  usual₁ : exception trap (cut half) w₁ ≡ false
  unfolding after next begun entered
  usual₁ = none_collides drawn half s₁.sim served₁ refl

  s₂ : Went (cut half) w₁ (still (shut_at (50 ∷ []) 999999))
  s₂ = went (cut half) w₁ _ _ s₁.sim usual₁ s₁.plain (plain_half _)

  s₃ : Went (power 100) w₂ (still (shut_at (50 ∷ []) 100))
  unfolding exception accepted_cut
  s₃ = went (power 100) w₂ _ _ s₂.sim refl s₂.plain (plain_power _ (50 ∷ []) 999999)

  s₄ : Went recover w₃ (still (open_at (taking (50 ∷ []) (λ a. block_of trap a (store_next trap recover w₃)) now) [] [] 0 100))
  unfolding exception accepted_cut
  s₄ = went recover w₃ _ _ s₃.sim refl s₃.plain (plain-recover _ (50 ∷ []))

  s₅ : Went (get 50) w₄ (still (open_at (taking (50 ∷ []) (λ a. block_of trap a (store_next trap recover w₃)) now) [] [] 0 100))
  unfolding exception accepted_cut
  s₅ = went (get 50) w₄ _ _ s₄.sim refl s₄.plain (plain_shown _ _)

  N₁ : w₁.store.rec.blocks ≡ 64
  N₁ = sym s₁.sim.basics.mirrors.N ∙ ap (λ (d : Plain). d.N) s₁.plain

  N₃ : w₃.store.rec.blocks ≡ 64
  N₃ = sym s₃.sim.basics.mirrors.N ∙ ap (λ (d : Plain). d.N) s₃.plain

  data₃ : is_data trap w₃.store.rec.blocks 50 ≡ true
  data₃ = ap (λ (k : ℕ). is_data trap k 50) N₃ ∙ is-data

  half_block : block_at w₂.store.settled 50 ≡ replicate 256 7 ++ replicate 256 0
  unfolding next
  half_block =
      let inside : blocks_in w₁.store.settled ≡ 64 = sym (record_facts trap w₁.store s₁.sim.basics.counts).blocks ∙ N₁ in
      ap (λ (s : State). block_at s.settled 50) (store_cut trap half w₁ s₁.sim served₁)
      ∙ cut-one half (card_in w₁.store) 50 [] [] (at50 sevens) queue₁ (omega (arith, inside)) (rw queue₁ (length-sevens, tt)) length-sevens refl tt tt
      ∙ ap₂ (λ (m b : List ℕ). torn m sevens b) marks-half zero₁
      ∙ half-torn

  half-found : block_of trap 50 (store_next trap recover w₃) ≡ replicate 256 7 ++ replicate 256 0
  unfolding next among
  half-found =
      (shows_S trap w₃ s₃.sim s₄.answer 64 50 (sym (ap (λ (d : Plain). d.N) s₃.plain)) is-data).1
      ∙ home_found trap w₃ s₃.sim s₄.answer 50 data₃ (ap (λ (d : Plain). among 50 d.log) s₃.plain)
      ∙ recover-keeps trap 50 w₃ s₃.sim data₃ s₄.answer
      ∙ ap (λ (o : Outcome). block_at o.state.settled 50) (power-served trap 100 w₂ s₂.sim)
      ∙ half_block

  pub photographed_script : Photographed st
  unfolding after answers next among begun
  photographed_script = record {
    lines = λ j. (s₁.answer j, s₁.orders j) ∷ (s₂.answer j, s₂.orders j) ∷ (s₃.answer j, s₃.orders j) ∷ (s₄.answer j, s₄.orders j) ∷ (s₅.answer j, s₅.orders j) ∷ [];
    accepted = cut_accepted trap half w₁ s₁.sim served₁;
    shot = shot;
    clean = s₃.clean ∙ s₂.clean ∙ s₁.clean;
    loose = ap (λ (d : Plain). among 50 d.loose) s₃.plain;
    block = half-found;
  }

  -- ---- the write settled by a sync

  abbrev v₂ : World
  v₂ = next trap sync w₁

  abbrev v₃ : World
  v₃ = next trap (cut []) v₂

  abbrev v₄ : World
  v₄ = next trap (power 100) v₃

  abbrev v₅ : World
  v₅ = next trap recover v₄

  t₂ : Went sync w₁ (done 1 (open_at now [] [] 0 999998))
  unfolding exception accepted_cut
  t₂ = went sync w₁ _ _ s₁.sim refl s₁.plain (plain-barrier _)

  served₂ : refusal trap (cut []) v₂.plain ≡ 0
  served₂ = ap (refusal trap (cut [])) t₂.plain ∙ fits_none

  grouped₁ : w₁.store.rec.grouped ≡ 0
  unfolding refusal
  grouped₁ =
      let o = open_now trap sync w₁ s₁.sim refl (ap (refusal trap sync) s₁.plain) in
      sym (Facts.plain_count trap w₁.store w₁.ledger w₁.plain s₁.sim.basics o) ∙ ap (λ (d : Plain). length d.G) s₁.plain

  ledger₂ : v₂.ledger ≡ fresh_ledger
  unfolding next begun entered sync_headers noted
  ledger₂ =
      ap (λ (k : ℕ). noted (cond (eqb k 0) [] (cond (applies trap w₁.store) (apply_header w₁.store ∷ own_header trap w₁.store ∷ []) (own_header trap w₁.store ∷ []))) (dispatch trap sync w₁.store).orders fresh_ledger)
      grouped₁

  usual₂ : exception trap (cut []) v₂ ≡ false
  unfolding after
  usual₂ = none_collides (direct 50 sevens ∷ sync ∷ []) [] t₂.sim served₂ ledger₂

  t₃ : Went (cut []) v₂ (still (shut_at [] 999998))
  t₃ = went (cut []) v₂ _ _ t₂.sim usual₂ t₂.plain (plain_none _)

  t₄ : Went (power 100) v₃ (still (shut_at [] 100))
  unfolding exception accepted_cut
  t₄ = went (power 100) v₃ _ _ t₃.sim refl t₃.plain (plain_power _ [] 999998)

  t₅ : Went recover v₄ (still (open_at now [] [] 0 100))
  unfolding exception accepted_cut among
  t₅ = went recover v₄ _ _ t₄.sim refl t₄.plain (plain-recover _ [])

  t₆ : Went (get 50) v₅ (still (open_at now [] [] 0 100))
  unfolding exception accepted_cut
  t₆ = went (get 50) v₅ _ _ t₅.sim refl t₅.plain (plain_shown _ now)

  whole_found : block_of trap 50 (store_next trap recover v₄) ≡ sevens
  unfolding next plain_get overlay lay
  whole_found = (step trap (get 50) v₅ t₅.sim).agrees.block 50 refl t₆.answer ∙ ap (plain_get 50) t₅.plain

  pub barred_script : Barred st
  unfolding after answers next among begun
  barred_script = record {
    lines = λ j. (s₁.answer j, s₁.orders j) ∷ (t₂.answer j, t₂.orders j) ∷ (t₃.answer j, t₃.orders j) ∷ (t₄.answer j, t₄.orders j) ∷ (t₅.answer j, t₅.orders j) ∷ (t₆.answer j, t₆.orders j) ∷ [];
    accepted = cut_accepted trap [] v₂ t₂.sim served₂;
    clean = t₄.clean ∙ t₃.clean ∙ t₂.clean ∙ s₁.clean;
    firm = ap (λ (d : Plain). among 50 d.loose) t₄.plain;
    block = whole_found;
  }
