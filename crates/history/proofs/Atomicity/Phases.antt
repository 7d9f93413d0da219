-- What is watched along a list of calls: whether a sync cut short is known, and what the plain disk has then. A refused call changes nothing.
use Prim.Native.Nat.{ℕ, ◌+◌, ◌*◌}
use mathlib.Core.Path.{◌≡◌, refl, ap, sym, ◌∙◌}
use mathlib.Core.Logic.{◌≢◌, ◌⊎◌}
use mathlib.Core.Bool.{Bool, true, false, false≢true, cond, ◌&&◌}
use mathlib.Core.List.{List, ◌++◌}
use native.Mathlib.Omega.{arith}
use borrow.Author.Tests.{ne_eqb, eqb-true}
use lib.Dec.{eqb}
use lib.ListN.{length, drop}
use Rattle.cells.specs.Entry.{block_bytes, Entry}
use Rattle.crash.specs.Laid.{Laid}
use Rattle.card.specs.Card as Card
use Rattle.card.specs.Card.{queue}
use Rattle.card.specs.Marks.{marks_fit, kept_at, all_kept}
use Rattle.journal.specs.Geometry.{Geometry}
use Rattle.journal.proofs.Choices.{both}
use Rattle.crash.proofs.Leads.{found_in}
use Rattle.store.specs.Save as Save
use Rattle.store.specs.Request as Request
use Rattle.store.specs.State.{State, Outcome, closed, open_mode, down, with_queue, with_record, card_in}
use Rattle.store.specs.Causes.{cause}
use Rattle.history.specs.Call.{Call, request_of, local, direct, save, cut, power, sync}
use Rattle.history.specs.Plain.{Plain, none, Done, with_power, Verdict, verdict, header_kept, last_save, refusal}
use Rattle.history.specs.Dispatch.{dispatch}
use Rattle.history.specs.Ledger.{Ledger, nothing, waits, same_log}
use Rattle.history.specs.History.{World, store_next, ledger_next, found_written, fed, accepted_cut}
use Rattle.history.specs.Statements.{Fate, quiet, decided, Progress, known, undecided, observe, outcome, WholeIsNew, short_sync, at_cut}
use Rattle.store.proofs.Causes.{needs_open}
use Rattle.history.proofs.Relation.CauseLaws.{cause_passes}
use Rattle.history.proofs.Relation.Sim.{OpenSim, cut_settled, cut_written}
use Rattle.history.proofs.Steps.Shown.{plain_next, WorldSim, same-cause, dispatch-refused, entered-refused, plain_refused}
use Rattle.history.proofs.Steps.Local.{is_open}
use Rattle.history.proofs.Steps.ListInduction.{step}

-- ---- phases

module _ (geo : Geometry) where
  abbrev pub planned : Plain → List ℕ → Bool → Verdict
  planned d ms found = verdict geo d.short d.n (length d.G) d.F (header_kept ms d.waiting) found

-- open: nothing has happened to S
pub record OpenPhase (old : Laid) (st : State) (d : Plain) : Type 0 where
  pub mode : st.rec.mode ≡ open_mode
  pub S : d.S ≡ old

module _ (geo : Geometry) where
  -- the group of a sync that is found new is the end of the log written, and the header needs no fallback
  abbrev pub NewLog : Fate → Ledger → Plain → Type 0
  NewLog quiet l d = Unit {0}
  NewLog (decided G laid all) l d = laid ≡ true → (L : List Entry) × (l.written ≡ L ++ G) × (l.pending ≡ nothing) × (d.F ≡ false) × (d.short ≡ none) × (d.mode ≡ 0)

  -- not open, and no cut lays anything
  pub record OtherPhase (old : Laid) (f : Fate) (st : State) (l : Ledger) (d : Plain) : Type 0 where
    pub mode : st.rec.mode ≢ open_mode
    pub S : d.S ≡ outcome f old
    pub laid : (ms : List ℕ) (found : Bool) → (planned geo d ms found).laid ≡ false
    pub whole : WholeIsNew f
    pub log : NewLog f l d

  -- down by a sync of the group G
  -- its own header's place, from the first of its own writes on
  abbrev pub header_place : ℕ → List Entry → ℕ
  header_place from G = from + (length G + geo.descriptors)

  pub record ShortPhase (old : Laid) (G : List Entry) (from : ℕ) (made : Bool) (st : State) (l : Ledger) (d : Plain) : Type 0 where
    pub mode : st.rec.mode ≡ down
    pub S : d.S ≡ old
    pub group : d.G ≡ G
    pub laid : (ms : List ℕ) (found : Bool) → (planned geo d ms found).laid ≡ made && kept_at ms (header_place from G) && found
    pub whole : made ≡ true → (ms : List ℕ) → marks_fit ms (queue (card_in st)) ≡ true → all_kept (drop (block_bytes * from) ms) ≡ true
        → (kept_at ms (header_place from G) ≡ true) × (same_log (found_in geo (cut_settled ms st)) (cut_written ms l) ≡ true)
    pub log : made ≡ true → (L : List Entry) × (l.pending ≡ waits (header_place from G) (L ++ G))

  abbrev pub Watch : Laid → Progress → State → Ledger → Plain → Type 0
  Watch old (known quiet) st l d = OpenPhase old st d ⊎ OtherPhase old quiet st l d
  Watch old (undecided G from made) st l d = ShortPhase old G from made st l d
  Watch old (known (decided G laid all)) st l d = OtherPhase old (decided G laid all) st l d

-- ---- a refused call

-- a sync that ran out of power itself is a sync on an open record
module _ (geo : Geometry) where
  pub record IsShort (c : Call) (w : World) : Type 0 where
    pub is : c ≡ sync
    pub mode : w.store.rec.mode ≡ open_mode
    pub answer : (dispatch geo sync w.store).answer ≡ 4

  pub short_is : (c : Call) (w : World) → short_sync geo c w ≡ true → IsShort c w
  unfolding short_sync
  short_is (local c) w h = absurd (false≢true h)
  short_is (direct a b) w h = absurd (false≢true h)
  short_is (save Save.sync) w h =
      let p = both (eqb w.store.rec.mode open_mode) (eqb (dispatch geo sync w.store).answer 4) h in
      record { is = refl; mode = eqb-true _ _ p.0; answer = eqb-true _ _ p.1 }
  short_is (save Save.apply) w h = absurd (false≢true h)
  short_is (save Save.recover) w h = absurd (false≢true h)
  short_is (cut ms) w h = absurd (false≢true h)

  pub not_short : (c : Call) (w : World) → (c ≡ sync → w.store.rec.mode ≢ open_mode) → short_sync geo c w ≡ false
  not_short c w n = go (short_sync geo c w) refl
    where
      go : (t : Bool) → short_sync geo c w ≡ t → t ≡ false
      go false p = refl
      go true p = let s = short_is c w p in absurd (n s.is s.mode)

  -- a sync that ran out of power on an open record was not refused: a refusal there is 12
  pub short_serves : (w : World) → WorldSim geo w → w.store.rec.mode ≡ open_mode → (dispatch geo sync w.store).answer ≡ 4 → refusal geo sync w.plain ≡ 0
  unfolding refusal
  short_serves w m o e =
      let d : w.plain.mode ≡ 1 = m.basics.mirrors.mode ∙ o in
      let row : refusal geo sync w.plain ≡ cond (last_save w.plain) 12 0 = rw (ne_eqb w.plain.mode 0 (λ z. omega arith), ne_eqb w.plain.mode 2 (λ z. omega arith)) in
      go (last_save w.plain) row
    where
      go : (t : Bool) → refusal geo sync w.plain ≡ cond t 12 0 → refusal geo sync w.plain ≡ 0
      go false q = q
      go true q =
          let c : cause geo Request.sync w.store ≡ 12 = same-cause geo w.store w.ledger w.plain m sync ∙ q in
          let z : ◌≡◌ {A = ℕ} 12 4 = sym c ∙ sym (ap (λ (x : Outcome). x.answer) (dispatch-refused geo sync w.store (λ z. omega arith))) ∙ e in
          absurd (omega arith)

  refused-short : (c : Call) (w : World) → refusal geo c w.plain ≢ 0 → WorldSim geo w → short_sync geo c w ≡ false
  refused-short c w h m = go (short_sync geo c w) refl
    where
      go : (t : Bool) → short_sync geo c w ≡ t → t ≡ false
      go false p = refl
      go true p = let s = short_is c w p in absurd (h (ap (λ (x : Call). refusal geo x w.plain) s.is ∙ short_serves w m s.mode s.answer))

  refused-cut : (ms : List ℕ) (w : World) → refusal geo (cut ms) w.plain ≢ 0 → WorldSim geo w → accepted_cut geo (cut ms) w ≡ false
  unfolding accepted_cut
  refused-cut ms w h m =
      let k : cause geo (Request.cut ms) w.store ≢ 0 = λ e. h (sym (same-cause geo w.store w.ledger w.plain m (cut ms)) ∙ e) in
      let e : (dispatch geo (cut ms) w.store).answer ≡ cause geo (Request.cut ms) w.store = ap (λ (o : Outcome). o.answer) (dispatch-refused geo (cut ms) w.store k) in
      rw e (ne_eqb _ 0 k)

  refused_at : (c : Call) (w : World) (G : List Entry) (place : ℕ) (made : Bool) → refusal geo c w.plain ≢ 0 → WorldSim geo w → at_cut geo c w G place made ≡ undecided G place made
  refused_at (local c) w G place made h m = refl
  refused_at (direct a b) w G place made h m = refl
  refused_at (save c) w G place made h m = refl
  refused_at (cut ms) w G place made h m =
      ap (λ (t : Bool). cond t (known (decided G (made && kept_at ms (header_place geo place G) && found_written geo (cut ms) w) (made && all_kept (drop (block_bytes * place) ms)))) (undecided G place made)) (refused-cut ms w h m)

  pub observe-refused : (c : Call) (w : World) (f : Progress) → refusal geo c w.plain ≢ 0 → WorldSim geo w → observe geo c w f ≡ f
  unfolding observe
  observe-refused c w (known quiet) h m = rw (refused-short c w h m)
  observe-refused c w (undecided G place made) h m = refused_at c w G place made h m
  observe-refused c w (known (decided G laid all)) h m = refl

  pub watch_at : (old : Laid) {f f' : Progress} {st st' : State} {l l' : Ledger} {d d' : Plain} → f' ≡ f → st' ≡ st → l' ≡ l → d' ≡ d → Watch geo old f st l d → Watch geo old f' st' l' d'
  watch_at old a b c e x = rw (a, b, c, e) x

  pub watch_refused : (old : Laid) (c : Call) (w : World) (f : Progress) → refusal geo c w.plain ≢ 0 → WorldSim geo w → Watch geo old f w.store w.ledger w.plain
      → Watch geo old (observe geo c w f) (store_next geo c w) (ledger_next geo c w) (plain_next geo c w)
  watch_refused old c w f h m x =
      let k : cause geo (request_of c) w.store ≢ 0 = λ e. h (sym (same-cause geo w.store w.ledger w.plain m c) ∙ e) in
      watch_at old (observe-refused c w f h m) (ap (λ (o : Outcome). o.state) (dispatch-refused geo c w.store k)) (entered-refused geo c w.store w.ledger k)
      (ap (λ (o : Done). o.plain) (plain_refused geo c (fed geo c w) w.plain h)) x

  -- ---- a call that is served

  pub power_watch : (old : Laid) (k : ℕ) (f : Progress) (st : State) (l : Ledger) (d : Plain) → Watch geo old f st l d → Watch geo old f (with_record (with_queue st.rec.waiting k st.rec) st) l (with_power k d)
  unfolding Card.cut queue
  power_watch old k (known quiet) st l d (◌⊎◌.inl x) = ◌⊎◌.inl (record { mode = x.mode; S = x.S })
  power_watch old k (known quiet) st l d (◌⊎◌.inr x) = ◌⊎◌.inr (record { mode = x.mode; S = x.S; laid = x.laid; whole = x.whole; log = tt })
  power_watch old k (undecided G place made) st l d x = record { mode = x.mode; S = x.S; group = x.group; laid = x.laid; whole = x.whole; log = x.log }
  power_watch old k (known (decided G laid all)) st l d x = record { mode = x.mode; S = x.S; laid = x.laid; whole = x.whole; log = x.log }

  pub power-same : (k : ℕ) (w : World) (f : Progress) → observe geo (power k) w f ≡ f
  unfolding observe short_sync
  power-same k w (known quiet) = refl
  power-same k w (undecided G place made) = refl
  power-same k w (known (decided G laid all)) = refl

  -- open: no sync was cut short yet
  pub open_watch : (old : Laid) (f : Progress) (st : State) (l : Ledger) (d : Plain) → Watch geo old f st l d → st.rec.mode ≡ open_mode → (f ≡ known quiet) × (d.S ≡ old)
  open_watch old (known quiet) st l d (◌⊎◌.inl x) e = (refl, x.S)
  open_watch old (known quiet) st l d (◌⊎◌.inr x) e = absurd (x.mode e)
  open_watch old (undecided G place made) st l d x e = absurd (omega (arith, x.mode))
  open_watch old (known (decided G laid all)) st l d x e = absurd (x.mode e)

  -- closed: what became of it is known
  pub record Closed (old : Laid) (f : Progress) (st : State) (l : Ledger) (d : Plain) : Type 0 where
    pub end : Fate
    pub fated : f ≡ known end
    pub phase : OtherPhase geo old end st l d

  pub closed_watch : (old : Laid) (f : Progress) (st : State) (l : Ledger) (d : Plain) → Watch geo old f st l d → st.rec.mode ≡ closed → Closed old f st l d
  closed_watch old (known quiet) st l d (◌⊎◌.inl x) e = absurd (omega (arith, x.mode))
  closed_watch old (known quiet) st l d (◌⊎◌.inr x) e = record { end = quiet; fated = refl; phase = x }
  closed_watch old (undecided G place made) st l d x e = absurd (omega (arith, x.mode))
  closed_watch old (known (decided G laid all)) st l d x e = record { end = decided G laid all; fated = refl; phase = x }

  pub to_watch : (old : Laid) (f : Fate) (st : State) (l : Ledger) (d : Plain) → OtherPhase geo old f st l d → Watch geo old (known f) st l d
  to_watch old quiet st l d x = ◌⊎◌.inr x
  to_watch old (decided G laid all) st l d x = x

  -- a call that needs an open record, keeps it open and leaves S
  pub open_kept : (old : Laid) (c : Call) (w : World) (f : Progress) → WorldSim geo w → w.store.rec.mode ≡ open_mode → Watch geo old f w.store w.ledger w.plain
      → (plain_next geo c w).mode ≡ w.plain.mode → (plain_next geo c w).S ≡ w.plain.S → observe geo c w (known quiet) ≡ known quiet
      → Watch geo old (observe geo c w f) (store_next geo c w) (ledger_next geo c w) (plain_next geo c w)
  open_kept old c w f m o x p s q =
      let y = open_watch old f w.store w.ledger w.plain x o in
      watch_at old (ap (observe geo c w) y.0 ∙ q) refl refl refl
      (◌⊎◌.inl (record { mode = (step geo c w m).agrees.mode ∙ p ∙ m.basics.mirrors.mode ∙ o; S = s ∙ y.1 }))

  pub open_now : (c : Call) (w : World) → WorldSim geo w → needs_open geo (request_of c) ≡ true → refusal geo c w.plain ≡ 0 → OpenSim geo w.store w.ledger w.plain
  open_now c w m n h =
      is_open geo w.store w.ledger w.plain m (request_of c) n (cause_passes geo (request_of c) w.store (same-cause geo w.store w.ledger w.plain m c ∙ h))
