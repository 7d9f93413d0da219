-- Every record that a list of calls leaves fits its 44 bytes, and so C passes on the store's state.
use Prim.Native.Nat.{ℕ, ◌^◌, ◌<◌}
use mathlib.Core.Path.{◌≡◌, refl, ap, sym, subst, ◌∙◌}
use mathlib.Core.Logic.{◌⊎◌}
use mathlib.Core.Bool.{Bool, true, false, cond}
use mathlib.Core.List.{List, [], ◌∷◌}
use native.Mathlib.Omega.{arith}
use native.Mathlib.Decide.{ℕ_discrete}
use borrow.Author.Tests.{eq-eqb}
use lib.Dec.{eqb, leb, lit<}
use lib.ListN.{length}
use Rattle.fnv.specs.Fnv.{start}
use Rattle.card.specs.Card.{Order}
use Rattle.journal.specs.Geometry.{Geometry}
use Rattle.journal.specs.Log.{entries}
use Rattle.journal.proofs.Logs.{sum_of_lt}
use Rattle.store.specs.declared.record.Record.{Record}
use Rattle.store.specs.Local.{Local}
use Rattle.store.specs.Save.{Save}
use Rattle.store.specs.Request as Request
use Rattle.store.specs.State.{State, Outcome, open_mode, down, with_mode, with_log}
use Rattle.store.specs.CodeState.{state_of}
use Rattle.store.specs.Causes.{cause}
use Rattle.store.specs.Outcomes.{refused}
use Rattle.store.specs.Format.{formatted, format_call}
use Rattle.store.specs.Saves.{carried, applies, met_by_append, inner_orders, syncing}
use Rattle.store.specs.GetList.{Listing, listing}
use Rattle.store.specs.Cost.{Cost, cost_of}
use Rattle.store.proofs.Saves.{apply-carried}
use Rattle.store.proofs.Listings.{listing_number}
use Rattle.store.proofs.Causes.{any_waits, sizes_facts, sound}
use Rattle.firmware.specs.Face.{record_bytes, decode_record, Face, face_of, faced, handed, Got, got_in, got, listed, told, asked}
use Rattle.firmware.proofs.Records.{length-encode, Fitting, decode-encode}
use Rattle.firmware.proofs.Faces.{faced-length, faced-outcome, got_place, listed-listing, asked_cost}
use Rattle.history.specs.Call.{Call, request_of, local, direct, save, cut, get, get_list, of_get, of_list}
use Rattle.history.specs.Plain.{Plain, Fed, Done, refusal, locally, served, plain_step, plain_cut}
use Rattle.history.specs.Dispatch.{called, dispatch}
use Rattle.history.specs.Ledger.{Ledger, entered}
use Rattle.history.specs.History.{World, begun, next, after, fed}
use Rattle.history.specs.Linked.{face_next, face_after, Passable, AllPassable, BytesOf, Links, Linked}
use Rattle.store.proofs.Causes.{needs_open}
use Rattle.history.proofs.Relation.CauseLaws.{record_facts, cause_passes}
use Rattle.history.proofs.Relation.Forms.{get-called, list-called}
use Rattle.history.proofs.Relation.Sim.{OpenSim, ClosedSim, DownSim, Safe}
use Rattle.history.proofs.Steps.Shown.{same-cause, dispatch-refused, plain_refused, plain_served}
use Rattle.history.proofs.Steps.Local.{is_open}
use Rattle.history.proofs.Steps.ListInduction.{step, next_safe, begun_safe, formatted-now}
use Rattle.history.proofs.Relation.PlainAnswers.{save_end, save_power, LocalKind, powers, opens, local_kind, direct_cases}

-- ---- the power only sinks, or is set

module _ (geo : Geometry) where
  local_power : (c : Local) (d : Plain) → LocalKind geo c → Passable (local c) → d.power < 2 ^ 32 → (locally c d).power < 2 ^ 32
  local_power c d (powers k) p h = p k refl
  local_power c d (opens _ n s) p h = rw (s d).power h

  served-power : (c : Call) (f : Fed) (d : Plain) → Passable c → d.power < 2 ^ 32 → (served geo c f d).plain.power < 2 ^ 32
  unfolding plain_cut
  served-power (local c) f d p h = local_power c d (local_kind geo c) p h
  served-power (direct a b) f d p h = direct_cases geo (λ o. o.plain.power < 2 ^ 32) a b d (λ q. omega arith) (λ q. omega arith)
  served-power (save c) f d p h = omega (arith, save_power geo f.found c d (save_end geo f.found c d))
  served-power (cut ms) f d p h = h

  plain_power : (c : Call) (f : Fed) (d : Plain) → Passable c → d.power < 2 ^ 32 → (plain_step geo c f d).plain.power < 2 ^ 32
  plain_power c f d p h = go (ℕ_discrete (refusal geo c d) 0)
    where
      go : Dec (refusal geo c d ≡ 0) → (plain_step geo c f d).plain.power < 2 ^ 32
      go (yes e) = rw (plain_served geo c f d e) (served-power c f d p h)
      go (no e) = rw (plain_refused geo c f d e) h

-- ---- sum and save number fit, or the record is open

-- the sum and the save number fit their bytes if they did before
abbrev Keeps : Record → Record → Type 0
Keeps r q = (r.sum < 2 ^ 64 → q.sum < 2 ^ 64) × (r.save < 2 ^ 64 → q.save < 2 ^ 64)

same-keeps : (r : Record) → Keeps r r
same-keeps r = (λ h. h, λ h. h)

-- an empty log's
empty_keeps : (r : Record) → Keeps r (with_log 0 start r)
empty_keeps r = (λ h. lit< tt, λ h. h)

-- what a call leaves of them: open, or that
abbrev Numbers : State → Outcome → Type 0
Numbers st o = (o.state.rec.mode ≡ open_mode) ⊎ Keeps st.rec o.state.rec

-- done with such a record; or gone with one
carried_numbers : (os : List Order) (done gone : Record) (st : State) → (done.mode ≡ open_mode) ⊎ Keeps st.rec done → Keeps st.rec gone → Numbers st (carried os done gone st)
unfolding carried
carried_numbers os done gone st a b = go (leb (length os) st.rec.power)
  where
    go : (t : Bool) → ((cond t done (with_mode down gone)).mode ≡ open_mode) ⊎ Keeps st.rec (cond t done (with_mode down gone))
    go true = a
    go false = ◌⊎◌.inr b

module _ (geo : Geometry) where
  met_mode : (st : State) → (met_by_append geo st).mode ≡ st.rec.mode
  met_mode st = go (applies geo st)
    where
      go : (t : Bool) → (cond t (with_log 0 start st.rec) st.rec).mode ≡ st.rec.mode
      go true = refl
      go false = refl

  sync_numbers : (st : State) → st.rec.mode ≡ open_mode → Numbers st (syncing geo st)
  sync_numbers st o =
      carried_numbers _ _ _ st (◌⊎◌.inl (met_mode st ∙ o)) (go (leb (length (inner_orders geo st)) st.rec.power) (applies geo st))
    where
      go : (b t : Bool) → Keeps st.rec (cond b (cond t (with_log 0 start st.rec) st.rec) st.rec)
      go true true = empty_keeps st.rec
      go true false = same-keeps st.rec
      go false t = same-keeps st.rec

apply_numbers : (st : State) (os : List Order) → Numbers st (carried os (cond (eqb st.rec.logged 0) st.rec (with_log 0 start st.rec)) st.rec st)
apply_numbers st os = carried_numbers os _ _ st (◌⊎◌.inr (go (eqb st.rec.logged 0))) (same-keeps st.rec)
  where
    go : (t : Bool) → Keeps st.rec (cond t st.rec (with_log 0 start st.rec))
    go true = same-keeps st.rec
    go false = empty_keeps st.rec

module _ (geo : Geometry) where
  module _ (st : State) (l : Ledger) (s : Safe geo st l) where
    world : World
    world = record { store = st; ledger = s.ledger; plain = s.plain; excepted = false }

    -- a call on an open record that leaves the plain disk's mode leaves it open
    still_open : (c : Call) (q : Request.Request) → request_of c ≡ q → needs_open geo q ≡ true → cause geo q st ≡ 0
        → (served geo c (fed geo c world) s.plain).plain.mode ≡ s.plain.mode → (dispatch geo c st).state.rec.mode ≡ open_mode
    unfolding world
    still_open c q e n h k =
        let z : cause geo (request_of c) st ≡ 0 = ap (λ (x : Request.Request). cause geo x st) e ∙ h in
        let r : refusal geo c s.plain ≡ 0 = sym (same-cause geo st s.ledger s.plain s.sim c) ∙ z in
        let o = is_open geo st s.ledger s.plain s.sim q n (cause_passes geo q st h) in
        (step geo c world s.sim).agrees.mode ∙ ap (λ (x : Done). x.plain.mode) (plain_served geo c (fed geo c world) s.plain r) ∙ k ∙ s.sim.basics.mirrors.mode ∙ o.mode

    local_numbers : (c : Local) → LocalKind geo c → cause geo (Request.local c) st ≡ 0 → Numbers st (dispatch geo (local c) st)
    unfolding called
    local_numbers c (powers k) h = rw (eq-eqb _ 0 h) (◌⊎◌.inr (same-keeps st.rec))
    local_numbers c (opens _ n u) h = ◌⊎◌.inl (still_open (local c) (Request.local c) refl n h (u s.plain).mode)

    served_numbers : (c : Call) → cause geo (request_of c) st ≡ 0 → Numbers st (dispatch geo c st)
    unfolding called
    served_numbers (local c) h = local_numbers c (local_kind geo c) h
    served_numbers (direct a b) h = rw (eq-eqb _ 0 h) (carried_numbers _ _ _ st (◌⊎◌.inr (same-keeps st.rec)) (same-keeps st.rec))
    served_numbers (save Save.sync) h =
        rw (eq-eqb _ 0 h) (sync_numbers geo st (is_open geo st s.ledger s.plain s.sim Request.sync refl (cause_passes geo Request.sync st h)).mode)
    served_numbers (save Save.apply) h = rw (eq-eqb _ 0 h, apply-carried geo st) (apply_numbers st _)
    served_numbers (save Save.recover) h = rw (eq-eqb _ 0 h) (carried_numbers _ _ _ st (◌⊎◌.inl refl) (same-keeps st.rec))
    served_numbers (cut ms) h = rw (eq-eqb _ 0 h) (◌⊎◌.inr (λ h. lit< tt, λ h. lit< tt))

    numbers : (c : Call) → Numbers st (dispatch geo c st)
    numbers c = go (ℕ_discrete (cause geo (request_of c) st) 0)
      where
        go : Dec (cause geo (request_of c) st ≡ 0) → Numbers st (dispatch geo c st)
        go (yes h) = served_numbers c h
        go (no h) = rw (dispatch-refused geo c st h) (◌⊎◌.inr (same-keeps st.rec))

-- ---- every record fits

-- the three numbers that no count bounds
record Bounded (st : State) : Type 0 where
  power : st.rec.power < 2 ^ 32
  sum : st.rec.sum < 2 ^ 64
  save : st.rec.save < 2 ^ 64

module _ (geo : Geometry) where
  next_bounded : (c : Call) (st : State) (l : Ledger) → Safe geo st l → Passable c → Bounded st → Bounded (dispatch geo c st).state
  unfolding world
  next_bounded c st l s p b =
      let n = by_mode (numbers geo st l s c) in
      record {
        power = rw agrees.power (plain_power geo c (fed geo c (world geo st l s)) s.plain p (rw s.sim.basics.power b.power));
        sum = n.0;
        save = n.1;
      }
    where
      agrees : Rattle.history.specs.Statements.Agrees geo c (world geo st l s)
      agrees = (step geo c (world geo st l s) s.sim).agrees

      -- open: the sum of a list, and the number of the card's header
      of_card : (t : Safe geo (dispatch geo c st).state (entered geo c st l)) → (dispatch geo c st).state.rec.mode ≡ open_mode
          → ((dispatch geo c st).state.rec.sum < 2 ^ 64) × ((dispatch geo c st).state.rec.save < 2 ^ 64)
      of_card t z = go t.sim.phase
        where
          go : OpenSim geo (dispatch geo c st).state t.ledger t.plain ⊎ (ClosedSim geo (dispatch geo c st).state t.ledger t.plain ⊎ DownSim geo (dispatch geo c st).state t.ledger t.plain)
              → ((dispatch geo c st).state.rec.sum < 2 ^ 64) × ((dispatch geo c st).state.rec.save < 2 ^ 64)
          go (◌⊎◌.inl o) = (
            rw o.sum (sum_of_lt start (entries geo (dispatch geo c st).state.settled (dispatch geo c st).state.rec.logged) (lit< tt)),
            rw (← t.sim.basics.mirrors.save z) o.card.head.save,
          )
          go (◌⊎◌.inr (◌⊎◌.inl o)) = absurd (omega (arith, o.mode))
          go (◌⊎◌.inr (◌⊎◌.inr o)) = absurd (omega (arith, o.mode))

      by_mode : Numbers st (dispatch geo c st) → ((dispatch geo c st).state.rec.sum < 2 ^ 64) × ((dispatch geo c st).state.rec.save < 2 ^ 64)
      by_mode (◌⊎◌.inl z) = of_card (next_safe geo c st l s) z
      by_mode (◌⊎◌.inr z) = (z.0 b.sum, z.1 b.save)

  fits : (st : State) (l : Ledger) → Safe geo st l → Bounded st → Fitting st.rec
  fits st l s b =
      let r = record_facts geo st s.sim.basics.counts in
      let z = sizes_facts geo st s.sim.basics.sizes in
      let w = any_waits geo st (sound geo st s.sim.basics.sizes s.sim.basics.counts).counts in
      omega (arith, r.mode, r.blocks, z.most, r.open_count, r.group_count, r.log_count, w, b.power, b.sum, b.save)

-- ---- C passes on the state

-- what C's bytes are decoded to
held : (f : Face) (st : State) → BytesOf f st → Fitting st.rec → state_of (decode_record f.rec) f.settled f.waiting f.work ≡ st
held f st h t = λ j. state_of (rec j) (h.settled j) (h.waiting j) (h.work j)
  where
    rec : decode_record f.rec ≡ st.rec
    rec = ap decode_record h.rec ∙ decode-encode st.rec t

sized : (f : Face) (st : State) → BytesOf f st → length f.rec ≡ record_bytes
sized f st h = ap length h.rec ∙ length-encode st.rec

-- a call that is lent the record's bytes
faced-next : (call : State → Outcome) (f : Face) (st : State) → BytesOf f st → Fitting st.rec → faced call f.rec f.settled f.waiting f.work ≡ handed (call st)
faced-next call f st h t =
    sym (faced-outcome call f.rec f.settled f.waiting f.work (sized f st h)) ∙ ap (λ (x : State). handed (call x)) (held f st h t)

module _ (geo : Geometry) where
  got-next : (f : Face) (st : State) → BytesOf f st → Fitting st.rec → (a : ℕ) → got geo a f.rec f.settled f.waiting f.work ≡ got_in geo a st
  got-next f st h t a = sym (got_place geo a f.rec f.settled f.waiting f.work (sized f st h)) ∙ ap (got_in geo a) (held f st h t)

  listed_next : (f : Face) (st : State) → BytesOf f st → Fitting st.rec → (xs bs : List ℕ) → listed geo xs bs f.rec f.settled f.waiting f.work ≡ listing geo xs bs st
  listed_next f st h t xs bs = sym (listed-listing geo xs bs f.rec f.settled f.waiting f.work (sized f st h)) ∙ ap (listing geo xs bs) (held f st h t)

-- an inquiry that is lent them
asked-next : (cost : State → Cost) (f : Face) (st : State) → BytesOf f st → Fitting st.rec → asked cost f.rec f.settled f.waiting f.work ≡ told (cost st)
asked-next cost f st h t = sym (asked_cost cost f.rec f.settled f.waiting f.work (sized f st h)) ∙ ap (λ (x : State). told (cost x)) (held f st h t)

-- what was handed out holds what was left
handed-holds : (o : Outcome) (f : Face) → f ≡ handed o → BytesOf f o.state
handed-holds o f e = record { rec = ap (λ (x : Face). x.rec) e; settled = ap (λ (x : Face). x.settled) e; waiting = ap (λ (x : Face). x.waiting) e; work = ap (λ (x : Face). x.work) e }

-- what holds of a get's and of what the others have
of-get : {A : Type 0} (P : A → Type 0) (c : Call) (f : ℕ → A) (x : A) → ((a : ℕ) → c ≡ get a → P (f a)) → P x → P (of_get c f x)
of-get P (local (Local.power k)) f x g h = h
of-get P (local (Local.put a b)) f x g h = h
of-get P (local (Local.get a)) f x g h = g a refl
of-get P (local (Local.get_list xs bs)) f x g h = h
of-get P (local Local.commit) f x g h = h
of-get P (local Local.abandon) f x g h = h
of-get P (direct a b) f x g h = h
of-get P (save c) f x g h = h
of-get P (cut ms) f x g h = h

-- likewise a list of gets
of-list : {A : Type 0} (P : A → Type 0) (c : Call) (f : List ℕ → List ℕ → A) (x : A) → ((xs bs : List ℕ) → c ≡ get_list xs bs → P (f xs bs)) → P x → P (of_list c f x)
of-list P (local (Local.power k)) f x g h = h
of-list P (local (Local.put a b)) f x g h = h
of-list P (local (Local.get a)) f x g h = h
of-list P (local (Local.get_list xs bs)) f x g h = g xs bs refl
of-list P (local Local.commit) f x g h = h
of-list P (local Local.abandon) f x g h = h
of-list P (direct a b) f x g h = h
of-list P (save c) f x g h = h
of-list P (cut ms) f x g h = h

module _ (geo : Geometry) where
  -- a call through C is the store's, but for a get's place and what a list hands out
  record Same (c : Call) (st : State) (f : Face) : Type 0 where
    number : f.number ≡ (dispatch geo c st).answer
    orders : f.orders ≡ (dispatch geo c st).orders
    left : BytesOf f (dispatch geo c st).state

  same-handed : (c : Call) (st : State) (f : Face) → f ≡ handed (dispatch geo c st) → Same c st f
  same-handed c st f e = record {
    number = ap (λ (x : Face). x.number) e;
    orders = ap (λ (x : Face). x.orders) e;
    left = handed-holds (dispatch geo c st) f e;
  }

  -- bytes that are as they were, and a number
  same_left : (c : Call) (k : ℕ) (f : Face) (st : State) → BytesOf f st → refused k st ≡ dispatch geo c st → Same c st (face_of k 0 f.rec f.settled f.waiting f.work)
  same_left c k f st h turned = record {
    number = ap (λ (o : Outcome). o.answer) turned;
    orders = ap (λ (o : Outcome). o.orders) turned;
    left = subst (λ (o : Outcome). BytesOf (face_of k 0 f.rec f.settled f.waiting f.work) o.state) turned (record { rec = h.rec; settled = h.settled; waiting = h.waiting; work = h.work });
  }

  same-got : (a : ℕ) (f : Face) (st : State) → BytesOf f st → Fitting st.rec → Same (get a) st (face_next geo (get a) f)
  same-got a f st h t =
      same_left (get a) _ f st h (ap (λ (x : Got). refused x.number st) (got-next geo f st h t a) ∙ sym (get-called geo a st))

  same-listed : (xs bs : List ℕ) (f : Face) (st : State) → BytesOf f st → Fitting st.rec → Same (get_list xs bs) st (face_next geo (get_list xs bs) f)
  same-listed xs bs f st h t =
      same_left (get_list xs bs) _ f st h
      (ap (λ (x : Listing). refused x.number st) (listed_next geo f st h t xs bs) ∙ ap (λ (n : ℕ). refused n st) (listing_number geo xs bs st) ∙ sym (list-called geo xs bs st))

  links : (c : Call) (f : Face) (st : State) → BytesOf f st → Fitting st.rec → Links geo c f st
  links c f st h t =
      let s : Same c st (face_next geo c f) =
      of-get (Same c st) c _ _ (λ a e. subst (λ (x : Call). Same x st (face_next geo (get a) f)) (sym e) (same-got a f st h t))
      (of-list (Same c st) c _ _ (λ xs bs e. subst (λ (x : Call). Same x st (face_next geo (get_list xs bs) f)) (sym e) (same-listed xs bs f st h t))
      (same-handed c st _ (faced-next (dispatch geo c) f st h t))) in
      record { number = s.number; orders = s.orders; place = got-next geo f st h t; list = listed_next geo f st h t; figures = λ q. asked-next (cost_of geo q) f st h t; left = s.left }

  -- ---- a list of calls

  -- C's bytes and the store, and what both need to go on
  record Linking (f : Face) (w : World) : Type 0 where
    holds : BytesOf f w.store
    safe : Safe geo w.store w.ledger
    bounded : Bounded w.store

  linking_next : (c : Call) (f : Face) (w : World) → Passable c → Linking f w → Linking (face_next geo c f) (next geo c w)
  unfolding next
  linking_next c f w p m = record {
    holds = (links c f w.store m.holds (fits geo w.store w.ledger m.safe m.bounded)).left;
    safe = next_safe geo c w.store w.ledger m.safe;
    bounded = next_bounded geo c w.store w.ledger m.safe p m.bounded;
  }

  linking_after : (cs : List Call) (f : Face) (w : World) → AllPassable cs → Linking f w → Linking (face_after geo cs f) (after geo cs w)
  unfolding face_after after
  linking_after [] f w p m = m
  linking_after (c ∷ cs) f w p m = linking_after cs (face_next geo c f) (next geo c w) p.1 (linking_next c f w p.0 m)

  -- a format through C answers 0 only for a record of the right length, and where the store does
  module _ (r s w k : List ℕ) (z : (faced (format_call geo) r s w k).number ≡ 0) where
    right-length : length r ≡ record_bytes
    right-length = go (ℕ_discrete (length r) record_bytes)
      where
        go : Dec (length r ≡ record_bytes) → length r ≡ record_bytes
        go (yes e) = e
        go (no h) = let one : ◌≡◌ {A = ℕ} 1 0 = ap (λ (f : Face). f.number) (faced-length (format_call geo) r s w k h) ∙ z in absurd (omega arith)

    formats : (format_call geo (state_of (decode_record r) s w k)).answer ≡ 0
    formats = ap (λ (f : Face). f.number) (faced-outcome (format_call geo) r s w k right-length) ∙ z

  pub linked : Linked geo
  unfolding begun formatted
  linked r s w k z cs c ps =
      let m = linking_after cs (faced (format_call geo) r s w k) (begun geo (state_of (decode_record r) s w k)) ps start_linking in
      links c (face_after geo cs (faced (format_call geo) r s w k)) (after geo cs (begun geo (state_of (decode_record r) s w k))).store m.holds
      (fits geo (after geo cs (begun geo (state_of (decode_record r) s w k))).store (after geo cs (begun geo (state_of (decode_record r) s w k))).ledger m.safe m.bounded)
    where
      fresh_bounded : Bounded (format_call geo (state_of (decode_record r) s w k)).state
      fresh_bounded = rw (formatted-now geo (state_of (decode_record r) s w k) (formats r s w k z)) (record { power = lit< tt; sum = lit< tt; save = lit< tt })

      start_linking : Linking (faced (format_call geo) r s w k) (begun geo (state_of (decode_record r) s w k))
      start_linking = record {
        holds = handed-holds (format_call geo (state_of (decode_record r) s w k)) (faced (format_call geo) r s w k) (sym (faced-outcome (format_call geo) r s w k (right-length r s w k z)));
        safe = begun_safe geo (state_of (decode_record r) s w k) (formats r s w k z);
        bounded = fresh_bounded;
      }
