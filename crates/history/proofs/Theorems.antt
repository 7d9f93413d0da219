-- The theorems about histories. Their types stand in specs/Statements.antt, specs/Refusals.antt, specs/Cuts.antt, specs/Formats.antt, specs/Costs.antt,
-- specs/GetLists.antt, specs/Directs.antt, specs/AlikeCards.antt, specs/Dispatch.antt, specs/Linked.antt and specs/Scripts.antt.
use Rattle.std.specs.Prelude.{Option, Some, None}
use Prim.Native.Nat.{ℕ, ◌<◌}
use mathlib.Core.Path.{◌≡◌, refl, ap, sym, ◌∙◌}
use mathlib.Core.Logic.{◌≢◌, ◌⊎◌}
use mathlib.Core.Bool.{Bool, true, false, true≢false, cond}
use native.Mathlib.Omega.{arith}
use native.Mathlib.Decide.{ℕ_discrete}
use lib.Dec.{eqb}
use Rattle.store.specs.Request as Request
use Rattle.store.specs.State.{State, Outcome, open_mode}
use Rattle.store.specs.Causes.{is_found, cause}
use Rattle.store.specs.Outcomes.{refused}
use Rattle.store.specs.Format.{format_call}
use Rattle.store.specs.Power.{power_call}
use Rattle.store.specs.Put.{put_call}
use Rattle.store.specs.Commit.{commit_call}
use Rattle.store.specs.Abandon.{abandon_call}
use Rattle.store.specs.Direct.{direct_call}
use Rattle.store.specs.Saves.{sync_call, apply_call, recover_call}
use Rattle.store.specs.Cut.{cut_call}
use Rattle.cells.specs.Entry.{entry_at}
use Rattle.card.specs.Card.{queue}
use Rattle.card.proofs.All.{up_to-all}
use Rattle.journal.specs.Geometry.{Geometry}
use Rattle.journal.specs.Layout.{is_data}
use Rattle.journal.specs.Lookup.{last_slot}
use Rattle.store.proofs.Listings.{listing_number}
use Rattle.journal.proofs.Choices.{fallback_number}
use Rattle.history.specs.Call.{Call, request_of, recover, sync}
use Rattle.history.specs.Plain.{Done, refusal, served}
use Rattle.history.specs.Dispatch.{called, dispatch, Cited}
use Rattle.history.specs.Ledger.{Ledger}
use Rattle.history.specs.History.{World, begun, after, fed}
use Rattle.history.specs.Statements.{Sound, Safety, FallbackNumbered, Refinement, ReadBack, WrittenSummed, Logged, Written, CrashAtomicity}
use Rattle.history.specs.Refusals.{Refusals}
use Rattle.history.specs.Cuts.{AllCuts, AllMixtures}
use Rattle.history.specs.Formats.{AllFormats}
use Rattle.history.specs.Costs.{Costs}
use Rattle.history.specs.GetLists.{AllLists}
use Rattle.history.specs.Directs.{AllDirects}
use Rattle.history.specs.AlikeCards.{AllAlike}
use Rattle.history.specs.Linked.{Linked}
use Rattle.history.specs.Scripts.{ScriptsAreHistories}
use Rattle.history.proofs.Relation.CauseLaws.{cause-one, cause_two, cause_passes}
use Rattle.history.proofs.Relation.Forms.{get-called, list-called}
use Rattle.history.proofs.Relation.Sim.{Waits, OpenSim, ClosedSim, DownSim, Safe}
use Rattle.history.proofs.Relation.Lists.{slot_among}
use Rattle.history.proofs.Steps.Shown.{same-cause, dispatch-refused, plain_served}
use Rattle.history.proofs.Steps.Local.{is_open, list_plain}
use Rattle.history.proofs.Steps.Sync.{logged}
use Rattle.history.proofs.Steps.ListInduction.{step, after_sim, after_safe, begun_sim, begun_safe}
use Rattle.history.proofs.Relation.PlainAnswers.{Either, served-answer}
use Rattle.history.proofs.Atomicity.ReadsBack as ReadsBack
use Rattle.history.proofs.Atomicity.Splits as Atomicity
use Rattle.history.proofs.Boundary.Refusals as RefusalsProof
use Rattle.history.proofs.Boundary.Cuts as CutsProof
use Rattle.history.proofs.Boundary.FaceRefusals as FaceRefusals
use Rattle.history.proofs.Boundary.Formats as FormatsProof
use Rattle.history.proofs.Boundary.Guards as Guards
use Rattle.history.proofs.Boundary.Costs as CostsProof
use Rattle.history.proofs.Boundary.GetLists as GetListsProof
use Rattle.history.proofs.Boundary.AnyDirect as AnyDirectProof
use Rattle.history.proofs.Twins.Recovered as RecoveredProof
use Rattle.history.proofs.Twins.AlikeCards as AlikeCardsProof
use Rattle.history.proofs.Boundary.Links as Links
use Rattle.history.proofs.Boundary.Scripts as ScriptsProof

-- ---- Safety

module _ (geo : Geometry) where
  module _ (st : State) (l : Ledger) (s : Safe geo st l) where
    world : World
    world = record { store = st; ledger = s.ledger; plain = s.plain; excepted = false }

    -- the answer is the cause, or 0 or 4
    answers : (c : Call) → ((cause geo (request_of c) st ≢ 0) × ((dispatch geo c st).answer ≡ cause geo (request_of c) st)) ⊎ Either (dispatch geo c st).answer
    unfolding world
    answers c = go (ℕ_discrete (cause geo (request_of c) st) 0)
      where
        go : Dec (cause geo (request_of c) st ≡ 0) → ((cause geo (request_of c) st ≢ 0) × ((dispatch geo c st).answer ≡ cause geo (request_of c) st)) ⊎ Either (dispatch geo c st).answer
        go (no h) = ◌⊎◌.inl (h, ap (λ (o : Outcome). o.answer) (dispatch-refused geo c st h))
        go (yes h) =
            let k : refusal geo c s.plain ≡ 0 = sym (same-cause geo st s.ledger s.plain s.sim c) ∙ h in
            let e : (dispatch geo c st).answer ≡ (served geo c (fed geo c world) s.plain).answer =
            (step geo c world s.sim).agrees.answer ∙ ap (λ (o : Done). o.answer) (plain_served geo c (fed geo c world) s.plain k) in
            ◌⊎◌.inr (either e (served-answer geo c (fed geo c world) s.plain))
          where
            either : {a b : ℕ} → a ≡ b → Either b → Either a
            either e (◌⊎◌.inl q) = ◌⊎◌.inl (e ∙ q)
            either e (◌⊎◌.inr q) = ◌⊎◌.inr (e ∙ q)

    -- a number that is neither is the cause
    by-cause : (c : Call) (k : ℕ) → k ≢ 0 → k ≢ 4 → (dispatch geo c st).answer ≡ k → cause geo (request_of c) st ≡ k
    by-cause c k a b h = go (answers c)
      where
        go : ((cause geo (request_of c) st ≢ 0) × ((dispatch geo c st).answer ≡ cause geo (request_of c) st)) ⊎ Either (dispatch geo c st).answer → cause geo (request_of c) st ≡ k
        go (◌⊎◌.inl q) = sym q.1 ∙ h
        go (◌⊎◌.inr (◌⊎◌.inl q)) = absurd (a (sym h ∙ q))
        go (◌⊎◌.inr (◌⊎◌.inr q)) = absurd (b (sym h ∙ q))

    recover_refusals : (k : ℕ) → k ≢ 0 → k ≢ 4 → k ≢ 5 → refusal geo recover s.plain ≢ k
    unfolding refusal
    recover_refusals k a b c = go (eqb s.plain.mode 2) (eqb s.plain.mode 1)
      where
        go : (x y : Bool) → cond x 4 (cond y 5 0) ≢ k
        go true y e = b (sym e)
        go false true e = c (sym e)
        go false false e = a (sym e)

    -- the invariant that carries direct writes
    waits_apart : st.rec.mode ≡ open_mode → (i : ℕ) → i < st.rec.waiting
        → (is_data geo st.rec.blocks (entry_at st.waiting i).address ≡ true) × (last_slot st.settled (entry_at st.waiting i).address st.rec.logged ≡ None)
    unfolding queue
    waits_apart o i l = go s.sim.phase
      where
        none : (f : Option ℕ) → is_found f ≡ false → f ≡ None
        none (Some k) e = absurd (true≢false e)
        none None e = refl

        go : OpenSim geo st s.ledger s.plain ⊎ (ClosedSim geo st s.ledger s.plain ⊎ DownSim geo st s.ledger s.plain)
            → (is_data geo st.rec.blocks (entry_at st.waiting i).address ≡ true) × (last_slot st.settled (entry_at st.waiting i).address st.rec.logged ≡ None)
        go (◌⊎◌.inl p) =
            let w = up_to-all (Waits geo st) (entry_at st.waiting) st.rec.waiting p.waits i l in
            (w.0, none (last_slot st.settled (entry_at st.waiting i).address st.rec.logged) (slot_among geo st.settled (entry_at st.waiting i).address st.rec.logged ∙ w.1))
        go (◌⊎◌.inr (◌⊎◌.inl p)) = absurd (omega (arith, p.mode))
        go (◌⊎◌.inr (◌⊎◌.inr p)) = absurd (omega (arith, p.mode))

    pub sound : Sound geo st
    sound = record {
      sizes = s.sim.basics.sizes;
      counts = s.sim.basics.counts;
      own = λ c h. cause-one geo (request_of c) st s.sim.basics.sizes (by-cause c 1 (λ e. omega arith) (λ e. omega arith) h);
      never_two = λ c h. cause_two geo (request_of c) st s.sim.basics.counts (by-cause c 2 (λ e. omega arith) (λ e. omega arith) h);
      never_eight = λ h.
          recover_refusals 8 (λ e. omega arith) (λ e. omega arith) (λ e. omega arith)
          (sym (same-cause geo st s.ledger s.plain s.sim recover) ∙ by-cause recover 8 (λ e. omega arith) (λ e. omega arith) h);
      never_nine = λ h.
          recover_refusals 9 (λ e. omega arith) (λ e. omega arith) (λ e. omega arith)
          (sym (same-cause geo st s.ledger s.plain s.sim recover) ∙ by-cause recover 9 (λ e. omega arith) (λ e. omega arith) h);
      apart = waits_apart;
    }

  pub safety : Safety geo
  safety st h cs = sound (after geo cs (begun geo st)).store (after geo cs (begun geo st)).ledger (after_safe geo cs (begun geo st) (begun_safe geo st h))

  pub fallback_numbered : FallbackNumbered geo
  fallback_numbered = fallback_number geo

  -- ---- Refinement

  pub refinement : Refinement geo
  refinement st h cs c e =
      let w = after geo cs (begun geo st) in
      let m = after_sim geo cs (begun geo st) (begun_sim geo st h) e in
      ((step geo c w m).agrees, λ xs bs. list_plain geo xs bs w.store w.ledger w.plain m)

  -- ---- Log read back

  pub read_back : ReadBack geo
  read_back = ReadsBack.read_back geo

  pub written_summed : WrittenSummed geo
  written_summed = ReadsBack.written_summed geo

  sync_logged : (st : State) (l : Ledger) → Safe geo st l → st.rec.grouped ≢ 0 → (dispatch geo sync st).answer ≡ 0 → Logged geo st (dispatch geo sync st).state
  sync_logged st l s z h = go (ℕ_discrete (cause geo Request.sync st) 0)
    where
      w : World
      w = record { store = st; ledger = s.ledger; plain = s.plain; excepted = false }

      go : Dec (cause geo Request.sync st ≡ 0) → Logged geo st (dispatch geo sync st).state
      go (no k) = absurd (k (sym (ap (λ (o : Outcome). o.answer) (dispatch-refused geo sync st k)) ∙ h))
      go (yes k) =
          logged geo w s.sim (sym (same-cause geo st s.ledger s.plain s.sim sync) ∙ k)
          (is_open geo st s.ledger s.plain s.sim Request.sync refl (cause_passes geo Request.sync st k)) z h

  pub written : Written geo
  written st f cs z h = sync_logged (after geo cs (begun geo st)).store (after geo cs (begun geo st)).ledger (after_safe geo cs (begun geo st) (begun_safe geo st f)) z h

  -- ---- Crash atomicity

  pub crash_atomicity : CrashAtomicity geo
  crash_atomicity = Atomicity.crash_atomicity geo

  -- ---- Refusals

  pub refusals : Refusals geo
  refusals = record {
    calls = RefusalsProof.calls geo;
    parts = FaceRefusals.parts geo;
    lines = ScriptsProof.by_call;
    reads = FaceRefusals.reads geo;
    faces = FaceRefusals.faces geo (RefusalsProof.calls geo);
    gets = FaceRefusals.gets geo;
    lists = FaceRefusals.lists geo;
    asks = FaceRefusals.asks geo;
  }

  -- ---- The cut

  pub all_cuts : AllCuts geo
  all_cuts = CutsProof.all_cuts geo

  pub all_mixtures : AllMixtures geo
  all_mixtures = CutsProof.all_mixtures geo

  -- ---- Format

  pub all_formats : AllFormats geo
  all_formats = record {
    any = FormatsProof.any geo;
    begins = Guards.begins geo;
    guards = λ st h cs. Guards.guards geo (after geo cs (begun geo st)) (after_safe geo cs (begun geo st) (begun_safe geo st h));
    guards_plain = λ st h cs e. Guards.guards_plain geo (after geo cs (begun geo st)) (after_sim geo cs (begun geo st) (begun_sim geo st h) e);
  }

  -- ---- What a call will take

  pub costs : Costs geo
  costs = record { inquiries = CostsProof.foretells geo; forms = CostsProof.forms geo }

  -- ---- Lists of gets

  pub all_lists : AllLists geo
  all_lists = GetListsProof.listed_gets geo

  -- ---- Direct writes

  pub all_directs : AllDirects geo
  all_directs = AnyDirectProof.all_directs geo

  -- ---- Cards that are alike

  pub all_alike : AllAlike geo
  all_alike = record {
    told = AlikeCardsProof.told geo;
    told_no = AlikeCardsProof.told_no geo;
    cards = AlikeCardsProof.alike_cards geo;
    recovery = RecoveredProof.recovery geo;
    runs = AlikeCardsProof.runs geo;
  }

  -- ---- Through C

  pub cited : Cited geo
  unfolding called format_call power_call put_call commit_call abandon_call direct_call sync_call apply_call recover_call cut_call
  cited = record {
    formats = refl;
    powers = λ k. refl;
    puts = λ a b. refl;
    directs = λ a b. refl;
    gets = get-called geo;
    lists = λ xs bs st. list-called geo xs bs st ∙ ap (λ (n : ℕ). refused n st) (sym (listing_number geo xs bs st));
    commits = refl;
    abandons = refl;
    syncs = refl;
    applies = refl;
    recovers = refl;
    cuts = λ ms. refl;
  }

  pub linked : Linked geo
  linked = Links.linked geo

-- ---- Through the script

pub scripts_are_histories : ScriptsAreHistories
scripts_are_histories = ScriptsProof.scripts
