-- A card that is recovered, whatever left it: it has the log that was chosen, and is alike the card that the recover met.
use Prim.Native.Nat.{ℕ, ◌≤◌}
use mathlib.Core.Path.{◌≡◌, refl, ap, sym, subst, ◌∙◌}
use mathlib.Core.Logic.{◌≢◌}
use mathlib.Core.Bool.{true, false, true≢false}
use mathlib.Core.List.{List, [], ◌∷◌}
use native.Mathlib.Omega.{arith}
use native.Mathlib.Decide.{ℕ_discrete}
use lib.Dec.{eqb}
use Rattle.card.specs.Disk.{Disk, overlay}
use Rattle.card.specs.Card.{blocks_in, block_at}
use Rattle.journal.specs.Geometry.{Geometry}
use Rattle.journal.specs.Layout.{is_data}
use Rattle.journal.specs.Log.{entries}
use Rattle.journal.specs.declared.choice.Choice.{Choice}
use Rattle.journal.specs.declared.choice.Choice.TheVariants.{Whole, Fallback, Foreign, Neither}
use Rattle.journal.specs.Choice.{choose, choice_number, taken_count}
use Rattle.crash.proofs.Logs.{entries_disk}
use Rattle.store.specs.Request as Request
use Rattle.store.specs.State.{State, Outcome, closed}
use Rattle.store.specs.Causes.{wrong_sizes, wrong_record, cause}
use Rattle.inspect.specs.Reading.{inspection, chosen_count, laid_over}
use Rattle.inspect.specs.Alike.{alike_of}
use Rattle.inspect.proofs.Readings.{right-chosen}
use Rattle.inspect.proofs.Comparisons.{alike_yes}
use Rattle.history.specs.Call.{Call, power, recover}
use Rattle.history.specs.Plain.{refusal, plain_step}
use Rattle.history.specs.Dispatch.{dispatch}
use Rattle.history.specs.Ledger.{settled_by, entered}
use Rattle.history.specs.History.{World, next, accepted_cut, exception}
use Rattle.history.specs.AlikeCards.{Shut, Uncut, recovered, CutFree, Recovery}
use Rattle.history.proofs.Relation.CauseLaws.{record_facts, cause_passes}
use Rattle.history.proofs.Relation.Sim.{OpenSim, Sim}
use Rattle.history.proofs.Relation.OpenFacts as Facts
use Rattle.history.proofs.Steps.Shown.{dispatch-refused}
use Rattle.history.proofs.Steps.ListInduction.{next_sim}
use Rattle.history.proofs.Twins.Reopens.{plain_reopened, reopens, two_enough}
use Rattle.history.proofs.Twins.LastNumber.{grows}
use Rattle.history.proofs.Twins.Homes.{beneath_none}
use Rattle.history.proofs.Twins.Pairs.{open_sim, world_of}
use Rattle.history.proofs.Twins.Shows.{right-one, slots_of, power-keeps, open_size, open_accepted, open_count, open_laid}

module _ (geo : Geometry) (st : State) (f : Shut geo st) (accepted : inspection geo st.settled ≡ 0) where
  sizes : wrong_sizes geo st ≡ false
  sizes = (cause_passes geo (Request.power 0) st f.passes).sizes

  counts : wrong_record geo st ≡ false
  counts = (cause_passes geo (Request.power 0) st f.passes).counts

  -- its N is the record's
  pub size : st.rec.blocks ≡ blocks_in st.settled
  size = (record_facts geo st counts).blocks

  taken : taken_count (choose geo st.rec.blocks st.settled) ≡ chosen_count geo st.settled
  taken = ap (λ (N : ℕ). taken_count (choose geo N st.settled)) size

  chosen : choice_number (choose geo st.rec.blocks st.settled) ≡ 0
  chosen = ap (λ (N : ℕ). choice_number (choose geo N st.settled)) size ∙ sym (right-chosen geo st.settled _ (right-one geo st sizes) refl) ∙ accepted

  pub enough : 2 ≤ st.rec.power → (dispatch geo recover st).answer ≡ 0
  enough = two_enough geo st sizes counts f.mode chosen

  -- recovered, it has the log that was chosen, over the data blocks D
  reopened : (n : ℕ) (D : Disk) → chosen_count geo st.settled ≡ n → ((x : ℕ) → is_data geo st.rec.blocks x ≡ true → D x ≡ laid_over geo st.settled x) → (dispatch geo recover st).answer ≡ 0
      → (g : ℕ) × ((p : ℕ) × Sim geo (dispatch geo recover st).state (settled_by (entries geo st.settled n)) (plain_reopened st.rec.blocks D g n (entries geo st.settled n) p))
  reopened n D e under d =
      let count : taken_count (choose geo st.rec.blocks st.settled) ≡ n = taken ∙ e in
      let r = reopens geo st sizes counts f.mode f.bytes chosen D (λ x q. under x q ∙ ap (λ (m : ℕ). overlay (entries geo st.settled m) (block_at st.settled) x) (sym taken)) d in (
        r.0,
        (r.1.0, subst (λ (m : ℕ). Sim geo (dispatch geo recover st).state (settled_by (entries geo st.settled m)) (plain_reopened st.rec.blocks D r.0 m (entries geo st.settled m) r.1.0)) count r.1.1),
      )

  -- and given the power k
  pub opens : (k n : ℕ) (D : Disk) → chosen_count geo st.settled ≡ n → ((x : ℕ) → is_data geo st.rec.blocks x ≡ true → D x ≡ laid_over geo st.settled x) → (dispatch geo recover st).answer ≡ 0
      → (g : ℕ) × Sim geo (recovered geo k st) (settled_by (entries geo st.settled n)) (plain_reopened st.rec.blocks D g n (entries geo st.settled n) k)
  unfolding next entered plain_step refusal exception accepted_cut
  opens k n D e under d =
      let r = reopened n D e under d in
      (r.0, next_sim geo (power k) (world_of (dispatch geo recover st).state (settled_by (entries geo st.settled n)) (plain_reopened st.rec.blocks D r.0 n (entries geo st.settled n) r.1.0)) r.1.1 refl)

-- ---- a card that a recover left

module _ (geo : Geometry) (st : State) (f : Shut geo st) (done : (dispatch geo recover st).answer ≡ 0) where
  -- it was accepted
  none_refuses : cause geo Request.recover st ≡ 0
  none_refuses = go (ℕ_discrete (cause geo Request.recover st) 0)
    where
      go : Dec (cause geo Request.recover st ≡ 0) → cause geo Request.recover st ≡ 0
      go (yes e) = e
      go (no e) = absurd (e (sym (ap (λ (o : Outcome). o.answer) (dispatch-refused geo recover st e)) ∙ done))

  right_choice : choice_number (choose geo st.rec.blocks st.settled) ≡ 0
  right_choice =
      let own = (cause_passes geo Request.recover st none_refuses).own in
      go (choose geo st.rec.blocks st.settled) own.1.1.0 own.1.1.1.0
    where
      go : (c : Choice) → eqb (choice_number c) 8 ≡ false → eqb (choice_number c) 9 ≡ false → choice_number c ≡ 0
      go (Whole i x k) p q = refl
      go (Fallback i x k) p q = refl
      go Foreign p q = absurd (true≢false p)
      go Neither p q = absurd (true≢false q)

  met : inspection geo st.settled ≡ 0
  met =
      let passed = cause_passes geo (Request.power 0) st f.passes in
      right-chosen geo st.settled _ (right-one geo st passed.sizes) refl
      ∙ ap (λ (N : ℕ). choice_number (choose geo N st.settled)) (sym (record_facts geo st passed.counts).blocks)
      ∙ right_choice

  abbrev n : ℕ
  n = chosen_count geo st.settled

  now : (g : ℕ) × ((p : ℕ) × Sim geo (dispatch geo recover st).state (settled_by (entries geo st.settled n)) (plain_reopened st.rec.blocks (laid_over geo st.settled) g n (entries geo st.settled n) p))
  now = reopened geo st f met n (laid_over geo st.settled) refl (λ x q. refl) done

  abbrev left_world : World
  left_world = world_of (dispatch geo recover st).state (settled_by (entries geo st.settled n)) (plain_reopened st.rec.blocks (laid_over geo st.settled) now.0 n (entries geo st.settled n) now.1.0)

  m : Sim geo left_world.store left_world.ledger left_world.plain
  m = now.1.1

  o : OpenSim geo left_world.store left_world.ledger left_world.plain
  o = open_sim geo left_world m (sym m.basics.mirrors.mode)

  blocks_stay : blocks_in st.settled ≡ blocks_in left_world.store.settled
  blocks_stay = sym (size geo st f met) ∙ m.basics.mirrors.N ∙ open_size geo left_world m o

  log_stays : entries geo st.settled n ≡ entries geo left_world.store.settled n
  log_stays = Facts.written_is geo left_world.store left_world.ledger left_world.plain m.basics o ∙ sym (entries_disk geo left_world.store.settled left_world.store.rec.logged) ∙ ap (entries geo left_world.store.settled) (sym o.n)

  met-again : (alike_of geo st.settled (dispatch geo recover st).state.settled).yes ≡ true
  met-again = (alike_yes geo st.settled left_world.store.settled).1
      (record {
        first = met;
        second = open_accepted geo left_world m o;
        blocks = blocks_stay;
        count = o.n ∙ sym (open_count geo left_world m o);
        slots = slots_of geo st.settled left_world.store.settled n log_stays;
        laid = λ x q.
            sym (open_laid geo left_world m o x
            ∙ beneath_none geo left_world.store left_world.ledger left_world.plain o (sym m.basics.mirrors.waiting) x (ap (λ (N : ℕ). is_data geo N x) (sym m.basics.mirrors.N ∙ size geo st f met) ∙ q));
      })

  not-closed : (k : ℕ) → (recovered geo k st).rec.mode ≢ closed
  not-closed k z = let r = opens geo st f met k n (laid_over geo st.settled) refl (λ x q. refl) done in omega (arith, r.1.basics.mirrors.mode, z)

  uncut : (cs : List Call) → CutFree geo cs → (t : State) → Uncut geo cs t
  uncut [] h t = tt
  uncut (c ∷ cs) h t = ((λ ms e. absurd (h.0 ms e)), uncut cs h.1 (dispatch geo c t).state)

  pub recovery : Recovery geo st
  recovery = record {
    alike = met-again;
    reaches = λ k cs h l.
        let u = uncut cs h (recovered geo k st) in
        let g = grows geo cs (recovered geo k st) (not-closed k) u in
        let same : (recovered geo k st).rec.save ≡ (dispatch geo recover st).state.rec.save = power-keeps geo k (dispatch geo recover st).state in
        record { done = done; uncut = u; numbered = λ e. omega (arith, g, same, l, e) };
  }
