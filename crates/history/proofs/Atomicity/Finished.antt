-- After a finished sync or recovery the record is open.
use Prim.Native.Nat.{ℕ, ◌≤◌}
use mathlib.Core.Path.{◌≡◌, refl, ap, sym, ◌∙◌}
use mathlib.Core.Logic.{◌≢◌}
use mathlib.Core.Bool.{Bool, true, false}
use mathlib.Core.List.{[]}
use native.Mathlib.Omega.{arith}
use native.Mathlib.Decide.{ℕ_discrete, dec_le}
use borrow.Author.Tests.{eqb-true}
use lib.ListN.{length}
use Rattle.card.specs.Disk.{Disk}
use Rattle.crash.proofs.Batches.{no_queue}
use Rattle.journal.specs.Geometry.{Geometry}
use Rattle.store.specs.Save as Save
use Rattle.store.specs.State.{Outcome, open_mode, card_in}
use Rattle.store.specs.Causes.{cause}
use Rattle.history.specs.Call.{Call, request_of, local, direct, save, cut, sync, recover}
use Rattle.history.specs.Plain as Plain
use Rattle.history.specs.Plain.{Done, refusal, plain_step, plain_sync, plain_barrier, plain_recover}
use Rattle.history.specs.Dispatch.{dispatch}
use Rattle.history.specs.History.{World, store_next, fed}
use Rattle.history.specs.Statements as S
use Rattle.history.proofs.Relation.PlainLaws as PlainLaws
use Rattle.history.proofs.Relation.PlainAnswers.{sync-cases}
use Rattle.history.proofs.Steps.Shown.{WorldSim, same-cause, dispatch-refused, plain_served}
use Rattle.history.proofs.Steps.ListInduction.{step}
use Rattle.history.proofs.Atomicity.ReadsBack.{found-closed, recovered_mode}
use Rattle.history.proofs.Atomicity.Phases.{open_now}

module _ (geo : Geometry) where
  -- a call that answers 0 was not refused
  pub served_of : (c : Call) (w : World) → WorldSim geo w → (dispatch geo c w.store).answer ≡ 0 → refusal geo c w.plain ≡ 0
  served_of c w m h = go (ℕ_discrete (refusal geo c w.plain) 0)
    where
      go : Dec (refusal geo c w.plain ≡ 0) → refusal geo c w.plain ≡ 0
      go (yes e) = e
      go (no e) =
          let k : cause geo (request_of c) w.store ≢ 0 = λ q. e (sym (same-cause geo w.store w.ledger w.plain m c) ∙ q) in
          absurd (k (sym (ap (λ (o : Outcome). o.answer) (dispatch-refused geo c w.store k)) ∙ h))

  sync_opens : (w : World) → WorldSim geo w → (dispatch geo sync w.store).answer ≡ 0 → (store_next geo sync w).rec.mode ≡ open_mode
  sync_opens w m h =
      let r = served_of sync w m h in
      let o = open_now geo sync w m refl r in
      let P = plain_served geo sync (fed geo sync w) w.plain r in
      let d : w.plain.mode ≡ 1 = m.basics.mirrors.mode ∙ o.mode in
      (step geo sync w m).agrees.mode
      ∙ ap (λ (x : Done). x.plain.mode) P
      ∙ sync-cases geo (λ x. x.plain.mode ≡ 1) w.plain
      (λ z. ap (λ (x : Done). x.plain.mode) (PlainLaws.sync_nothing geo w.plain z) ∙ barrier z P (ℕ_discrete w.plain.waiting 0) (dec_le 1 w.plain.power) d)
      (λ z p. ap (λ (x : Done). x.plain.mode) (PlainLaws.sync-finished geo w.plain z p) ∙ d)
      (λ z p. absurd (let k : ◌≡◌ {A = ℕ} 4 0 = sym (ap (λ (x : Done). x.answer) (P ∙ PlainLaws.sync-short geo w.plain z p)) ∙ sym (step geo sync w m).agrees.answer ∙ h in omega arith))
    where
      barrier : length w.plain.G ≡ 0 → plain_step geo sync (fed geo sync w) w.plain ≡ plain_sync geo w.plain → Dec (w.plain.waiting ≡ 0) → Dec (1 ≤ w.plain.power) → w.plain.mode ≡ 1 → (plain_barrier geo w.plain).plain.mode ≡ 1
      barrier z P (yes e) q d = ap (λ (x : Done). x.plain.mode) (PlainLaws.barrier_none geo w.plain e) ∙ d
      barrier z P (no e) (yes q) d = ap (λ (x : Done). x.plain.mode) (PlainLaws.barrier-done geo w.plain e q) ∙ d
      barrier z P (no e) (no q) d =
          absurd (let k : ◌≡◌ {A = ℕ} 4 0 = sym (ap (λ (x : Done). x.answer) (P ∙ PlainLaws.sync_nothing geo w.plain z ∙ PlainLaws.barrier-short geo w.plain e (omega arith))) ∙ sym (step geo sync w m).agrees.answer ∙ h in omega arith)

  pub finished_opens : (c : Call) (w : World) → WorldSim geo w → S.finished geo c w ≡ true → (store_next geo c w).rec.mode ≡ open_mode
  unfolding S.finished
  finished_opens (local c) w m h = absurd (mathlib.Core.Bool.false≢true h)
  finished_opens (direct a b) w m h = absurd (mathlib.Core.Bool.false≢true h)
  finished_opens (save Save.sync) w m h = sync_opens w m (eqb-true _ _ h)
  finished_opens (save Save.apply) w m h = absurd (mathlib.Core.Bool.false≢true h)
  finished_opens (save Save.recover) w m h = recovered_mode geo w m (eqb-true _ _ h)
  finished_opens (cut ms) w m h = absurd (mathlib.Core.Bool.false≢true h)

  -- ---- and nothing waits

  -- nothing waits of direct writes where nothing waits
  idle_writes : (w : World) → WorldSim geo w → w.store.rec.mode ≡ open_mode → w.plain.waiting ≡ 0 → w.plain.writes ≡ []
  unfolding Plain.addresses
  idle_writes w m o z = m.basics.mirrors.writes o ∙ ap Plain.addresses (no_queue (card_in w.store) (sym m.basics.mirrors.waiting ∙ z))

  sync_empties : (w : World) → WorldSim geo w → (dispatch geo sync w.store).answer ≡ 0 → (plain_step geo sync (fed geo sync w) w.plain).plain.writes ≡ []
  sync_empties w m h =
      let r = served_of sync w m h in
      let o = open_now geo sync w m refl r in
      let P = plain_served geo sync (fed geo sync w) w.plain r in
      ap (λ (x : Done). x.plain.writes) P
      ∙ sync-cases geo (λ x. x.plain.writes ≡ []) w.plain
      (λ z. ap (λ (x : Done). x.plain.writes) (PlainLaws.sync_nothing geo w.plain z) ∙ barrier z P o.mode (ℕ_discrete w.plain.waiting 0) (dec_le 1 w.plain.power))
      (λ z p. ap (λ (x : Done). x.plain.writes) (PlainLaws.sync-finished geo w.plain z p))
      (λ z p. absurd (let k : ◌≡◌ {A = ℕ} 4 0 = sym (ap (λ (x : Done). x.answer) (P ∙ PlainLaws.sync-short geo w.plain z p)) ∙ sym (step geo sync w m).agrees.answer ∙ h in omega arith))
    where
      barrier : length w.plain.G ≡ 0 → plain_step geo sync (fed geo sync w) w.plain ≡ plain_sync geo w.plain → w.store.rec.mode ≡ open_mode → Dec (w.plain.waiting ≡ 0) → Dec (1 ≤ w.plain.power) → (plain_barrier geo w.plain).plain.writes ≡ []
      barrier z P o (yes e) q = ap (λ (x : Done). x.plain.writes) (PlainLaws.barrier_none geo w.plain e) ∙ idle_writes w m o e
      barrier z P o (no e) (yes q) = ap (λ (x : Done). x.plain.writes) (PlainLaws.barrier-done geo w.plain e q)
      barrier z P o (no e) (no q) =
          absurd (let k : ◌≡◌ {A = ℕ} 4 0 = sym (ap (λ (x : Done). x.answer) (P ∙ PlainLaws.sync_nothing geo w.plain z ∙ PlainLaws.barrier-short geo w.plain e (omega arith))) ∙ sym (step geo sync w m).agrees.answer ∙ h in omega arith)

  recover_empties : (w : World) → WorldSim geo w → (dispatch geo recover w.store).answer ≡ 0 → (plain_step geo recover (fed geo recover w) w.plain).plain.writes ≡ []
  recover_empties w m h =
      let r = served_of recover w m h in
      let c = found-closed geo w m h in
      let P = plain_served geo recover (fed geo recover w) w.plain r in
      ap (λ (x : Done). x.plain.writes) P ∙ go P w.plain.F refl (dec_le 2 w.plain.power) ∙ c.writes
    where
      found : Disk
      found = (fed geo recover w).found

      go : plain_step geo recover (fed geo recover w) w.plain ≡ plain_recover geo found w.plain → (t : Bool) → w.plain.F ≡ t → Dec (2 ≤ w.plain.power) → (plain_recover geo found w.plain).plain.writes ≡ w.plain.writes
      go P false f q = ap (λ (x : Done). x.plain.writes) (PlainLaws.recover_whole geo found w.plain f)
      go P true f (yes q) = ap (λ (x : Done). x.plain.writes) (PlainLaws.recover_fallback geo found w.plain f q)
      go P true f (no q) =
          absurd (let k : ◌≡◌ {A = ℕ} 4 0 = sym (ap (λ (x : Done). x.answer) (P ∙ PlainLaws.recover-short geo found w.plain f (omega arith))) ∙ sym (step geo recover w m).agrees.answer ∙ h in omega arith)

  pub finished_empties : (c : Call) (w : World) → WorldSim geo w → S.finished geo c w ≡ true → (plain_step geo c (fed geo c w) w.plain).plain.writes ≡ []
  unfolding S.finished
  finished_empties (local c) w m h = absurd (mathlib.Core.Bool.false≢true h)
  finished_empties (direct a b) w m h = absurd (mathlib.Core.Bool.false≢true h)
  finished_empties (save Save.sync) w m h = sync_empties w m (eqb-true _ _ h)
  finished_empties (save Save.apply) w m h = absurd (mathlib.Core.Bool.false≢true h)
  finished_empties (save Save.recover) w m h = recover_empties w m (eqb-true _ _ h)
  finished_empties (cut ms) w m h = absurd (mathlib.Core.Bool.false≢true h)
