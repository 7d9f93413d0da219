-- Refusals of tally and alike, and of the calls as C sees them.
use Prim.Native.Nat.{ℕ}
use mathlib.Core.Path.{◌≡◌, refl, ap, sym, ◌∙◌}
use mathlib.Core.Logic.{◌≢◌, ◌⊎◌}
use mathlib.Core.Bool.{true, false, cond}
use mathlib.Core.List.{List}
use borrow.Author.Tests.{eq-eqb, ne_eqb}
use Rattle.journal.specs.Geometry.{Geometry}
use Rattle.journal.specs.declared.choice.Choice.{Choice}
use Rattle.journal.specs.declared.choice.Choice.TheVariants.{Whole, Fallback, Foreign, Neither}
use Rattle.journal.specs.Layout.{wrong_size}
use Rattle.journal.specs.Choice.{choice_number}
use Rattle.store.specs.State.{State}
use Rattle.store.specs.CodeState.{state_of}
use Rattle.store.specs.Request as Request
use Rattle.store.specs.Causes.{cause}
use Rattle.store.specs.Get.{get_place}
use Rattle.store.specs.Save.{Save}
use Rattle.store.specs.Cost.{Cost, cost_of}
use Rattle.store.proofs.Costs.{cost_refused, cost_served}
use Rattle.inspect.specs.Reading.{chosen, inspection}
use Rattle.inspect.specs.Tally.{tally_of}
use Rattle.inspect.specs.Alike.{alike_of}
use Rattle.firmware.specs.Face.{decode_record, face_of, handed, got_of, got_in, told, compared}
use Rattle.firmware.proofs.Records.{encode-decode}
use Rattle.firmware.proofs.Faces.{faced-length, faced-outcome, got-length, got_place, listed-length, listed-listing, asked-length, asked_cost}
use Rattle.history.specs.Dispatch.{called}
use Rattle.history.specs.Refusals.{NoPart, Inspects, Reads, Faces, Gets, ListFaces, Asks, Answers}

-- ---- tally and alike

chosen_known : (c : Choice) → choice_number c ≢ 0 → (choice_number c ≡ 8) ⊎ (choice_number c ≡ 9)
chosen_known (Whole n sum c) h = absurd (h refl)
chosen_known (Fallback n sum c) h = absurd (h refl)
chosen_known Foreign h = ◌⊎◌.inl refl
chosen_known Neither h = ◌⊎◌.inr refl

module _ (geo : Geometry) where
  inspects : (s : List ℕ) → Inspects geo s
  unfolding inspection
  inspects s = record { size = λ e. rw e; unsound = λ e. rw e; known = known (wrong_size geo s) }
    where
      known : (t : mathlib.Core.Bool.Bool) → cond t 1 (choice_number (chosen geo s)) ≢ 0
          → (cond t 1 (choice_number (chosen geo s)) ≡ 1) ⊎ ((cond t 1 (choice_number (chosen geo s)) ≡ 8) ⊎ (cond t 1 (choice_number (chosen geo s)) ≡ 9))
      known true h = ◌⊎◌.inl refl
      known false h = ◌⊎◌.inr (chosen_known (chosen geo s) h)

  pub reads : (a b : List ℕ) → Reads geo a b
  unfolding tally_of alike_of compared
  reads a b = record {
    inspects = inspects a;
    tally_refuses = λ h. rw (ne_eqb (inspection geo a) 0 h);
    tally_serves = λ e. e;
    alike_first = λ h. rw (ne_eqb (inspection geo a) 0 h, ne_eqb (inspection geo a) 0 h);
    alike_second = λ e h. rw (eq-eqb (inspection geo a) 0 e, ne_eqb (inspection geo b) 0 h);
    alike_serves = λ e f. rw (eq-eqb (inspection geo a) 0 e) f;
  }

  -- ---- get

  pub parts : (a : ℕ) (st : State) → NoPart geo a st
  unfolding get_place
  parts a st = record {
    block = λ h. rw (ne_eqb (cause geo (Request.get a) st) 0 h);
    part = λ h settled waiting work. rw (ne_eqb (cause geo (Request.get a) st) 0 h);
  }

  -- ---- what C sees

  pub faces : (answers : (q : Request.Request) (st : State) → Answers geo q st) (q : Request.Request) (r s w k : List ℕ) → Faces geo q r s w k
  faces answers q r s w k = record {
    size = λ h. sym (faced-length (called geo q) r s w k h);
    answers = λ l. ap (λ f. f.number) (sym (faced-outcome (called geo q) r s w k l));
    refuses = λ l b h.
        sym (faced-outcome (called geo q) r s w k l)
        ∙ ap handed ((answers q (state_of (decode_record r) s w k)).refuses h)
        ∙ ap (λ (x : List ℕ). face_of (cause geo q (state_of (decode_record r) s w k)) 0 x s w k) (encode-decode r l b);
  }

  pub gets : (a : ℕ) (r s w k : List ℕ) → Gets geo a r s w k
  unfolding get_place
  gets a r s w k = record {
    size = λ h. sym (got-length geo a r s w k h);
    refuses = λ l h. sym (got_place geo a r s w k l) ∙ nowhere h;
    serves = λ l e. ap (λ g. g.number) (sym (got_place geo a r s w k l)) ∙ e;
  }
    where
      st : State
      st = state_of (decode_record r) s w k

      nowhere : cause geo (Request.get a) st ≢ 0 → got_in geo a st ≡ got_of (cause geo (Request.get a) st) 0 0
      nowhere h = rw (ne_eqb (cause geo (Request.get a) st) 0 h)

  pub lists : (xs bs r s w k : List ℕ) → ListFaces geo xs bs r s w k
  lists xs bs r s w k = record {
    size = λ h. sym (listed-length geo xs bs r s w k h);
    answers = λ l. sym (listed-listing geo xs bs r s w k l);
  }

  pub asks : (c : Save) (r s w k : List ℕ) → Asks geo c r s w k
  asks c r s w k = record {
    size = λ h. sym (asked-length (cost_of geo c) r s w k h);
    refuses = λ l h. sym (asked_cost (cost_of geo c) r s w k l) ∙ ap told (sym (cost_refused geo (state_of (decode_record r) s w k) c _ refl h));
    serves = λ l e. sym (asked_cost (cost_of geo c) r s w k l) ∙ (λ j. record { number = done e j; orders = x.orders; applies = cond x.applies 1 0; peak = x.peak; reaches = cond x.reaches 1 0 });
  }
    where
      x : Cost
      x = cost_of geo c (state_of (decode_record r) s w k)

      done : cause geo (Request.save c) (state_of (decode_record r) s w k) ≡ 0 → x.number ≡ 0
      done e = ap (λ (y : Cost). y.number) (sym (cost_served geo (state_of (decode_record r) s w k) c 0 (sym e) refl))
