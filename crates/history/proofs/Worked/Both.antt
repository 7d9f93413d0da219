-- Document 01's two worked scripts, and those in which a block is torn. The statement stands in specs/Worked.antt.
use Prim.Native.Nat.{ℕ, ◌+◌, ◌-◌, ◌^◌, ◌<◌}
use mathlib.Core.Path.{◌≡◌, refl, ap, sym, subst, ◌∙◌}
use mathlib.Core.Logic.{◌⊎◌}
use mathlib.Core.Bool.{Bool, true, false, ◌&&◌}
use mathlib.Core.List.{List, [], ◌∷◌, ◌++◌, map}
use native.Mathlib.Omega.{arith}
use lib.Dec.{eqb}
use Rattle.card.specs.Disk.{lay, overlay}
use Rattle.crash.specs.Laid.{Laid, lay_over}
use Rattle.card.specs.Card.{block_at, blocks_in}
use Rattle.card.specs.Marks.{kept_at, all_kept, marks_of, spread}
use Rattle.card.proofs.Spreads.{marks_of-all}
use Rattle.journal.specs.Geometry.{trap}
use Rattle.script.specs.Replies.{values}
use Rattle.store.specs.State.{State}
use Rattle.store.specs.Outcomes.{refused}
use Rattle.store.specs.Format.{format_call}
use Rattle.history.specs.Call.{power, put, commit, sync, apply, cut}
use Rattle.history.specs.Plain.{fresh, blank_plain, still}
use Rattle.history.specs.Dispatch.{dispatch}
use Rattle.history.specs.History.{World, begun, next, after, accepted_cut, exception}
use Rattle.history.specs.Statements as S
use Rattle.history.specs.Statements.{no_cut, EndsFinished, decided, known}
use Rattle.history.specs.Linked.{AllPassable}
use Rattle.history.specs.Worked.{halted, cut101, cut111, cut_half, cut_fifth, cut_header, met_by_cut, met_by_recover, sevens, nines, at40, filed, crashed, answers, Script, Worked}
use Rattle.history.proofs.Steps.ListInduction.{begun_sim, begun-blank}
use Rattle.history.proofs.Atomicity.Splits.{found_counted}
use Rattle.history.proofs.Worked.TornMarks.{header-half, all-half, header-fifth, all-fifth}
use Rattle.history.proofs.Worked.Plain.{open_at, plain_put, plain_commit, plain_filed, plain_applied, header_101, header_111, Went, went}
use Rattle.history.proofs.Worked.Sync.{filed-log, filed-next, filed_slot}
use Rattle.history.proofs.Worked.Second.{put_settled, commit_settled, length-sevens, zeros, old, Filed, Cuts, lost_cuts, lost-falls, halved_cuts, all_111, whole_cuts, fifth_cuts, header_refused, accepted, t₆, t₇, block, number, all_clean, none_done, fated, later_lines}
use Rattle.history.proofs.Worked.Formats.{format_turned, format_served, open_count, fall_count}
use Rattle.history.proofs.Worked.Drawn.{photographed_script, barred_script}
use Rattle.history.proofs.Worked.Blank as Blank

-- ---- the whole scripts

module _ (st : State) (f : (format_call trap st).answer ≡ 0) (size : blocks_in st.settled ≡ 64) where
  plain₀ : (begun trap st).plain ≡ open_at zeros [] [] 0 1000000
  unfolding begun fresh
  plain₀ = ap blank_plain size

  abbrev w₁ : World
  w₁ = next trap (put 40 sevens) (begun trap st)

  abbrev w₂ : World
  w₂ = next trap commit w₁

  abbrev w₃ : World
  w₃ = next trap sync w₂

  s₁ : Went (put 40 sevens) (begun trap st) (still (open_at zeros [] (at40 sevens ∷ []) 0 1000000))
  unfolding exception accepted_cut
  s₁ = went (put 40 sevens) (begun trap st) _ _ (begun_sim trap st f) refl plain₀ (plain_put _ zeros 0 1000000 sevens length-sevens)

  s₂ : Went commit w₁ (still (open_at zeros (at40 sevens ∷ []) [] 0 1000000))
  unfolding exception accepted_cut
  s₂ = went commit w₁ _ _ s₁.sim refl s₁.plain (plain_commit _ zeros 0 1000000 sevens)

  s₃ : Went sync w₂ (record { answer = 0; orders = 4; plain = open_at old [] [] 1 999996 })
  unfolding exception accepted_cut
  s₃ = went sync w₂ _ _ s₂.sim refl s₂.plain (plain_filed _ zeros sevens refl)

  all-filed : Filed w₃
  unfolding begun next
  all-filed = record {
    sim = s₃.sim;
    clean = s₃.clean ∙ s₂.clean ∙ s₁.clean;
    plain = s₃.plain;
    log = filed-log w₂ s₂.sim zeros refl sevens s₂.plain;
    free = filed-next w₂ s₂.sim zeros refl sevens s₂.plain;
    slot =
        filed_slot w₂ s₂.sim zeros refl sevens s₂.plain
        ∙ ap (λ (s : List ℕ). block_at s 3) (commit_settled w₁.store ∙ put_settled 40 sevens (begun trap st).store)
        ∙ begun-blank trap st f 3 (λ z. omega arith) (omega (arith, size));
  }

  ends : EndsFinished trap filed (begun trap st)
  unfolding after S.finished
  ends = ◌⊎◌.inr (put 40 sevens ∷ commit ∷ [], sync, refl, ap (λ (a : ℕ). eqb a 0) s₃.answer)

  module _ (ms : List ℕ) (same : Bool) (k : ℕ) (laid : Laid) (c : Cuts w₃ ms same k laid) where
    passable : AllPassable (filed ++ crashed ms)
    passable =
        let none : (k : ℕ) → ◌≡◌ {A = ℕ} 0 1 → k < 2 ^ 32 = λ k z. omega arith in
        (λ k e. none k cc, (λ k e. none k cc, (λ k e. none k cc, (λ k e. none k cc, (λ k e. none k cc, (λ k e. let z : 3 ≡ k = cc in omega arith, (λ k e. none k cc, (λ k e. none k cc, (λ k e. let z : 100 ≡ k = cc in omega arith, tt)))))))))

    last-cut : no_cut trap (power 100 ∷ []) (next trap (cut ms) (after trap halted w₃)) ≡ true
    unfolding no_cut accepted_cut
    last-cut = refl

    script : (new all : Bool) (b : List ℕ) → kept_at ms 2 && same ≡ new → all_kept ms ≡ all → laid.disk 40 ≡ b → Script st ms same new all k laid.groups b
    unfolding after answers next
    script new all b p q e =
        record {
          lines = λ j. (s₁.answer j, s₁.orders j) ∷ (s₂.answer j, s₂.orders j) ∷ (s₃.answer j, s₃.orders j) ∷ later_lines w₃ all-filed ms same k laid c j;
          ends = ends;
          none = none_done w₃ all-filed ms same k laid c;
          accepted = accepted w₃ all-filed ms c.fit;
          found = c.found;
          usual = c.usual;
          passed = passable;
          last = last-cut;
          clean = all_clean w₃ all-filed ms same k laid c;
          answer = (t₇ w₃ all-filed ms same k laid c).answer;
          orders = (t₇ w₃ all-filed ms same k laid c).orders;
          fated = fated w₃ all-filed ms same k laid c ∙ (λ j. known (decided (at40 nines ∷ []) (p j) (q j)));
          number = number w₃ all-filed ms same k laid c;
          groups =
              sym (found_counted trap st f (filed ++ crashed ms) (t₇ w₃ all-filed ms same k laid c).answer (all_clean w₃ all-filed ms same k laid c))
              ∙ number w₃ all-filed ms same k laid c;
          block = block w₃ all-filed ms same k laid c ∙ e;
        }

  lost : Script st cut101 false false false 2 1 sevens
  unfolding overlay lay
  lost = script cut101 false 2 old (lost_cuts w₃ all-filed) false false sevens (ap (λ (t : Bool). t && false) header_101) (marks_of-all _) refl

  whole : Script st cut111 true true true 0 2 nines
  unfolding overlay lay
  whole = script cut111 true 0 (lay_over (at40 nines ∷ []) old) (whole_cuts w₃ all-filed) true true nines (ap (λ (t : Bool). t && true) header_111) all_111 refl

  halved_script : Script st cut_half false false false 2 1 sevens
  unfolding overlay lay
  halved_script = script cut_half false 2 old (halved_cuts w₃ all-filed) false false sevens (ap (λ (t : Bool). t && false) header-half) all-half refl

  harmless : Script st cut_fifth true true false 0 2 nines
  unfolding overlay lay
  harmless = script cut_fifth true 0 (lay_over (at40 nines ∷ []) old) (fifth_cuts w₃ all-filed) true false nines (ap (λ (t : Bool). t && true) header-fifth) all-fifth refl

  header : dispatch trap (cut cut_header) (met_by_cut st).store ≡ record { answer = 10; orders = 0; state = (met_by_cut st).store }
  unfolding after
  header = header_refused w₃ all-filed

  -- ---- a format in the midst of them

  turned_down : format_call trap w₃.store ≡ refused 13 w₃.store
  turned_down = format_turned w₃ s₃.sim (subst (λ (k : ℕ). 0 < k) (sym (open_count w₃ s₃.sim s₃.plain)) (lib.Dec.lit< tt))

  needs_fallback : format_call trap (met_by_recover cut101 st).store ≡ refused 13 (met_by_recover cut101 st).store
  unfolding after
  needs_fallback =
      let x = t₆ w₃ all-filed cut101 false 2 old (lost_cuts w₃ all-filed) in
      format_turned (met_by_recover cut101 st) x.sim (fall_count (met_by_recover cut101 st) x.sim x.plain (lost-falls w₃ all-filed))

  s₄ : Went apply w₃ (record { answer = 0; orders = 4; plain = open_at old [] [] 0 999992 })
  unfolding exception accepted_cut
  s₄ = went apply w₃ _ _ s₃.sim refl s₃.plain (plain_applied _ old)

  is_served : (format_call trap (next trap apply w₃).store).answer ≡ 0
  is_served = format_served (next trap apply w₃) s₄.sim (open_count (next trap apply w₃) s₄.sim s₄.plain)

-- each digit has its value
digit_values : (ds : List ℕ) → values (map (λ d. 48 + d) ds) ≡ ds
unfolding values
digit_values [] = refl
digit_values (d ∷ ds) = let z : 48 + d - 48 ≡ d = omega arith in rw (z, digit_values ds)

pub worked : Worked
unfolding marks_of spread after
worked = record {
  lost = lost;
  whole = whole;
  halved = halved_script;
  harmless = harmless;
  header = header;
  digits = λ ds. ap spread (digit_values ds);
  spreads = (refl, refl, refl);
  turned = turned_down;
  fallback = needs_fallback;
  applied = is_served;
  photographed = photographed_script;
  barred = barred_script;
  card = Blank.blank;
}
