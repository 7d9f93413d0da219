-- A format in the midst of the worked scripts: what the plain disk's n and F say of it.
use Prim.Native.Nat.{ℕ, ◌<◌}
use mathlib.Core.Path.{◌≡◌, ap, sym, ◌∙◌}
use mathlib.Core.Logic.{◌≢◌}
use mathlib.Core.Bool.{Bool, true}
use mathlib.Core.List.{[]}
use native.Mathlib.Omega.{arith}
use Rattle.crash.specs.Laid.{Laid}
use Rattle.journal.specs.Geometry.{trap}
use Rattle.store.specs.State.{Outcome, down}
use Rattle.store.specs.Outcomes.{refused}
use Rattle.store.specs.Format.{format_call}
use Rattle.store.proofs.Causes.{sizes_facts}
use Rattle.history.specs.Plain.{Plain}
use Rattle.history.specs.History.{World}
use Rattle.history.specs.Formats.{count_in, Guards, GuardsPlain}
use Rattle.history.proofs.Relation.EvenLedgers.{even_refl}
use Rattle.history.proofs.Steps.Shown.{WorldSim}
use Rattle.history.proofs.Boundary.Guards.{guards, guards_plain}
use Rattle.history.proofs.Worked.Plain.{open_at, closed_at}

module _ (w : World) (m : WorldSim trap w) where
  guarded : Guards trap w
  guarded = guards trap w (record { ledger = w.ledger; plain = w.plain; sim = m; even = even_refl w.ledger })

  pub format_turned : 0 < count_in w.store.settled → format_call trap w.store ≡ refused 13 w.store
  format_turned h =
      let s = sizes_facts trap w.store m.basics.sizes in
      guarded.turned h w.store.rec w.store.waiting w.store.work s.waiting s.work

  pub format_served : count_in w.store.settled ≡ 0 → (format_call trap w.store).answer ≡ 0
  format_served h =
      let s = sizes_facts trap w.store m.basics.sizes in
      ap (λ (o : Outcome). o.answer) (guarded.served h w.store.rec w.store.waiting w.store.work s.waiting s.work)

  by_plain : {d : Plain} → w.plain ≡ d → d.mode ≢ down → GuardsPlain trap w
  by_plain e n = guards_plain trap w m (λ z. n (ap (λ (d : Plain). d.mode) (sym e) ∙ m.basics.mirrors.mode ∙ z))

  -- open, with n entries in the log
  pub open_count : {S : Laid} {n p : ℕ} → w.plain ≡ open_at S [] [] n p → count_in w.store.settled ≡ n
  open_count e = (by_plain e (λ z. omega arith)).whole (ap (λ (d : Plain). d.F) e) ∙ ap (λ (d : Plain). d.n) e

  -- closed, with a fallback to come
  pub fall_count : {S : Laid} {n p : ℕ} {F : Bool} → w.plain ≡ closed_at S n p F → F ≡ true → 0 < count_in w.store.settled
  fall_count e f = let above = (by_plain e (λ z. omega arith)).fallback (ap (λ (d : Plain). d.F) e ∙ f) in omega arith
