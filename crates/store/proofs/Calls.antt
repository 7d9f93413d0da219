-- A call: refused by its cause, or done.
use Prim.Native.Nat.{ℕ}
use mathlib.Core.Path.{◌≡◌}
use borrow.Author.Tests.{eq-eqb}
use Rattle.refusals.specs.declared.Refusal.{Refusal}
use Rattle.refusals.specs.Numbers.{number_of}
use Rattle.refusals.proofs.Nonzero.{refusal_nonzero}
use Rattle.store.specs.State.{State, Outcome}
use Rattle.store.specs.Outcomes.{refused, unless}

-- k being the cause
pub call_refused : (e : Refusal) (k : ℕ) (st : State) (o : Outcome) → number_of e ≡ k → refused (number_of e) st ≡ unless k st o
call_refused e k st o h = rw (← h, refusal_nonzero e)

-- n being the number that was computed
pub call_done : (n k : ℕ) (st : State) (o : Outcome) → n ≡ k → n ≡ 0 → o ≡ unless k st o
call_done n k st o e h = rw (← e, eq-eqb n 0 h)
