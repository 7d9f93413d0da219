-- What a call comes to: refused, done without orders, or as the rest says.
use Rattle.std.specs.Prelude.{ℕ, cond, eqb}
use Rattle.store.specs.State.{State, Outcome}

-- a refusal leaves everything
abbrev pub refused : ℕ → State → Outcome
refused k st = record { answer = k; orders = 0; state = st }

-- a call that gives no orders and is done
abbrev pub completed : State → Outcome
completed st = record { answer = 0; orders = 0; state = st }

-- a call: refused by its cause, or done
abbrev pub unless : ℕ → State → Outcome → Outcome
unless k st o = cond (eqb k 0) o (refused k st)
