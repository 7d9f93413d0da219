-- 0 is no cause's number: it is what a call answers that is not refused.
use Rattle.std.proofs.Common.{◌≡◌, refl}
use Rattle.std.specs.Prelude.{Result, Ok, Err, true, false, eqb}
use Rattle.std.specs.Result.{is_err}
use mathlib.Core.Bool.{true≢false, false≢true}
use Rattle.refusals.specs.declared.Refusal.{Refusal}
use Rattle.refusals.specs.declared.Refusal.TheVariants.{Size, Record, Closed, Down, Open, Address, Full, Foreign, Unsound, Marks, LastSave, InUse, Listed}
use Rattle.refusals.specs.Numbers.{number_of, answer}

pub refusal_nonzero : (e : Refusal) → eqb (number_of e) 0 ≡ false
refusal_nonzero Size = refl
refusal_nonzero Record = refl
refusal_nonzero Closed = refl
refusal_nonzero Down = refl
refusal_nonzero Open = refl
refusal_nonzero Address = refl
refusal_nonzero Full = refl
refusal_nonzero Foreign = refl
refusal_nonzero Unsound = refl
refusal_nonzero Marks = refl
refusal_nonzero LastSave = refl
refusal_nonzero InUse = refl
refusal_nonzero Listed = refl

-- ---- a result that is only asked whether it is a refusal

pub answer_err : {A : Type 0} → (r : Result A Refusal) → is_err r ≡ true → eqb (answer r) 0 ≡ false
answer_err (Ok x) e = absurd (false≢true e)
answer_err (Err e) h = refusal_nonzero e

pub answer_ok : {A : Type 0} → (r : Result A Refusal) → is_err r ≡ false → answer r ≡ 0
answer_ok (Ok x) h = refl
answer_ok (Err e) h = absurd (true≢false h)
