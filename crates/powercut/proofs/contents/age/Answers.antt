-- `powercut::contents::age` meets its contract.
use Rattle.std.proofs.Common.{◌≡◌, sym, ◌∙◌, ℕ, Bool, false, cond, ◌&&◌}
use Rattle.powercut.specs.Contents.{of_save, age_of}
use Rattle.powercut.proofs.contents.age.Goals as goal
use Rattle.powercut.proofs.contents.age.Goals.{else-after-via-then-after+else-of_save, else-after-via-else-after}

-- not a block of the save, or before it
unchanged : (both : Bool) (age : ℕ) → both ≡ false → age ≡ cond both 2 age
unchanged both age e = rw e

pub returns-then-of_save : goal.returns-then-of_save
unfolding age_of
returns-then-of_save c = rw (c.if-after.true, sym c.of_save.ensures ∙ c.if-of_save.true)

pub returns : goal.returns
unfolding age_of
returns c =
    let a = c.args in
    let old : a.after && of_save a.address ≡ false = elim c.else-after.branch [
      | else-after-via-then-after+else-of_save w ↦ rw (w.if-after.true, sym w.of_save.ensures ∙ w.if-of_save.false)
      | else-after-via-else-after w ↦ rw w.if-after.false
    ] in
    c.old_age.ensures ∙ unchanged _ _ old
