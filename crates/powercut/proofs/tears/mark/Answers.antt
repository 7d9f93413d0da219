-- `powercut::tears::mark` meets its contract.
use Rattle.std.proofs.Common.{◌≡◌, ap, ◌∙◌, ◌%◌, Bool, true, false, cond, not, ◌&&◌}
use mir.Val.{bool_byte}
use Rattle.powercut.specs.Tears as Tears
use Rattle.powercut.proofs.tears.mark.Goals as goal
use Rattle.powercut.proofs.tears.mark.Goals.{then-not-tears, else-not-tears}

-- a write that is not torn is kept whole
whole : (t own : Bool) → t ≡ false → bool_byte (not t) ≡ cond (t && not own) 0 1
whole t own e = rw e

-- of one that is torn, a byte
torn : (t own : Bool) → t ≡ true → bool_byte own ≡ cond (t && not own) 0 1
torn t true e = rw e
torn t false e = rw e

pub returns : goal.returns
unfolding Tears.torn_mark
returns c =
    let a = c.args in
    let mark : bool_byte c.if-not-tears.from ≡ cond (c.tears.result && not (Tears.keeps_byte (a.tear % 3) a.j)) 0 1 =
    elim c.if-not-tears.branch [
      | then-not-tears w ↦ ap bool_byte w.from-is ∙ whole _ _ w.if-not-tears.true
      | else-not-tears w ↦ ap bool_byte (w.from-is ∙ w.keeps_byte.ensures) ∙ torn _ _ w.if-not-tears.false
    ] in
    c.from.ensures ∙ mark ∙ ap (λ (t : Bool). cond (t && not (Tears.keeps_byte (a.tear % 3) a.j)) 0 1) c.tears.ensures
