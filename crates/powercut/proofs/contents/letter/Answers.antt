-- `powercut::contents::letter` meets its contract.
use mathlib.Core.Path.{sym, ◌∙◌}
use Rattle.powercut.specs.Contents.{letter_of}
use Rattle.powercut.proofs.contents.letter.Goals as goal

pub returns-then-not-has_other : goal.returns-then-not-has_other
unfolding letter_of
returns-then-not-has_other c = rw (sym c.has_other.ensures ∙ c.if-not-has_other.true)

pub returns-then-not-has_other-2 : goal.returns-then-not-has_other-2
unfolding letter_of
returns-then-not-has_other-2 c = rw (sym c.has_other.ensures ∙ c.if-not-has_other.false, sym c.has_other-2.ensures ∙ c.if-not-has_other-2.true)

pub returns : goal.returns
unfolding letter_of
returns c = rw (sym c.has_other.ensures ∙ c.if-not-has_other.false, sym c.has_other-2.ensures ∙ c.if-not-has_other-2.false)
