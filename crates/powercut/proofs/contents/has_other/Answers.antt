-- `powercut::contents::has_other` meets its contract.
use Rattle.std.specs.List.{list_any, range_with_len}
use Rattle.std.proofs.Common.{rules, tests, ◌≡◌, refl, ap, sym, ◌∙◌, ℕ, Bool, false, not, ◌||◌}
use Rattle.std.proofs.lemmas.List.FromFn.{get_or-range_with_len}
use Rattle.std.proofs.lemmas.Iterator.{YieldsList-from_range}
use Rattle.std.proofs.lemmas.Iterator.Search.{any_from_yields_List}
use Rattle.journal.specs.Geometry.{trap}
use Rattle.store.specs.Causes.{some}
use Rattle.powercut.specs.Contents.{age_of, holds, is_other}
use Rattle.powercut.specs.Device.{state}
use Rattle.powercut.proofs.Searches.{any-some}
use Rattle.powercut.proofs.contents.has_other.Goals as goal

-- where the photograph's block is not spoilt, the others say it
aside : (t b x : Bool) → t ≡ false → x ≡ b → x ≡ t || b
aside t b x e h = h ∙ ap (λ (u : Bool). u || b) (sym e)

pub returns-else-has_spoilt : goal.returns-else-has_spoilt
unfolding trap
returns-else-has_spoilt c =
    let a = c.args in
    let test : ℕ → Bool = λ address. not (holds address (age_of address a.saves a.after) (state a.device.now)) in
    let found : c.any.result ≡ list_any test (range_with_len 34 30) =
    any_from_yields_List test _ _ c.any.result c.any.ensures.ran (YieldsList-from_range 34 64 30 refl refl) (λ x t q k. search (rules, tests)) in
    let other : list_any test (range_with_len 34 30) ≡ some (is_other a.saves a.after (state a.device.now)) 30 = any-some test _ (range_with_len 34 30) (λ i h. ap test (get_or-range_with_len 34 30 i 0 h)) in
    aside _ _ _ (sym c.has_spoilt.ensures ∙ c.if-has_spoilt.false) (found ∙ other)
