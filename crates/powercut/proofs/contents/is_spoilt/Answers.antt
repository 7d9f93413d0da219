-- `powercut::contents::is_spoilt` meets its contract.
use Rattle.std.specs.List.{list_any}
use Rattle.std.proofs.Common.{arith, rules, tests, ◌≡◌, refl, ap, ◌∙◌, ℕ, Bool, not, ◌||◌, length, get_or}
use Rattle.std.proofs.lemmas.Iterator.{YieldsList-from_slice}
use Rattle.std.proofs.lemmas.Iterator.Search.{any_from_yields_List}
use borrow.Author.Tests.{eq-eqb}
use lib.Dec.{eqb}
use Rattle.store.specs.Causes.{some}
use Rattle.powercut.specs.Contents.{is_either, is_spoilt}
use Rattle.powercut.proofs.Searches.{any-some}
use Rattle.powercut.proofs.contents.is_spoilt.Goals as goal

-- a block of the right size
sized : (f : ℕ → Bool) (n m : ℕ) → n ≡ m → some f n ≡ not (eqb n m) || some f m
sized f n m e = rw (eq-eqb n m e) (ap (some f) e)

pub returns-then-block-ne-BLOCK : goal.returns-then-block-ne-BLOCK
unfolding is_spoilt
returns-then-block-ne-BLOCK c = grind arith

pub returns-else-block-ne-BLOCK : goal.returns-else-block-ne-BLOCK
unfolding is_spoilt
returns-else-block-ne-BLOCK c =
    let block : _ = c.args.block.now in
    let neither : ℕ → Bool = λ b. not (is_either b) in
    let place : ℕ → Bool = λ j. neither (get_or block j 0) in
    let size : length block ≡ 512 = c.if-block-ne-BLOCK.false in
    let found : c.any.result ≡ list_any neither block =
    any_from_yields_List neither _ _ c.any.result c.any.ensures.ran (YieldsList-from_slice block c.iter.ensures.rest) (λ x t q k. search (rules, tests)) in
    let spoilt : list_any neither block ≡ some place (length block) = any-some neither place block (λ i h. refl) in
    found ∙ spoilt ∙ sized place _ _ size
