-- `script::field::split_once` meets its contract.
use Prim.Native.Nat.{◌+◌, ◌-◌, ◌≤◌}
use mathlib.Core.Path.{◌≡◌, sym, ◌∙◌}
use native.Mathlib.Omega.{arith}
use lib.Dec.{eqb}
use native.Mathlib.Numerals.{add-one}
use lib.ListN.{length, drop, length-drop}
use lib.Seq.{take_all}
use Rattle.std.specs.Prelude.{position}
use Rattle.std.proofs.Common.{rules, tests}
use Rattle.std.proofs.lemmas.Iterator.{YieldsList-from_slice}
use Rattle.std.proofs.lemmas.Iterator.Search.{position_from_yields_List}
use Rattle.script.specs.Fields.{tab}
use Rattle.script.proofs.Pieces.{tab_at, no_tab, fields-one, fields_more}
use Rattle.script.proofs.field.split_once.Goals as goal

pub returns-in-Some : goal.returns-in-Some
returns-in-Some c =
    let s = c.args.s.now in
    let i = c.in-Some.at in
    let first : c.position.result ≡ position (λ b. eqb b tab) s = position_from_yields_List (λ b. eqb b tab) _ _ c.position.result c.position.ensures.ran (YieldsList-from_slice s c.iter.ensures.rest) (λ x b q k. search (rules, tests)) in
    let at = tab_at s i (sym first ∙ c.in-Some.is) in
    let all : length (drop (i + 1) s) ≤ length s - (i + 1) = rw (length-drop) (omega arith) in
    rw (take_all (length s - (i + 1)) (drop (i + 1) s) all, add-one, at.0) (fields_more s (omega (arith, at)))

pub returns-in-None : goal.returns-in-None
returns-in-None c =
    let s = c.args.s.now in
    let first : c.position.result ≡ position (λ b. eqb b tab) s = position_from_yields_List (λ b. eqb b tab) _ _ c.position.result c.position.ensures.ran (YieldsList-from_slice s c.iter.ensures.rest) (λ x b q k. search (rules, tests)) in
    fields-one s (no_tab s (sym first ∙ c.in-None.is))
