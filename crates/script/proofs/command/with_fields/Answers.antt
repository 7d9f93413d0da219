-- `script::command::with_fields` meets its contract.
use Prim.Native.Nat.{ℕ}
use mathlib.Core.Path.{◌≡◌, ap, sym, ◌∙◌}
use mathlib.Core.List.{List, [], ◌∷◌}
use denote.Ref.{Bor}
use Rattle.std.specs.Prelude.{Option}
use Rattle.script.specs.Fields.{fields, behind}
use Rattle.script.specs.Commands.{understood}
use Rattle.script.proofs.Pieces.{understood_many}
use Rattle.script.proofs.command.with_fields.Goals as goal

pub returns-in_default-None : goal.returns-in_default-None
unfolding understood
returns-in_default-None c =
    let x = c.split_once.result.0.now in
    let one : fields c.args.rest.now ≡ x ∷ [] = c.split_once.ensures ∙ ap (λ (o : Option (Bor (List ℕ))). x ∷ behind o) c.in_default-None.is-1 in
    rw one c.with_one.ensures

pub returns-in_default-None-split_once : goal.returns-in_default-None-split_once
unfolding understood
returns-in_default-None-split_once c =
    let x = c.split_once.result.0.now in
    let second = c.split_once-in_default-Some in
    let y = second.result.0.now in
    let more : fields c.args.rest.now ≡ x ∷ fields c.in_default-Some.more.now = c.split_once.ensures ∙ ap (λ (o : Option (Bor (List ℕ))). x ∷ behind o) c.in_default-Some.is-1 in
    let last : fields c.in_default-Some.more.now ≡ y ∷ [] =
    sym (ap (λ (r : Bor (List ℕ)). fields r.now) c.in_default-Some.more-is) ∙ second.ensures ∙ ap (λ (o : Option (Bor (List ℕ))). y ∷ behind o) c.in_default-None-split_once.is-1 in
    rw (more, last) c.with_two.ensures

pub returns-in_default-Some-split_once : goal.returns-in_default-Some-split_once
returns-in_default-Some-split_once c =
    let x = c.split_once.result.0.now in
    let second = c.split_once-in_default-Some in
    let y = second.result.0.now in
    let more : fields c.args.rest.now ≡ x ∷ fields c.in_default-Some.more.now = c.split_once.ensures ∙ ap (λ (o : Option (Bor (List ℕ))). x ∷ behind o) c.in_default-Some.is-1 in
    let others : fields c.in_default-Some.more.now ≡ y ∷ behind second.result.1 = sym (ap (λ (r : Bor (List ℕ)). fields r.now) c.in_default-Some.more-is) ∙ second.ensures in
    rw (more, others, c.in_default-Some-split_once.is-1) (sym (understood_many _ _ _ _))
