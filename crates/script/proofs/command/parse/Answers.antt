-- `script::command::parse` meets its contract.
use Prim.Native.Nat.{ℕ, ◌≤◌, ◌<◌}
use mathlib.Core.Path.{◌≡◌, ap, ◌∙◌}
use mathlib.Core.List.{List, [], ◌∷◌}
use native.Mathlib.Omega.{arith}
use denote.Ref.{Bor}
use borrow.Author.Tests.{lt-ltb, le-ltb}
use lib.ListN.{length}
use Rattle.std.specs.Prelude.{Option}
use Rattle.script.specs.Fields.{fields, behind}
use Rattle.script.specs.Commands.{line_bytes, parse, understood}
use Rattle.script.proofs.command.parse.Goals as goal

pub returns-then-line-gt-LINE : goal.returns-then-line-gt-LINE
unfolding parse
returns-then-line-gt-LINE c = let long : line_bytes < length c.args.line.now = omega arith in rw (lt-ltb _ _ long)

pub returns-in_default-None : goal.returns-in_default-None
unfolding parse understood
returns-in_default-None c =
    let word = c.split_once.result.0.now in
    let fits : length c.args.line.now ≤ line_bytes = omega arith in
    let one : fields c.args.line.now ≡ word ∷ [] = c.split_once.ensures ∙ ap (λ (o : Option (Bor (List ℕ))). word ∷ behind o) c.in_default-None.is-1 in
    rw (le-ltb _ _ fits, one) c.alone.ensures

pub returns-in_default-Some : goal.returns-in_default-Some
unfolding parse
returns-in_default-Some c =
    let word = c.split_once.result.0.now in
    let fits : length c.args.line.now ≤ line_bytes = omega arith in
    let more : fields c.args.line.now ≡ word ∷ fields c.in_default-Some.rest.now = c.split_once.ensures ∙ ap (λ (o : Option (Bor (List ℕ))). word ∷ behind o) c.in_default-Some.is-1 in
    rw (le-ltb _ _ fits, more) (c.with_fields.ensures ∙ ap (λ (r : Bor (List ℕ)). understood (word ∷ fields r.now)) c.in_default-Some.rest-is)
