-- `inspect::alike::alike` meets its contract.
use mathlib.Core.Path.{sym, ◌∙◌}
use Rattle.std.proofs.lemmas.Result.{err_from_is_err_and}
use Rattle.journal.specs.Geometry.{trap}
use Rattle.inspect.proofs.Comparisons.{alike_first, alike_second, alike_unlike, alike_contents}
use Rattle.inspect.proofs.alike.alike.Goals as goal

pub returns-in_err-first : goal.returns-in_err-first
returns-in_err-first c =
    let p = err_from_is_err_and c.from_residual.result c.from_residual.ensures.1 in
    rw (p.1, p.2) (alike_first trap _ _ _ c.in_err-first.ensures)

pub returns-in_err-second : goal.returns-in_err-second
returns-in_err-second c =
    let p = err_from_is_err_and c.from_residual-in_err-second.result c.from_residual-in_err-second.ensures.1 in
    rw (p.1, p.2) (alike_second trap _ _ _ c.in_ok-first.ensures.none c.in_err-second.ensures)

pub returns-then-eq : goal.returns-then-eq
returns-then-eq c =
    alike_contents trap _ _ _ _ c.in_ok-first.ensures c.in_ok-second.ensures _ (sym c.eq.ensures ∙ c.if-eq.true) c.same_contents.ensures

pub returns-else-eq : goal.returns-else-eq
returns-else-eq c =
    rw c.if-eq.false (alike_unlike trap _ _ _ _ c.in_ok-first.ensures c.in_ok-second.ensures (sym c.eq.ensures ∙ c.if-eq.false))
