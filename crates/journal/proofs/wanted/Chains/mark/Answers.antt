-- `journal::wanted::Chains::mark` meets its contract: from place i on all were compared with the address.
use Rattle.std.proofs.Common.{◌≡◌, ◌≤◌, ◌<◌, ◌-◌, refl, sym, ◌∙◌, arith, length, get_or}
use borrow.Author.Tests.{eq-eqb, ne_eqb}
use Rattle.std.specs.Prelude.{Some, None}
use lib.ListN.{set, length-set}
use lib.Seq.{get_or-set_same, get_or-set_other}
use Rattle.journal.proofs.Chains.{before_le, compared-last, compared_on, compared-met}
use Rattle.journal.proofs.wanted.Chains.mark.Goals.{then-a-wanted, else-a-wanted}
use Rattle.journal.proofs.wanted.Chains.mark.Goals as goal

pub loop-i-init : goal.loop-i-init
loop-i-init g c = let a = c.args in let s = a.self.now in compared-last s.list.now s.last s.before a.a a.k a.met.now s.chained _ refl

pub loop-i-preserved : goal.loop-i-preserved
loop-i-preserved g c =
    let a = c.args in
    let s = a.self.now in
    let l = c.loop-i in
    let p = l.i - 1 in
    let here : p < length l.met = omega (arith, l.invariant.inside, l.invariant.size) in
    let on = compared_on s.list.now s.last s.before a.a a.k a.met.now s.chained l.met in
    elim c.if-a-wanted.branch [
      | then-a-wanted w ↦ rw w.met-is (on (set l.met p (Some a.k)) l.i _ (omega arith) l.invariant (length-set l.met p (Some a.k)) (λ j h. get_or-set_other l.met p j (Some a.k) None h) (get_or-set_same l.met p (Some a.k) None here ∙ rw (eq-eqb _ _ (w.if-a-wanted.true ∙ c.wanted.ensures))) refl)
      | else-a-wanted w ↦ rw w.met-is (on l.met l.i _ (omega arith) l.invariant refl (λ j h. refl) (rw (ne_eqb _ _ (λ e. w.if-a-wanted.false (e ∙ sym c.wanted.ensures)))) refl)
    ]

pub loop-i-smaller : goal.loop-i-smaller
loop-i-smaller g c =
    let a = c.args in
    let s = a.self.now in
    let l = c.loop-i in
    let less : get_or s.before (l.i - 1) 0 ≤ l.i - 1 = before_le s.list.now s.last s.before _ (l.i - 1) s.chained (omega (arith, l.invariant.inside)) in
    omega arith

pub returns : goal.returns
returns g c =
    let a = c.args in
    let s = a.self.now in
    let q = c.loop-i.invariant in
    let over : c.loop-i.i ≡ 0 = omega arith in
    λ l e m. compared-met s.list.now a.a a.k a.met.now c.loop-i.met l (rw over at q) e m
