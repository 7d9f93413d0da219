-- `journal::lookup::last_slot` meets its contract.
use Rattle.std.proofs.Common.{◌≡◌, sym, ◌∙◌, arith}
use Rattle.journal.specs.Log.{slot_address}
use Rattle.journal.proofs.Lookups.{last_none, last_here, last_below}
use Rattle.journal.proofs.lookup.last_slot.Goals as goal

pub returns-then-slot_address-a : goal.returns-then-slot_address-a
returns-then-slot_address-a c =
    let l = c.loop-i in
    let a = c.args in
    sym (last_here (slot_address a.settled.now) a.a l.i (omega arith) (sym c.slot_address.ensures ∙ c.if-slot_address-a.true)) ∙ l.invariant

pub loop-i-preserved : goal.loop-i-preserved
loop-i-preserved c =
    let l = c.loop-i in
    let a = c.args in
    sym (last_below (slot_address a.settled.now) a.a l.i (omega arith) (λ e. c.if-slot_address-a.false (c.slot_address.ensures ∙ e))) ∙ l.invariant

pub returns : goal.returns
returns c =
    let l = c.loop-i in
    let a = c.args in
    let none : l.i ≡ 0 = omega arith in
    sym (last_none (slot_address a.settled.now) a.a) ∙ rw none at l.invariant
