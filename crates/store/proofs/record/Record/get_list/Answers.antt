-- `store::record::Record::get_list` meets its contract.
use Rattle.std.proofs.Common.{rules, arith, ◌≡◌, ◌∙◌, refl, sym}
use Rattle.std.specs.Prelude.{Err, ℕ, false, [], ◌*◌, ◌≤◌, ◌<◌, eqb, length}
use borrow.Author.Tests.{ne_eqb}
use lib.ListN.{drop_of_length-le}
use Rattle.refusals.proofs.Nonzero.{refusal_nonzero}
use Rattle.card.specs.Card.{blocks_in}
use Rattle.journal.specs.Geometry.{trap}
use Rattle.journal.specs.Wanted.{wanted_count, wanted_at}
use Rattle.store.specs.State.{State}
use Rattle.store.specs.CodeState.{state_of}
use Rattle.store.specs.Request.{get_list}
use Rattle.store.specs.Causes.{cause}
use Rattle.store.specs.GetList.{listing}
use Rattle.store.proofs.Causes.{passes_waits}
use Rattle.store.proofs.Places.{data_lt}
use Rattle.store.proofs.Listings.{list_facts, shown-newest, listing-served}
use Rattle.store.proofs.record.Record.get_list.Goals as goal

pub returns-in_err-check_list : goal.returns-in_err-check_list
unfolding listing
returns-in_err-check_list c =
    let left : c.from_residual.result ≡ Err c.in_err-check_list.field-0.0 = search rules in
    rw (left, ← c.in_err-check_list.ensures, refusal_nonzero _)

pub returns-then-count-eq0 : goal.returns-then-count-eq0
returns-then-count-eq0 c =
    let a = c.args in
    let st : State = state_of a.self a.settled.now a.waiting.now a.work.now in
    let f = list_facts trap a.list.now a.blocks.now st (sym c.in_ok-check_list.ensures) in
    let none : wanted_count a.list.now ≡ 0 = sym c.count.ensures ∙ c.if-count-eq0.true in
    let room : length a.blocks.now ≡ 512 * wanted_count a.list.now = f.room in
    let empty : a.blocks.now ≡ [] = drop_of_length-le a.blocks.now {i = 0} (omega arith) in
    listing-served trap a.list.now a.blocks.now st 0 _ (sym c.in_ok-check_list.ensures) (rw none) (rw none empty)

pub show-requires : goal.show-requires
show-requires c =
    let a = c.args in
    let st : State = state_of a.self a.settled.now a.waiting.now a.work.now in
    let f = list_facts trap a.list.now a.blocks.now st (sym c.in_ok-check_list.ensures) in
    let s = f.sound in
    let below : (i : ℕ) → i < wanted_count a.list.now → wanted_at a.list.now i < blocks_in a.settled.now =
    λ i h. rw (← s.counts.blocks) (data_lt trap a.self.blocks (wanted_at a.list.now i) (f.data-blocks i h)) in
    let waits : a.self.waiting ≤ trap.direct = passes_waits trap (get_list a.list.now a.blocks.now) st 0 refl refl c.in_ok-check_list.ensures refl in
    record {
      trap_bound = omega (arith, trap.queued);
      opened_le_slots = omega arith;
      list_bound = (f.few, f.room);
      by_index = below;
    }

pub returns : goal.returns
returns c =
    let a = c.args in
    let st : State = state_of a.self a.settled.now a.waiting.now a.work.now in
    let many : eqb (wanted_count a.list.now) 0 ≡ false = rw (← c.count.ensures) (ne_eqb _ 0 c.if-count-eq0.false) in
    let zero : cause trap (get_list a.list.now a.blocks.now) st ≡ 0 = sym c.in_ok-check_list.ensures in
    listing-served trap a.list.now a.blocks.now st _ _ zero (rw many c.show.ensures.value)
    (c.show.ensures.out_after ∙ sym (shown-newest trap a.list.now a.blocks.now st zero))
