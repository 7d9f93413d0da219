-- `store::record::Record::cut` meets its contract.
use Rattle.std.proofs.Common.{rules, arith, ◌≡◌, ◌∙◌, refl, ap}
use Rattle.std.specs.Prelude.{Err, ◌*◌, ◌<◌, length}
use borrow.Author.Tests.{not-false}
use Rattle.cells.specs.Upto.Laws.{length-up_to}
use Rattle.cells.specs.Entry.{block_bytes, entry_at}
use Rattle.card.specs.Card.{queue}
use Rattle.card.specs.declared.queue.Queue.{Queue}
use Rattle.card.proofs.MarkLaws.{fits_length}
use Rattle.journal.specs.Geometry.{trap}
use Rattle.store.specs.State.{State, card_in}
use Rattle.store.specs.CodeState.{state_of}
use Rattle.store.specs.Request.{cut}
use Rattle.store.specs.Outcomes.{completed}
use Rattle.store.specs.Cut.{cut_call}
use Rattle.store.proofs.Calls.{call_refused, call_done}
use Rattle.store.proofs.Causes.{any_waits, cause_passes, passes_sound}
use Rattle.store.proofs.Saves.{cut_state}
use Rattle.store.proofs.record.Record.cut.Goals as goal

pub returns-in_err-check_cut : goal.returns-in_err-check_cut
unfolding cut_call
returns-in_err-check_cut c =
    let left : c.from_residual.result ≡ Err c.in_err-check_cut.field-0.0 = search rules in
    rw left (call_refused _ _ _ _ c.in_err-check_cut.ensures)

pub cut-queue-requires : goal.cut-queue-requires
unfolding queue
cut-queue-requires c =
    let a = c.args in
    let st : State = state_of a.self a.settled.now a.waiting.now a.work.now in
    let p = cause_passes trap (cut a.marks.now) st 0 c.in_ok-check_cut.ensures refl in
    let s = passes_sound trap (cut a.marks.now) st 0 refl c.in_ok-check_cut.ensures refl in
    let few = any_waits trap st s.counts in
    let waits : length (queue (card_in st)) ≡ a.self.waiting = length-up_to (entry_at a.waiting.now) a.self.waiting in
    let many : length a.marks.now ≡ block_bytes * length (queue (card_in st)) = fits_length a.marks.now (queue (card_in st)) (not-false _ p.own.0) in
    let held : c.queue.result.waiting ≡ a.self.waiting = ap (λ (q : Queue). q.waiting) c.queue.ensures in
    record {
      waiting_in_bounds = omega arith;
      below = λ i h. let inside : i < a.self.waiting = omega arith in omega (arith, s.waiting_below i inside);
      marks_len = omega arith;
    }

pub returns : goal.returns
unfolding cut_call
returns c =
    let a = c.args in
    let st : State = state_of a.self a.settled.now a.waiting.now a.work.now in
    ap completed (cut_state a.marks.now _ st _ _ c.cut-queue.result _ _ c.queue.ensures c.cut-queue.ensures c.shut.ensures c.with_queue.ensures)
    ∙ call_done _ _ _ _ c.in_ok-check_cut.ensures refl
