-- `store::record::Record::check_cut` meets its contract.
use Rattle.std.proofs.Common.{rules, ◌≡◌, ◌∙◌, sym, ap, not, true, false, refl, arith}
use Rattle.std.specs.Prelude.{Err}
use Rattle.card.specs.Card.{queue}
use Rattle.card.specs.Marks.{marks_fit}
use Rattle.journal.specs.Geometry.{trap}
use Rattle.store.specs.State.{State, card_in}
use Rattle.store.specs.CodeState.{state_of}
use Rattle.store.specs.Request.{power, cut}
use Rattle.store.proofs.Causes.{any_waits, own_rows, cause_2, refused_2, passes_sound}
use Rattle.store.proofs.record.Record.check_cut.Goals as goal

pub returns-in_err-check_record : goal.returns-in_err-check_record
returns-in_err-check_record c =
    let left : c.from_residual.result ≡ Err c.in_err-check_record.field-0.0 = search rules in
    rw left (refused_2 trap _ _ (own_rows trap (cut c.args.marks.now)) c.in_err-check_record.ensures)

pub fit-requires : goal.fit-requires
fit-requires c =
    let s = passes_sound trap (power 0) _ 0 refl c.in_ok-check_record.ensures refl in
    let few = any_waits trap _ s.counts in
    omega arith

pub returns-then-not-fit : goal.returns-then-not-fit
unfolding queue
returns-then-not-fit c =
    let given : State = state_of c.args.self c.args.settled.now c.args.waiting.now c.args.work.now in
    let unfit : not (marks_fit c.args.marks.now (queue (card_in given))) ≡ true = ap not (sym c.fit.ensures ∙ c.if-not-fit.true) in
    rw (cause_2 trap given 0 (own_rows trap (cut c.args.marks.now)) c.in_ok-check_record.ensures, unfit)

pub returns : goal.returns
unfolding queue
returns c =
    let given : State = state_of c.args.self c.args.settled.now c.args.waiting.now c.args.work.now in
    let fits : not (marks_fit c.args.marks.now (queue (card_in given))) ≡ false = ap not (sym c.fit.ensures ∙ c.if-not-fit.false) in
    rw (cause_2 trap given 0 (own_rows trap (cut c.args.marks.now)) c.in_ok-check_record.ensures, fits)
