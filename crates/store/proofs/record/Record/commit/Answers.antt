-- `store::record::Record::commit` meets its contract.
use Rattle.std.proofs.Common.{rules, arith, ◌≡◌, ◌∙◌, refl, ap}
use Rattle.std.specs.Prelude.{Err}
use borrow.Author.Tests.{ltb-false}
use Rattle.journal.specs.Geometry.{trap}
use Rattle.store.specs.State.{with_opened, with_grouped, with_record, with_work}
use Rattle.store.specs.CodeState.{state_of}
use Rattle.store.specs.Request.{commit}
use Rattle.store.specs.Causes.{cause}
use Rattle.store.specs.Outcomes.{completed}
use Rattle.store.specs.Commit.{Group, commit_call}
use Rattle.store.proofs.Calls.{call_refused, call_done}
use Rattle.store.proofs.Causes.{cause_passes, passes_sound}
use Rattle.store.proofs.record.Record.commit.Goals as goal

pub returns-in_err-check_commit : goal.returns-in_err-check_commit
unfolding commit_call
returns-in_err-check_commit c =
    let left : c.from_residual.result ≡ Err c.in_err-check_commit.field-0.0 = search rules in
    rw left (call_refused _ _ _ _ c.in_err-check_commit.ensures)

pub join_all-grouped-requires : goal.join_all-grouped-requires
join_all-grouped-requires c =
    let p = cause_passes trap commit _ 0 c.in_ok-check_commit.ensures refl in
    let s = passes_sound trap commit _ 0 refl c.in_ok-check_commit.ensures refl in
    record {
      trap_in_bounds = omega arith;
      g_le_slots = (omega arith, omega arith, ltb-false _ _ p.own.0);
    }

pub returns : goal.returns
unfolding commit_call
returns c =
    let a = c.args in
    let st = state_of a.self a.settled.now a.waiting.now a.work.now in
    rw (c.with_opened.ensures, c.with_grouped.ensures)
    (ap (λ (g : Group). completed (with_record (with_opened 0 (with_grouped g.count a.self)) (with_work g.work st))) c.join_all-grouped.ensures
    ∙ call_done _ (cause trap commit st) st _ c.in_ok-check_commit.ensures refl)
