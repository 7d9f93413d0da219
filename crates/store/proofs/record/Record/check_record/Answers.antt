-- `store::record::Record::check_record` meets its contract.
use Rattle.std.proofs.Common.{sym, ◌∙◌, arith}
use Rattle.journal.specs.Geometry.{trap}
use Rattle.store.specs.State.{State}
use Rattle.store.specs.CodeState.{state_of}
use Rattle.store.proofs.Causes.{SizeFacts, sizes_facts, any_waits, CountFacts, counts_facts}
use Rattle.store.proofs.record.Record.check_record.Goals as goal

pub wrong_waiting-requires : goal.wrong_waiting-requires
wrong_waiting-requires c =
    let given : State = state_of c.args.self c.args.settled.now c.args.waiting.now c.args.work.now in
    let s : SizeFacts trap given = sizes_facts trap given (sym (c.wrong_sizes.ensures _) ∙ c.if-wrong_sizes.false) in
    let few = any_waits trap given (counts_facts trap given (sym (c.wrong_counts.ensures _ _) ∙ c.if-wrong_counts.false)) in
    omega arith

pub wrong_lists-requires : goal.wrong_lists-requires
wrong_lists-requires c =
    let given : State = state_of c.args.self c.args.settled.now c.args.waiting.now c.args.work.now in
    let s : SizeFacts trap given = sizes_facts trap given (sym (c.wrong_sizes.ensures _) ∙ c.if-wrong_sizes.false) in
    let n : CountFacts trap given = counts_facts trap given (sym (c.wrong_counts.ensures _ _) ∙ c.if-wrong_counts.false) in
    record { trap_bound = omega arith; trap_in_bounds = omega arith; opened_le_slots = (n.open_count, n.group_count, n.log_count) }
