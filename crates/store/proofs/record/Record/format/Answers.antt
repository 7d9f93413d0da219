-- `store::record::Record::format` meets its contract.
use Rattle.std.proofs.Common.{rules, arith, ◌≡◌, refl}
use Rattle.std.specs.Prelude.{Err, length, replicate}
use lib.ListN.{length-replicate}
use Rattle.journal.specs.Geometry.{trap}
use Rattle.store.specs.Request.{format}
use Rattle.store.specs.Format.{formatted, format_call}
use Rattle.store.proofs.Calls.{call_refused, call_done}
use Rattle.store.proofs.Causes.{sizes_facts, cause_passes}
use Rattle.store.proofs.record.Record.format.Goals as goal

pub returns-in_err-check_format : goal.returns-in_err-check_format
unfolding format_call
returns-in_err-check_format c =
    let left : c.from_residual.result ≡ Err c.in_err-check_format.field-0.0 = search rules in
    rw left (call_refused _ _ _ _ (c.in_err-check_format.ensures _))

pub overflow_cast-blocks : goal.overflow_cast-blocks
overflow_cast-blocks c =
    let s = sizes_facts trap _ (cause_passes trap format _ 0 (c.in_ok-check_format.ensures c.args.self) refl).sizes in
    omega arith

pub settle_header-requires : goal.settle_header-requires
settle_header-requires c =
    let s = sizes_facts trap _ (cause_passes trap format _ 0 (c.in_ok-check_format.ensures c.args.self) refl).sizes in
    rw (c.wipe.ensures.settled_after, length-replicate) (omega arith)

pub returns : goal.returns
unfolding format_call formatted
returns c =
    let empty : c.wipe.new.waiting ≡ replicate (length c.args.waiting.now) 0 = c.wipe.ensures.waiting_after in
    rw (c.fresh.ensures, c.settle_header.ensures, c.blocks_in-blocks.ensures, c.wipe.ensures.settled_after, empty, c.zero.ensures)
    (call_done _ _ _ _ (c.in_ok-check_format.ensures _) refl)
