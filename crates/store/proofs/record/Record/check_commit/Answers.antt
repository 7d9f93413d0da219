-- `store::record::Record::check_commit` meets its contract.
use Rattle.std.proofs.Common.{rules, ◌≡◌, false, refl, arith}
use Rattle.std.specs.Prelude.{Err}
use borrow.Author.Tests.{lt-ltb, le-ltb}
use Rattle.journal.specs.Geometry.{trap}
use Rattle.store.specs.Request.{commit, abandon}
use Rattle.store.specs.Causes.{newcomers}
use Rattle.store.proofs.Causes.{own_rows, cause_4, refused_4, passes_sound}
use Rattle.store.proofs.record.Record.check_commit.Goals as goal

pub returns-in_err-check_open : goal.returns-in_err-check_open
returns-in_err-check_open c =
    let left : c.from_residual.result ≡ Err c.in_err-check_open.field-0.0 = search rules in
    rw left (refused_4 trap _ _ (own_rows trap commit) false refl c.in_err-check_open.ensures)

pub newcomers-requires : goal.newcomers-requires
newcomers-requires c =
    let s = passes_sound trap abandon _ 0 refl c.in_ok-check_open.ensures refl in
    record { trap_in_bounds = omega arith; g_le_slots = (s.counts.group_count, s.counts.open_count) }

pub overflow_add-self : goal.overflow_add-self
overflow_add-self c =
    let s = passes_sound trap abandon _ 0 refl c.in_ok-check_open.ensures refl in
    omega arith

pub returns-then-self-newcomers-gt-SLOTS : goal.returns-then-self-newcomers-gt-SLOTS
unfolding trap
returns-then-self-newcomers-gt-SLOTS c =
    let merged : c.newcomers.result ≡ newcomers trap c.args.work.now c.args.self.grouped c.args.self.opened = c.newcomers.ensures.0 in
    rw (cause_4 trap _ 0 (own_rows trap commit) false refl c.in_ok-check_open.ensures, ← merged, lt-ltb _ _ c.if-self-newcomers-gt-SLOTS.true)

pub returns : goal.returns
unfolding trap
returns c =
    let merged : c.newcomers.result ≡ newcomers trap c.args.work.now c.args.self.grouped c.args.self.opened = c.newcomers.ensures.0 in
    rw (cause_4 trap _ 0 (own_rows trap commit) false refl c.in_ok-check_open.ensures, ← merged, le-ltb _ _ c.if-self-newcomers-gt-SLOTS.false)
