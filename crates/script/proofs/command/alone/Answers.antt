-- `script::command::alone` meets its contract.
use Rattle.script.specs.Words.{format_word, commit_word, abandon_word, sync_word, apply_word, recover_word, cut_word}
use Rattle.script.specs.Commands.{alone}
use Rattle.script.proofs.Pieces.{same_is}
use Rattle.script.proofs.command.alone.Goals as goal

pub returns-then-eq : goal.returns-then-eq
unfolding alone
returns-then-eq c = let w = c.args.word.now in rw (same_is w format_word _ _ c.eq.ensures c.if-eq.true)

pub returns-then-eq-2 : goal.returns-then-eq-2
unfolding alone
returns-then-eq-2 c =
    let w = c.args.word.now in
    rw (
      same_is w format_word _ _ c.eq.ensures c.if-eq.false,
      same_is w commit_word _ _ c.eq-2.ensures c.if-eq-2.true,
    )

pub returns-then-eq-3 : goal.returns-then-eq-3
unfolding alone
returns-then-eq-3 c =
    let w = c.args.word.now in
    rw (
      same_is w format_word _ _ c.eq.ensures c.if-eq.false,
      same_is w commit_word _ _ c.eq-2.ensures c.if-eq-2.false,
      same_is w abandon_word _ _ c.eq-3.ensures c.if-eq-3.true,
    )

pub returns-then-eq-4 : goal.returns-then-eq-4
unfolding alone
returns-then-eq-4 c =
    let w = c.args.word.now in
    rw (
      same_is w format_word _ _ c.eq.ensures c.if-eq.false,
      same_is w commit_word _ _ c.eq-2.ensures c.if-eq-2.false,
      same_is w abandon_word _ _ c.eq-3.ensures c.if-eq-3.false,
      same_is w sync_word _ _ c.eq-4.ensures c.if-eq-4.true,
    )

pub returns-then-eq-5 : goal.returns-then-eq-5
unfolding alone
returns-then-eq-5 c =
    let w = c.args.word.now in
    rw (
      same_is w format_word _ _ c.eq.ensures c.if-eq.false,
      same_is w commit_word _ _ c.eq-2.ensures c.if-eq-2.false,
      same_is w abandon_word _ _ c.eq-3.ensures c.if-eq-3.false,
      same_is w sync_word _ _ c.eq-4.ensures c.if-eq-4.false,
      same_is w apply_word _ _ c.eq-5.ensures c.if-eq-5.true,
    )

pub returns-then-eq-6 : goal.returns-then-eq-6
unfolding alone
returns-then-eq-6 c =
    let w = c.args.word.now in
    rw (
      same_is w format_word _ _ c.eq.ensures c.if-eq.false,
      same_is w commit_word _ _ c.eq-2.ensures c.if-eq-2.false,
      same_is w abandon_word _ _ c.eq-3.ensures c.if-eq-3.false,
      same_is w sync_word _ _ c.eq-4.ensures c.if-eq-4.false,
      same_is w apply_word _ _ c.eq-5.ensures c.if-eq-5.false,
      same_is w recover_word _ _ c.eq-6.ensures c.if-eq-6.true,
    )

pub returns-then-eq-7 : goal.returns-then-eq-7
unfolding alone
returns-then-eq-7 c =
    let w = c.args.word.now in
    rw (
      same_is w format_word _ _ c.eq.ensures c.if-eq.false,
      same_is w commit_word _ _ c.eq-2.ensures c.if-eq-2.false,
      same_is w abandon_word _ _ c.eq-3.ensures c.if-eq-3.false,
      same_is w sync_word _ _ c.eq-4.ensures c.if-eq-4.false,
      same_is w apply_word _ _ c.eq-5.ensures c.if-eq-5.false,
      same_is w recover_word _ _ c.eq-6.ensures c.if-eq-6.false,
      same_is w cut_word _ _ c.eq-7.ensures c.if-eq-7.true,
    )

pub returns : goal.returns
unfolding alone
returns c =
    let w = c.args.word.now in
    rw (
      same_is w format_word _ _ c.eq.ensures c.if-eq.false,
      same_is w commit_word _ _ c.eq-2.ensures c.if-eq-2.false,
      same_is w abandon_word _ _ c.eq-3.ensures c.if-eq-3.false,
      same_is w sync_word _ _ c.eq-4.ensures c.if-eq-4.false,
      same_is w apply_word _ _ c.eq-5.ensures c.if-eq-5.false,
      same_is w recover_word _ _ c.eq-6.ensures c.if-eq-6.false,
      same_is w cut_word _ _ c.eq-7.ensures c.if-eq-7.false,
    )
