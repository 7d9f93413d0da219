-- `script::command::with_two` meets its contract.
use mathlib.Core.Path.{◌∙◌}
use Rattle.script.specs.Words.{put_word}
use Rattle.script.specs.Commands.{with_two}
use Rattle.script.proofs.Pieces.{not_same}
use Rattle.script.proofs.command.with_two.Goals as goal

pub returns-then-ne : goal.returns-then-ne
unfolding with_two
returns-then-ne c = rw (not_same c.args.word.now put_word _ _ c.ne.ensures c.if-ne.true)

pub returns : goal.returns
unfolding with_two
returns c = rw (not_same c.args.word.now put_word _ _ c.ne.ensures c.if-ne.false) (c.unwrap_or.ensures ∙ c.put.ensures)
