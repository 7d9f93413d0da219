-- `store::own_rows::check_format` meets its contract.
use Rattle.std.proofs.Common.{◌≡◌, ◌∙◌, sym, arith}
use Rattle.card.specs.Card.{blocks_in}
use Rattle.journal.specs.Geometry.{trap}
use Rattle.store.specs.State.{State}
use Rattle.store.specs.CodeState.{state_of, fresh}
use Rattle.store.proofs.Causes.{SizeFacts, sizes_facts}
use Rattle.store.proofs.own_rows.check_format.Goals as goal

pub overflow_cast-blocks_in : goal.overflow_cast-blocks_in
overflow_cast-blocks_in c =
    let given : State = state_of (fresh 0) c.args.settled.now c.args.waiting.now c.args.work.now in
    let f : SizeFacts trap given = sizes_facts trap given (sym (c.wrong_sizes.ensures (fresh 0)) ∙ c.if-wrong_sizes.false) in
    let told : c.blocks_in.result ≡ blocks_in c.args.settled.now = c.blocks_in.ensures in
    omega arith

pub in_use-requires : goal.in_use-requires
in_use-requires c =
    let given : State = state_of (fresh 0) c.args.settled.now c.args.waiting.now c.args.work.now in
    let f : SizeFacts trap given = sizes_facts trap given (sym (c.wrong_sizes.ensures (fresh 0)) ∙ c.if-wrong_sizes.false) in
    omega arith
