-- `fnv::sum_from` meets its contract: the fold is the sum's own recursion.
use Rattle.std.proofs.Common.{rules, ◌≡◌, ◌∙◌}
use Rattle.std.specs.List.{fold}
use Rattle.fnv.specs.Fnv.{step}
use Rattle.fnv.proofs.Laws.{sum_from-fold}
use Rattle.fnv.proofs.sum_from.Goals as goal

pub returns : goal.returns
returns c =
    let all : c.fold.result ≡ fold step c.args.h c.args.s.now = search rules in
    all ∙ sum_from-fold _ _
