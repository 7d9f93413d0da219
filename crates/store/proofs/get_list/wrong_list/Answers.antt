-- `store::get_list::wrong_list` meets its contract.
use Rattle.std.proofs.Common.{rules, tests}
use Rattle.store.specs.Causes.{wrong_list}
use Rattle.store.proofs.get_list.wrong_list.Goals as goal

pub returns-then-count-gt-MOST_WANTED : goal.returns-then-count-gt-MOST_WANTED
unfolding wrong_list
returns-then-count-gt-MOST_WANTED c = search (rules, tests)

pub returns-else-count-gt-MOST_WANTED : goal.returns-else-count-gt-MOST_WANTED
unfolding wrong_list
returns-else-count-gt-MOST_WANTED c = search (rules, tests)
