-- `store::lists::look` meets its contract: the first i were looked at.
use mathlib.Core.Path.{◌≡◌}
use lib.ListN.{length}
use Rattle.journal.specs.CodeWanted.{Met}
use Rattle.store.specs.Lists.{addresses_of}
use Rattle.store.proofs.lists.look.Given as goal

abbrev pub invariant-loop-i : goal.invariant-loop-i
invariant-loop-i l = (length l.met ≡ length l.initial.met) × Met l.chains.list.now (addresses_of l.work l.from l.i) l.met
