-- `store::record::Record::copy_out` meets its contract: i blocks are copied out.
use Rattle.store.proofs.Listings.{copied, CopiedOut}
use Rattle.store.proofs.record.Record.copy_out.Given as goal

abbrev pub invariant-loop-i : goal.invariant-loop-i
invariant-loop-i l = CopiedOut (copied l.settled l.waiting l.work l.list l.opened l.grouped l.logged l.waited) l.initial.blocks l.blocks l.i
