-- `trapcard::read_all` meets its contract. The invariant: what has been fed is some input, and the last turn was the one of this count.
use Rattle.std.proofs.Common.{◌≡◌, ℕ, List, is_ok}
use Rattle.script.specs.Steps.{fed}
use Rattle.script.specs.CodeSession.{session_of}
use Rattle.trapcard.specs.Turns.{got, interrupted, goes_on}
use Rattle.trapcard.proofs.read_all.Given as goal

abbrev pub invariant-loop-reads : goal.invariant-loop-reads
invariant-loop-reads g l =
    (l.last.reads ≡ l.reads)
    × (l.last.more ≡ goes_on (is_ok l.last.sent.said) (got l.last.received.said) (interrupted l.last.received.said))
    × ((all : List ℕ) × (session_of l.last.session.len l.line l.last.session.rec l.settled l.waiting l.work ≡ (fed all (session_of l.fn.session.len l.fn.line l.fn.session.rec l.fn.settled l.fn.waiting l.fn.work)).next))
