-- `trapcard::read_all` meets its contract.
use Rattle.std.proofs.Common.{◌++◌, take}
use Rattle.io.specs.Counts.{clamp_len}
use Rattle.script.specs.Steps.{fed_bytes}
use Rattle.trapcard.specs.Turns.{got}
use Rattle.trapcard.proofs.Turns.{fed_on}
use Rattle.trapcard.proofs.read_all.Goals as goal

pub loop-reads-preserved : goal.loop-reads-preserved
loop-reads-preserved g c =
    let before = c.loop-reads.invariant.2 in
    let t = c.take_turn-last-in-loop-reads in
    let part = take (clamp_len (got t.result.received.said) fed_bytes) t.new.bytes in
    (t.ensures.turn.0, t.ensures.turn.1, (before.0 ++ part, fed_on before.0 part _ _ _ _ before.1 t.ensures.turn.4))
