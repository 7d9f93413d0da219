-- `card::settled::wipe` meets its contract.
use Rattle.card.proofs.settled.wipe.Goals as goal

pub returns : goal.returns
returns c =
    record {
      settled_after = c.zero.ensures;
      waiting_after = c.zero-2.ensures;
    }
