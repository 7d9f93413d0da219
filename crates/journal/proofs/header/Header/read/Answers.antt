-- `journal::header::Header::read` meets its contract.
use mathlib.Core.Path.{ap}
use mathlib.Core.List.{[], ◌∷◌}
use Rattle.journal.specs.Header.{header_of_values, decode}
use Rattle.journal.proofs.header.Header.read.Goals as goal

pub returns : goal.returns
unfolding decode
returns c =
    ap header_of_values
    (λ j.
    c.read_u32.ensures j
    ∷ c.read_u32-2.ensures j
    ∷ c.read_u32-3.ensures j
    ∷ c.read_u32-4.ensures j
    ∷ c.read_u64.ensures j
    ∷ c.read_u64-2.ensures j
    ∷ c.read_u64-3.ensures j
    ∷ [])
