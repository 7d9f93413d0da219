-- `firmware::record::decode` meets its contract.
use mathlib.Core.Path.{ap}
use mathlib.Core.List.{[], ◌∷◌}
use Rattle.firmware.specs.Face.{record_of_values, decode_record}
use Rattle.firmware.proofs.record.decode.Goals as goal

pub returns : goal.returns
unfolding decode_record
returns c = (
  c.if-bytes-ne-RECORD.false,
  ap record_of_values
      (λ j.
      c.read_u32.ensures j
      ∷ c.read_u32-2.ensures j
      ∷ c.read_u32-3.ensures j
      ∷ c.read_u32-4.ensures j
      ∷ c.read_u32-5.ensures j
      ∷ c.read_u32-6.ensures j
      ∷ c.read_u32-7.ensures j
      ∷ c.read_u64.ensures j
      ∷ c.read_u64-2.ensures j
      ∷ []),
)
