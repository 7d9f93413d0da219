-- The trap's numbers. Causes 1 and 2, the code, document 01's cases and its worked scripts go by them; no theorem about histories does.
use Rattle.std.specs.Prelude.{ℕ, ◌+◌, ◌≡◌, refl}
use Rattle.std.proofs.Common.{ap, ap₂, sym}
use Rattle.journal.specs.Geometry.{trap_slots, trap}

pub trap-slots : trap.slots ≡ trap_slots
unfolding trap
trap-slots = refl

pub trap-descriptors : trap.descriptors ≡ 1
unfolding trap
trap-descriptors = refl

-- where the code has slot 0
pub trap-first : 2 ≡ 1 + trap.descriptors
trap-first = ap (λ (k : ℕ). 1 + k) (sym trap-descriptors)

-- and the first data block
trap_data : 2 + trap_slots ≡ 1 + trap.descriptors + trap.slots
trap_data = ap₂ (λ (k m : ℕ). k + m) trap-first (sym trap-slots)
