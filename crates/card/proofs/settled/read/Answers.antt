-- `card::settled::read` meets its contract.
use Prim.Native.Nat.{ℕ, ◌+◌, ◌*◌, ◌-◌}
use mathlib.Core.Path.{◌≡◌, ap}
use native.Mathlib.Omega.{arith}
use Rattle.cells.specs.Part.{part_of}
use Rattle.card.proofs.settled.read.Goals as goal

pub returns : goal.returns
returns c =
    let at = 512 * c.args.address in
    let size : at + 512 - at ≡ 512 = omega arith in
    ap (λ (n : ℕ). part_of c.args.settled at n) size
