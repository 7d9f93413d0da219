-- `cells::entry::block` meets its contract.
use Prim.Native.Nat.{◌+◌, ◌*◌, ◌-◌}
use native.Mathlib.Omega.{arith}
use Rattle.cells.specs.Part.Laws.{part_eq}
use Rattle.cells.proofs.entry.block.Goals as goal

pub returns : goal.returns
returns c =
    let at = 516 * c.args.i + 4 in
    part_eq c.args.s at (at + 512 - at) 512 (omega arith)
