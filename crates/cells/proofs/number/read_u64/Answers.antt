-- `cells::number::read_u64` meets its contract.
use Rattle.std.proofs.Common.{◌≡◌, ◌+◌, ◌∙◌, arith}
use Rattle.cells.specs.Little.Laws.{num-parts, num_four}
use Rattle.cells.proofs.number.read_u64.Goals as goal

pub returns : goal.returns
returns c =
    let s = c.args.s.now in
    let at = c.args.at in
    let five : at + 4 + 1 ≡ at + 5 = omega arith in
    let six : at + 4 + 2 ≡ at + 6 = omega arith in
    let seven : at + 4 + 3 ≡ at + 7 = omega arith in
    c.from_le_bytes.ensures ∙ rw (num-parts 4 4 s at (omega arith), num_four s at (omega arith), num_four s (at + 4) (omega arith), five, six, seven) (omega arith)
