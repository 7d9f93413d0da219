-- `script::command::put` meets its contract.
use mathlib.Core.Path.{◌≡◌, sym, ◌∙◌}
use Rattle.std.specs.Prelude.{Some}
use Rattle.script.specs.Numbers.{most4_bytes, most1_byte, number_of}
use Rattle.script.proofs.command.put.Goals as goal

pub returns : goal.returns
returns c =
    let address : number_of most4_bytes c.args.x.now ≡ Some c.in_ok-address.address = sym c.to_number.ensures.0 ∙ c.in_ok-address.was in
    let byte : number_of most1_byte c.args.y.now ≡ Some c.in_ok-byte.byte = sym c.to_number-2.ensures.0 ∙ c.in_ok-byte.was in
    rw (address, byte)
