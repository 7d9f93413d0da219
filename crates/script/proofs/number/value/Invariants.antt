-- `script::number::value` meets its contract.
use Prim.Native.Nat.{◌^◌, ◌<◌}
use mathlib.Core.Path.{◌≡◌}
use mathlib.Core.Bool.{true}
use lib.ListN.{drop}
use Rattle.script.specs.Numbers.{all_digits, value_from}
use Rattle.script.proofs.number.value.Given as goal

abbrev pub invariant-loop-b : goal.invariant-loop-b
invariant-loop-b l = (l.v < 10 ^ l.b-index) × (all_digits (drop l.b-index l.s) ≡ true) × (value_from l.v (drop l.b-index l.s) ≡ value_from 0 l.s)
