-- The table of lines holds: computed from the definitions.
use mathlib.Core.Path.{refl}
use Rattle.script.specs.Fields.{push, fields}
use Rattle.cells.specs.Same.{same}
use Rattle.script.specs.Numbers.{all_digits, value_from, number_of}
use Rattle.script.specs.Commands.{alone, with_one, with_two, understood, parse}
use Rattle.script.specs.Answers.{digits, decimal}
use Rattle.script.specs.Cases.{LinesSay, cases}

pub cases_hold : LinesSay cases
unfolding push fields same all_digits value_from number_of alone with_one with_two understood parse digits decimal
cases_hold = (refl, (refl, (refl, (refl, (refl, (refl, (refl, (refl, (refl, (refl, (refl, (refl, (refl, (refl, (refl, (refl, (refl, tt)))))))))))))))))
