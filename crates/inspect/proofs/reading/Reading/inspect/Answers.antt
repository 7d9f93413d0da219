-- `inspect::reading::Reading::inspect` meets its contract.
use Prim.Native.Nat.{ℕ}
use mathlib.Core.Path.{◌≡◌, refl, ap, sym, ◌∙◌}
use mathlib.Core.Bool.{false}
use native.Mathlib.Omega.{arith}
use Rattle.journal.specs.Geometry.{trap}
use Rattle.journal.specs.declared.choice.Choice.TheVariants.{Foreign, Neither}
use Rattle.journal.specs.Layout.{wrong_size}
use Rattle.journal.specs.Choice.{choose}
use Rattle.inspect.proofs.Readings.{right_size, wrong-refused, right-chosen, read_listed, listed_fits}
use Rattle.inspect.proofs.reading.Reading.inspect.Goals as goal

pub returns-then-wrong_size : goal.returns-then-wrong_size
returns-then-wrong_size c = sym (wrong-refused trap _ (sym c.wrong_size.ensures ∙ c.if-wrong_size.true))

pub overflow_cast-blocks : goal.overflow_cast-blocks
overflow_cast-blocks c =
    let counted = c.blocks_in-blocks.ensures in
    let sized = right_size trap c.args.settled.now (sym c.wrong_size.ensures ∙ c.if-wrong_size.false) in
    omega arith

pub choose-requires : goal.choose-requires
choose-requires c =
    let sized = right_size trap c.args.settled.now (sym c.wrong_size.ensures ∙ c.if-wrong_size.false) in
    omega arith

-- either list is taken by its count
pub returns-in-Whole : goal.returns-in-Whole
returns-in-Whole c =
    read_listed trap _ _ _ refl c.blocks_in-blocks.ensures (sym c.wrong_size.ensures ∙ c.if-wrong_size.false) (sym c.choose.ensures) c.in-Whole.is

-- and is a card's reading: its N is within bounds, its list fits into the slots
pub invariant_of-result : goal.invariant_of-result
invariant_of-result c =
    let sized = right_size trap c.args.settled.now (sym c.wrong_size.ensures ∙ c.if-wrong_size.false) in
    let fits = listed_fits trap _ _ _ _ (sym c.choose.ensures) c.in-Whole.is in
    record {
      blocks_value = c.blocks_in-blocks.ensures;
      trap_bound = omega (arith, sized.least, c.blocks_in-blocks.ensures);
      blocks_le_most_blocks = omega (arith, sized.most, c.blocks_in-blocks.ensures);
      count_le_slots = fits;
    }

pub returns-in-Foreign : goal.returns-in-Foreign
returns-in-Foreign c =
    let right : wrong_size trap c.args.settled.now ≡ false = sym c.wrong_size.ensures ∙ c.if-wrong_size.false in
    let chose = ap (λ (N : ℕ). choose trap N c.args.settled.now) (sym c.blocks_in-blocks.ensures) ∙ sym c.choose.ensures ∙ c.in-Foreign.is in
    sym (right-chosen trap c.args.settled.now Foreign right chose)

pub returns-in-Neither : goal.returns-in-Neither
returns-in-Neither c =
    let right : wrong_size trap c.args.settled.now ≡ false = sym c.wrong_size.ensures ∙ c.if-wrong_size.false in
    let chose = ap (λ (N : ℕ). choose trap N c.args.settled.now) (sym c.blocks_in-blocks.ensures) ∙ sym c.choose.ensures ∙ c.in-Neither.is in
    sym (right-chosen trap c.args.settled.now Neither right chose)
