-- `script::text::append_number` meets its contract.
use mathlib.Core.Path.{◌≡◌, ap, ◌∙◌}
use native.Mathlib.Omega.{arith}
use lib.ListN.{length}
use Rattle.script.specs.Answers.{decimal}
use Rattle.script.proofs.Texts.{decimal_printed, number_done}
use Rattle.script.proofs.text.append_number.Goals as goal

pub returns : goal.returns
returns c =
    let a = c.args in
    let text : c.as_bytes.result.now ≡ decimal a.n = c.as_bytes.ensures.value ∙ c.format-digits.ensures.text ∙ decimal_printed a.n c.ranges.n.fits in
    let short = ap length c.as_bytes.ensures.value in
    number_done a.at a.n c.append-next.result c.append.result a.out.now c.append-next.new.out c.append.new.out c.as_bytes.result.now text (omega (arith, short, c.format-digits.ensures.fits)) c.append-next.ensures.0 c.append-next.ensures.1 c.append.ensures.0 c.append.ensures.1
