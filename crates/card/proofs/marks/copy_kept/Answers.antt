-- `card::marks::copy_kept` meets its contract. The invariant: before i every byte is as the marks leave it, from i on as it was.
use Prim.Native.Nat.{ℕ, ◌+◌, ◌<◌}
use mathlib.Core.Path.{◌≡◌, ap, sym, ◌∙◌}
use mathlib.Core.Bool.{cond}
use mathlib.Core.List.{List}
use native.Mathlib.Nat.{add-zero}
use native.Mathlib.Numerals.{add-one}
use native.Mathlib.Omega.{arith}
use lib.Dec.{eqb}
use lib.ListN.{length, take, drop, set, get_or}
use lib.Seq.{take-suc, take-suc-set, take_all, drop-set-lt, drop-drop, get_or-drop}
use Rattle.card.specs.Card.{torn}
use Rattle.card.proofs.Torn.{length-torn, get_or-torn}
use Rattle.card.proofs.marks.copy_kept.Goals as goal

-- one byte more
more : (dst old src marks : List ℕ) (i v : ℕ) → i < length src → length dst ≡ length src → length old ≡ length src → take i dst ≡ take i (torn marks src old) → drop i dst ≡ drop i old
    → v ≡ cond (eqb (get_or marks i 0) 1) (get_or src i 0) (get_or dst i 0)
    → (take (i + 1) (set dst i v) ≡ take (i + 1) (torn marks src old)) × (drop (i + 1) (set dst i v) ≡ drop (i + 1) old)
more dst old src marks i v h l o e f z =
    let inside : i < length dst = omega arith in
    let within : i < length old = omega arith in
    let size : length (torn marks src old) ≡ length old = length-torn marks src old in
    let stood : get_or dst i 0 ≡ get_or old i 0 =
    ap (λ (k : ℕ). get_or dst k 0) (sym (add-zero i)) ∙ sym (get_or-drop i dst 0 0) ∙ ap (λ (b : List ℕ). get_or b 0 0) f ∙ get_or-drop i old 0 0 ∙ ap (λ (k : ℕ). get_or old k 0) (add-zero i) in
    let byte : v ≡ get_or (torn marks src old) i 0 = z ∙ ap (λ (x : ℕ). cond (eqb (get_or marks i 0) 1) (get_or src i 0) x) stood ∙ sym (get_or-torn marks src old i (sym o) within) in (
      rw (add-one, take-suc-set dst i v inside, take-suc (torn marks src old) i 0 (omega arith), e, byte),
      drop-set-lt (i + 1) dst i v (omega arith) ∙ sym (drop-drop 1 i dst) ∙ ap (drop 1) f ∙ drop-drop 1 i old,
    )

pub loop-i-preserved : goal.loop-i-preserved
loop-i-preserved c =
    let l = c.loop-i in
    let a = c.args in
    more l.dst a.dst.now a.src.now a.marks.now l.i c.left.result (omega arith) (omega arith) c.requires.0 l.invariant.0 l.invariant.1 c.left.ensures

pub returns : goal.returns
returns c =
    let l = c.loop-i in
    let a = c.args in
    let size : length (torn a.marks.now a.src.now a.dst.now) ≡ length a.dst.now = length-torn a.marks.now a.src.now a.dst.now in
    sym (take_all l.i l.dst (omega arith)) ∙ l.invariant.0 ∙ take_all l.i (torn a.marks.now a.src.now a.dst.now) (omega arith)
