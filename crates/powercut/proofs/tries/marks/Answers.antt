-- `powercut::tries::marks` meets its contract. The invariant: the first x bytes are the marks of the first x bytes of the writes.
use Prim.Native.Nat.{ℕ, ◌+◌, ◌*◌, ◌<◌}
use mathlib.Core.Path.{◌≡◌, refl, sym, ◌∙◌}
use mathlib.Core.List.{List}
use native.Mathlib.Numerals.{add-one}
use native.Mathlib.Omega.{arith}
use lib.ListN.{length, take, set, length-set}
use lib.Seq.{take-suc-set}
use Rattle.cells.specs.Upto.{up_to}
use Rattle.powercut.proofs.TryBytes.{try_bytes}
use Rattle.powercut.proofs.tries.marks.Goals as goal

-- one mark more
more : (f : ℕ → ℕ) (to : List ℕ) (x v : ℕ) → x < length to → v ≡ f x → take x to ≡ up_to f x
    → take (x + 1) (set to x v) ≡ up_to f (x + 1)
more f to x v p e h = rw (add-one, take-suc-set to x v p, h, e)

-- all of them
whole : (f : ℕ → ℕ) (to : List ℕ) (x m : ℕ) → x ≡ m → take x to ≡ up_to f x → take m to ≡ up_to f m
whole f to x m e h = rw (← e) h

pub loop-x-init : goal.loop-x-init
loop-x-init c = (refl, refl)

pub loop-x-preserved : goal.loop-x-preserved
loop-x-preserved c =
    let l = c.loop-x in
    (simp length-set l.invariant.0, more _ l.to l.x c.mark.result (omega arith) c.mark.ensures l.invariant.1)

pub returns : goal.returns
returns c =
    let l = c.loop-x in
    let a = c.args in
    let all : l.x ≡ 512 * a.n = omega arith in
    whole _ l.to l.x _ all l.invariant.1 ∙ sym (try_bytes a.n a.k a.attempt)
