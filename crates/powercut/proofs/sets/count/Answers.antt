-- `powercut::sets::count` meets its contract.
use Prim.Native.Nat.{ℕ, zero, suc, ◌*◌, ◌%◌, ◌^◌, ◌≤◌}
use mathlib.Core.Path.{◌≡◌, refl}
use mathlib.Core.Bool.{true, false}
use native.Mathlib.Omega.{arith}
use borrow.Author.Tests.{le-leb, lt-leb}
use lib.Dec.{leb, lit≤}
use Rattle.powercut.specs.Sets.{set_count, few}
use Rattle.powercut.proofs.sets.count.Goals as goal

-- a shift by so few bits loses none
shifted : (n : ℕ) → n ≤ few → (1 * 2 ^ n % 4294967296 ≡ 2 ^ n) × (2 ^ n ≤ 134)
shifted zero h = (refl, lit≤ tt)
shifted (suc zero) h = (refl, lit≤ tt)
shifted (suc (suc zero)) h = (refl, lit≤ tt)
shifted (suc (suc (suc zero))) h = (refl, lit≤ tt)
shifted (suc (suc (suc (suc zero)))) h = (refl, lit≤ tt)
shifted (suc (suc (suc (suc (suc zero))))) h = (refl, lit≤ tt)
shifted (suc (suc (suc (suc (suc (suc zero)))))) h = (refl, lit≤ tt)
shifted (suc (suc (suc (suc (suc (suc (suc n))))))) h = absurd (omega arith)

pub returns-then-n-le-FEW : goal.returns-then-n-le-FEW
unfolding set_count
returns-then-n-le-FEW c =
    let n = c.args.n in
    let low : leb n few ≡ true = le-leb _ _ c.if-n-le-FEW.true in
    let few-sets = shifted n c.if-n-le-FEW.true in
    (rw (low, few-sets.0), rw few-sets.0 few-sets.1)

pub returns : goal.returns
unfolding set_count
returns c =
    let many : leb c.args.n few ≡ false = lt-leb _ _ c.if-n-le-FEW.false in
    (rw many, omega arith)
