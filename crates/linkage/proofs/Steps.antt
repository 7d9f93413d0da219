-- What a function for C promises is its call's row of `stepped`.
use Prim.Native.Nat.{ℕ}
use mathlib.Core.Path.{◌≡◌, ap}
use mathlib.Core.List.{List}
use Rattle.firmware.specs.Face.{Face, face_of, Got}
use Rattle.store.specs.GetList.{Listing}
use Rattle.linkage.specs.Step.{stepped_of}

-- a call other than get and a list of gets
pub no_place : {f g : Face} {bs : List ℕ} → f ≡ g → stepped_of f 0 0 0 bs ≡ stepped_of g 0 0 0 bs
no_place {bs = bs} = ap (λ (f : Face). stepped_of f 0 0 0 bs)

pub get-place : {x y : Got} {r s w k bs : List ℕ} → x ≡ y
    → stepped_of (face_of x.number 0 r s w k) x.buffer x.offset 0 bs ≡ stepped_of (face_of y.number 0 r s w k) y.buffer y.offset 0 bs
get-place {r = r} {s = s} {w = w} {k = k} {bs = bs} = ap (λ (g : Got). stepped_of (face_of g.number 0 r s w k) g.buffer g.offset 0 bs)

pub list_out : {x y : Listing} {r s w k : List ℕ} → x ≡ y
    → stepped_of (face_of x.number 0 r s w k) 0 0 x.slots x.blocks ≡ stepped_of (face_of y.number 0 r s w k) 0 0 y.slots y.blocks
list_out {r = r} {s = s} {w = w} {k = k} = ap (λ (l : Listing). stepped_of (face_of l.number 0 r s w k) 0 0 l.slots l.blocks)
