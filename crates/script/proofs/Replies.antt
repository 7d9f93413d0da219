-- The laws of replies.
use Prim.Native.Nat.{ℕ, suc, ◌+◌, ◌*◌, ◌-◌, ◌<◌, ◌≤◌}
use mathlib.Core.Path.{◌≡◌, refl, ap, ◌∙◌}
use mathlib.Core.Bool.{Bool, true, false, cond}
use mathlib.Core.List.{List, ◌++◌, append_assoc, append-nil}
use native.Mathlib.Omega.{arith}
use denote.Ref.{Bor}
use lib.Dec.{eqb}
use lib.ListN.{length, take, drop, get_or, replicate, length-append, length-drop, length-replicate, drop_of_length-le}
use lib.Seq.{length-take-le, take_at, drop-cons}
use Rattle.cells.specs.Part.{View, view_of}
use Rattle.card.specs.Marks.{spread}
use Rattle.store.specs.declared.place.Place.{Place}
use Rattle.store.specs.declared.place.Place.TheVariants.{Settled, Waiting, Work, Nowhere}
use Rattle.store.specs.State.{State}
use Rattle.store.specs.Request.{get}
use Rattle.store.specs.Causes.{cause}
use Rattle.store.specs.Get.{get_place, bytes_at, part_at}
use Rattle.journal.specs.Geometry.{trap}
use Rattle.script.specs.Numbers.{zero_digit}
use Rattle.script.specs.Replies.{Reply, got, values}

-- ---- get

-- a part has the bytes at its place
part_bytes : (p : Place) (settled waiting work : Bor (List ℕ)) (st : State) → settled.now ≡ st.settled → waiting.now ≡ st.waiting → work.now ≡ st.work
    → (part_at p settled waiting work).bytes ≡ bytes_at p st
part_bytes (Settled o) settled waiting work st h w k = ap (λ (l : List ℕ). take 512 (drop o l)) h
part_bytes (Waiting o) settled waiting work st h w k = ap (λ (l : List ℕ). take 512 (drop o l)) w
part_bytes (Work o) settled waiting work st h w k = ap (λ (l : List ℕ). take 512 (drop o l)) k
part_bytes Nowhere settled waiting work st h w k = refl

-- a refused get hands out no bytes
third_got : (k : ℕ) (p : Place) (st : State) → get_or (bytes_at (cond (eqb k 0) p Nowhere) st) 0 0 ≡ cond (eqb k 0) (get_or (bytes_at (cond (eqb k 0) p Nowhere) st) 0 0) 0
third_got k p st = go (eqb k 0)
  where
    go : (t : Bool) → get_or (bytes_at (cond t p Nowhere) st) 0 0 ≡ cond t (get_or (bytes_at (cond t p Nowhere) st) 0 0) 0
    go true = refl
    go false = refl

pub got-done : (a n t : ℕ) (st : State) (r settled waiting work : Bor (List ℕ)) → settled.now ≡ st.settled → waiting.now ≡ st.waiting → work.now ≡ st.work
    → n ≡ cause trap (get a) st → view_of r ≡ part_at (get_place trap a st) settled waiting work → t ≡ get_or r.now 0 0
    → ◌≡◌ {A = Reply} (record { answer = n; third = t; state = st }) (got a st)
unfolding get_place
got-done a n t st r settled waiting work hs hw hk hn hr ht =
    let bytes : r.now ≡ bytes_at (get_place trap a st) st = ap (λ (v : View). v.bytes) hr ∙ part_bytes (get_place trap a st) settled waiting work st hs hw hk in
    let third : t ≡ cond (eqb (cause trap (get a) st) 0) (get_or (bytes_at (get_place trap a st) st) 0 0) 0 =
    ht ∙ ap (λ (l : List ℕ). get_or l 0 0) bytes ∙ third_got (cause trap (get a) st) _ st in
    λ j. record { answer = hn j; third = third j; state = st }

-- ---- marks

-- one digit more: its marks, once their part is back, and the digits behind it
pub marks_turn : (line ms part : List ℕ) (i v n : ℕ) → i + 4 < length line → 512 * i + 512 ≤ length ms → n ≡ 512 → v ≡ get_or line (i + 4) 0 - zero_digit
    → part ≡ replicate (length (take n (drop (512 * i) ms))) v
    → take (512 * (i + 1)) (take (512 * i) ms ++ (part ++ drop n (drop (512 * i) ms))) ++ spread (values (drop (i + 1 + 4) line)) ≡ take (512 * i) ms ++ spread (values (drop (i + 4) line))
unfolding values spread
marks_turn line ms part i v n h l k e p =
    let next : i + 1 + 4 ≡ suc (i + 4) = omega arith in
    let front : length (take (512 * i) ms) ≡ 512 * i = length-take-le (512 * i) ms (omega arith) in
    let behind : length (drop (512 * i) ms) ≡ length ms - 512 * i = length-drop (512 * i) ms in
    let long : length (take n (drop (512 * i) ms)) ≡ 512 = length-take-le n (drop (512 * i) ms) (omega arith) ∙ k in
    let own : part ≡ replicate 512 v = p ∙ ap (λ (x : ℕ). replicate x v) long in
    let size : length (take (512 * i) ms ++ part) ≡ 512 * (i + 1) = length-append (take (512 * i) ms) part ∙ rw (front, own, length-replicate) (omega arith) in
    rw (← append_assoc (take (512 * i) ms) part (drop n (drop (512 * i) ms)), take_at (take (512 * i) ms ++ part) (drop n (drop (512 * i) ms)) (512 * (i + 1)) size, next, drop-cons line (i + 4) 0 h, ← e, own, append_assoc)

-- behind the last digit there are none
pub marks_over : (line ms : List ℕ) (i : ℕ) → length line ≤ i + 4 → take (512 * i) ms ++ spread (values (drop (i + 4) line)) ≡ take (512 * i) ms
unfolding values spread
marks_over line ms i h = rw (drop_of_length-le line {i = i + 4} h, append-nil)
