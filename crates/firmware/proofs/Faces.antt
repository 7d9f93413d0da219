-- The laws of the calls as C sees them.
use Prim.Native.Nat.{ℕ}
use mathlib.Core.Path.{◌≡◌, refl, ap, sym, ◌∙◌}
use mathlib.Core.Bool.{Bool, true, false, cond}
use Rattle.std.specs.Prelude.{Result, Ok, Err, MatchResult}
use Rattle.std.specs.Result.{result_unwrap_or}
use Rattle.refusals.specs.declared.Refusal.{Refusal}
use Rattle.refusals.specs.declared.Refusal.TheVariants.{Size}
use Rattle.refusals.specs.Numbers.{answer}
use mathlib.Core.Logic.{◌≢◌}
use mathlib.Core.List.{List}
use borrow.Author.Tests.{eq-eqb, ne_eqb, eqb-true}
use mir.Val.{bool_byte}
use lib.Dec.{eqb}
use lib.ListN.{length}
use Rattle.store.specs.declared.place.Place.{Place}
use Rattle.store.specs.declared.place.Place.TheVariants.{Nowhere}
use Rattle.store.specs.declared.record.Record.{Record}
use Rattle.store.specs.State.{State, Outcome}
use Rattle.store.specs.CodeState.{state_of}
use Rattle.store.specs.Request.{get}
use Rattle.store.specs.Causes.{cause}
use Rattle.store.specs.Get.{newest, get_place}
use Rattle.store.specs.GetList.{listing_of, slots_read, listing}
use Rattle.store.specs.declared.cost as Code
use Rattle.store.specs.Cost.{Cost, no_figures, costed}
use Rattle.inspect.specs.Alike.{Alike, alike_answer, alike_of}
use Rattle.journal.specs.Geometry.{Geometry}
use Rattle.firmware.specs.Face.{record_bytes, decode_record, Face, face_of, handed, faced, buffer_number, buffer_offset, got_of, got_in, got, listed, told, asked, compared_of, compared}

-- "another length is 1"
pub faced-length : (call : State → Outcome) (r s w k : List ℕ) → length r ≢ record_bytes → face_of 1 0 r s w k ≡ faced call r s w k
unfolding faced
faced-length call r s w k h = rw (ne_eqb (length r) record_bytes h)

-- a right length: the store's outcome
pub faced-outcome : (call : State → Outcome) (r s w k : List ℕ) → length r ≡ record_bytes → handed (call (state_of (decode_record r) s w k)) ≡ faced call r s w k
unfolding faced
faced-outcome call r s w k h = rw (eq-eqb (length r) record_bytes h)

-- decoded to d; x is what was told of the outcome o
pub faced-told : (call : State → Outcome) (r s w k : List ℕ) (d : Record) (o : Outcome) (x : Face)
    → length r ≡ record_bytes
    → d ≡ decode_record r
    → o ≡ call (state_of d s w k)
    → x ≡ handed o
    → x ≡ faced call r s w k
faced-told call r s w k d o x h e p q =
    q ∙ ap handed (p ∙ ap (λ (y : Record). call (state_of y s w k)) e) ∙ faced-outcome call r s w k h

module _ (geo : Geometry) where
  -- likewise get
  pub got-length : (a : ℕ) (r s w k : List ℕ) → length r ≢ record_bytes → got_of 1 0 0 ≡ got geo a r s w k
  unfolding got
  got-length a r s w k h = rw (ne_eqb (length r) record_bytes h)

  pub got_place : (a : ℕ) (r s w k : List ℕ) → length r ≡ record_bytes → got_in geo a (state_of (decode_record r) s w k) ≡ got geo a r s w k
  unfolding got
  got_place a r s w k h = rw (eq-eqb (length r) record_bytes h)

  pub got-done : (a : ℕ) (r s w k : List ℕ) (n b o : ℕ) (d : Record) (p : Place)
      → length r ≡ record_bytes
      → d ≡ decode_record r
      → p ≡ get_place geo a (state_of d s w k)
      → b ≡ buffer_number p
      → o ≡ buffer_offset p
      → n ≡ cause geo (get a) (state_of d s w k)
      → got_of n b o ≡ got geo a r s w k
  got-done a r s w k n b o d p h e f g i m =
      (λ j. got_of (m j) (g j) (i j))
      ∙ ap (λ (x : Place). got_of (cause geo (get a) (state_of d s w k)) (buffer_number x) (buffer_offset x)) f
      ∙ ap (λ (x : Record). got_in geo a (state_of x s w k)) e
      ∙ got_place a r s w k h

  -- a place that is named is that of a get that is not refused
  pub named_done : (a : ℕ) (st : State) → buffer_number (get_place geo a st) ≢ 0 → 0 ≡ cause geo (get a) st
  unfolding get_place
  named_done a st h = go (eqb (cause geo (get a) st) 0) refl h
    where
      go : (t : Bool) → eqb (cause geo (get a) st) 0 ≡ t → buffer_number (cond t (newest geo a st) Nowhere) ≢ 0 → 0 ≡ cause geo (get a) st
      go true e n = sym (eqb-true _ _ e)
      go false e n = absurd (n refl)

  pub got_named : (a : ℕ) (r s w k : List ℕ) (b o : ℕ) (d : Record) (p : Place)
      → length r ≡ record_bytes
      → d ≡ decode_record r
      → p ≡ get_place geo a (state_of d s w k)
      → b ≡ buffer_number p
      → o ≡ buffer_offset p
      → b ≢ 0
      → got_of 0 b o ≡ got geo a r s w k
  got_named a r s w k b o d p h e f g i n =
      let named : buffer_number (get_place geo a (state_of d s w k)) ≢ 0 = λ z. n (g ∙ ap buffer_number f ∙ z) in
      got-done a r s w k 0 b o d p h e f g i (named_done a (state_of d s w k) named)

module _ (geo : Geometry) where
  -- likewise a list
  pub listed-length : (xs bs r s w k : List ℕ) → length r ≢ record_bytes → listing_of 1 0 bs ≡ listed geo xs bs r s w k
  unfolding listed
  listed-length xs bs r s w k h = rw (ne_eqb (length r) record_bytes h)

  pub listed-listing : (xs bs r s w k : List ℕ) → length r ≡ record_bytes → listing geo xs bs (state_of (decode_record r) s w k) ≡ listed geo xs bs r s w k
  unfolding listed
  listed-listing xs bs r s w k h = rw (eq-eqb (length r) record_bytes h)

-- the slots that are counted: none of a refusal
pub told_slots : (q : Result ℕ Refusal) (n m : ℕ) (bs : List ℕ) → n ≡ answer q → m ≡ result_unwrap_or q 0
    → listing_of n m bs ≡ listing_of (answer q) (slots_read q) bs
told_slots (Ok x) n m bs e f = λ j. listing_of (e j) (f j) bs
told_slots (Err x) n m bs e f = λ j. listing_of (e j) (f j) bs

-- ---- an inquiry

pub asked-length : (cost : State → Cost) (r s w k : List ℕ) → length r ≢ record_bytes → told (no_figures 1) ≡ asked cost r s w k
unfolding asked
asked-length cost r s w k h = rw (ne_eqb (length r) record_bytes h)

pub asked_cost : (cost : State → Cost) (r s w k : List ℕ) → length r ≡ record_bytes → told (cost (state_of (decode_record r) s w k)) ≡ asked cost r s w k
unfolding asked
asked_cost cost r s w k h = rw (eq-eqb (length r) record_bytes h)

-- d is what was decoded, q what the inquiry of it answered
module _ (cost : State → Cost) (r s w k : List ℕ) where
  pub asked-said : (d : Result Record Refusal) (q : Result Code.Cost.Cost Refusal) (post : Record → Type 0)
      → ((x : Record) → post x → costed q ≡ cost (state_of x s w k))
      → MatchResult d (λ x. (length r ≡ record_bytes) × (x ≡ decode_record r)) (λ e. (length r ≢ record_bytes) × (e ≡ Size))
      → MatchResult d post (λ e. q ≡ Err e)
      → told (costed q) ≡ asked cost r s w k
  asked-said (Ok x) q post f h p = ap told (f x p ∙ ap (λ (y : Record). cost (state_of y s w k)) h.1) ∙ asked_cost cost r s w k h.0
  asked-said (Err e) q post f h p =
      ap (λ (x : Result Code.Cost.Cost Refusal). told (costed x)) (p ∙ ap (λ (x : Refusal). Err x) h.1) ∙ asked-length cost r s w k h.0

-- ---- alike

-- a yes is 1
as_byte : (b : Bool) → bool_byte b ≡ cond b 1 0
as_byte true = refl
as_byte false = refl

module _ (geo : Geometry) where
  pub compared-said : (a b : List ℕ) (q : Result Bool Refusal) (n y : ℕ) (byte : Bool)
      → alike_answer q ≡ alike_of geo a b
      → n ≡ answer q
      → byte ≡ result_unwrap_or q false
      → y ≡ bool_byte byte
      → compared_of n y ≡ compared geo a b
  unfolding compared
  compared-said a b q n y byte e f g h =
      let one : y ≡ cond (result_unwrap_or q false) 1 0 = h ∙ as_byte byte ∙ ap (λ (t : Bool). cond t 1 0) g in
      (λ j. compared_of (f j) (one j)) ∙ said q ∙ ap (λ (z : Alike). compared_of z.number (cond z.yes 1 0)) e
    where
      said : (r : Result Bool Refusal) → compared_of (answer r) (cond (result_unwrap_or r false) 1 0) ≡ compared_of (alike_answer r).number (cond (alike_answer r).yes 1 0)
      said (Ok x) = refl
      said (Err x) = refl
