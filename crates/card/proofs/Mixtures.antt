-- Mixtures of settled bytes and waiting writes that leave block 0 whole: every one is what some marks leave, and what right marks leave is one.
use Prim.Native.Nat.{ℕ, zero, suc, ◌+◌, ◌*◌, ◌/◌, ◌%◌, ◌≤◌, ◌<◌}
use mathlib.Core.Path.{◌≡◌, refl, ap, sym, ◌∙◌}
use mathlib.Core.Bool.{Bool, true, false, cond, ◌&&◌}
use mathlib.Core.List.{List, [], ◌∷◌, ◌++◌, append_assoc}
use native.Mathlib.Nat.{add-zero, zero-add}
use native.Mathlib.Numerals.{add-one}
use native.Mathlib.Omega.{arith}
use borrow.Author.Tests.{eqb-true, eq-eqb, ne_eqb}
use lib.Dec.{eqb}
use lib.ListN.{length, get_or, length-append}
use Rattle.cells.specs.Upto.{up_to}
use Rattle.cells.specs.Upto.Laws.{length-up_to, get_or-up_to}
use Rattle.cells.specs.Entry.{block_bytes, Entry}
use Rattle.card.specs.Marks.{marks_fit}
use Rattle.card.specs.Torn.{address_at, RightMarks, newest_byte, byte_of}
use Rattle.card.proofs.ByMark.{right_fit}

off : (t : Bool) (y x : ℕ) → cond (t && false) y x ≡ x
off true y x = refl
off false y x = refl

-- ---- every mixture

-- byte j of block a comes from the write at place `from a j`
module _ (from : ℕ → ℕ → ℕ) where
  -- so that byte of the write at place i, to block a, is marked if it is this one
  chosen : ℕ → ℕ → ℕ → ℕ
  chosen a i j = cond (eqb (from a j) i) 1 0

  -- of all writes, in a row
  abbrev marking : List Entry → ℕ → ℕ
  marking q x = chosen (address_at q (x / block_bytes)) (x / block_bytes) (x % block_bytes)

  pub marks_from : List Entry → List ℕ
  marks_from q = up_to (marking q) (block_bytes * length q)

  -- the marks, from place i on, of the writes q
  abbrev Chosen : List ℕ → ℕ → List Entry → Type 0
  Chosen ms i q = (k j : ℕ) → k < length q → j < block_bytes → get_or ms (block_bytes * (i + k) + j) 0 ≡ chosen (address_at q k) (i + k) j

  marks-chosen : (q : List Entry) → Chosen (marks_from q) 0 q
  unfolding marks_from
  marks-chosen q k j l b =
      let inside : block_bytes * (0 + k) + j < block_bytes * length q = omega arith in
      let place : (block_bytes * (0 + k) + j) / block_bytes ≡ k = omega arith in
      let byte : (block_bytes * (0 + k) + j) % block_bytes ≡ j = omega arith in
      get_or-up_to (marking q) (block_bytes * length q) (block_bytes * (0 + k) + j) 0 inside
      ∙ rw (place, byte, zero-add k)

  front : (ms : List ℕ) (i : ℕ) (e : Entry) (q : List Entry) → Chosen ms i (e ∷ q) → (j : ℕ) → j < block_bytes → get_or ms (block_bytes * i + j) 0 ≡ chosen e.address i j
  front ms i e q h j b = rw (add-zero i) at (h 0 j (omega arith) b)

  behind : (ms : List ℕ) (i : ℕ) (e : Entry) (q : List Entry) → Chosen ms i (e ∷ q) → Chosen ms (suc i) q
  behind ms i e q h k j l b = let z : suc i + k ≡ i + suc k = omega arith in rw z (h (suc k) j (omega arith) b)

  -- ---- they leave the bytes that are chosen

  -- a write has this byte of the block, and it is chosen
  one : (ms : List ℕ) (i a j : ℕ) (e : Entry) (x : ℕ) → get_or ms (block_bytes * i + j) 0 ≡ chosen e.address i j
      → cond (eqb a e.address && eqb (get_or ms (block_bytes * i + j) 0) 1) (get_or e.block j 0) x ≡ cond (eqb a e.address && eqb (from a j) i) (get_or e.block j 0) x
  unfolding chosen
  one ms i a j e x h = rw h (go (eqb a e.address) refl)
    where
      bit : (t : Bool) → eqb (cond t 1 0) 1 ≡ t
      bit true = refl
      bit false = refl

      go : (t : Bool) → eqb a e.address ≡ t
          → cond (t && eqb (cond (eqb (from e.address j) i) 1 0) 1) (get_or e.block j 0) x ≡ cond (t && eqb (from a j) i) (get_or e.block j 0) x
      go false p = refl
      go true p = let z : a ≡ e.address = eqb-true _ _ p in rw (z, bit (eqb (from e.address j) i))

  -- behind the place that is chosen
  past : (ms : List ℕ) (i a j : ℕ) (q : List Entry) (x : ℕ) → Chosen ms i q → j < block_bytes → from a j < i → newest_byte ms i a j q x ≡ x
  unfolding newest_byte
  past ms i a j [] x h b l = refl
  past ms i a j (e ∷ q) x h b l =
      ap (newest_byte ms (suc i) a j q) (one ms i a j e x (front ms i e q h j b))
      ∙ rw (ne_eqb (from a j) i (omega arith), off (eqb a e.address) (get_or e.block j 0) x) (past ms (suc i) a j q x (behind ms i e q h) b (omega arith))

  -- from before it on
  reached : (ms : List ℕ) (i d a j : ℕ) (q : List Entry) (x : ℕ) → Chosen ms i q → j < block_bytes → from a j ≡ i + d → newest_byte ms i a j q x ≡ byte_of d a j q x
  unfolding newest_byte byte_of
  reached ms i d a j [] x h b p = refl
  reached ms i zero a j (e ∷ q) x h b p =
      let here : from a j ≡ i = p ∙ add-zero i in
      ap (newest_byte ms (suc i) a j q) (one ms i a j e x (front ms i e q h j b))
      ∙ past ms (suc i) a j q _ (behind ms i e q h) b (omega arith)
      ∙ rw (eq-eqb (from a j) i here) (on (eqb a e.address))
    where
      on : (t : Bool) → cond (t && true) (get_or e.block j 0) x ≡ cond t (get_or e.block j 0) x
      on true = refl
      on false = refl
  reached ms i (suc d) a j (e ∷ q) x h b p =
      ap (newest_byte ms (suc i) a j q) (one ms i a j e x (front ms i e q h j b))
      ∙ rw (ne_eqb (from a j) i (omega arith), off (eqb a e.address) (get_or e.block j 0) x) (reached ms (suc i) d a j q x (behind ms i e q h) b (omega arith))

  pub marks-from : (q : List Entry) (a j x : ℕ) → j < block_bytes → newest_byte (marks_from q) 0 a j q x ≡ byte_of (from a j) a j q x
  marks-from q a j x b = reached (marks_from q) 0 (from a j) a j q x (marks-chosen q) b (sym (zero-add (from a j)))

  -- ---- and a cut accepts them, if all bytes of block 0 come from one place

  pub marks_from_fit : ((j : ℕ) → j < block_bytes → from 0 j ≡ from 0 0) → (q : List Entry) → marks_fit (marks_from q) q ≡ true
  unfolding marks_from chosen
  marks_from_fit header q = right_fit (marks_from q) q (record {
    number = size;
    low = λ x l. let inside : x < block_bytes * length q = rw size at l in rw (get_or-up_to (marking q) (block_bytes * length q) x 0 inside) (bit (eqb (from (address_at q (x / block_bytes)) (x % block_bytes)) (x / block_bytes)));
    alike = λ i j l z b. at i j l z b ∙ ap (λ (p : ℕ). cond (eqb p i) 1 0) (header j b) ∙ sym (at i 0 l z (omega arith)) ∙ ap (λ (x : ℕ). get_or (marks_from q) x 0) (add-zero (block_bytes * i));
  })
    where
      size : length (marks_from q) ≡ block_bytes * length q
      size = length-up_to (marking q) (block_bytes * length q)

      bit : (t : Bool) → cond t 1 0 ≤ 1
      bit true = omega arith
      bit false = omega arith

      at : (i j : ℕ) → i < length q → address_at q i ≡ 0 → j < block_bytes → get_or (marks_from q) (block_bytes * i + j) 0 ≡ chosen 0 i j
      at i j l z b = (rw (zero-add i) at (marks-chosen q i j l b)) ∙ ap (λ (a : ℕ). chosen a i j) z

-- ---- nothing else

-- the place of the write that a byte comes from; p if it comes from none of the writes q, which wait from place i on
newest_place : List ℕ → ℕ → ℕ → ℕ → List Entry → ℕ → ℕ
newest_place ms i a j [] p = p
newest_place ms i a j (e ∷ q) p = newest_place ms (suc i) a j q (cond (eqb a e.address && eqb (get_or ms (block_bytes * i + j) 0) 1) i p)

-- no write waits behind the last
byte_past : (q : List Entry) (a j x : ℕ) → byte_of (length q) a j q x ≡ x
unfolding byte_of
byte_past [] a j x = refl
byte_past (e ∷ q) a j x = byte_past q a j x

byte_at : (es q : List Entry) (e : Entry) (a j x : ℕ) → byte_of (length es) a j (es ++ (e ∷ q)) x ≡ cond (eqb a e.address) (get_or e.block j 0) x
unfolding byte_of
byte_at [] q e a j x = refl
byte_at (f ∷ es) q e a j x = byte_at es q e a j x

-- the byte is that of the place, along the queue: behind the writes es there is y, that of place p
followed : (ms : List ℕ) (a j : ℕ) (es q : List Entry) (p x y : ℕ) → y ≡ byte_of p a j (es ++ q) x
    → newest_byte ms (length es) a j q y ≡ byte_of (newest_place ms (length es) a j q p) a j (es ++ q) x
unfolding newest_byte newest_place
followed ms a j es [] p x y h = h
followed ms a j es (e ∷ q) p x y h =
    let size : length (es ++ (e ∷ [])) ≡ suc (length es) = length-append es (e ∷ []) ∙ add-one (length es) in
    let rows : (es ++ (e ∷ [])) ++ q ≡ es ++ (e ∷ q) = append_assoc es (e ∷ []) q in
    rw (← size, ← rows) (followed ms a j (es ++ (e ∷ [])) q _ x _ (rw rows (go (eqb a e.address) (eqb (get_or ms (block_bytes * length es + j) 0) 1) refl)))
  where
    go : (t u : Bool) → eqb a e.address ≡ t → cond (t && u) (get_or e.block j 0) y ≡ byte_of (cond (t && u) (length es) p) a j (es ++ (e ∷ q)) x
    go true true z = sym (byte_at es q e a j x ∙ ap (λ (t : Bool). cond t (get_or e.block j 0) x) z)
    go true false z = h
    go false u z = h

-- block 0 comes from one place
one_place : (ms : List ℕ) (i j : ℕ) (q : List Entry) (p : ℕ) → ((k : ℕ) → k < length q → address_at q k ≡ 0 → get_or ms (block_bytes * (i + k) + j) 0 ≡ get_or ms (block_bytes * (i + k) + 0) 0)
    → newest_place ms i 0 j q p ≡ newest_place ms i 0 0 q p
unfolding newest_place
one_place ms i j [] p h = refl
one_place ms i j (e ∷ q) p h =
    ap (newest_place ms (suc i) 0 j q) (go (eqb 0 e.address) refl)
    ∙ one_place ms (suc i) j q _ (λ k l z. let place : suc i + k ≡ i + suc k = omega arith in rw place (h (suc k) (omega arith) z))
  where
    go : (t : Bool) → eqb 0 e.address ≡ t → cond (t && eqb (get_or ms (block_bytes * i + j) 0) 1) i p ≡ cond (t && eqb (get_or ms (block_bytes * i + 0) 0) 1) i p
    go false z = refl
    go true z =
        let alike : get_or ms (block_bytes * i + j) 0 ≡ get_or ms (block_bytes * i + 0) 0 = rw (add-zero i) at (h 0 (omega arith) (sym (eqb-true _ _ z))) in
        rw alike

pub places_of : List ℕ → List Entry → ℕ → ℕ → ℕ
places_of ms q a j = newest_place ms 0 a j q (length q)

pub places_bytes : (ms : List ℕ) (q : List Entry) (a j x : ℕ) → newest_byte ms 0 a j q x ≡ byte_of (places_of ms q a j) a j q x
unfolding places_of
places_bytes ms q a j x = followed ms a j [] q (length q) x x (sym (byte_past q a j x))

pub places_header : (ms : List ℕ) (q : List Entry) (j : ℕ) → RightMarks ms q → j < block_bytes → places_of ms q 0 j ≡ places_of ms q 0 0
unfolding places_of
places_header ms q j r b =
    one_place ms 0 j q (length q)
    (λ k l z. let place : 0 + k ≡ k = zero-add k in rw (place, add-zero (block_bytes * k)) (r.alike k j l z b))
