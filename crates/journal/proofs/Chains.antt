-- The laws of wanted addresses: their chains, and the last place where each was met.
use Rattle.std.specs.Prelude.{Option, Some, None}
use Prim.Native.Nat.{ℕ, zero, suc, ◌+◌, ◌-◌, ◌%◌, ◌≤◌, ◌<◌}
use mathlib.Core.Path.{◌≡◌, refl, ap, sym, ◌∙◌}
use mathlib.Core.Bool.{Bool, true, false, cond}
use mathlib.Core.Logic.{◌≢◌}
use mathlib.Core.List.{List, [], ◌∷◌, ◌++◌}
use native.Mathlib.Omega.{arith}
use native.Mathlib.Numerals.{add-one}
use native.Mathlib.Decide.{ℕ_discrete}
use borrow.Author.Tests.{ne_eqb}
use lib.Dec.{eqb}
use lib.ListN.{length, get_or, set, replicate, length-append, get_or-append, get_or-replicate}
use lib.Seq.{get_or_at, get_or-set_same, get_or-set_other}
use Rattle.cells.specs.Upto.{up_to}
use Rattle.cells.specs.Upto.Laws.{length-up_to, get_or-up_to}
use Rattle.journal.specs.Lookup.{last_of}
use Rattle.journal.specs.Wanted.{wanted_count, wanted_at}
use Rattle.journal.specs.CodeWanted.{numbered, buckets, bucket_at, Chained, last_in, Met}
use Rattle.journal.proofs.Lookups.{Means, last_means}

-- ---- a lookup's place as a number

module _ (f : ℕ → ℕ) (b n : ℕ) where
  pub numbered-le : numbered (last_of f b n) ≤ n
  numbered-le = go (last_of f b n) (last_means f b n)
    where
      go : (r : Option ℕ) → Means f b n r → numbered r ≤ n
      go (Some k) m = omega (arith, m.inside)
      go None m = omega arith

  pub numbered_here : numbered (last_of f b n) ≢ 0 → f (numbered (last_of f b n) - 1) ≡ b
  numbered_here = go (last_of f b n) (last_means f b n)
    where
      go : (r : Option ℕ) → Means f b n r → numbered r ≢ 0 → f (numbered r - 1) ≡ b
      go (Some k) m h = let e : k + 1 - 1 ≡ k = omega arith in rw e m.here
      go None m h = absurd (h refl)

  -- none from there on has it
  pub numbered_past : (j : ℕ) → numbered (last_of f b n) ≤ j → j < n → f j ≢ b
  numbered_past j = go (last_of f b n) (last_means f b n)
    where
      go : (r : Option ℕ) → Means f b n r → numbered r ≤ j → j < n → f j ≢ b
      go (Some k) m h less = m.later j (omega arith) less
      go None m h less = m j less

-- one place more
pub numbered_more : (f : ℕ → ℕ) (b n : ℕ) → numbered (last_of f b (suc n)) ≡ cond (eqb (f n) b) (n + 1) (numbered (last_of f b n))
unfolding last_of
numbered_more f b n = go (eqb (f n) b)
  where
    go : (t : Bool) → numbered (cond t (Some n) (last_of f b n)) ≡ cond t (n + 1) (numbered (last_of f b n))
    go true = refl
    go false = refl

-- ---- the same places give the same lookup

pub last-same : (f g : ℕ → ℕ) (a n : ℕ) → ((i : ℕ) → i < n → f i ≡ g i) → last_of f a n ≡ last_of g a n
unfolding last_of
last-same f g a zero h = refl
last-same f g a (suc n) h = rw (h n (omega arith), last-same f g a n (λ i p. h i (omega arith)))

pub last-in : (f : ℕ → ℕ) (n a : ℕ) → last_in (up_to f n) a ≡ last_of f a n
last-in f n a = rw (length-up_to f n) (last-same (λ i. get_or (up_to f n) i 0) f a n (λ i h. get_or-up_to f n i 0 h))

-- an address more, at the end
pub in_more : (l : List ℕ) (a x : ℕ) → last_in (l ++ (a ∷ [])) x ≡ cond (eqb a x) (Some (length l)) (last_in l x)
unfolding last_of
in_more l a x =
    let size : length (l ++ (a ∷ [])) ≡ suc (length l) = length-append l (a ∷ []) ∙ add-one (length l) in
    let here : get_or (l ++ (a ∷ [])) (length l) 0 ≡ a = get_or_at l a [] 0 (length l) refl in
    let front : last_of (λ i. get_or (l ++ (a ∷ [])) i 0) x (length l) ≡ last_in l x = last-same (λ i. get_or (l ++ (a ∷ [])) i 0) (λ i. get_or l i 0) x (length l) (λ i h. get_or-append l (a ∷ []) 0 i h) in
    rw size (rw (here, front))

-- ---- chains

pub chained_none : (xs before : List ℕ) → Chained xs (replicate buckets 0) before 0
unfolding last_of
chained_none xs before = record { lasts = λ b h. get_or-replicate buckets b 0 0 h; befores = λ i h. absurd (omega arith) }

-- one more: its place goes behind what the bucket had
pub chained_more : (xs last before : List ℕ) (n b : ℕ) → length last ≡ buckets → n < length before → b ≡ bucket_at xs n → Chained xs last before n
    → Chained xs (set last b (n + 1)) (set before n (get_or last b 0)) (n + 1)
chained_more xs last before n b size room e c = record { lasts = lasts; befores = befores }
  where
    inside : b < length last
    inside = omega arith

    lasts : (x : ℕ) → x < buckets → get_or (set last b (n + 1)) x 0 ≡ numbered (last_of (bucket_at xs) x (n + 1))
    lasts x h = rw (add-one) (rw (numbered_more (bucket_at xs) x n, ← e) (go (ℕ_discrete b x)))
      where
        go : Dec (b ≡ x) → get_or (set last b (suc n)) x 0 ≡ cond (eqb b x) (n + 1) (numbered (last_of (bucket_at xs) x n))
        go (yes p) = rw (← p, borrow.Author.Tests.eq-eqb b b refl, get_or-set_same last b (suc n) 0 inside) (omega arith)
        go (no p) = rw (ne_eqb b x p, get_or-set_other last b x (suc n) 0 (λ q. p (sym q))) (c.lasts x h)

    befores : (i : ℕ) → i < n + 1 → get_or (set before n (get_or last b 0)) i 0 ≡ numbered (last_of (bucket_at xs) (bucket_at xs i) i)
    befores i h = go (ℕ_discrete i n)
      where
        go : Dec (i ≡ n) → get_or (set before n (get_or last b 0)) i 0 ≡ numbered (last_of (bucket_at xs) (bucket_at xs i) i)
        go (yes p) = rw p (get_or-set_same before n (get_or last b 0) 0 room ∙ rw (← e) (c.lasts b (omega arith)))
        go (no p) = get_or-set_other before n i (get_or last b 0) 0 p ∙ c.befores i (omega arith)

-- the place before it in its bucket
pub before_le : (xs last before : List ℕ) (n i : ℕ) → Chained xs last before n → i < n → get_or before i 0 ≤ i
before_le xs last before n i c h = rw (c.befores i h) (numbered-le (bucket_at xs) (bucket_at xs i) i)

-- ---- an address read, marked along the chain of its bucket

-- what stands at a place that the address was compared with
abbrev pub compared : List ℕ → ℕ → ℕ → List (Option ℕ) → ℕ → Option ℕ
compared xs a k met j = cond (eqb a (wanted_at xs j)) (Some k) (get_or met j None)

-- from place i on all were compared, below it none
pub record Compared (xs : List ℕ) (a place : ℕ) (old met : List (Option ℕ)) (i : ℕ) : Type 0 where
  pub inside : i ≤ wanted_count xs
  pub bucket : i ≢ 0 → bucket_at xs (i - 1) ≡ a % buckets
  pub size : length met ≡ length old
  pub below : (j : ℕ) → j < i → get_or met j None ≡ get_or old j None
  pub from : (j : ℕ) → i ≤ j → j < wanted_count xs → get_or met j None ≡ compared xs a place old j

-- a place of another bucket has another address
pub other_bucket : (xs : List ℕ) (a place : ℕ) (old : List (Option ℕ)) (j : ℕ) → bucket_at xs j ≢ a % buckets → get_or old j None ≡ compared xs a place old j
other_bucket xs a place old j h = rw (ne_eqb a (wanted_at xs j) (λ e. h (ap (λ (x : ℕ). x % buckets) (sym e))))

module _ (xs last before : List ℕ) (a place : ℕ) (old : List (Option ℕ)) (c : Chained xs last before (wanted_count xs)) where
  -- at first
  pub compared-last : (i : ℕ) → i ≡ get_or last (a % buckets) 0 → Compared xs a place old old i
  compared-last i e =
      let e' : i ≡ numbered (last_of (bucket_at xs) (a % buckets) (wanted_count xs)) = e ∙ c.lasts (a % buckets) (omega arith) in
      rw e'
      record {
        inside = numbered-le (bucket_at xs) (a % buckets) (wanted_count xs);
        bucket = numbered_here (bucket_at xs) (a % buckets) (wanted_count xs);
        size = refl;
        below = λ j h. refl;
        from = λ j h less. other_bucket xs a place old j (numbered_past (bucket_at xs) (a % buckets) (wanted_count xs) j h less);
      }

  -- one place, and on to the one before it in its bucket
  pub compared_on : (met new : List (Option ℕ)) (i k : ℕ) → 0 < i → Compared xs a place old met i
      → length new ≡ length met
      → ((j : ℕ) → j ≢ i - 1 → get_or new j None ≡ get_or met j None)
      → get_or new (i - 1) None ≡ compared xs a place met (i - 1)
      → k ≡ get_or before (i - 1) 0
      → Compared xs a place old new k
  compared_on met new i k pos q size others ev ek =
      let p = i - 1 in
      let here : p < wanted_count xs = omega (arith, q.inside) in
      let b : bucket_at xs p ≡ a % buckets = q.bucket (λ z. omega arith) in
      let ek' : k ≡ numbered (last_of (bucket_at xs) (bucket_at xs p) p) = ek ∙ c.befores p here in
      let le : k ≤ p = rw ek' (numbered-le (bucket_at xs) (bucket_at xs p) p) in
      record {
        inside = omega arith;
        bucket = rw ek' (λ z. numbered_here (bucket_at xs) (bucket_at xs p) p z ∙ b);
        size = size ∙ q.size;
        below = λ j h. others j (λ z. omega arith) ∙ q.below j (omega arith);
        from = λ j h less. go j h less (ℕ_discrete j p);
      }
    where
      go : (j : ℕ) → k ≤ j → j < wanted_count xs → Dec (j ≡ i - 1) → get_or new j None ≡ compared xs a place old j
      go j h less (yes e) = rw e (ev ∙ rw (q.below (i - 1) (omega arith)))
      go j h less (no e) = others j e ∙ later (native.Mathlib.Decide.dec_lt j (i - 1))
        where
          later : Dec (j < i - 1) → get_or met j None ≡ compared xs a place old j
          later (yes l) =
              let here : i - 1 < wanted_count xs = omega (arith, q.inside) in
              let b : bucket_at xs (i - 1) ≡ a % buckets = q.bucket (λ z. omega arith) in
              let ek' : k ≡ numbered (last_of (bucket_at xs) (bucket_at xs (i - 1)) (i - 1)) = ek ∙ c.befores (i - 1) here in
              let past : numbered (last_of (bucket_at xs) (bucket_at xs (i - 1)) (i - 1)) ≤ j = rw (← ek') h in
              q.below j (omega arith) ∙ other_bucket xs a place old j (λ z. numbered_past (bucket_at xs) (bucket_at xs (i - 1)) (i - 1) j past l (z ∙ sym b))
          later (no l) = q.from j (omega arith) less

-- at last: the address is the last one met
pub compared-met : (xs : List ℕ) (a k : ℕ) (old met : List (Option ℕ)) (l : List ℕ) → Compared xs a k old met 0 → length l ≡ k → Met xs l old → Met xs (l ++ (a ∷ [])) met
compared-met xs a k old met l q e m i h =
    q.from i (omega arith) h ∙ rw (m i h, ← e) (sym (in_more l a (wanted_at xs i)))

-- none met
pub met_none : (xs : List ℕ) (n : ℕ) → wanted_count xs ≤ n → Met xs [] (replicate n None)
unfolding last_of
met_none xs n h i less = get_or-replicate n i None None (omega arith)
