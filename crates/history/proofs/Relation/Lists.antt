-- Lists of entries: an address in them, none twice, data blocks; an entry that replaces or joins, and a list that does.
use Rattle.std.specs.Prelude.{Some}
use Prim.Native.Nat.{ℕ, zero, suc, ◌+◌, ◌<◌}
use mathlib.Core.Path.{◌≡◌, refl, ap, ap₂, sym, ◌∙◌}
use mathlib.Core.Bool.{Bool, true, false, cond, not, ◌||◌, or-true, or-false, or_assoc, or_self_left, false≢true}
use mathlib.Core.Logic.{◌≢◌}
use mathlib.Core.List.{List, [], ◌∷◌, ◌++◌, append-nil, map-append}
use native.Mathlib.Nat.{add-zero, suc-add}
use native.Mathlib.Omega.{arith}
use borrow.Author.Tests.{eq-eqb, ne_eqb, eqb-true, eqb-false, not-false}
use lib.Dec.{eqb}
use lib.ListN.{length, take, length-map}
use Rattle.cells.specs.Upto.{up_to}
use Rattle.cells.specs.Upto.Laws.{ext_up_to}
use Rattle.cells.specs.Entry.{Entry}
use Rattle.card.proofs.All.{All, all-up_to, up_to-all}
use Rattle.card.proofs.Runs.{take-map}
use Rattle.journal.specs.Geometry.{Geometry}
use Rattle.journal.specs.Layout.{is_data}
use Rattle.journal.specs.Log.{slot_entry, entries}
use Rattle.journal.specs.Lookup.{last_of, last_slot}
use Rattle.journal.proofs.Logs.{neither}
use Rattle.store.specs.Lists.{listed, list_of, find}
use Rattle.store.specs.Causes.{some, strays, is_found, twice}
use Rattle.store.proofs.Causes.{some_none}
use Rattle.store.proofs.Lookups.{last_at}
use Rattle.history.specs.Plain.{has, among, addresses, insert, merge}

-- ---- tests

eqb_comm : (a b : ℕ) → eqb a b ≡ eqb b a
eqb_comm a b = go (eqb a b) refl
  where
    go : (t : Bool) → eqb a b ≡ t → t ≡ eqb b a
    go true p = sym (eq-eqb b a (sym (eqb-true a b p)))
    go false p = sym (ne_eqb b a (λ q. eqb-false a b p (sym q)))

or_left_comm : (a b c : Bool) → a || (b || c) ≡ b || (a || c)
or_left_comm true b c = sym (or-true b)
or_left_comm false b c = refl

pub none_some : (f : ℕ → Bool) (n : ℕ) → ((i : ℕ) → i < n → f i ≡ false) → some f n ≡ false
unfolding some
none_some f zero h = refl
none_some f (suc n) h = rw (none_some f n (λ i p. h i (omega arith)), h n (omega arith))

-- ---- an address in a list

pub has-append : (a : ℕ) (x y : List Entry) → has a (x ++ y) ≡ has a x || has a y
unfolding has
has-append a [] y = refl
has-append a (e ∷ x) y = rw (has-append a x y) (sym (or_assoc (eqb e.address a) (has a x) (has a y)))

pub last_has : (f : ℕ → Entry) (a n : ℕ) → is_found (last_of (λ i. (f i).address) a n) ≡ has a (up_to f n)
unfolding last_of has
last_has f a zero = refl
last_has f a (suc n) = go (eqb (f n).address a) (last_has f a n) ∙ sym (has-append a (up_to f n) (f n ∷ []))
  where
    go : (t : Bool) → is_found (last_of (λ i. (f i).address) a n) ≡ has a (up_to f n)
        → is_found (cond t (Some n) (last_of (λ i. (f i).address) a n)) ≡ has a (up_to f n) || (t || false)
    go true k = sym (or-true (has a (up_to f n)))
    go false k = k ∙ sym (or-false (has a (up_to f n)))

pub find-has : (work : List ℕ) (from n a : ℕ) → is_found (find work from n a) ≡ has a (list_of work from n)
find-has work from n a = last_has (listed work from) a n

-- ---- by addresses

pub has-among : (a : ℕ) (l : List Entry) → has a l ≡ among a (addresses l)
unfolding has among addresses
has-among a [] = refl
has-among a (e ∷ l) = ap (λ (t : Bool). eqb e.address a || t) (has-among a l)

pub slot_among : (geo : Geometry) (s : List ℕ) (a n : ℕ) → is_found (last_slot s a n) ≡ among a (addresses (entries geo s n))
unfolding slot_entry
slot_among geo s a n = last_has (slot_entry geo s) a n ∙ has-among a (entries geo s n)

pub among-append : (a : ℕ) (xs ys : List ℕ) → among a (xs ++ ys) ≡ among a xs || among a ys
unfolding among
among-append a [] ys = refl
among-append a (x ∷ xs) ys = ap (λ (t : Bool). eqb x a || t) (among-append a xs ys) ∙ sym (or_assoc (eqb x a) (among a xs) (among a ys))

pub among-take : (a n : ℕ) (xs : List ℕ) → among a xs ≡ false → among a (take n xs) ≡ false
unfolding among
among-take a zero xs h = refl
among-take a (suc n) [] h = refl
among-take a (suc n) (x ∷ xs) h = let p = neither (eqb x a) (among a xs) h in rw p.0 (among-take a n xs p.1)

-- a block that no write of the list is addressed to
pub firm_besides : (a : ℕ) (l : List Entry) → among a (addresses l) ≡ false → All (λ e. a ≢ e.address) l
unfolding among addresses
firm_besides a [] h = tt
firm_besides a (e ∷ l) h = let p = neither (eqb e.address a) (among a (addresses l)) h in ((λ z. eqb-false _ _ p.0 (sym z)), firm_besides a l p.1)

pub besides_firm : (a : ℕ) (l : List Entry) → All (λ e. a ≢ e.address) l → among a (addresses l) ≡ false
unfolding among addresses
besides_firm a [] h = refl
besides_firm a (e ∷ l) h = rw (ne_eqb e.address a (λ z. h.0 (sym z))) (besides_firm a l h.1)

pub addresses-append : (l m : List Entry) → addresses (l ++ m) ≡ addresses l ++ addresses m
unfolding addresses
addresses-append l m = map-append (λ (e : Entry). e.address) l m

pub addresses-take : (n : ℕ) (l : List Entry) → addresses (take n l) ≡ take n (addresses l)
unfolding addresses
addresses-take n l = sym (take-map (λ (e : Entry). e.address) n l)

pub length-addresses : (l : List Entry) → length (addresses l) ≡ length l
unfolding addresses
length-addresses l = rw (length-map)

-- what waits and nothing else
pub waits_besides : (l : List Entry) (a : ℕ) → among a (addresses l ++ []) ≡ false → All (λ e. a ≢ e.address) l
waits_besides l a h = firm_besides a l (rw (append-nil (addresses l)) at h)

-- ---- a list that has no address twice

abbrev pub Distinct : List Entry → Type 0
Distinct [] = Unit {0}
Distinct (e ∷ es) = (has e.address es ≡ false) × Distinct es

pub distinct_snoc : (l : List Entry) (e : Entry) → Distinct l → has e.address l ≡ false → Distinct (l ++ (e ∷ []))
unfolding has
distinct_snoc [] e d h = (refl, tt)
distinct_snoc (x ∷ l) e d h =
    let p = neither (eqb x.address e.address) (has e.address l) h in
    (rw (has-append x.address l (e ∷ []), d.0, or-false, eqb_comm e.address x.address) p.0, distinct_snoc l e d.1 p.1)

pub distinct_front : (l m : List Entry) → Distinct (l ++ m) → Distinct l
distinct_front [] m d = tt
distinct_front (x ∷ l) m d = ((neither (has x.address l) (has x.address m) (sym (has-append x.address l m) ∙ d.0)).0, distinct_front l m d.1)

pub distinct_last : (l : List Entry) (e : Entry) → Distinct (l ++ (e ∷ [])) → has e.address l ≡ false
unfolding has
distinct_last [] e d = refl
distinct_last (x ∷ l) e d =
    let p = neither (has x.address l) (eqb e.address x.address || false) (sym (has-append x.address l (e ∷ [])) ∙ d.0) in
    rw (eqb_comm x.address e.address, (neither (eqb e.address x.address) false p.1).0) (distinct_last l e d.1)

pub twice_distinct : (work : List ℕ) (from n : ℕ) → twice work from n ≡ false → Distinct (list_of work from n)
unfolding some
twice_distinct work from zero e = tt
twice_distinct work from (suc n) e =
    let p = neither (twice work from n) (is_found (find work from n (listed work from n).address)) e in
    distinct_snoc (list_of work from n) (listed work from n) (twice_distinct work from n p.0) (sym (find-has work from n (listed work from n).address) ∙ p.1)

pub distinct_twice : (work : List ℕ) (from n : ℕ) → Distinct (list_of work from n) → twice work from n ≡ false
unfolding some
distinct_twice work from zero d = refl
distinct_twice work from (suc n) d =
    rw (distinct_twice work from n (distinct_front (list_of work from n) (listed work from n ∷ []) d))
    (find-has work from n (listed work from n).address ∙ distinct_last (list_of work from n) (listed work from n) d)

-- ---- a list of data blocks

module _ (geo : Geometry) where
  abbrev pub Data : ℕ → Entry → Type 0
  Data N e = is_data geo N e.address ≡ true

  pub strays-all : (work : List ℕ) (N from n : ℕ) → strays geo work N from n ≡ false → All (Data N) (list_of work from n)
  strays-all work N from n e =
      all-up_to (Data N) (listed work from) n (λ i h. not-false _ (some_none (λ j. not (is_data geo N (listed work from j).address)) n e i h))

  pub all-strays : (work : List ℕ) (N from n : ℕ) → All (Data N) (list_of work from n) → strays geo work N from n ≡ false
  all-strays work N from n p =
      none_some (λ i. not (is_data geo N (listed work from i).address)) n (λ i h. ap not (up_to-all (Data N) (listed work from) n p i h))

-- ---- an entry replaces the one of its address or joins at the end

pub insert-left : (e : Entry) (l m : List Entry) → has e.address l ≡ true → insert e (l ++ m) ≡ insert e l ++ m
unfolding has insert
insert-left e [] m h = absurd (false≢true h)
insert-left e (x ∷ l) m h = go (eqb x.address e.address) h (insert-left e l m)
  where
    go : (t : Bool) → t || has e.address l ≡ true → (has e.address l ≡ true → insert e (l ++ m) ≡ insert e l ++ m)
        → cond t (e ∷ (l ++ m)) (x ∷ insert e (l ++ m)) ≡ cond t (e ∷ l) (x ∷ insert e l) ++ m
    go true p k = refl
    go false p k = ap (λ (y : List Entry). x ∷ y) (k p)

pub insert-right : (e : Entry) (l m : List Entry) → has e.address l ≡ false → insert e (l ++ m) ≡ l ++ insert e m
unfolding has insert
insert-right e [] m h = refl
insert-right e (x ∷ l) m h =
    let p = neither (eqb x.address e.address) (has e.address l) h in
    rw p.0 (ap (λ (y : List Entry). x ∷ y) (insert-right e l m p.1))

pub insert_joins : (e : Entry) (l : List Entry) → has e.address l ≡ false → insert e l ≡ l ++ (e ∷ [])
unfolding insert
insert_joins e l h = ap (insert e) (sym (append-nil l)) ∙ insert-right e l [] h

pub insert_replaces : (f : ℕ → Entry) (n i : ℕ) (e : Entry) → Distinct (up_to f n) → last_of (λ j. (f j).address) e.address n ≡ Some i
    → insert e (up_to f n) ≡ up_to (λ j. cond (eqb j i) e (f j)) n
unfolding last_of insert
insert_replaces f zero i e d h = let z : ◌≡◌ {A = ℕ} 0 1 = cc in absurd (omega arith)
insert_replaces f (suc n) i e d h = go (eqb (f n).address e.address) refl h (insert_replaces f n i e (distinct_front (up_to f n) (f n ∷ []) d))
  where
    put : ℕ → Entry
    put j = cond (eqb j i) e (f j)

    snoc : List Entry → Entry → List Entry
    snoc l x = l ++ (x ∷ [])

    go : (t : Bool) → eqb (f n).address e.address ≡ t → cond t (Some n) (last_of (λ j. (f j).address) e.address n) ≡ Some i
        → (last_of (λ j. (f j).address) e.address n ≡ Some i → insert e (up_to f n) ≡ up_to (λ j. cond (eqb j i) e (f j)) n)
        → insert e (up_to f n ++ (f n ∷ [])) ≡ up_to (λ j. cond (eqb j i) e (f j)) n ++ (cond (eqb n i) e (f n) ∷ [])
    go true p q k =
        let r : n ≡ i = cc in
        let fresh : has e.address (up_to f n) ≡ false = ap (λ (a : ℕ). has a (up_to f n)) (sym (eqb-true _ _ p)) ∙ distinct_last (up_to f n) (f n) d in
        insert-right e (up_to f n) (f n ∷ []) fresh
        ∙ rw p (ap₂ snoc (ext_up_to f put n (λ j less. rw (ne_eqb j i (λ c. omega arith)))) (rw (eq-eqb n i r)))
    go false p q k =
        let below : i < n = (last_at (λ j. (f j).address) e.address n i q).0 in
        insert-left e (up_to f n) (f n ∷ []) (sym (last_has f e.address n) ∙ ap is_found q)
        ∙ ap₂ snoc (k q) (rw (ne_eqb n i (λ c. omega arith)))

pub has-insert : (a : ℕ) (e : Entry) (l : List Entry) → has a (insert e l) ≡ eqb e.address a || has a l
unfolding has insert
has-insert a e [] = refl
has-insert a e (x ∷ l) = go (eqb x.address e.address) refl (has-insert a e l)
  where
    go : (t : Bool) → eqb x.address e.address ≡ t → has a (insert e l) ≡ eqb e.address a || has a l
        → has a (cond t (e ∷ l) (x ∷ insert e l)) ≡ eqb e.address a || (eqb x.address a || has a l)
    go true p k = let q : x.address ≡ e.address = eqb-true _ _ p in rw q (sym (or_self_left (eqb e.address a) (has a l)))
    go false p k = rw k (or_left_comm (eqb x.address a) (eqb e.address a) (has a l))

pub length-insert : (e : Entry) (l : List Entry) → length (insert e l) ≡ length l + cond (has e.address l) 0 1
unfolding has insert
length-insert e [] = refl
length-insert e (x ∷ l) = go (eqb x.address e.address) (length-insert e l)
  where
    go : (t : Bool) → length (insert e l) ≡ length l + cond (has e.address l) 0 1
        → length (cond t (e ∷ l) (x ∷ insert e l)) ≡ suc (length l) + cond (t || has e.address l) 0 1
    go true k = sym (add-zero _)
    go false k = ap suc k ∙ sym (suc-add _ _)

pub distinct_insert : (e : Entry) (l : List Entry) → Distinct l → Distinct (insert e l)
unfolding has insert
distinct_insert e [] d = (refl, tt)
distinct_insert e (x ∷ l) d = go (eqb x.address e.address) refl (distinct_insert e l d.1)
  where
    go : (t : Bool) → eqb x.address e.address ≡ t → Distinct (insert e l) → Distinct (cond t (e ∷ l) (x ∷ insert e l))
    go true p k = let q : x.address ≡ e.address = eqb-true _ _ p in (rw (← q) d.0, d.1)
    go false p k = (rw (has-insert x.address e l, eqb_comm e.address x.address, p) d.0, k)

pub all_insert : (P : Entry → Type 0) (e : Entry) (l : List Entry) → P e → All P l → All P (insert e l)
unfolding insert
all_insert P e [] p q = (p, tt)
all_insert P e (x ∷ l) p q = go (eqb x.address e.address) (all_insert P e l p q.1)
  where
    go : (t : Bool) → All P (insert e l) → All P (cond t (e ∷ l) (x ∷ insert e l))
    go true k = (p, q.1)
    go false k = (q.0, k)

-- ---- a list replaces or joins, entry by entry

pub merge-append : (a b g : List Entry) → merge (a ++ b) g ≡ merge b (merge a g)
unfolding merge
merge-append [] b g = refl
merge-append (e ∷ a) b g = merge-append a b (insert e g)

pub merge_snoc : (t : List Entry) (e : Entry) (g : List Entry) → merge (t ++ (e ∷ [])) g ≡ insert e (merge t g)
unfolding merge
merge_snoc t e g = merge-append t (e ∷ []) g

pub has-merge : (a : ℕ) (t g : List Entry) → has a (merge t g) ≡ has a t || has a g
unfolding has merge
has-merge a [] g = refl
has-merge a (e ∷ t) g = has-merge a t (insert e g) ∙ rw (has-insert a e g) (or_left_comm (has a t) (eqb e.address a) (has a g) ∙ sym (or_assoc (eqb e.address a) (has a t) (has a g)))

pub distinct_merge : (t g : List Entry) → Distinct g → Distinct (merge t g)
unfolding merge
distinct_merge [] g d = d
distinct_merge (e ∷ t) g d = distinct_merge t (insert e g) (distinct_insert e g d)

pub all-merge : (P : Entry → Type 0) (t g : List Entry) → All P t → All P g → All P (merge t g)
unfolding merge
all-merge P [] g p q = q
all-merge P (e ∷ t) g p q = all-merge P t (insert e g) p.1 (all_insert P e g p.0 q)
