-- The laws of a session: what the code keeps, and what it prints.
use Prim.Native.Nat.{ℕ, ◌+◌, ◌≤◌, ◌<◌, min}
use mathlib.Core.Path.{◌≡◌, refl, ap, sym, ◌∙◌}
use mathlib.Core.Bool.{Bool, true, false}
use mathlib.Core.List.{List, [], ◌∷◌, ◌++◌, append_assoc, append-nil}
use native.Mathlib.Omega.{arith}
use native.Mathlib.Numerals.{add-one}
use borrow.Author.Tests.{eq-eqb, ne_eqb, lt-ltb, le-ltb, leb-true, leb-false}
use lib.Dec.{leb}
use lib.ListN.{length, take, drop, set, get_or, length-take, length-append}
use lib.Seq.{sets, sets-eq, take_at, take_all, take-suc, take-suc-set, length-take-le}
use Rattle.store.specs.State.{State}
use Rattle.script.specs.declared.command.Command.{Command}
use Rattle.script.specs.Commands.{kept_bytes, parse}
use Rattle.script.specs.Answers.{lf, answer_bytes}
use Rattle.script.specs.Replies.{Reply, perform, answered}
use Rattle.script.specs.Transcript.{reply, printed}
use Rattle.script.specs.Steps.{Session, Step, keep, answer, feed, fed_bytes, fed, finish}

-- ---- a line carried out

take-sets : (a s : List ℕ) → length a ≤ length s → take (length a) (sets s 0 a) ≡ a
take-sets a s h =
    let p : 0 + length a ≤ length s = omega arith in
    rw (sets-eq a s 0 p) (take_at a (drop (0 + length a) s) (length a) refl)

-- its answer stands in front of the output, and nothing is kept
pub answered-step : (c : Command) (l out o line : List ℕ) (n : ℕ) (st : State) (r : Reply) → c ≡ parse l
    → r ≡ perform c l st → answer_bytes ≤ length out → n ≤ answer_bytes → n ≡ length (answered c r) → o ≡ sets out 0 (answered c r)
    → ◌≡◌ {A = Step} (record { print = take n o; next = record { kept = take 0 line; state = r.state } }) (answer (record { kept = l; state = st }))
unfolding answer
answered-step c l out o line n st r hc hr hl hn hm ho =
    let same : r ≡ reply l st = hr ∙ ap (λ (d : Command). perform d l st) hc in
    let text : answered c r ≡ printed l st = ap (λ (d : Command). answered d r) hc ∙ ap (λ (q : Reply). answered (parse l) q) same in
    let fits : length (answered c r) ≤ length out = omega arith in
    let p : take n o ≡ printed l st = rw (hm, ho) (take-sets (answered c r) out fits) ∙ text in
    λ j. record { print = p j; next = record { kept = []; state = (same j).state } }

-- ---- a byte

pub keep_room : (len b : ℕ) (line : List ℕ) → len < kept_bytes → len < length line → take (len + 1) (set line len b) ≡ keep (take len line) b
unfolding keep
keep_room len b line h l =
    rw (length-take-le len line (omega arith), lt-ltb _ _ h, add-one, take-suc-set line len b l)

pub keep_full : (len b : ℕ) (line : List ℕ) → kept_bytes ≤ len → len ≤ length line → take len line ≡ keep (take len line) b
unfolding keep
keep_full len b line h l = rw (length-take-le len line l, le-ltb _ _ h)

pub feed-lf : (b : ℕ) (p : Step) (s : Session) → b ≡ lf → p ≡ answer s → p ≡ feed b s
unfolding feed
feed-lf b p s hb h = rw (eq-eqb b lf hb) h

pub feed_byte : (b len : ℕ) (o line k : List ℕ) (st : State) → (b ≡ lf → ⊥) → take len line ≡ keep k b
    → ◌≡◌ {A = Step} (record { print = take 0 o; next = record { kept = take len line; state = st } }) (feed b (record { kept = k; state = st }))
unfolding feed
feed_byte b len o line k st hb hk =
    rw (ne_eqb b lf hb) (λ j. record { print = []; next = record { kept = hk j; state = st } })

-- ---- a run of bytes

pub fed_none : (all bytes : List ℕ) (s : Session) → ◌≡◌ {A = Step} (record { print = take 0 all; next = s }) (fed (take 0 bytes) s)
unfolding fed
fed_none all bytes s = refl

-- a run behind a run
pub fed-append : (a b : List ℕ) (s : Session)
    → fed (a ++ b) s ≡ record { print = (fed a s).print ++ (fed b (fed a s).next).print; next = (fed b (fed a s).next).next }
unfolding fed
fed-append [] b s = refl
fed-append (x ∷ a) b s =
    let p = fed-append a b (feed x s).next in
    λ j. record { print = (ap (λ (q : Step). (feed x s).print ++ q.print) p ∙ sym (append_assoc (feed x s).print (fed a (feed x s).next).print (fed b (fed a (feed x s).next).next).print)) j; next = (p j).next }

-- one byte more
fed_snoc : (bs : List ℕ) (b : ℕ) (s : Session)
    → fed (bs ++ (b ∷ [])) s ≡ record { print = (fed bs s).print ++ (feed b (fed bs s).next).print; next = (feed b (fed bs s).next).next }
unfolding fed
fed_snoc bs b s = fed-append bs (b ∷ []) s ∙ ap (λ (l : List ℕ). record { print = (fed bs s).print ++ l; next = (feed b (fed bs s).next).next }) (append-nil (feed b (fed bs s).next).print)

-- what it prints goes behind what was printed
take_behind : (all out : List ℕ) (at n : ℕ) → at + n ≤ length all → n ≤ length out
    → take (at + length (take n out)) (sets all at (take n out)) ≡ take at all ++ take n out
take_behind all out at n h k =
    let size : length (take n out) ≡ n = length-take-le n out k in
    let room : at + length (take n out) ≤ length all = rw size h in
    let front : length (take at all ++ take n out) ≡ at + length (take n out) = length-append (take at all) (take n out) ∙ ap (λ (m : ℕ). m + length (take n out)) (length-take-le at all (omega arith)) in
    rw (sets-eq (take n out) all at room) (take_at (take at all ++ take n out) (drop (at + length (take n out)) all) (at + length (take n out)) front)

pub fed_turn : (bytes all left out : List ℕ) (i at n end : ℕ) (s t u : Session) → i < length bytes → at + n ≤ length all → n ≤ length out
    → ◌≡◌ {A = Step} (record { print = take at all; next = t }) (fed (take i bytes) s)
    → ◌≡◌ {A = Step} (record { print = take n out; next = u }) (feed (get_or bytes i 0) t)
    → end ≡ at + length (take n out) → left ≡ sets all at (take n out)
    → ◌≡◌ {A = Step} (record { print = take end left; next = u }) (fed (take (i + 1) bytes) s)
fed_turn bytes all left out i at n end s t u hi hp ho hf hs he hl =
    let b = get_or bytes i 0 in
    let text : take end left ≡ take at all ++ take n out = rw (he, hl) (take_behind all out at n hp ho) in
    let more : take (i + 1) bytes ≡ take i bytes ++ (b ∷ []) = rw (add-one) (take-suc bytes i 0 hi) in
    let one : ◌≡◌ {A = Step} (record { print = take end left; next = u }) (record { print = take at all ++ (feed b t).print; next = (feed b t).next }) =
    λ j. record { print = (text ∙ ap (λ (q : Step). take at all ++ q.print) hs) j; next = (hs j).next } in
    one ∙ ap (λ (q : Step). record { print = q.print ++ (feed b q.next).print; next = (feed b q.next).next }) hf ∙ sym (ap (λ (l : List ℕ). fed l s) more ∙ fed_snoc (take i bytes) b s)

-- a count beyond a list's elements is that of them all
take_within : (len n : ℕ) (line : List ℕ) → length line ≡ n → take (min len n) line ≡ take len line
take_within len n line l = go (leb len n) refl
  where
    go : (t : Bool) → leb len n ≡ t → take (min len n) line ≡ take len line
    go true q = let e : min len n ≡ len = omega (arith, leb-true len n q) in rw e
    go false q =
        let over : n < len = leb-false len n q in
        let e : min len n ≡ n = omega arith in
        rw e (take_all n line (omega arith) ∙ sym (take_all len line (omega arith)))

pub fed_within : (end count len : ℕ) (bytes line : List ℕ) (st : State) → end ≡ min count fed_bytes → length bytes ≡ fed_bytes → length line ≡ kept_bytes
    → fed (take end bytes) (record { kept = take (min len kept_bytes) line; state = st }) ≡ fed (take count bytes) (record { kept = take len line; state = st })
fed_within end count len bytes line st he hb hl = rw (he, take_within count fed_bytes bytes hb, take_within len kept_bytes line hl)

pub answer_within : (len : ℕ) (line : List ℕ) (st : State) → length line ≡ kept_bytes
    → answer (record { kept = take (min len kept_bytes) line; state = st }) ≡ answer (record { kept = take len line; state = st })
answer_within len line st h = ap (λ (k : List ℕ). answer (record { kept = k; state = st })) (take_within len kept_bytes line h)

-- ---- the end

pub finish_none : (o line : List ℕ) (len : ℕ) (st : State) → len ≡ 0
    → ◌≡◌ {A = Step} (record { print = take 0 o; next = record { kept = take len line; state = st } }) (finish (record { kept = take len line; state = st }))
unfolding finish
finish_none o line len st h = rw h

pub finish-some : (len : ℕ) (line : List ℕ) (p : Step) (st : State) → (len ≡ 0 → ⊥) → length line ≡ kept_bytes
    → p ≡ answer (record { kept = take len line; state = st }) → p ≡ finish (record { kept = take len line; state = st })
unfolding finish
finish-some len line p st h l hp =
    let size : length (take len line) ≡ min len (length line) = length-take len line in
    let some : length (take len line) ≡ 0 → ⊥ = λ z. h (omega arith) in
    rw (ne_eqb (length (take len line)) 0 some) hp
