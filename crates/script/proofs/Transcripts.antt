-- The steps print the transcript.
use Prim.Native.Nat.{ℕ, ◌<◌}
use mathlib.Core.Path.{◌≡◌, refl, ap, sym, ◌∙◌}
use mathlib.Core.Bool.{Bool, true, false, cond}
use mathlib.Core.List.{List, [], ◌∷◌, ◌++◌, append_assoc, append-nil}
use native.Mathlib.Omega.{arith}
use borrow.Author.Tests.{lt-ltb, eqb-true, ltb-false}
use lib.Dec.{eqb, ltb, eqb-suc-zero}
use lib.ListN.{length, length-append}
use Rattle.store.specs.State.{State}
use Rattle.script.specs.declared.command.Command.TheVariants.{Bad}
use Rattle.script.specs.Fields.{push}
use Rattle.script.specs.Commands.{line_bytes, kept_bytes, parse}
use Rattle.script.specs.Answers.{lf}
use Rattle.script.specs.Replies.{perform}
use Rattle.script.specs.Transcript.{lines_of, said, printed, reply, transcript}
use Rattle.script.specs.Steps.{Session, Step, keep, answer, feed, fed, finish, steps, joined, parts, fresh}
use Rattle.script.proofs.Sessions.{fed-append}

-- ---- lines

abbrev NoLf : List ℕ → Type 0
NoLf [] = Unit {0}
NoLf (b ∷ s) = (eqb b lf ≡ false) × NoLf s

no_lf_snoc : (k : List ℕ) (b : ℕ) → NoLf k → eqb b lf ≡ false → NoLf (k ++ (b ∷ []))
no_lf_snoc [] b h e = (e, tt)
no_lf_snoc (x ∷ k) b h e = (h.0, no_lf_snoc k b h.1 e)

-- the start of a line in front of what follows
in_front : List ℕ → List (List ℕ) → List (List ℕ)
in_front k [] = k ∷ []
in_front k (p ∷ ps) = (k ++ p) ∷ ps

lines_front : (x : ℕ) (k r : List ℕ) → NoLf (x ∷ k) → lines_of (x ∷ (k ++ r)) ≡ in_front (x ∷ k) (lines_of r)
unfolding lines_of push in_front
lines_front x [] r h = rw h.0 (go (lines_of r))
  where
    go : (ps : List (List ℕ)) → push x ps ≡ in_front (x ∷ []) ps
    go [] = refl
    go (p ∷ ps) = refl
lines_front x (y ∷ k) r h = rw (h.0, lines_front y k r h.1) (go (lines_of r))
  where
    go : (ps : List (List ℕ)) → push x (in_front (y ∷ k) ps) ≡ in_front (x ∷ y ∷ k) ps
    go [] = refl
    go (p ∷ ps) = refl

-- a whole line
pub lines_one : (k r : List ℕ) → NoLf k → lines_of (k ++ (lf ∷ r)) ≡ k ∷ lines_of r
unfolding lines_of in_front
lines_one [] r h = refl
lines_one (x ∷ k) r h = lines_front x k (lf ∷ r) h ∙ rw (append-nil)

-- a last line without its LF
pub lines_end : (x : ℕ) (k : List ℕ) → NoLf (x ∷ k) → lines_of (x ∷ k) ≡ (x ∷ k) ∷ []
unfolding lines_of in_front
lines_end x k h = ap (λ (l : List ℕ). lines_of (x ∷ l)) (sym (append-nil k)) ∙ lines_front x k [] h

-- ---- lines that are too long

long : (l : List ℕ) → line_bytes < length l → parse l ≡ Bad
unfolding parse
long l h = rw (lt-ltb _ _ h)

said_long : (l m : List ℕ) (ls : List (List ℕ)) (st : State) → line_bytes < length l → line_bytes < length m → said (l ∷ ls) st ≡ said (m ∷ ls) st
unfolding said perform
said_long l m ls st h k = rw (long l h, long m k)

-- a byte beyond the 81 changes nothing
beyond : (x : ℕ) (k : List ℕ) (b : ℕ) (r : List ℕ) (st : State) → NoLf (x ∷ k) → line_bytes < length (x ∷ k) → eqb b lf ≡ false
    → said (lines_of (x ∷ (k ++ (b ∷ r)))) st ≡ said (lines_of (x ∷ (k ++ r))) st
unfolding lines_of push in_front
beyond x k b r st h l e = rw (lines_front x k (b ∷ r) h, lines_front x k r h, e) (go (lines_of r))
  where
    wide : (p : List ℕ) → line_bytes < length ((x ∷ k) ++ p)
    wide p = rw (length-append) (omega arith)

    go : (ps : List (List ℕ)) → said (in_front (x ∷ k) (push b ps)) st ≡ said (in_front (x ∷ k) ps) st
    go [] = said_long ((x ∷ k) ++ (b ∷ [])) (x ∷ k) [] st (wide (b ∷ [])) l
    go (p ∷ ps) = said_long ((x ∷ k) ++ (b ∷ p)) ((x ∷ k) ++ p) ps st (wide (b ∷ p)) (wide p)

-- ---- the steps

keep_on : (k : List ℕ) (b : ℕ) (r : List ℕ) (st : State) → NoLf k → eqb b lf ≡ false
    → said (lines_of (k ++ (b ∷ r))) st ≡ said (lines_of (keep k b ++ r)) st
unfolding keep
keep_on k b r st h e = go k h (ltb (length k) (kept_bytes)) refl
  where
    go : (k : List ℕ) → NoLf k → (t : Bool) → ltb (length k) (kept_bytes) ≡ t
        → said (lines_of (k ++ (b ∷ r))) st ≡ said (lines_of (cond t (k ++ (b ∷ [])) k ++ r)) st
    go k n true q = ap (λ (l : List ℕ). said (lines_of l) st) (sym (append_assoc k (b ∷ []) r))
    go [] n false q = absurd (omega (arith, ltb-false 0 (kept_bytes) q))
    go (x ∷ k) n false q = beyond x k b r st n (omega (arith, ltb-false (length (x ∷ k)) (kept_bytes) q)) e

keep_no_lf : (k : List ℕ) (b : ℕ) → NoLf k → eqb b lf ≡ false → NoLf (keep k b)
unfolding keep
keep_no_lf k b h e = go (ltb (length k) (kept_bytes))
  where
    go : (t : Bool) → NoLf (cond t (k ++ (b ∷ [])) k)
    go true = no_lf_snoc k b h e
    go false = h

finish-said : (k : List ℕ) (st : State) → NoLf k → (finish (record { kept = k; state = st })).print ≡ said (lines_of k) st
unfolding finish answer said lines_of
finish-said [] st h = refl
finish-said (x ∷ k) st h = rw (eqb-suc-zero (length k)) (sym (ap (λ (ls : List (List ℕ)). said ls st) (lines_end x k h) ∙ append-nil (printed (x ∷ k) st)))

-- a byte in front
steps_cons : (b : ℕ) (bs : List ℕ) (s : Session) → steps (b ∷ bs) s ≡ (feed b s).print ++ steps bs (feed b s).next
unfolding steps fed
steps_cons b bs s = append_assoc (feed b s).print (fed bs (feed b s).next).print (finish (fed bs (feed b s).next).next).print

steps-said : (bs k : List ℕ) (st : State) → NoLf k → steps bs (record { kept = k; state = st }) ≡ said (lines_of (k ++ bs)) st
unfolding steps fed feed answer said lines_of
steps-said [] k st h = finish-said k st h ∙ ap (λ (l : List ℕ). said (lines_of l) st) (sym (append-nil k))
steps-said (b ∷ bs) k st h = steps_cons b bs (record { kept = k; state = st }) ∙ go (eqb b lf) refl (λ k' st' n. steps-said bs k' st' n)
  where
    go : (t : Bool) → eqb b lf ≡ t
        → ((k' : List ℕ) (st' : State) → NoLf k' → steps bs (record { kept = k'; state = st' }) ≡ said (lines_of (k' ++ bs)) st')
        → (feed b (record { kept = k; state = st })).print ++ steps bs (feed b (record { kept = k; state = st })).next ≡ said (lines_of (k ++ (b ∷ bs))) st
    go true e rest =
        let eq : b ≡ lf = eqb-true b lf e in
        rw (e, rest [] (reply k st).state tt, eq, lines_one k bs h)
    go false e rest = rw (e, rest (keep k b) st (keep_no_lf k b h e)) (sym (keep_on k b bs st h e))

-- byte by byte from the beginning: the transcript
pub steps-transcript : (input : List ℕ) → steps input fresh ≡ transcript input
unfolding transcript
steps-transcript input = steps-said input [] _ tt

-- however the input is parted
parts-steps : (ps : List (List ℕ)) (s : Session) → parts ps s ≡ steps (joined ps) s
unfolding parts joined steps fed
parts-steps [] s = refl
parts-steps (p ∷ ps) s =
    let q = fed-append p (joined ps) s in
    ap (λ (l : List ℕ). (fed p s).print ++ l) (parts-steps ps (fed p s).next)
    ∙ sym (ap (λ (t : Step). t.print ++ (finish t.next).print) q ∙ append_assoc (fed p s).print (fed (joined ps) (fed p s).next).print (finish (fed (joined ps) (fed p s).next).next).print)

pub parts-transcript : (ps : List (List ℕ)) → parts ps fresh ≡ transcript (joined ps)
parts-transcript ps = parts-steps ps fresh ∙ steps-transcript (joined ps)
