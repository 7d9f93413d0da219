-- The laws of turns: what has been fed, and the buffers at the start.
use Prim.Native.Nat.{ℕ, ◌*◌}
use mathlib.Core.Path.{◌≡◌, ap, sym, ◌∙◌}
use mathlib.Core.List.{List, ◌++◌}
use lib.ListN.{take, replicate}
use Rattle.cells.specs.Entry.{block_bytes}
use Rattle.store.specs.Causes.{waiting_bytes, work_bytes}
use Rattle.script.specs.declared.session.Session.{Session as Held}
use Rattle.script.specs.Transcript.{beginning}
use Rattle.script.specs.Steps.{Session, Step, fed, fresh}
use Rattle.script.specs.CodeSession.{session_of}
use Rattle.script.proofs.Sessions.{fed-append}
use Rattle.journal.specs.Geometry.{trap}

-- what was fed before and what a turn feeds
pub fed_on : (a b : List ℕ) (p : List ℕ) (s t u : Session) → t ≡ (fed a s).next → ◌≡◌ {A = Step} (record { print = p; next = u }) (fed b t) → u ≡ (fed (a ++ b) s).next
fed_on a b p s t u h k = ap (λ (q : Step). q.next) k ∙ ap (λ (q : Session). (fed b q).next) h ∙ sym (ap (λ (q : Step). q.next) (fed-append a b s))

-- the buffers at the start
pub starts : (s : Held) (line : List ℕ) (n m k : ℕ) → n ≡ block_bytes * 64 → m ≡ waiting_bytes trap → k ≡ work_bytes trap → s.rec ≡ beginning.rec → s.len ≡ 0
    → session_of s.len line s.rec (replicate n 0) (replicate m 0) (replicate k 0) ≡ fresh
unfolding beginning
starts s line n m k hn hm hk hr hl = λ j. record { kept = take (hl j) line; state = record { rec = hr j; settled = replicate (hn j) 0; waiting = replicate (hm j) 0; work = replicate (hk j) 0 } }
