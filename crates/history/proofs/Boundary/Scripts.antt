-- A line of a script is its call, and a script from a format on is a list of calls.
use Prim.Native.Nat.{ℕ, ◌*◌}
use mathlib.Core.Path.{◌≡◌, refl, ap, sym, subst, ◌∙◌}
use mathlib.Core.Logic.{◌≢◌, ◌⊎◌}
use mathlib.Core.Bool.{true, false, cond}
use mathlib.Core.List.{List, [], ◌∷◌, ◌++◌, append_assoc}
use native.Mathlib.Omega.{arith}
use native.Mathlib.Decide.{ℕ_discrete}
use borrow.Author.Tests.{eq-eqb, ne_eqb, eqb-false}
use lib.Dec.{eqb}
use lib.ListN.{length, get_or, replicate, length-replicate}
use Rattle.cells.specs.Entry.{block_bytes}
use Rattle.card.specs.Card as Card
use Rattle.card.specs.Card.{queue}
use Rattle.crash.proofs.Batches.{no_queue}
use Rattle.store.specs.Local as Local
use Rattle.store.specs.Save as Save
use Rattle.store.specs.Request as Request
use Rattle.store.specs.State.{State, Outcome, closed, card_in}
use Rattle.store.specs.Causes.{waiting_bytes, work_bytes, wrong_sizes, cause}
use Rattle.store.specs.Outcomes.{refused, completed}
use Rattle.store.specs.Format.{formatted, format_call}
use Rattle.store.specs.Power.{powered, power_call}
use Rattle.store.specs.Put.{put_call}
use Rattle.store.specs.Abandon.{abandon_call}
use Rattle.store.specs.Commit.{commit_call}
use Rattle.store.specs.Saves.{sync_call, apply_call, recover_call}
use Rattle.store.specs.Cut.{cutting, cut_call}
use Rattle.store.proofs.Causes.{needs_open, other}
use Rattle.script.specs.declared.command.Command.{Command}
use Rattle.script.specs.declared.command.Command.TheVariants.{Format, Power, Put, Get, Commit, Abandon, Sync, Apply, Recover, Cut, Bad}
use Rattle.script.specs.Commands.{parse}
use Rattle.script.specs.Answers.{answer_line, decimal, digits}
use Rattle.script.specs.Replies.{perform, answered}
use Rattle.script.specs.Transcript.{reply, printed, said, beginning, transcript}
use Rattle.journal.specs.Geometry.{trap}
use Rattle.journal.specs.Choice.{choose, choice_number}
use Rattle.journal.specs.Ours.{OurHeader}
use Rattle.history.specs.Call.{Call, request_of, local, direct, save, cut, power, put, get, get_list, commit, abandon, sync, apply, recover}
use Rattle.store.specs.Get.{block_of}
use Rattle.history.specs.Dispatch.{called, dispatch}
use Rattle.history.specs.History.{World, begun, next, after}
use Rattle.history.specs.Scripts.{Says, nothing, begins, asks, says_of, says, line_of, left_by, ByCall, left_after, world_by, told, world_after, ServedIn, asked_by, asked, ScriptsAreHistories}
use Rattle.history.specs.Formats.{header_block, Exactly, Used, TurnedDownIf}
use Rattle.history.proofs.Relation.CauseLaws.{cause_passes}
use Rattle.history.proofs.Relation.Forms.{SameSizes, get-called, called_sized, unless_either}
use Rattle.history.proofs.Steps.Shown.{dispatch-refused}
use Rattle.history.proofs.Boundary.Formats.{row, choice, other_served, blank_other, zeros-blank}

-- ---- a line

-- what a command prints, and what it leaves
by_command : (c : Command) (l : List ℕ) (st : State) → (answered c (perform c l st) ≡ line_of (says_of c l) c st) × ((perform c l st).state ≡ left_by (says_of c l) st)
unfolding perform called format_call power_call put_call commit_call abandon_call sync_call apply_call recover_call cut_call answer_line decimal digits
by_command Format l st = (refl, refl)
by_command (Power k) l st = (refl, refl)
by_command (Put a b) l st = (refl, refl)
by_command (Get a) l st =
    let e : refused (cause trap (Request.get a) st) st ≡ called trap (Request.get a) st = sym (get-called trap a st) in
    (ap (λ (o : Outcome). answer_line (Get a) o.answer (cond (eqb o.answer 0) (get_or (block_of trap a st) 0 0) 0)) e, ap (λ (o : Outcome). o.state) e)
by_command Commit l st = (refl, refl)
by_command Abandon l st = (refl, refl)
by_command Sync l st = (refl, refl)
by_command Apply l st = (refl, refl)
by_command Recover l st = (refl, refl)
by_command Cut l st = (refl, refl)
by_command Bad l st = (refl, refl)

pub by_call : (l : List ℕ) (st : State) → ByCall l st
by_call l st = let b = by_command (parse l) l st in record { prints = b.0; leaves = b.1 }

-- ---- no call changes a buffer's length

sizes_kept : (st st' : State) → SameSizes st st' → wrong_sizes trap st' ≡ wrong_sizes trap st
unfolding wrong_sizes Rattle.journal.specs.Layout.wrong_size
sizes_kept st st' h = rw (h.settled, h.waiting, h.work)

line_sizes : (s : Says) (st : State) → wrong_sizes trap (left_by s st) ≡ wrong_sizes trap st
line_sizes nothing st = refl
line_sizes begins st = sizes_kept st (called trap Request.format st).state (called_sized trap Request.format st)
line_sizes (asks c) st = sizes_kept st (called trap (request_of c) st).state (called_sized trap (request_of c) st)

after_sizes : (ls : List (List ℕ)) (st : State) → wrong_sizes trap (left_after ls st) ≡ wrong_sizes trap st
unfolding left_after
after_sizes [] st = refl
after_sizes (l ∷ ls) st = after_sizes ls (reply l st).state ∙ ap (wrong_sizes trap) (by_call l st).leaves ∙ line_sizes (says l) st

sizes_right : (st : State) → length st.settled ≡ block_bytes * 64 → length st.waiting ≡ waiting_bytes trap → length st.work ≡ work_bytes trap → wrong_sizes trap st ≡ false
unfolding wrong_sizes Rattle.journal.specs.Layout.wrong_size trap
sizes_right st a b c = rw (a, b, c)

beginning_sizes : wrong_sizes trap beginning ≡ false
unfolding beginning
beginning_sizes = sizes_right beginning (length-replicate {A = ℕ} (block_bytes * 64) 0) (length-replicate {A = ℕ} (waiting_bytes trap) 0) (length-replicate {A = ℕ} (work_bytes trap) 0)

-- a format of a card of the right size is served or turned down
format_done : (st : State) → wrong_sizes trap st ≡ false → ((format_call trap st).answer ≡ 0) ⊎ (format_call trap st ≡ refused 13 st)
unfolding format_call called
format_done st h = go (row trap st h)
  where
    go : TurnedDownIf trap (Used trap st.settled) st
        → ((called trap Request.format st).answer ≡ 0) ⊎ (called trap Request.format st ≡ refused 13 st)
    go (◌⊎◌.inl (u, e)) = ◌⊎◌.inr e
    go (◌⊎◌.inr (n, e)) = ◌⊎◌.inl (ap (λ (o : Outcome). o.answer) e)

-- ---- before the first format

-- the card is all zeros, nothing waits, and the record is closed
record Blank (st : State) : Type 0 where
  zeros : st.settled ≡ replicate (block_bytes * 64) 0
  mode : st.rec.mode ≡ closed
  idle : st.rec.waiting ≡ 0

-- such a card is foreign
blank-foreign : (st : State) → Blank st → cause trap Request.recover st ≢ 0
blank-foreign st b e = go (choice trap st.rec.blocks st.settled)
  where
    k : ℕ
    k = choice_number (choose trap st.rec.blocks st.settled)

    not_eight : k ≢ 8
    not_eight = eqb-false k 8 (cause_passes trap Request.recover st e).own.1.1.0

    go : Exactly (OurHeader trap st.rec.blocks (header_block st.settled)) (k ≢ 8) (k ≡ 8) → ⊥
    go (◌⊎◌.inl (o, n)) = blank_other trap st.settled (ap header_block b.zeros ∙ zeros-blank trap 64 (omega arith)) o.format
    go (◌⊎◌.inr (n, z)) = not_eight z

-- a call that needs an open record is refused
blank-closed : (q : Request.Request) (st : State) → needs_open trap q ≡ true → Blank st → cause trap q st ≢ 0
blank-closed q st n b e = let open_now : st.rec.mode ≢ closed = eqb-false _ _ (other _ _ (cause_passes trap q st e).not-closed n) in open_now b.mode

blank-refused : (c : Call) (st : State) → cause trap (request_of c) st ≢ 0 → Blank st → Blank (dispatch trap c st).state
blank-refused c st h b = rw (dispatch-refused trap c st h) b

-- what is served there leaves it so: power and cut
blank-power : (k : ℕ) (st : State) → Blank st → Blank (dispatch trap (power k) st).state
unfolding called
blank-power k st b =
    unless_either (λ (o : Outcome). Blank o.state) (cause trap (Request.power k) st) st (completed (powered k st)) (λ e. record { zeros = b.zeros; mode = b.mode; idle = b.idle }) b

blank_cut : (ms : List ℕ) (st : State) → Blank st → Blank (dispatch trap (cut ms) st).state
unfolding called Card.cut Card.settle_kept
blank_cut ms st b =
    let still : Card.settle_kept ms 0 (queue (card_in st)) st.settled ≡ st.settled = rw (no_queue (card_in st) b.idle) in
    unless_either (λ (o : Outcome). Blank o.state) (cause trap (Request.cut ms) st) st (completed (cutting ms st)) (λ e. record { zeros = still ∙ b.zeros; mode = refl; idle = refl }) b

blank_call : (c : Call) (st : State) → Blank st → Blank (dispatch trap c st).state
blank_call (local (Local.power k)) st b = blank-power k st b
blank_call (local (Local.put a x)) st b = blank-refused (put a x) st (blank-closed (Request.put a x) st refl b) b
blank_call (local (Local.get a)) st b = blank-refused (get a) st (blank-closed (Request.get a) st refl b) b
blank_call (local (Local.get_list xs bs)) st b = blank-refused (get_list xs bs) st (blank-closed (Request.get_list xs bs) st refl b) b
blank_call (local Local.commit) st b = blank-refused commit st (blank-closed Request.commit st refl b) b
blank_call (local Local.abandon) st b = blank-refused abandon st (blank-closed Request.abandon st refl b) b
blank_call (direct a x) st b = blank-refused (direct a x) st (blank-closed (Request.direct a x) st refl b) b
blank_call (save Save.sync) st b = blank-refused sync st (blank-closed Request.sync st refl b) b
blank_call (save Save.apply) st b = blank-refused apply st (blank-closed Request.apply st refl b) b
blank_call (save Save.recover) st b = blank-refused recover st (blank-foreign st b) b
blank_call (cut ms) st b = blank_cut ms st b

-- a format there answers 0
blank-served : (st : State) → wrong_sizes trap st ≡ false → Blank st → (format_call trap st).answer ≡ 0
blank-served st z b = other_served trap st z (blank_other trap st.settled (ap header_block b.zeros ∙ zeros-blank trap 64 (omega arith)))

-- lines leave it so, up to the first format
blank_lines : (ls : List (List ℕ)) (st : State) → wrong_sizes trap st ≡ false → Blank st → Blank (left_after ls st) ⊎ ServedIn st ls
unfolding left_after
blank_lines [] st z b = ◌⊎◌.inl b
blank_lines (l ∷ ls) st z b = go (says l) refl (λ y c. blank_lines ls (reply l st).state y c)
  where
    later : Blank (left_after ls (reply l st).state) ⊎ ServedIn (reply l st).state ls → Blank (left_after ls (reply l st).state) ⊎ ServedIn st (l ∷ ls)
    later (◌⊎◌.inl c) = ◌⊎◌.inl c
    later (◌⊎◌.inr (ks, f, js, e, p, h)) = ◌⊎◌.inr (l ∷ ks, f, js, ap (λ (k : List (List ℕ)). l ∷ k) e, p, h)

    left : (s : Says) → says l ≡ s → (reply l st).state ≡ left_by s st
    left s e = (by_call l st).leaves ∙ ap (λ (x : Says). left_by x st) e

    sized : wrong_sizes trap (reply l st).state ≡ false
    sized = ap (wrong_sizes trap) (by_call l st).leaves ∙ line_sizes (says l) st ∙ z

    go : (s : Says) → says l ≡ s → (wrong_sizes trap (reply l st).state ≡ false → Blank (reply l st).state → Blank (left_after ls (reply l st).state) ⊎ ServedIn (reply l st).state ls)
        → Blank (left_after ls (reply l st).state) ⊎ ServedIn st (l ∷ ls)
    go nothing e more = later (more sized (subst Blank (sym (left nothing e)) b))
    go begins e more = ◌⊎◌.inr ([], l, ls, refl, e, blank-served st z b)
    go (asks c) e more = later (more sized (subst Blank (sym (left (asks c) e)) (blank_call c st b)))

blank-beginning : Blank beginning
unfolding beginning
blank-beginning = record { zeros = refl; mode = refl; idle = refl }

-- ---- a list of lines

said-append : (ls ms : List (List ℕ)) (st : State) → said (ls ++ ms) st ≡ said ls st ++ said ms (left_after ls st)
unfolding said left_after
said-append [] ms st = refl
said-append (l ∷ ls) ms st = ap (λ (x : List ℕ). printed l st ++ x) (said-append ls ms (reply l st).state) ∙ sym (append_assoc (printed l st) (said ls (reply l st).state) _)

-- a format that is refused leaves everything
refused-left : (st : State) → (called trap Request.format st).answer ≢ 0 → (called trap Request.format st).state ≡ st
unfolding called
refused-left st h =
    unless_either (λ (o : Outcome). o.answer ≢ 0 → o.state ≡ st) (cause trap Request.format st) st (completed (formatted st)) (λ e z. absurd (z refl)) (λ z. refl) h

by_format : (st : State) → (called trap Request.format st).answer ≡ 0 → (format_call trap st).answer ≡ 0
unfolding called format_call
by_format st h = h

called_store : (s : Says) (w : World) → left_by s w.store ≡ (world_by s w).store
unfolding begun next called format_call
called_store nothing w = refl
called_store begins w = go (ℕ_discrete (called trap Request.format w.store).answer 0)
  where
    go : Dec ((called trap Request.format w.store).answer ≡ 0) → (called trap Request.format w.store).state ≡ (world_by begins w).store
    go (yes e) = rw (eq-eqb _ 0 e)
    go (no e) = rw (ne_eqb _ 0 e) (refused-left w.store e)
called_store (asks c) w = refl

said-told : (ms : List (List ℕ)) (w : World) → said ms w.store ≡ told ms w
unfolding said told
said-told [] w = refl
said-told (l ∷ ls) w =
    ap (λ (x : List ℕ). x ++ said ls (reply l w.store).state) (by_call l w.store).prints
    ∙ ap (λ (st : State). line_of (says l) (parse l) w.store ++ said ls st) ((by_call l w.store).leaves ∙ called_store (says l) w)
    ∙ ap (λ (x : List ℕ). line_of (says l) (parse l) w.store ++ x) (said-told ls (world_by (says l) w))

-- up to a format that answers 0 the world is that of the calls of the lines
lines_listed : (ms : List (List ℕ)) (w : World) → (ServedIn w.store ms → ⊥) → world_after ms w ≡ after trap (asked ms) w
unfolding world_after after asked left_after
lines_listed [] w n = refl
lines_listed (m ∷ ms) w n = go (says m) refl (λ v k. lines_listed ms v k)
  where
    -- what is served behind this line is served behind the lines
    unserved : (s : Says) → says m ≡ s → ServedIn (world_by s w).store ms → ⊥
    unserved s e (ks, f, js, x, p, h) =
        let left : (reply m w.store).state ≡ (world_by s w).store = (by_call m w.store).leaves ∙ ap (λ (y : Says). left_by y w.store) e ∙ called_store s w in
        n (m ∷ ks, f, js, ap (λ (k : List (List ℕ)). m ∷ k) x, p, ap (λ (st : State). (format_call trap (left_after ks st)).answer) left ∙ h)

    turned : says m ≡ begins → (called trap Request.format w.store).answer ≢ 0
    turned e h = n ([], m, ms, refl, e, by_format w.store h)

    go : (s : Says) → says m ≡ s → ((v : World) → (ServedIn v.store ms → ⊥) → world_after ms v ≡ after trap (asked ms) v) → world_after ms (world_by s w) ≡ after trap (asked_by s (asked ms)) w
    go nothing e more = more w (unserved nothing e)
    go begins e more =
        let same : world_by begins w ≡ w = rw (ne_eqb _ 0 (turned e)) in
        ap (world_after ms) same ∙ more w (λ s. unserved begins e (subst (λ (v : World). ServedIn v.store ms) (sym same) s))
    go (asks c) e more = more (next trap c w) (unserved (asks c) e)

-- its store is what the lines left
left_world : (ms : List (List ℕ)) (w : World) → left_after ms w.store ≡ (world_after ms w).store
unfolding left_after world_after
left_world [] w = refl
left_world (m ∷ ms) w = ap (left_after ms) ((by_call m w.store).leaves ∙ called_store (says m) w) ∙ left_world ms (world_by (says m) w)

-- ---- the theorem

format_line : (f : List ℕ) (st : State) → parse f ≡ Format → (format_call trap st).answer ≡ 0 → printed f st ≡ answer_line Format 0 0
unfolding answer_line format_call called
format_line f st p h = (by_call f st).prints ∙ ap (λ (c : Command). line_of (says_of c f) c st) p ∙ ap (λ (k : ℕ). answer_line Format k 0) h

format_left : (f : List ℕ) (st : State) → parse f ≡ Format → (reply f st).state ≡ (begun trap st).store
unfolding begun format_call called
format_left f st p = (by_call f st).leaves ∙ ap (λ (c : Command). left_by (says_of c f) st) p

-- a format that is turned down stands behind one that was served
turned_later : (ls : List (List ℕ)) → format_call trap (left_after ls beginning) ≡ refused 13 (left_after ls beginning) → ServedIn beginning ls
turned_later ls e = go (blank_lines ls beginning beginning_sizes blank-beginning)
  where
    go : Blank (left_after ls beginning) ⊎ ServedIn beginning ls → ServedIn beginning ls
    go (◌⊎◌.inl b) =
        let z : ◌≡◌ {A = ℕ} 13 0 = sym (ap (λ (o : Outcome). o.answer) e) ∙ blank-served (left_after ls beginning) (after_sizes ls beginning ∙ beginning_sizes) b in
        absurd (omega arith)
    go (◌⊎◌.inr s) = s

pub scripts : ScriptsAreHistories
unfolding transcript said after left_after
scripts ls ms = record {
  formats = format_done st sizes;
  first = turned_later ls;
  prints = λ f p done input e.
      ap (λ (k : List (List ℕ)). said k beginning) e
      ∙ said-append ls (f ∷ ms) beginning
      ∙ ap (λ (x : List ℕ). said ls beginning ++ (x ++ said ms (reply f st).state)) (format_line f st p done)
      ∙ ap (λ (s : State). said ls beginning ++ (answer_line Format 0 0 ++ said ms s)) (format_left f st p)
      ∙ ap (λ (x : List ℕ). said ls beginning ++ (answer_line Format 0 0 ++ x)) (said-told ms (begun trap st));
  states = λ f p done. ap (left_after ms) (format_left f st p) ∙ left_world ms (begun trap st);
  lists = λ done. lines_listed ms (begun trap st);
}
  where
    st : State
    st = left_after ls beginning

    sizes : wrong_sizes trap st ≡ false
    sizes = after_sizes ls beginning ∙ beginning_sizes
