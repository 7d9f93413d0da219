-- A sync of one entry: the first one, done; and one over a log of one entry, cut short behind its header.
use Prim.Native.Nat.{ℕ, ◌+◌, ◌*◌, ◌^◌, ◌≤◌, ◌<◌}
use mathlib.Core.Path.{◌≡◌, refl, ap, ap₂, sym, subst, ◌∙◌}
use mathlib.Core.Logic.{◌≢◌}
use mathlib.Core.Bool.{Bool, true, false, cond}
use mathlib.Core.List.{List, [], ◌∷◌, ◌++◌}
use native.Mathlib.Omega.{arith}
use borrow.Author.Tests.{ne_eqb}
use lib.Dec.{eqb}
use lib.ListN.{length, take, drop, replicate}
use Rattle.cells.specs.Cell.{cell}
use Rattle.cells.specs.Little.{num}
use Rattle.cells.specs.Entry.{block_bytes, Entry}
use Rattle.crash.specs.Laid.{Laid}
use Rattle.card.specs.Card.{Card, queue, run, cut, settle, torn, block_at}
use Rattle.card.specs.Marks.{marks_fit, all_kept}
use Rattle.journal.specs.Geometry.{trap}
use Rattle.journal.specs.Geometry.Laws.{trap-descriptors}
use Rattle.journal.specs.Layout.{descriptor_at}
use Rattle.journal.specs.Header.{most_save}
use Rattle.journal.specs.Log.{entries}
use Rattle.journal.proofs.OrderLists.{append_writes, length-append_writes}
use Rattle.crash.proofs.Batches.{no_queue, Left}
use Rattle.crash.proofs.Leads.{found_in}
use Rattle.crash.proofs.Logs.{slot_e, log_d}
use Rattle.store.specs.State.{Outcome, down, with_mode, with_record, with_card, card_in}
use Rattle.store.specs.Saves.{group_of, applies}
use Rattle.history.specs.Call.{sync}
use Rattle.history.specs.Plain.{Plain, refusal, header_kept}
use Rattle.history.specs.Dispatch.{dispatch}
use Rattle.history.specs.Ledger.{waits_behind, waiting_met, sync_headers, noted, entered, apply_header, own_header, standing, inner, resolved, same_log}
use Rattle.history.specs.History.{World, store_next, ledger_next}
use Rattle.history.specs.Worked.{at40, cut101, half, cut_half, cut_fifth}
use Rattle.crash.proofs.Plans.{planned, takes}
use Rattle.history.proofs.Steps.AppendEnds.{Appends, done_card}
use Rattle.history.proofs.Relation.Sim.{OpenSim, cut_settled, cut_written}
use Rattle.history.proofs.Steps.Shown.{WorldSim}
use Rattle.history.proofs.Relation.OpenFacts as Facts
use Rattle.history.proofs.Steps.Notes.{note_at}
use Rattle.history.proofs.Steps.Gives.{Gives, gives_settled, short_call, stopped}
use Rattle.history.proofs.Steps.Worlds.{plain_now, open_world, Opened, opened, opened_refusal}
use Rattle.history.proofs.Steps.SyncMeets.{single, met_itself}
use Rattle.history.proofs.Steps.Sync.{next_number, gives, short_whole}
use Rattle.history.proofs.Atomicity.Phases.{open_now}
use Rattle.history.proofs.Worked.Card.{as_settled, second_zero, lost-found, second_slot, halved-found, fifth-found}
use Rattle.history.proofs.Worked.Plain.{open_at}

base_at : {N : ℕ} {s : List ℕ} {q : List Entry} {n n' h : ℕ} {G G' v : List Entry} {S : Laid} → q ≡ [] → n ≡ n' → G ≡ G' → Appends trap N s q n h G v S → Appends trap N s [] n' h G' v S
base_at {N} {s} {q} {n} {n'} {h} {G} {G'} {v} {S} e a b x = subst (λ (l : List Entry). Appends trap N s l n' h G' v S) e (rw (← a, ← b) x)

module _ (w : World) (m : WorldSim trap w) (S : Laid) (free : eqb S.groups most_save ≡ false) (b : List ℕ) (n p : ℕ) (few : n ≤ 1) (d : w.plain ≡ open_at S (at40 b ∷ []) [] n p) where
  served : refusal trap sync w.plain ≡ 0
  unfolding refusal
  served = ap (refusal trap sync) d ∙ rw free

  o : OpenSim trap w.store w.ledger w.plain
  o = open_now trap sync w m refl served

  pub group_is : group_of trap w.store ≡ at40 b ∷ []
  group_is = sym (Facts.plain_group trap w.store w.ledger w.plain m.basics o) ∙ ap (λ (x : Plain). x.G) d

  pub grouped_is : w.store.rec.grouped ≡ 1
  grouped_is = sym (Facts.length-group trap w.store w.ledger w.plain m.basics o) ∙ ap length group_is

  logged_is : w.store.rec.logged ≡ n
  logged_is = sym o.n ∙ ap (λ (x : Plain). x.n) d

  power_is : w.store.rec.power ≡ p
  power_is = sym m.basics.power ∙ ap (λ (x : Plain). x.power) d

  -- nothing waits before
  idle_is : w.store.rec.waiting ≡ 0
  idle_is = sym m.basics.mirrors.waiting ∙ ap (λ (x : Plain). x.waiting) d

  none_waits : queue (card_in w.store) ≡ []
  none_waits = no_queue (card_in w.store) idle_is

  some : w.store.rec.grouped ≢ 0
  some z = omega (arith, grouped_is)

  size : length (group_of trap w.store) ≡ 1
  size = ap length group_is

  fits : w.store.rec.logged + length (group_of trap w.store) ≤ trap.slots
  unfolding trap
  fits = omega (arith, logged_is, size)

  opening : Opened trap w.store w.ledger.written w.plain.S
  opening = opened trap w m.basics o

  now-served : refusal trap sync (plain_now trap w.store w.plain.S) ≡ 0
  now-served = opened_refusal trap w m.basics o sync served

  next : w.plain.S.groups + 1 < 2 ^ 64
  next = next_number trap w.store w.ledger.written w.plain.S w.excepted opening now-served some

  alone : applies trap w.store ≡ false
  alone = single trap w.store w.ledger.written w.plain.S w.excepted opening some next fits

  pub no_inner : inner trap w.store ≡ 0
  no_inner = ap (λ (t : Bool). cond t (w.store.rec.logged + 3) 0) alone

  pub met_none : waiting_met trap w.store ≡ 0
  met_none = ap (λ (t : Bool). cond t 0 w.store.rec.waiting) alone ∙ ap (λ (k : ℕ). cond false 0 k) idle_is

  abbrev N : ℕ
  N = w.store.rec.blocks

  abbrev s : List ℕ
  s = w.store.settled

  abbrev h : ℕ
  h = w.store.rec.sum

  abbrev W : List Entry
  W = append_writes trap N s w.store.rec.logged h (w.plain.S.groups + 1) (group_of trap w.store)

  length-W : length W ≡ length (group_of trap w.store) + 2
  length-W = length-append_writes trap N s w.store.rec.logged h (w.plain.S.groups + 1) (group_of trap w.store) ∙ (omega (arith, trap-descriptors))

  abbrev there : World
  there = open_world trap w.store w.ledger.written w.plain.S w.excepted

  order : Gives trap sync there (W ∷ [])
  unfolding met_itself
  order = gives trap w.store w.ledger.written w.plain.S w.excepted opening now-served some (met_itself trap w.store w.ledger.written w.plain.S w.excepted opening some next fits)

  base_now : Appends trap N s [] n h (at40 b ∷ []) w.ledger.written w.plain.S
  unfolding met_itself
  base_now = base_at none_waits logged_is group_is (met_itself trap w.store w.ledger.written w.plain.S w.excepted opening some next fits).meets

  -- done
  filed_settled : 4 ≤ p → (store_next trap sync w).settled ≡ settle (append_writes trap N s n h (w.plain.S.groups + 1) (at40 b ∷ [])) s
  filed_settled l =
      gives_settled trap sync there (W ∷ []) opening.basics order (omega (arith, length-W, size, power_is))
      ∙ ap (λ (q : List Entry). settle (q ++ W) s) none_waits
      ∙ ap₂ (λ (k : ℕ) (G : List Entry). settle (append_writes trap N s k h (w.plain.S.groups + 1) G) s) logged_is group_is

  -- cut short behind its header
  abbrev r : Card
  r = run (planned (W ∷ [])) (card_in w.store)

  gone : p ≡ 3 → w.store.rec.power < takes (W ∷ [])
  gone e = omega (arith, length-W, size, power_is)

  halted-left : p ≡ 3 → Left (card_in w.store) r s (take p (append_writes trap N s n h (w.plain.S.groups + 1) (at40 b ∷ []))) 0
  halted-left e =
      let x = stopped trap sync there (W ∷ []) opening.basics order (λ t q k. (t ≡ s) × (q ≡ take k W)) w.store.rec.power refl (gone e) (λ j i l z. (refl, ap₂ (λ (q : List Entry) (k : ℕ). q ++ take k W) none_waits (let y : j ≡ i = omega arith in y)), tt) in
      left_at x.met.0 (x.met.1 ∙ (λ i. take (power_is i) (append_writes trap N s (logged_is i) h (w.plain.S.groups + 1) (group_is i)))) x.left
    where
      left_at : {c₀ c : Card} {t t' : List ℕ} {x y : List Entry} {k : ℕ} → t ≡ t' → x ≡ y → Left c₀ c t x k → Left c₀ c t' y k
      left_at a b l = rw (a, b) at l

  halted_call : p ≡ 3 → dispatch trap sync w.store ≡ record { answer = 4; orders = w.store.rec.power; state = with_card r (with_record (with_mode down order.gone) w.store) }
  halted_call e = short_call trap sync there (W ∷ []) opening.basics order (gone e)

  halted_settled : p ≡ 3 → (ms : List ℕ) → cut_settled ms (store_next trap sync w) ≡ (cut ms r).settled
  halted_settled e ms = ap (λ (x : Outcome). cut_settled ms x.state) (halted_call e)

  standing_is : standing trap w.store ≡ log_d trap (block_at s) n
  standing_is =
      ap (λ (t : Bool). cond t [] (entries trap s w.store.rec.logged)) alone
      ∙ Facts.entries-log trap w.store w.ledger w.plain m.basics o
      ∙ ap (log_d trap (block_at s)) logged_is

  halted_ledger : p ≡ 3 → ledger_next trap sync w ≡ waits_behind 2 (log_d trap (block_at s) n ++ (at40 b ∷ [])) w.ledger
  unfolding entered sync_headers
  halted_ledger e =
      ap (λ (x : Outcome). noted (sync_headers trap w.store) x.orders w.ledger) (halted_call e)
      ∙ ap (λ (t : Bool). noted (cond t [] (cond (applies trap w.store) (apply_header w.store ∷ own_header trap w.store ∷ []) (own_header trap w.store ∷ []))) w.store.rec.power w.ledger)
      (ne_eqb _ 0 some)
      ∙ ap (λ (t : Bool). noted (cond t (apply_header w.store ∷ own_header trap w.store ∷ []) (own_header trap w.store ∷ [])) w.store.rec.power w.ledger)
      alone
      ∙ note_at (own_header trap w.store) [] w.store.rec.power w.ledger (omega (arith, power_is, no_inner, grouped_is, trap-descriptors))
      ∙ (λ i. waits_behind (met_none i + (grouped_is i + trap-descriptors i)) (standing_is i ++ group_is i) w.ledger)

  halted-same : p ≡ 3 → (ms : List ℕ) → marks_fit ms (queue (card_in (store_next trap sync w))) ≡ true → all_kept ms ≡ true → same_log (found_in trap (cut_settled ms (store_next trap sync w))) (cut_written ms (ledger_next trap sync w)) ≡ true
  halted-same e ms l a =
      let D = halted_call e in
      (short_whole trap w m served o some (ap (λ (x : Outcome). x.answer) D) (ap (λ (x : Outcome). x.orders) D ∙ (omega (arith, power_is, no_inner, grouped_is, trap-descriptors))) ms l (ap (λ (k : ℕ). all_kept (drop (block_bytes * k) ms)) met_none ∙ a)).1

-- ---- the first sync

module _ (w : World) (m : WorldSim trap w) (S : Laid) (free : eqb S.groups most_save ≡ false) (b : List ℕ) (d : w.plain ≡ open_at S (at40 b ∷ []) [] 0 1000000) where
  now : Appends trap w.store.rec.blocks w.store.settled [] 0 w.store.rec.sum (at40 b ∷ []) w.ledger.written w.plain.S
  now = base_now w m S free b 0 1000000 (omega arith) d

  settled_now : (store_next trap sync w).settled ≡ settle (append_writes trap w.store.rec.blocks w.store.settled 0 w.store.rec.sum (w.plain.S.groups + 1) (at40 b ∷ [])) w.store.settled
  settled_now = filed_settled w m S free b 0 1000000 (omega arith) d (lib.Dec.lit≤ tt)

  -- the log is that entry, and the next place in the descriptor has 0
  pub filed-log : log_d trap (block_at (store_next trap sync w).settled) 1 ≡ at40 b ∷ []
  filed-log = ap (λ (x : List ℕ). log_d trap (block_at x) 1) settled_now ∙ sym (done_card trap now (as_settled now)).same

  pub filed-next : cell 4 (block_at (store_next trap sync w).settled descriptor_at) 1 ≡ replicate 4 0
  filed-next = ap (λ (x : List ℕ). cell 4 (block_at x descriptor_at) 1) settled_now ∙ second_zero now

  -- and the next slot is as it was
  pub filed_slot : block_at (store_next trap sync w).settled 3 ≡ block_at w.store.settled 3
  filed_slot = ap (λ (x : List ℕ). block_at x 3) settled_now ∙ second_slot now

-- ---- the second

module _ (w : World) (m : WorldSim trap w) (S : Laid) (free : eqb S.groups most_save ≡ false) (b : List ℕ) (d : w.plain ≡ open_at S (at40 b ∷ []) [] 1 3) where
  -- the log written, by a header that is kept
  pub halted-written : (ms : List ℕ) → header_kept ms 3 ≡ true → cut_written ms (ledger_next trap sync w) ≡ log_d trap (block_at w.store.settled) 1 ++ (at40 b ∷ [])
  unfolding resolved header_kept
  halted-written ms k =
      ap (cut_written ms) (halted_ledger w m S free b 1 3 (omega arith) d refl)
      ∙ ap (λ (t : Bool). cond t (log_d trap (block_at w.store.settled) 1 ++ (at40 b ∷ [])) w.ledger.written) k

  pub halted-lost : found_in trap (cut_settled cut101 (store_next trap sync w))
      ≡ slot_e trap (block_at w.store.settled) 0 ∷ record { address = num (cell 4 (block_at w.store.settled descriptor_at) 1); block = b } ∷ []
  halted-lost =
      ap (found_in trap) (halted_settled w m S free b 1 3 (omega arith) d refl cut101)
      ∙ lost-found (base_now w m S free b 1 3 (omega arith) d) (card_in w.store) (r w m S free b 1 3 (omega arith) d) (halted-left w m S free b 1 3 (omega arith) d refl)

  pub halted-halved : found_in trap (cut_settled cut_half (store_next trap sync w))
      ≡ slot_e trap (block_at w.store.settled) 0 ∷ at40 (torn half b (block_at w.store.settled 3)) ∷ []
  halted-halved =
      ap (found_in trap) (halted_settled w m S free b 1 3 (omega arith) d refl cut_half)
      ∙ halved-found (base_now w m S free b 1 3 (omega arith) d) (card_in w.store) (r w m S free b 1 3 (omega arith) d) (halted-left w m S free b 1 3 (omega arith) d refl)

  pub halted-fifth : cell 4 (block_at w.store.settled descriptor_at) 1 ≡ replicate 4 0
      → found_in trap (cut_settled cut_fifth (store_next trap sync w)) ≡ slot_e trap (block_at w.store.settled) 0 ∷ at40 b ∷ []
  halted-fifth z =
      ap (found_in trap) (halted_settled w m S free b 1 3 (omega arith) d refl cut_fifth)
      ∙ fifth-found (base_now w m S free b 1 3 (omega arith) d) (card_in w.store) (r w m S free b 1 3 (omega arith) d) (halted-left w m S free b 1 3 (omega arith) d refl) z

  pub halted_whole : (ms : List ℕ) → marks_fit ms (queue (card_in (store_next trap sync w))) ≡ true → all_kept ms ≡ true → same_log (found_in trap (cut_settled ms (store_next trap sync w))) (cut_written ms (ledger_next trap sync w)) ≡ true
  halted_whole ms l a = halted-same w m S free b 1 3 (omega arith) d refl ms l a
