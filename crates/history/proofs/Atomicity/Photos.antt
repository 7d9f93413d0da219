-- What is photographed of a block along a list of calls is what stands on the card of it: the block as it is settled, and the direct writes to
-- it that wait.
use Rattle.std.specs.Prelude.{Option, Some, None}
use Prim.Native.Nat.{ℕ, suc, ◌+◌, ◌≤◌, ◌<◌}
use mathlib.Core.Path.{◌≡◌, refl, ap, sym, subst, ◌∙◌}
use mathlib.Core.Logic.{◌≢◌, ◌⊎◌}
use mathlib.Core.Bool.{Bool, true, false, false≢true, cond, ◌&&◌, ◌||◌, or-false}
use mathlib.Core.List.{List, [], ◌∷◌, ◌++◌, append-nil, append_assoc}
use native.Mathlib.Omega.{arith}
use native.Mathlib.Decide.{ℕ_discrete, dec_le}
use borrow.Author.Tests.{eq-eqb, ne_eqb, eqb-true, eqb-false, le-leb, lt-leb, lt-ltb, not-false}
use lib.Dec.{eqb, leb, ltb}
use lib.ListN.{length, get_or, take}
use Rattle.cells.specs.Entry.{Entry}
use Rattle.fnv.specs.Fnv.{start}
use Rattle.card.specs.Disk.{Disk, overlay}
use Rattle.card.specs.Card.{Card, Order, flush, queue, settle, run, block_at}
use Rattle.card.proofs.All.{All, Any, all_map, all_take}
use Rattle.card.proofs.Overlays.{overlay_other}
use Rattle.card.proofs.Runs.{Whole, NarrowAddress, run_nil, run-append, run_dead, writes_all}
use Rattle.journal.specs.Geometry.{Geometry}
use Rattle.journal.specs.Layout.{first_data, is_data}
use Rattle.journal.specs.Log.{entries}
use Rattle.journal.specs.Lookup.{last_slot}
use Rattle.journal.specs.Header.{empty_header}
use Rattle.journal.specs.Orders.{append_orders, apply_orders, sync_orders}
use Rattle.journal.proofs.Logs.{neither}
use Rattle.journal.proofs.OrderLists.{header_entry, append_writes, append-writes, checkpoint_writes, length-append_writes}
use Rattle.crash.proofs.Appends.{writes_whole, writes_below}
use Rattle.crash.proofs.Batches.{batch, Room, no_queue, queued_short, queued_done, left_dead}
use Rattle.crash.proofs.Logs.{data_above, data_below}
use Rattle.store.specs.Local.{Local}
use Rattle.store.specs.Save.{Save}
use Rattle.store.specs.Request as Request
use Rattle.store.specs.State.{State, Outcome, card_in}
use Rattle.store.specs.Lists.{open_from, group_from, find}
use Rattle.store.specs.Causes.{is_found, cause}
use Rattle.store.specs.Outcomes.{refused}
use Rattle.store.specs.Put.{put_at}
use Rattle.store.specs.Saves.{carried, group_of, save_orders}
use Rattle.store.specs.Direct.{direct_write, direct_orders}
use Rattle.store.proofs.Causes.{SizeFacts, sizes_facts, needs_open}
use Rattle.store.proofs.Saves.{apply-carried}
use Rattle.history.specs.Call.{Call, request_of, local, direct, save, cut, sync, apply, recover}
use Rattle.history.specs.Plain.{Plain, Done, Short, of_sync, of_apply, of_recover, among, addresses, flushes, applies, sync_takes, direct_takes, refusal, locally, served, plain_sync, plain_apply, plain_recover, plain_cut, recovered, cut_short, done}
use Rattle.history.specs.Dispatch as Dispatch
use Rattle.history.specs.Dispatch.{called, dispatch, served_local}
use Rattle.history.specs.History.{World, next, after, store_next, fed}
use Rattle.history.specs.Statements as S
use Rattle.history.specs.Statements.{Photo, no_photo, photographed, direct_done, photo_by, photo, blocks_to}
use Rattle.history.proofs.Relation.CauseLaws.{RecordFacts, record_facts, cause_passes}
use Rattle.history.proofs.Relation.Lists.{among-append, firm_besides, slot_among}
use Rattle.history.proofs.Relation.OpenFacts as Facts
use Rattle.history.proofs.Relation.PlainLaws.{do_apply, no_apply, sync_nothing, barrier_none, barrier-done, barrier-short, sync-finished, sync-short, apply_nothing, apply-finished, apply-short, direct-done, direct_short}
use Rattle.history.proofs.Relation.Sim.{Basics, Waits, flushed_bytes, OpenSim, ClosedSim, DownSim}
use Rattle.history.proofs.Relation.WorkLists.{data_short}
use Rattle.history.proofs.Steps.Shown.{WorldSim, plain_next, same-cause, dispatch-refused, plain_refused, plain_served}
use Rattle.history.proofs.Steps.Local.{is_open}
use Rattle.history.proofs.Steps.ListInduction.{next_sim, clean_first}

-- of the direct writes to x that wait: the block as it is settled, and their blocks, in turn
pub record Stands (x : ℕ) (w : World) (p : Photo) : Type 0 where
  pub before : block_at w.store.settled x ≡ p.before
  pub blocks : blocks_to x (queue (card_in w.store)) ≡ p.blocks

-- ---- lists

-- what holds of every address of a list holds of one that is among them
among-all : (P : ℕ → Type 0) (x : ℕ) (l : List Entry) → among x (addresses l) ≡ true → All (λ e. P e.address) l → P x
unfolding among addresses
among-all P x [] h p = absurd (false≢true h)
among-all P x (e ∷ l) h p = go (eqb e.address x) refl h (λ k. among-all P x l k p.1)
  where
    go : (t : Bool) → eqb e.address x ≡ t → t || among x (addresses l) ≡ true → (among x (addresses l) ≡ true → P x) → P x
    go true q h more = subst P (eqb-true _ _ q) p.0
    go false q h more = more h

none_among : (x : ℕ) (l : List ℕ) → l ≡ [] → among x l ≡ true → ⊥
unfolding among
none_among x l e h = false≢true (sym (ap (among x) e) ∙ h)

among-kept : (x : ℕ) (t : Bool) (l : List ℕ) → among x (cond t [] l) ≡ true → (t ≡ false) × (among x l ≡ true)
among-kept x true l h = absurd (none_among x [] refl h)
among-kept x false l h = (refl, h)

-- ---- the blocks of the writes to x

to_append : (x : ℕ) (q r : List Entry) → blocks_to x (q ++ r) ≡ blocks_to x q ++ blocks_to x r
unfolding blocks_to
to_append x [] r = refl
to_append x (e ∷ q) r = go (eqb e.address x) (to_append x q r)
  where
    go : (t : Bool) → blocks_to x (q ++ r) ≡ blocks_to x q ++ blocks_to x r → cond t (e.block ∷ blocks_to x (q ++ r)) (blocks_to x (q ++ r)) ≡ cond t (e.block ∷ blocks_to x q) (blocks_to x q) ++ blocks_to x r
    go true k = ap (λ (l : List (List ℕ)). e.block ∷ l) k
    go false k = k

-- of writes to other blocks
to_other : (x : ℕ) (l : List Entry) → All (λ e. x ≢ e.address) l → blocks_to x l ≡ []
unfolding blocks_to
to_other x [] h = refl
to_other x (e ∷ l) h = ap (λ (t : Bool). cond t (e.block ∷ blocks_to x l) (blocks_to x l)) (ne_eqb e.address x (λ z. h.0 (sym z))) ∙ to_other x l h.1

-- of a write to x
to_here : (x a : ℕ) (y : List ℕ) → a ≡ x → blocks_to x (record { address = a; block = y } ∷ []) ≡ y ∷ []
unfolding blocks_to
to_here x a y h = ap (λ (t : Bool). cond t (y ∷ []) []) (eq-eqb a x h)

-- there is one if x is among the addresses
to_some : (x : ℕ) (l : List Entry) → among x (addresses l) ≡ true → length (blocks_to x l) ≢ 0
unfolding blocks_to among addresses
to_some x [] h z = false≢true h
to_some x (e ∷ l) h z = go (eqb e.address x) h z (to_some x l)
  where
    go : (t : Bool) → t || among x (addresses l) ≡ true → length (cond t (e.block ∷ blocks_to x l) (blocks_to x l)) ≡ 0 → (among x (addresses l) ≡ true → length (blocks_to x l) ≢ 0) → ⊥
    go true h z more = omega arith
    go false h z more = more h z

-- one of the blocks has the byte y at j
abbrev OneHas : ℕ → ℕ → List (List ℕ) → Type 0
OneHas j y bs = (i : ℕ) × (i < length bs) × (y ≡ get_or (get_or bs i []) j 0)

-- a byte that one of the writes to x has is that of one of the blocks
pub any_one : (x j y : ℕ) (q : List Entry) → Any (λ e. (e.address ≡ x) × (y ≡ get_or e.block j 0)) q → (i : ℕ) × (i < length (blocks_to x q)) × (y ≡ get_or (get_or (blocks_to x q) i []) j 0)
unfolding blocks_to
any_one x j y [] h = absurd h
any_one x j y (e ∷ q) h = go (eqb e.address x) refl h (any_one x j y q)
  where
    go : (t : Bool) → eqb e.address x ≡ t → Any (λ e. (e.address ≡ x) × (y ≡ get_or e.block j 0)) (e ∷ q) → (Any (λ e. (e.address ≡ x) × (y ≡ get_or e.block j 0)) q → OneHas j y (blocks_to x q))
        → OneHas j y (cond t (e.block ∷ blocks_to x q) (blocks_to x q))
    go true f (◌⊎◌.inl p) more = (0, omega arith, p.1)
    go true f (◌⊎◌.inr p) more = let k = more p in (suc k.0, omega (arith, k.1), k.2)
    go false f (◌⊎◌.inl p) more = absurd (eqb-false e.address x f p.0)
    go false f (◌⊎◌.inr p) more = more p

-- ---- the photo, by what waits on a card

record Shot (x : ℕ) (c : Card) (p : Photo) : Type 0 where
  before : block_at c.settled x ≡ p.before
  blocks : blocks_to x (queue c) ≡ p.blocks

-- orders on c left r: nothing settled, and what waits more is not addressed to x
record Adds (x : ℕ) (c r : Card) : Type 0 where
  more : List Entry
  settled : r.settled ≡ c.settled
  waits : queue r ≡ queue c ++ more
  other : All (λ e. x ≢ e.address) more

adds_shot : (x : ℕ) (c r : Card) (p : Photo) → Adds x c r → Shot x c p → Shot x r p
adds_shot x c r p a s = record {
  before = ap (λ (l : List ℕ). block_at l x) a.settled ∙ s.before;
  blocks = ap (blocks_to x) a.waits ∙ to_append x (queue c) a.more ∙ ap (λ (l : List (List ℕ)). blocks_to x (queue c) ++ l) (to_other x a.more a.other) ∙ append-nil (blocks_to x (queue c)) ∙ s.blocks;
}

-- nothing more
adds_same : (x : ℕ) (c r : Card) → r.settled ≡ c.settled → queue r ≡ queue c → Adds x c r
adds_same x c r s q = record { more = []; settled = s; waits = q ∙ sym (append-nil (queue c)); other = tt }

adds_none : (x : ℕ) (c r : Card) → r ≡ c → Adds x c r
adds_none x c r e = adds_same x c r (ap (λ (y : Card). y.settled) e) (ap queue e)

-- a batch whose flush is not reached, whatever is behind it
adds_short : (x : ℕ) (c : Card) (es : List Entry) (behind os : List Order) → os ≡ batch es ++ behind → Room c es → c.power ≤ length es → All (λ e. x ≢ e.address) es → Adds x c (run os c)
adds_short x c es behind os is f h n =
    let l = left_dead c (run (batch es) c) c.settled (queue c ++ take c.power es) behind (queued_short c es f h) in
    let e : run os c ≡ run behind (run (batch es) c) = ap (λ (o : List Order). run o c) is ∙ run-append (batch es) behind c in
    record {
      more = take c.power es;
      settled = ap (λ (y : Card). y.settled) e ∙ l.settled;
      waits = ap queue e ∙ l.waits;
      other = all_take (λ e. x ≢ e.address) c.power es n;
    }

-- one photo more
shot_more : (x : ℕ) (y s : List ℕ) (a : ℕ) (c r : Card) (p : Photo) → a ≡ x → r.settled ≡ c.settled → queue r ≡ queue c ++ (record { address = a; block = y } ∷ [])
    → block_at c.settled x ≡ cond (eqb (length p.blocks) 0) s p.before → blocks_to x (queue c) ≡ p.blocks → Shot x r (photographed y s p)
shot_more x y s a c r p here settled waits before blocks = record {
  before = ap (λ (l : List ℕ). block_at l x) settled ∙ before;
  blocks = ap (blocks_to x) waits ∙ to_append x (queue c) (record { address = a; block = y } ∷ []) ∙ ap (λ (l : List (List ℕ)). blocks_to x (queue c) ++ l) (to_here x a y here) ∙ ap (λ (l : List (List ℕ)). l ++ (y ∷ [])) blocks;
}

-- ---- calls that are no direct write that is done

module _ (geo : Geometry) (x : ℕ) where
  -- such a call: if the block waits behind it, it waited before, and no write to it is added
  record Quiet (c : Call) (w : World) : Type 0 where
    done : direct_done geo c w ≡ false
    kept : among x (plain_next geo c w).writes ≡ true → (among x w.plain.writes ≡ true) × Adds x (card_in w.store) (card_in (store_next geo c w))

  -- refused
  refused-done : (c : Call) (w : World) → cause geo (request_of c) w.store ≢ 0 → direct_done geo c w ≡ false
  unfolding direct_done
  refused-done (local c) w k = refl
  refused-done (direct a b) w k = rw (ap (λ (o : Outcome). o.answer) (dispatch-refused geo (direct a b) w.store k)) (ne_eqb _ 0 k)
  refused-done (save c) w k = refl
  refused-done (cut ms) w k = refl

  refused_quiet : (c : Call) (w : World) → WorldSim geo w → refusal geo c w.plain ≢ 0 → Quiet c w
  refused_quiet c w m h =
      let k : cause geo (request_of c) w.store ≢ 0 = λ e. h (sym (same-cause geo w.store w.ledger w.plain m c) ∙ e) in
      record {
        done = refused-done c w k;
        kept = λ t.
            (sym (ap (λ (o : Done). among x o.plain.writes) (plain_refused geo c (fed geo c w) w.plain h)) ∙ t, adds_none x _ _ (ap (λ (o : Outcome). card_in o.state) (dispatch-refused geo c w.store k)));
      }

  -- local
  local_writes : (c : Local) (d : Plain) → (locally c d).writes ≡ d.writes
  local_writes (Local.power k) d = refl
  local_writes (Local.put a b) d = refl
  local_writes (Local.get a) d = refl
  local_writes (Local.get_list xs bs) d = refl
  local_writes Local.commit d = refl
  local_writes Local.abandon d = refl

  put_adds : (f : Option ℕ) (e : Entry) (st : State) → Adds x (card_in st) (card_in (put_at f e st))
  put_adds (Some i) e st = adds_none x _ _ refl
  put_adds None e st = adds_none x _ _ refl

  local_adds : (c : Local) (st : State) → Adds x (card_in st) (card_in (served_local geo c st))
  unfolding queue
  local_adds (Local.power k) st = adds_same x _ _ refl refl
  local_adds (Local.put a b) st = put_adds (find st.work open_from st.rec.opened a) (record { address = a; block = b }) st
  local_adds (Local.get a) st = adds_none x _ _ refl
  local_adds (Local.get_list xs bs) st = adds_none x _ _ refl
  local_adds Local.commit st = adds_none x _ _ refl
  local_adds Local.abandon st = adds_none x _ _ refl

  module _ (w : World) (m : WorldSim geo w) where
    abbrev st : State
    st = w.store

    abbrev d : Plain
    d = w.plain

    abbrev b : Basics geo w.store w.plain
    b = m.basics

    -- what a call that is not refused leaves
    row : (c : Call) → refusal geo c d ≡ 0 → cause geo (request_of c) st ≡ 0
    row c h = same-cause geo st w.ledger d m c ∙ h

    serve : (c : Call) → refusal geo c d ≡ 0 → dispatch geo c st ≡ Dispatch.served geo (request_of c) st
    unfolding called
    serve c h = ap (λ (t : Bool). cond t (Dispatch.served geo (request_of c) st) (refused (cause geo (request_of c) st) st)) (eq-eqb _ 0 (row c h))

    -- by what the plain disk leaves
    quiet_by : (c : Call) (o : Done) → refusal geo c d ≡ 0 → direct_done geo c w ≡ false → served geo c (fed geo c w) d ≡ o
        → (among x o.plain.writes ≡ true → (among x d.writes ≡ true) × Adds x (card_in st) (card_in (store_next geo c w))) → Quiet c w
    quiet_by c o h n e f = record { done = n; kept = λ t. f (sym (ap (λ (p : Done). among x p.plain.writes) (plain_served geo c (fed geo c w) d h ∙ e)) ∙ t) }

    local_quiet : (c : Local) → refusal geo (local c) d ≡ 0 → Quiet (local c) w
    unfolding direct_done
    local_quiet c h =
        quiet_by (local c) _ h refl refl (λ t. (sym (ap (among x) (local_writes c d)) ∙ t, subst (λ (o : Outcome). Adds x (card_in st) (card_in o.state)) (sym (serve (local c) h)) (local_adds c st)))

    -- a cut: nothing waits behind it
    cut_quiet : (ms : List ℕ) → refusal geo (cut ms) d ≡ 0 → Quiet (cut ms) w
    unfolding plain_cut direct_done
    cut_quiet ms h = quiet_by (cut ms) _ h refl refl (λ t. absurd (none_among x [] refl t))

    -- a recovery: nothing waited
    recover_writes : (found : Disk) → (plain_recover geo found d).plain.writes ≡ d.writes
    unfolding plain_recover flushes
    recover_writes found = go (leb (cond d.F 2 0) d.power)
      where
        go : (t : Bool) → (cond {A = Done} t (done (cond d.F 2 0) (recovered (cond d.F 2 0) found d)) (cut_short geo (of_recover d.power) d.power d)).plain.writes ≡ d.writes
        go true = refl
        go false = refl

    closed_writes : refusal geo recover d ≡ 0 → d.writes ≡ []
    unfolding refusal
    closed_writes h = go m.phase
      where
        turned : (k : ℕ) (s t : Bool) → cond s 4 (cond t 5 k) ≡ 0 → (s ≡ false) × (t ≡ false)
        turned k true t e = absurd (omega arith)
        turned k false true e = absurd (omega arith)
        turned k false false e = (refl, refl)

        go : OpenSim geo st w.ledger d ⊎ (ClosedSim geo st w.ledger d ⊎ DownSim geo st w.ledger d) → d.writes ≡ []
        go (◌⊎◌.inl o) = absurd (eqb-false d.mode 1 (turned 0 (eqb d.mode 2) (eqb d.mode 1) h).1 (b.mirrors.mode ∙ o.mode))
        go (◌⊎◌.inr (◌⊎◌.inl o)) = o.writes
        go (◌⊎◌.inr (◌⊎◌.inr o)) = absurd (eqb-false d.mode 2 (turned 0 (eqb d.mode 2) (eqb d.mode 1) h).0 (b.mirrors.mode ∙ o.mode))

    recover_quiet : refusal geo recover d ≡ 0 → Quiet recover w
    unfolding direct_done
    recover_quiet h = quiet_by recover _ h refl refl (λ t. absurd (none_among x _ (recover_writes (fed geo recover w).found ∙ closed_writes h) t))

    -- ---- a sync or an apply of an open record

    module _ (o : OpenSim geo w.store w.ledger w.plain) where
      sz : SizeFacts geo st
      sz = sizes_facts geo st b.sizes

      rc : RecordFacts geo st
      rc = record_facts geo st b.counts

      abbrev log : List Entry
      log = entries geo st.settled st.rec.logged

      abbrev group : List Entry
      group = group_of geo st

      writes_is : d.writes ≡ addresses (queue (card_in st))
      writes_is = b.mirrors.writes o.mode

      waited : among x d.writes ≡ true → (is_data geo st.rec.blocks x ≡ true) × (among x (addresses log) ≡ false)
      waited t = among-all (λ a. (is_data geo st.rec.blocks a ≡ true) × (among a (addresses log) ≡ false)) x (queue (card_in st)) (sym (ap (among x) writes_is) ∙ t) o.waits

      none_writes : d.waiting ≡ 0 → d.writes ≡ []
      unfolding addresses
      none_writes z = writes_is ∙ ap addresses (no_queue (card_in st) (sym b.mirrors.waiting ∙ z))

      length-group : length d.G ≡ length group
      length-group = ap length (b.mirrors.G o.mode)

      length-log : length log ≡ st.rec.logged
      length-log = ap length (Facts.entries-log geo st w.ledger d b o) ∙ Facts.length-log geo st w.ledger d b o

      -- the home blocks of the log
      log_room : Room (card_in st) log
      log_room = record {
        places = omega (arith, Facts.few geo st w.ledger d b o, length-log, rc.log_count, sz.waiting, geo.queued);
        whole = rw (Facts.entries-log geo st w.ledger d b o) (Facts.log_whole geo st w.ledger d b o);
        low = rw (Facts.entries-log geo st w.ledger d b o) (data_short geo st.rec.blocks (omega (arith, sz.most, rc.blocks)) (Facts.log geo st w.ledger d b o) (Facts.log_data geo st w.ledger d b o));
      }

      homes_add : (behind os : List Order) → os ≡ batch log ++ behind → d.power ≤ d.n → among x d.writes ≡ true → Adds x (card_in st) (run os (card_in st))
      homes_add behind os is h t =
          adds_short x (card_in st) log behind os is log_room (omega (arith, b.power, o.n, length-log)) (firm_besides x log (waited t).1)

      -- the writes of an append
      abbrev appended : List Entry
      appended = append_writes geo st.rec.blocks st.settled st.rec.logged st.rec.sum (st.rec.save + 1) group

      append_adds : (os : List Order) → os ≡ batch appended → d.n + length d.G ≤ geo.slots → d.power < length d.G + geo.descriptors + 2 → among x d.writes ≡ true → Adds x (card_in st) (run os (card_in st))
      append_adds os is room h t =
          let size : length appended ≡ length group + geo.descriptors + 1 = length-append_writes geo st.rec.blocks st.settled st.rec.logged st.rec.sum (st.rec.save + 1) group in
          let fits : st.rec.logged + length group ≤ geo.slots = omega (arith, o.n, length-group) in
          let high : first_data geo ≤ x = data_above geo st.rec.blocks x (waited t).0 in
          adds_short x (card_in st) appended [] os (is ∙ sym (append-nil (batch appended)))
          (record {
            places = omega (arith, Facts.few geo st w.ledger d b o, size, sz.waiting, geo.queued);
            whole = writes_whole geo st.rec.blocks st.settled st.rec.logged st.rec.sum (st.rec.save + 1) group (Facts.group_whole geo st w.ledger d b o);
            low = all_map (λ e. e.address < 65536) NarrowAddress (λ e l. omega arith) appended (writes_below geo st.rec.blocks st.settled st.rec.logged st.rec.sum (st.rec.save + 1) group 65536 fits (omega (arith, geo.addressed)));
          })
          (omega (arith, b.power, size, length-group))
          (all_map (λ e. e.address < first_data geo) (λ e. x ≢ e.address) (λ e l z. omega arith) appended (writes_below geo st.rec.blocks st.settled st.rec.logged st.rec.sum (st.rec.save + 1) group (first_data geo) fits (omega arith)))

      -- what is to be shown of a call with the orders os
      abbrev Keeps : Done → List Order → Type 0
      Keeps p os = among x p.plain.writes ≡ true → (among x d.writes ≡ true) × Adds x (card_in st) (run os (card_in st))

      -- cut short
      short-keeps : (s : Short) (k : ℕ) (os : List Order) → (flushes geo s d.n (length d.G) ≡ false → among x d.writes ≡ true → Adds x (card_in st) (run os (card_in st))) → Keeps (cut_short geo s k d) os
      short-keeps s k os f t = let u = among-kept x _ d.writes t in (u.1, f u.0 u.1)

      -- no order happened
      dead_adds : (os : List Order) → d.power ≡ 0 → Adds x (card_in st) (run os (card_in st))
      dead_adds os z = adds_none x _ _ (run_dead os (card_in st) (sym b.power ∙ z))

      keeps_at : {p q : Done} (os : List Order) → p ≡ q → Keeps q os → Keeps p os
      keeps_at os e f t = f (sym (ap (λ (r : Done). among x r.plain.writes) e) ∙ t)

      -- ---- apply

      apply-orders : d.n ≢ 0 → save_orders geo Save.apply st ≡ batch log ++ batch (header_entry (empty_header st.rec.blocks st.rec.save) ∷ [])
      unfolding apply_orders
      apply-orders z = rw (ne_eqb st.rec.logged 0 (λ e. z (o.n ∙ e))) (checkpoint_writes st.rec.blocks st.rec.save log)

      apply_none : d.n ≡ 0 → save_orders geo Save.apply st ≡ []
      unfolding apply_orders
      apply_none z = rw (eq-eqb st.rec.logged 0 (sym o.n ∙ z))

      apply-keeps : Keeps (plain_apply geo d) (save_orders geo Save.apply st)
      unfolding flushes
      apply-keeps = go (ℕ_discrete d.n 0) (dec_le (d.n + 3) d.power) (dec_le d.power d.n)
        where
          go : Dec (d.n ≡ 0) → Dec (d.n + 3 ≤ d.power) → Dec (d.power ≤ d.n) → Keeps (plain_apply geo d) (save_orders geo Save.apply st)
          go (yes z) p q = keeps_at _ (apply_nothing geo d z) (λ t. (t, adds_none x _ _ (ap (λ (os : List Order). run os (card_in st)) (apply_none z) ∙ run_nil (card_in st))))
          go (no z) (yes p) q = keeps_at _ (apply-finished geo d z p) (λ t. absurd (none_among x [] refl t))
          go (no z) (no p) (yes q) = keeps_at _ (apply-short geo d z (omega arith)) (short-keeps (of_apply d.power) 0 (save_orders geo Save.apply st) (λ f t. homes_add _ _ (apply-orders z) q t))
          go (no z) (no p) (no q) = keeps_at _ (apply-short geo d z (omega arith)) (short-keeps (of_apply d.power) 0 (save_orders geo Save.apply st) (λ f t. absurd (false≢true (sym f ∙ lt-ltb d.n d.power (omega arith)))))

      -- ---- sync

      sync_appends : length d.G ≢ 0 → d.n + length d.G ≤ geo.slots → save_orders geo Save.sync st ≡ batch appended
      unfolding sync_orders
      sync_appends z q =
          rw (ne_eqb (length group) 0 (λ e. z (length-group ∙ e)), le-leb (st.rec.logged + length group) geo.slots (omega (arith, o.n, length-group)))
          (append-writes geo st.rec.blocks st.settled st.rec.logged st.rec.sum (st.rec.save + 1) group)

      abbrev behind_homes : List Order
      behind_homes = batch (header_entry (empty_header st.rec.blocks st.rec.save) ∷ []) ++ append_orders geo st.rec.blocks st.settled 0 start (st.rec.save + 1) group

      sync_homes : length d.G ≢ 0 → geo.slots < d.n + length d.G → save_orders geo Save.sync st ≡ batch log ++ behind_homes
      unfolding sync_orders
      sync_homes z q =
          rw (ne_eqb (length group) 0 (λ e. z (length-group ∙ e)), lt-leb (st.rec.logged + length group) geo.slots (omega (arith, o.n, length-group)), checkpoint_writes st.rec.blocks st.rec.save log)
          (append_assoc (batch log) (batch (header_entry (empty_header st.rec.blocks st.rec.save) ∷ [])) _)

      -- of a group: done, or cut short
      short-sync : length d.G ≢ 0 → d.power < sync_takes geo d.n (length d.G) → Keeps (cut_short geo (of_sync d.power) 0 d) (save_orders geo Save.sync st)
      unfolding flushes
      short-sync z h = short-keeps (of_sync d.power) 0 (save_orders geo Save.sync st) (λ f t. go (dec_le (d.n + length d.G) geo.slots) (dec_le d.power d.n) f t)
        where
          go : Dec (d.n + length d.G ≤ geo.slots) → Dec (d.power ≤ d.n) → applies geo d.n (length d.G) && ltb d.n d.power ≡ false → among x d.writes ≡ true → Adds x (card_in st) (run (save_orders geo Save.sync st) (card_in st))
          go (yes q) p f t = append_adds _ (sync_appends z q) q (rw (no_apply geo d.n (length d.G) q) at h) t
          go (no q) (yes p) f t = homes_add behind_homes _ (sync_homes z (omega arith)) p t
          go (no q) (no p) f t =
              let r : applies geo d.n (length d.G) && ltb d.n d.power ≡ true = rw (do_apply geo d.n (length d.G) (omega arith), lt-ltb d.n d.power (omega arith)) in
              absurd (false≢true (sym f ∙ r))

      sync-keeps : Keeps (plain_sync geo d) (save_orders geo Save.sync st)
      sync-keeps = go (ℕ_discrete (length d.G) 0) (ℕ_discrete d.waiting 0) (dec_le 1 d.power) (dec_le (sync_takes geo d.n (length d.G)) d.power)
        where
          go : Dec (length d.G ≡ 0) → Dec (d.waiting ≡ 0) → Dec (1 ≤ d.power) → Dec (sync_takes geo d.n (length d.G) ≤ d.power) → Keeps (plain_sync geo d) (save_orders geo Save.sync st)
          go (yes z) (yes v) p q = keeps_at _ (sync_nothing geo d z ∙ barrier_none geo d v) (λ t. absurd (none_among x _ (none_writes v) t))
          go (yes z) (no v) (yes p) q = keeps_at _ (sync_nothing geo d z ∙ barrier-done geo d v p) (λ t. absurd (none_among x [] refl t))
          go (yes z) (no v) (no p) q = keeps_at _ (sync_nothing geo d z ∙ barrier-short geo d v (omega arith)) (short-keeps (of_sync d.power) 0 (save_orders geo Save.sync st) (λ f t. dead_adds _ (omega arith)))
          go (no z) v p (yes q) = keeps_at _ (sync-finished geo d z q) (λ t. absurd (none_among x [] refl t))
          go (no z) v p (no q) = keeps_at _ (sync-short geo d z (omega arith)) (short-sync z (omega arith))

    -- the card that a sync and an apply leave
    sync_card : refusal geo sync d ≡ 0 → card_in (store_next geo sync w) ≡ run (save_orders geo Save.sync st) (card_in st)
    unfolding carried
    sync_card h = ap (λ (p : Outcome). card_in p.state) (serve sync h)

    apply_card : refusal geo apply d ≡ 0 → card_in (store_next geo apply w) ≡ run (save_orders geo Save.apply st) (card_in st)
    unfolding carried
    apply_card h = ap (λ (p : Outcome). card_in p.state) (serve apply h ∙ apply-carried geo st)

    opened_by : (c : Call) → needs_open geo (request_of c) ≡ true → refusal geo c d ≡ 0 → OpenSim geo st w.ledger d
    opened_by c n h = is_open geo st w.ledger d m (request_of c) n (cause_passes geo (request_of c) st (row c h))

    save_quiet : (c : Save) → refusal geo (save c) d ≡ 0 → Quiet (save c) w
    unfolding direct_done
    save_quiet Save.sync h =
        quiet_by sync _ h refl refl (λ t. let k = sync-keeps (opened_by sync refl h) t in (k.0, subst (Adds x (card_in st)) (sym (sync_card h)) k.1))
    save_quiet Save.apply h =
        quiet_by apply _ h refl refl (λ t. let k = apply-keeps (opened_by apply refl h) t in (k.0, subst (Adds x (card_in st)) (sym (apply_card h)) k.1))
    save_quiet Save.recover h = recover_quiet h

    -- ---- a direct write

    module _ (a : ℕ) (y : List ℕ) (h : refusal geo (direct a y) w.plain ≡ 0) where
      abbrev e : Entry
      e = record { address = a; block = y }

      o : OpenSim geo w.store w.ledger w.plain
      o = opened_by (direct a y) refl h

      direct_card : card_in (store_next geo (direct a y) w) ≡ run (direct_orders geo a y st) (card_in st)
      unfolding carried
      direct_card = ap (λ (p : Outcome). card_in p.state) (serve (direct a y) h)

      direct_answer : (dispatch geo (direct a y) st).answer ≡ cond (leb (length (direct_orders geo a y st)) st.rec.power) 0 4
      unfolding carried
      direct_answer = ap (λ (p : Outcome). p.answer) (serve (direct a y) h)

      whole : Whole e
      whole = eqb-true _ _ (not-false _ (cause_passes geo (Request.direct a y) st (row (direct a y) h)).block)

      place : Waits geo st e
      place =
          let q = (cause_passes geo (Request.direct a y) st (row (direct a y) h)).own in
          (not-false _ q.0, sym (slot_among geo st.settled a st.rec.logged) ∙ (neither (is_found (find st.work open_from st.rec.opened a) || is_found (find st.work (group_from geo) st.rec.grouped a)) (is_found (last_slot st.settled a st.rec.logged)) q.1.0).1)

      narrow : NarrowAddress e
      narrow = let k : a < st.rec.blocks = data_below geo st.rec.blocks a place.0 in omega (arith, (sizes_facts geo st b.sizes).most, (record_facts geo st b.counts).blocks)

      takes : length (direct_orders geo a y st) ≡ direct_takes geo d.waiting
      unfolding direct_orders
      takes = ap (λ (k : ℕ). length (cond (eqb k geo.direct) (flush ∷ direct_write a y ∷ []) (direct_write a y ∷ []))) (sym b.mirrors.waiting) ∙ go (eqb d.waiting geo.direct)
        where
          go : (t : Bool) → length (cond t (flush ∷ direct_write a y ∷ []) (direct_write a y ∷ [])) ≡ cond t 2 1
          go true = refl
          go false = refl

      -- cut short
      short-done : d.power < direct_takes geo d.waiting → direct_done geo (direct a y) w ≡ false
      unfolding direct_done
      short-done l =
          let k : leb (length (direct_orders geo a y st)) st.rec.power ≡ false = lt-leb (length (direct_orders geo a y st)) st.rec.power (omega (arith, takes, b.power)) in
          ap (λ (i : ℕ). eqb i 0) (direct_answer ∙ ap (λ (t : Bool). cond {A = ℕ} t 0 4) k)

      short_direct : d.power < direct_takes geo d.waiting → Quiet (direct a y) w
      unfolding flushes
      short_direct l =
          quiet_by (direct a y) _ h (short-done l) (direct_short geo a y d l)
          (λ t. let u = among-kept x (ltb 0 d.power) d.writes t in (u.1, subst (Adds x (card_in st)) (sym direct_card) (go (dec_le 1 d.power) u.0)))
        where
          go : Dec (1 ≤ d.power) → ltb 0 d.power ≡ false → Adds x (card_in st) (run (direct_orders geo a y st) (card_in st))
          go (yes p) f = absurd (false≢true (sym f ∙ lt-ltb 0 d.power (omega arith)))
          go (no p) f = dead_adds o (direct_orders geo a y st) (omega arith)

      -- done
      whole_done : direct_takes geo d.waiting ≤ d.power → direct_done geo (direct a y) w ≡ true
      unfolding direct_done
      whole_done l =
          let k : leb (length (direct_orders geo a y st)) st.rec.power ≡ true = le-leb (length (direct_orders geo a y st)) st.rec.power (omega (arith, takes, b.power)) in
          ap (λ (i : ℕ). eqb i 0) (direct_answer ∙ ap (λ (t : Bool). cond {A = ℕ} t 0 4) k)

      done_writes : direct_takes geo d.waiting ≤ d.power → (plain_next geo (direct a y) w).writes ≡ cond (eqb d.waiting geo.direct) [] d.writes ++ (a ∷ [])
      done_writes l = ap (λ (p : Done). p.plain.writes) (plain_served geo (direct a y) (fed geo (direct a y) w) d h ∙ direct-done geo a y d l)

      -- the card then, with room
      room_card : d.waiting ≢ geo.direct → 1 ≤ d.power → (queue (card_in (store_next geo (direct a y) w)) ≡ queue (card_in st) ++ (e ∷ [])) × ((store_next geo (direct a y) w).settled ≡ st.settled)
      unfolding direct_orders
      room_card z l =
          let os : direct_orders geo a y st ≡ direct_write a y ∷ [] = ap (λ (t : Bool). cond t (flush ∷ direct_write a y ∷ []) (direct_write a y ∷ [])) (ne_eqb st.rec.waiting geo.direct (λ k. z (b.mirrors.waiting ∙ k))) in
          let c : card_in (store_next geo (direct a y) w) ≡ run (direct_write a y ∷ []) (card_in st) = direct_card ∙ ap (λ (l : List Order). run l (card_in st)) os in
          let k = writes_all (e ∷ []) (card_in st) (omega (arith, Facts.few geo st w.ledger d b o, (sizes_facts geo st b.sizes).waiting, geo.queued)) (whole, tt) (narrow, tt) (omega (arith, b.power)) in
          (ap queue c ∙ k.0, ap (λ (i : Card). i.settled) c ∙ k.1)

      -- flushed first
      full_card : d.waiting ≡ geo.direct → 2 ≤ d.power → (queue (card_in (store_next geo (direct a y) w)) ≡ e ∷ []) × ((store_next geo (direct a y) w).settled ≡ flushed_bytes geo st)
      unfolding direct_orders
      full_card z l =
          let os : direct_orders geo a y st ≡ flush ∷ direct_write a y ∷ [] = ap (λ (t : Bool). cond t (flush ∷ direct_write a y ∷ []) (direct_write a y ∷ [])) (eq-eqb st.rec.waiting geo.direct (sym b.mirrors.waiting ∙ z)) in
          let c : card_in (store_next geo (direct a y) w) ≡ run (direct_write a y ∷ []) (run (flush ∷ []) (card_in st)) = direct_card ∙ ap (λ (l : List Order). run l (card_in st)) os ∙ run-append (flush ∷ []) (direct_write a y ∷ []) (card_in st) in
          let f = queued_done (card_in st) [] (record { places = omega (arith, Facts.few geo st w.ledger d b o, (sizes_facts geo st b.sizes).waiting, geo.queued); whole = tt; low = tt }) (omega (arith, b.power)) in
          let k = writes_all (e ∷ []) (run (flush ∷ []) (card_in st)) (omega (arith, f.count, f.room, (sizes_facts geo st b.sizes).waiting, geo.queued)) (whole, tt) (narrow, tt) (omega (arith, b.power, f.power)) in (
            ap queue c ∙ k.0 ∙ ap (λ (q : List Entry). q ++ (e ∷ [])) f.waits,
            ap (λ (i : Card). i.settled) c ∙ k.1 ∙ f.settled ∙ ap (λ (q : List Entry). settle q st.settled) (append-nil (queue (card_in st))),
          )

      -- what S has at a block that is written to: what is settled, once what waits there is
      log_off : All (λ i. a ≢ i.address) (Facts.log geo st w.ledger d b o)
      log_off = firm_besides a _ (ap (λ (l : List Entry). among a (addresses l)) (sym (Facts.entries-log geo st w.ledger d b o)) ∙ place.1)

      flushed_block : block_at (flushed_bytes geo st) a ≡ d.S.disk a
      flushed_block =
          sym (o.card.disk a place.0 tt
          ∙ ap (λ (l : List Entry). overlay l (block_at (flushed_bytes geo st)) a) (Facts.flushed-log geo st w.ledger d b o)
          ∙ overlay_other (Facts.log geo st w.ledger d b o) (block_at (flushed_bytes geo st)) a log_off)

      settled_block : among a d.writes ≡ false → block_at st.settled a ≡ d.S.disk a
      settled_block n =
          sym (Facts.open_disk geo st w.ledger d b o a place.0
          ∙ overlay_other (Facts.log geo st w.ledger d b o) (overlay (queue (card_in st)) (block_at st.settled)) a log_off
          ∙ overlay_other (queue (card_in st)) (block_at st.settled) a (firm_besides a (queue (card_in st)) (sym (ap (among a) (writes_is o)) ∙ n)))

      -- ---- the photo behind it

      -- another one, over what waited
      shot_grown : (p : Photo) → a ≡ x → (among x d.writes ≡ true → Shot x (card_in st) p) → (among x d.writes ≡ false → p ≡ no_photo) → d.waiting ≢ geo.direct → 1 ≤ d.power
          → Shot x (card_in (store_next geo (direct a y) w)) (photographed y (d.S.disk x) p)
      shot_grown p here some none z l = go (among x d.writes) refl
        where
          k : (queue (card_in (store_next geo (direct a y) w)) ≡ queue (card_in st) ++ (e ∷ [])) × ((store_next geo (direct a y) w).settled ≡ st.settled)
          k = room_card z l

          go : (t : Bool) → among x d.writes ≡ t → Shot x (card_in (store_next geo (direct a y) w)) (photographed y (d.S.disk x) p)
          go true t =
              let s = some t in
              let more : length p.blocks ≢ 0 = λ n. to_some x (queue (card_in st)) (sym (ap (among x) (writes_is o)) ∙ t) (ap length s.blocks ∙ n) in
              shot_more x y (d.S.disk x) a (card_in st) (card_in (store_next geo (direct a y) w)) p here k.1 k.0 (s.before ∙ sym (ap (λ (u : Bool). cond u (d.S.disk x) p.before) (ne_eqb _ 0 more))) s.blocks
          go false t =
              let empty : length p.blocks ≡ 0 = ap (λ (q : Photo). length q.blocks) (none t) in
              shot_more x y (d.S.disk x) a (card_in st) (card_in (store_next geo (direct a y) w)) p here k.1 k.0
              (ap (block_at st.settled) (sym here) ∙ settled_block (ap (λ (j : ℕ). among j d.writes) here ∙ t) ∙ ap d.S.disk here ∙ sym (ap (λ (u : Bool). cond u (d.S.disk x) p.before) (eq-eqb _ 0 empty)))
              (to_other x (queue (card_in st)) (firm_besides x (queue (card_in st)) (sym (ap (among x) (writes_is o)) ∙ t)) ∙ sym (ap (λ (q : Photo). q.blocks) (none t)))

      -- the first, behind a flush
      shot_first : a ≡ x → d.waiting ≡ geo.direct → 2 ≤ d.power → Shot x (card_in (store_next geo (direct a y) w)) (photographed y (d.S.disk x) no_photo)
      shot_first here z l =
          let k = full_card z l in
          record {
            before = ap (λ (s : List ℕ). block_at s x) k.1 ∙ ap (block_at (flushed_bytes geo st)) (sym here) ∙ flushed_block ∙ ap d.S.disk here;
            blocks = ap (blocks_to x) k.0 ∙ to_here x a y here;
          }

      -- to another block
      shot_other : (p : Photo) → a ≢ x → Shot x (card_in st) p → d.waiting ≢ geo.direct → 1 ≤ d.power → Shot x (card_in (store_next geo (direct a y) w)) p
      shot_other p away s z l =
          let k = room_card z l in
          adds_shot x (card_in st) (card_in (store_next geo (direct a y) w)) p (record { more = e ∷ []; settled = k.1; waits = k.0; other = ((λ q. away (sym q)), tt) }) s

  -- ---- along a list

  -- what was photographed: what waits, and nothing where the address does not wait
  record Taken (w : World) (p : Photo) : Type 0 where
    some : among x w.plain.writes ≡ true → Shot x (card_in w.store) p
    none : among x w.plain.writes ≡ false → p ≡ no_photo

  -- the photo of a call: done or not, with as many waiting as may or not, the block waiting behind it or not
  abbrev photo_at : Call → World → Bool → Bool → Bool → Photo → Photo
  photo_at c w finished full kept p =
      let q = cond (finished && full) no_photo p in
      cond kept (cond finished (S.on_direct geo c (λ e. cond (eqb e.address x) (photographed e.block (w.plain.S.disk x) q) q) q) q) no_photo

  none_taken : (c : Call) (w : World) (p : Photo) → among x (next geo c w).plain.writes ≡ false → photo_by geo x c w p ≡ no_photo
  none_taken c w p t = ap (λ (u : Bool). photo_at c w (direct_done geo c w) (eqb w.store.rec.waiting geo.direct) u p) t

  quiet_taken : (c : Call) (w : World) (p : Photo) → Quiet c w → Taken w p → Taken (next geo c w) (photo_by geo x c w p)
  unfolding next
  quiet_taken c w p q k = record {
    some = λ t.
        let photo-is : photo_by geo x c w p ≡ p = λ i. photo_at c w (q.done i) (eqb w.store.rec.waiting geo.direct) (t i) p in
        let u = q.kept t in
        subst (Shot x (card_in (store_next geo c w))) (sym photo-is) (adds_shot x (card_in w.store) (card_in (store_next geo c w)) p u.1 (k.some u.0));
    none = none_taken c w p;
  }

  -- of a direct write that is done and behind which the block waits
  abbrev photo_done : List ℕ → World → Photo → Bool → Bool → Photo
  photo_done y w p full here = let q = cond full no_photo p in cond here (photographed y (w.plain.S.disk x) q) q

  direct_taken : (a : ℕ) (y : List ℕ) (w : World) (p : Photo) → WorldSim geo w → refusal geo (direct a y) w.plain ≡ 0 → direct_takes geo w.plain.waiting ≤ w.plain.power → Taken w p
      → Taken (next geo (direct a y) w) (photo_by geo x (direct a y) w p)
  unfolding next among
  direct_taken a y w p m h l k = record {
    some = λ t. go (eqb w.plain.waiting geo.direct) refl (eqb a x) refl (sym (ap (among x) (done_writes w m a y h l)) ∙ t) (at t);
    none = none_taken (direct a y) w p;
  }
    where
      at : among x (plain_next geo (direct a y) w).writes ≡ true → photo_by geo x (direct a y) w p ≡ photo_done y w p (eqb w.plain.waiting geo.direct) (eqb a x)
      at t = λ i. photo_at (direct a y) w (whole_done w m a y h l i) (eqb (sym m.basics.mirrors.waiting i) geo.direct) (t i) p

      go : (full : Bool) → eqb w.plain.waiting geo.direct ≡ full → (here : Bool) → eqb a x ≡ here → among x (cond full [] w.plain.writes ++ (a ∷ [])) ≡ true
          → photo_by geo x (direct a y) w p ≡ photo_done y w p full here → Shot x (card_in (store_next geo (direct a y) w)) (photo_by geo x (direct a y) w p)
      go true f true g t e = subst (Shot x (card_in (store_next geo (direct a y) w))) (sym e) (shot_first w m a y h (eqb-true _ _ g) (eqb-true _ _ f) (let two : direct_takes geo w.plain.waiting ≡ 2 = ap (λ (u : Bool). cond {A = ℕ} u 2 1) f in omega arith))
      go true f false g t e = absurd (false≢true (sym (ap (λ (u : Bool). u || false) g) ∙ t))
      go false f true g t e = subst (Shot x (card_in (store_next geo (direct a y) w))) (sym e) (shot_grown w m a y h p (eqb-true _ _ g) k.some k.none (eqb-false _ _ f) (let one : direct_takes geo w.plain.waiting ≡ 1 = ap (λ (u : Bool). cond {A = ℕ} u 2 1) f in omega arith))
      go false f false g t e =
          let old : among x w.plain.writes ≡ true = sym (among-append x w.plain.writes (a ∷ []) ∙ ap (λ (u : Bool). among x w.plain.writes || (u || false)) g ∙ or-false (among x w.plain.writes)) ∙ t in
          subst (Shot x (card_in (store_next geo (direct a y) w))) (sym e) (shot_other w m a y h p (eqb-false _ _ g) (k.some old) (eqb-false _ _ f) (let one : direct_takes geo w.plain.waiting ≡ 1 = ap (λ (u : Bool). cond {A = ℕ} u 2 1) f in omega arith))

  -- a call that is not refused
  served-taken : (c : Call) (w : World) (p : Photo) → WorldSim geo w → refusal geo c w.plain ≡ 0 → Taken w p → Taken (next geo c w) (photo_by geo x c w p)
  served-taken (local c) w p m h k = quiet_taken (local c) w p (local_quiet w m c h) k
  served-taken (direct a y) w p m h k = go (dec_le (direct_takes geo w.plain.waiting) w.plain.power)
    where
      go : Dec (direct_takes geo w.plain.waiting ≤ w.plain.power) → Taken (next geo (direct a y) w) (photo_by geo x (direct a y) w p)
      go (yes l) = direct_taken a y w p m h l k
      go (no l) = quiet_taken (direct a y) w p (short_direct w m a y h (omega arith)) k
  served-taken (save c) w p m h k = quiet_taken (save c) w p (save_quiet w m c h) k
  served-taken (cut ms) w p m h k = quiet_taken (cut ms) w p (cut_quiet w m ms h) k

  step-taken : (c : Call) (w : World) (p : Photo) → WorldSim geo w → Taken w p → Taken (next geo c w) (photo_by geo x c w p)
  step-taken c w p m k = go (ℕ_discrete (refusal geo c w.plain) 0)
    where
      go : Dec (refusal geo c w.plain ≡ 0) → Taken (next geo c w) (photo_by geo x c w p)
      go (yes h) = served-taken c w p m h k
      go (no h) = quiet_taken c w p (refused_quiet c w m h) k

  list-taken : (cs : List Call) (w : World) (p : Photo) → WorldSim geo w → (after geo cs w).excepted ≡ false → Taken w p → Taken (after geo cs w) (photo geo x cs w p)
  unfolding after photo
  list-taken [] w p m e k = k
  list-taken (c ∷ cs) w p m e k = list-taken cs (next geo c w) (photo_by geo x c w p) (next_sim geo c w m (clean_first geo c cs w e)) e (step-taken c w p m k)

module _ (geo : Geometry) where
  -- where nothing waits first; cuts and recoveries play no part
  pub photo-stands : (x : ℕ) (cs : List Call) (w : World) → WorldSim geo w → w.plain.writes ≡ [] → (after geo cs w).excepted ≡ false → among x (after geo cs w).plain.writes ≡ true
      → Stands x (after geo cs w) (photo geo x cs w no_photo)
  photo-stands x cs w m none e t =
      let s = (list-taken geo x cs w no_photo m e (record { some = λ u. absurd (none_among x w.plain.writes none u); none = λ u. refl })).some t in
      record { before = s.before; blocks = s.blocks }
