-- Two stores in the relation with one ledger and one plain disk, but for the number of groups laid into it: as long as neither number is the
-- largest every call comes to the same on both, and one that is no accepted cut leaves two such stores.
use Prim.Native.Nat.{ℕ, ◌≤◌}
use mathlib.Core.Path.{◌≡◌, refl, ap, sym, subst, ◌∙◌}
use mathlib.Core.Logic.{◌≢◌, ◌⊎◌}
use mathlib.Core.Bool.{Bool, true, false}
use mathlib.Core.List.{List, [], ◌∷◌, ◌++◌, append-nil}
use native.Mathlib.Omega.{arith}
use native.Mathlib.Decide.{ℕ_discrete}
use borrow.Author.Tests.{ne_eqb}
use lib.Dec.{eqb}
use lib.ListN.{length}
use Rattle.cells.specs.Upto.Laws.{length-up_to}
use Rattle.cells.specs.Entry.{Entry}
use Rattle.card.specs.Card.{queue}
use Rattle.crash.proofs.Batches.{no_queue}
use Rattle.journal.specs.Geometry.{Geometry}
use Rattle.journal.specs.Layout.{is_data}
use Rattle.journal.specs.Header.{most_save}
use Rattle.journal.specs.Log.{entries}
use Rattle.store.specs.Save.{Save}
use Rattle.store.specs.Request as Request
use Rattle.store.specs.State.{State, Outcome, closed, open_mode, card_in}
use Rattle.store.specs.Lists.{open_from, group_from, listed, list_of}
use Rattle.store.specs.Causes.{cause}
use Rattle.store.specs.Saves.{group_of}
use Rattle.history.specs.Call.{Call, request_of, local, direct, save, cut, sync, apply}
use Rattle.history.specs.Plain.{Plain, Done, refusal, plain_step}
use Rattle.history.specs.Dispatch.{dispatch}
use Rattle.history.specs.Ledger.{Ledger, PlannedHeader, sync_headers, apply_headers, headers_of, noted, entered}
use Rattle.history.specs.History.{World, next, accepted_cut, exception, ledger_next, fed}
use Rattle.history.specs.AlikeCards.{Uncut, left}
use Rattle.history.proofs.Relation.CauseLaws.{record_facts, cause_passes}
use Rattle.history.proofs.Relation.Sim.{flushed_bytes, OpenSim, ClosedSim, DownSim}
use Rattle.history.proofs.Relation.OpenFacts as Facts
use Rattle.history.proofs.Steps.Shown.{WorldSim, same-cause, dispatch-refused, entered-refused, plain_served}
use Rattle.history.proofs.Steps.Local.{is_open}
use Rattle.history.proofs.Steps.ListInduction.{step, next_sim}
use Rattle.history.proofs.Twins.Regrouped.{regrouped, Steady, same-refusal, same_answer, same_plain}
use Rattle.history.proofs.Twins.LastNumber.{cut_accepted, recover-refused, goes, stays_last}
use Rattle.history.proofs.Twins.Homes.{beneath, Holds, Keeps, itself, beneath-kept, beneath-flushed, beneath_none, local_holds, apply-holds, direct_holds, direct_flushes, sync_empties, apply_empties}

-- ---- the headers of a save, by what they are computed from

module _ (geo : Geometry) where
  headers_same : (c : Save) (a b : State) → c ≢ Save.recover → a.rec.logged ≡ b.rec.logged → a.rec.grouped ≡ b.rec.grouped → a.rec.waiting ≡ b.rec.waiting
      → entries geo a.settled a.rec.logged ≡ entries geo b.settled b.rec.logged → group_of geo a ≡ group_of geo b → headers_of geo c a ≡ headers_of geo c b
  unfolding sync_headers apply_headers
  headers_same Save.sync a b z n m k l g = rw (l, g, n, m, k)
  headers_same Save.apply a b z n m k l g = rw n
  headers_same Save.recover a b z n m k l g = absurd (z refl)

  -- no exception but at an accepted cut
  uncut_clean : (c : Call) (w : World) → ((ms : List ℕ) → c ≡ cut ms → (dispatch geo c w.store).answer ≢ 0) → exception geo c w ≡ false
  unfolding exception accepted_cut
  uncut_clean (local c) w u = refl
  uncut_clean (direct a b) w u = refl
  uncut_clean (save c) w u = refl
  uncut_clean (cut ms) w u = rw (ne_eqb (dispatch geo (cut ms) w.store).answer 0 (u ms refl))

  -- ---- the relation

  -- while open the settled data blocks under the log are the same, which alike reads, and so are the direct writes that wait
  abbrev pub SameHomes : State → State → Type 0
  SameHomes a b = a.rec.mode ≡ open_mode → ((x : ℕ) → is_data geo a.rec.blocks x ≡ true → beneath geo a x ≡ beneath geo b x) × (queue (card_in a) ≡ queue (card_in b))

  abbrev pub Homes : World → World → Type 0
  Homes w v = SameHomes w.store v.store

  pub record Twins (w v : World) : Type 0 where
    pub first : WorldSim geo w
    pub second : WorldSim geo v
    pub groups : ℕ
    pub plain : v.plain ≡ regrouped groups w.plain
    pub ledger : w.ledger ≡ v.ledger
    pub first_mode : w.store.rec.mode ≢ closed
    pub homes : Homes w v

  pub open_sim : (w : World) → WorldSim geo w → w.store.rec.mode ≡ open_mode → OpenSim geo w.store w.ledger w.plain
  open_sim w m e = go m.phase
    where
      go : OpenSim geo w.store w.ledger w.plain ⊎ (ClosedSim geo w.store w.ledger w.plain ⊎ DownSim geo w.store w.ledger w.plain) → OpenSim geo w.store w.ledger w.plain
      go (◌⊎◌.inl o) = o
      go (◌⊎◌.inr (◌⊎◌.inl o)) = absurd (omega (arith, o.mode))
      go (◌⊎◌.inr (◌⊎◌.inr o)) = absurd (omega (arith, o.mode))

  -- where nothing waits both cards are S
  pub homes_none : (w v : World) → WorldSim geo w → WorldSim geo v → (g : ℕ) → v.plain ≡ regrouped g w.plain → w.plain.waiting ≡ 0 → Homes w v
  homes_none w v m n g p z e =
      let f : v.store.rec.mode ≡ open_mode = sym n.basics.mirrors.mode ∙ ap (λ (d : Plain). d.mode) p ∙ m.basics.mirrors.mode ∙ e in
      let size : w.store.rec.blocks ≡ v.store.rec.blocks = sym m.basics.mirrors.N ∙ sym (ap (λ (d : Plain). d.N) p) ∙ n.basics.mirrors.N in
      let i : w.store.rec.waiting ≡ 0 = sym m.basics.mirrors.waiting ∙ z in
      let j : v.store.rec.waiting ≡ 0 = sym n.basics.mirrors.waiting ∙ ap (λ (d : Plain). d.waiting) p ∙ z in (
        λ x h.
            beneath_none geo w.store w.ledger w.plain (open_sim w m e) i x h
            ∙ sym (ap (λ (d : Plain). d.S.disk x) p)
            ∙ sym (beneath_none geo v.store v.ledger v.plain (open_sim v n f) j x (ap (λ (N : ℕ). is_data geo N x) (sym size) ∙ h)),
        no_queue (card_in w.store) i ∙ sym (no_queue (card_in v.store) j),
      )

  module _ (w v : World) (t : Twins w v) where
    abbrev d : Plain
    d = w.plain

    -- the one plain disk, by the other
    pub as_first : {A : Type 0} (f : Plain → A) → f v.plain ≡ f (regrouped t.groups d)
    as_first {A = A} f = ap f t.plain

    pub same_mode : w.store.rec.mode ≡ v.store.rec.mode
    same_mode = sym t.first.basics.mirrors.mode ∙ sym (as_first (λ (x : Plain). x.mode)) ∙ t.second.basics.mirrors.mode

    pub same-waiting : w.store.rec.waiting ≡ v.store.rec.waiting
    same-waiting = sym t.first.basics.mirrors.waiting ∙ sym (as_first (λ (x : Plain). x.waiting)) ∙ t.second.basics.mirrors.waiting

    pub same_power : w.store.rec.power ≡ v.store.rec.power
    same_power = sym t.first.basics.power ∙ sym (as_first (λ (x : Plain). x.power)) ∙ t.second.basics.power

    -- ---- while open

    module _ (e : w.store.rec.mode ≡ open_mode) where
      f : v.store.rec.mode ≡ open_mode
      f = sym same_mode ∙ e

      pub first_open : OpenSim geo w.store w.ledger d
      first_open = open_sim w t.first e

      pub second_open : OpenSim geo v.store v.ledger v.plain
      second_open = open_sim v t.second f

      pub same_logged : w.store.rec.logged ≡ v.store.rec.logged
      same_logged = sym first_open.n ∙ sym (as_first (λ (x : Plain). x.n)) ∙ second_open.n

      pub same_log_lem : entries geo w.store.settled w.store.rec.logged ≡ entries geo v.store.settled v.store.rec.logged
      same_log_lem =
          Facts.entries-log geo w.store w.ledger d t.first.basics first_open
          ∙ sym (Facts.written_is geo w.store w.ledger d t.first.basics first_open)
          ∙ ap (λ (l : Ledger). l.written) t.ledger
          ∙ Facts.written_is geo v.store v.ledger v.plain t.second.basics second_open
          ∙ sym (Facts.entries-log geo v.store v.ledger v.plain t.second.basics second_open)

      same-group : group_of geo w.store ≡ group_of geo v.store
      same-group = sym (t.first.basics.mirrors.G e) ∙ sym (as_first (λ (x : Plain). x.G)) ∙ t.second.basics.mirrors.G f

      same_open : list_of w.store.work open_from w.store.rec.opened ≡ list_of v.store.work open_from v.store.rec.opened
      same_open = sym (t.first.basics.mirrors.T e) ∙ sym (as_first (λ (x : Plain). x.T)) ∙ t.second.basics.mirrors.T f

      pub same_grouped : w.store.rec.grouped ≡ v.store.rec.grouped
      same_grouped =
          sym (length-up_to (listed w.store.work (group_from geo)) w.store.rec.grouped) ∙ ap length same-group ∙ length-up_to (listed v.store.work (group_from geo)) v.store.rec.grouped

      pub same_opened : w.store.rec.opened ≡ v.store.rec.opened
      same_opened =
          sym (length-up_to (listed w.store.work open_from) w.store.rec.opened) ∙ ap length same_open ∙ length-up_to (listed v.store.work open_from) v.store.rec.opened

    pub same_size : w.store.rec.blocks ≡ v.store.rec.blocks
    same_size = sym t.first.basics.mirrors.N ∙ sym (as_first (λ (x : Plain). x.N)) ∙ t.second.basics.mirrors.N

    -- ---- the settled data blocks and what waits behind a call

    module _ (a b : State) (es : List Entry) where
      -- both were kept, and the writes es wait behind
      more_homes : Holds geo w.store.settled (queue (card_in w.store) ++ es) w.store a → Holds geo v.store.settled (queue (card_in v.store) ++ es) v.store b → SameHomes a b
      more_homes p q e =
          let k = t.homes (p.opened e) in (
            λ x h.
                beneath-kept geo w.store a _ p x
                ∙ k.0 x (ap (λ (N : ℕ). is_data geo N x) (sym p.N) ∙ h)
                ∙ sym (beneath-kept geo v.store b _ q x),
            p.waits ∙ ap (λ (l : List Entry). l ++ es) k.1 ∙ sym q.waits,
          )

      -- what waited has settled on both, and the writes es wait
      flushed_homes : Holds geo (flushed_bytes geo w.store) es w.store a → Holds geo (flushed_bytes geo v.store) es v.store b → SameHomes a b
      flushed_homes p q e = (
        λ x h.
            let k : is_data geo w.store.rec.blocks x ≡ true = ap (λ (N : ℕ). is_data geo N x) (sym p.N) ∙ h in
            beneath-flushed geo w.store w.ledger d (first_open (p.opened e)) a es p x k
            ∙ sym (as_first (λ (y : Plain). y.S.disk x))
            ∙ sym (beneath-flushed geo v.store v.ledger v.plain (second_open (p.opened e)) b es q x (ap (λ (N : ℕ). is_data geo N x) (sym same_size) ∙ k)),
        p.waits ∙ sym q.waits,
      )

    -- both were kept, and no more waits
    kept_homes : (a b : State) → Keeps geo w.store a → Keeps geo v.store b → SameHomes a b
    kept_homes a b p q = more_homes a b [] (subst (λ (l : List Entry). Holds geo w.store.settled l w.store a) (sym (append-nil _)) p) (subst (λ (l : List Entry). Holds geo v.store.settled l v.store b) (sym (append-nil _)) q)

    -- ---- a call, where neither save number is the largest

    module _ (x : w.store.rec.save ≢ most_save) (y : v.store.rec.save ≢ most_save) where
      modes : d.mode ≤ 2
      modes = rw t.first.basics.mirrors.mode (record_facts geo w.store t.first.basics.counts).mode

      below : d.mode ≡ 1 → (d.S.groups ≢ most_save) × (t.groups ≢ most_save)
      below e =
          let p : w.store.rec.mode ≡ open_mode = sym t.first.basics.mirrors.mode ∙ e in
          let q : v.store.rec.mode ≡ open_mode = sym same_mode ∙ p in (
            (λ z. x (sym (t.first.basics.mirrors.save p) ∙ z)),
            λ z. y (sym (t.second.basics.mirrors.save q) ∙ as_first (λ (u : Plain). u.S.groups) ∙ z),
          )

      pub same_row : (c : Call) → cause geo (request_of c) w.store ≡ cause geo (request_of c) v.store
      same_row c =
          same-cause geo w.store w.ledger d t.first c
          ∙ sym (same-refusal geo t.groups d modes below c)
          ∙ sym (as_first (refusal geo c))
          ∙ sym (same-cause geo v.store v.ledger v.plain t.second c)

      pub same_end : (c : Call) → ((dispatch geo c w.store).answer ≡ (dispatch geo c v.store).answer) × ((dispatch geo c w.store).orders ≡ (dispatch geo c v.store).orders)
      same_end c =
          let r = same_answer geo t.groups d modes below c (fed geo c w) (fed geo c v) in
          let p = (step geo c w t.first).agrees in
          let q = (step geo c v t.second).agrees in (
            p.answer ∙ sym r.0 ∙ sym (as_first (λ (u : Plain). (plain_step geo c (fed geo c v) u).answer)) ∙ sym q.answer,
            p.orders ∙ sym r.1 ∙ sym (as_first (λ (u : Plain). (plain_step geo c (fed geo c v) u).orders)) ∙ sym q.orders,
          )

      -- ---- what it leaves, if it is no accepted cut

      by_headers : (q : Save) → q ≢ Save.recover → w.store.rec.mode ≡ open_mode
          → noted (headers_of geo q w.store) (dispatch geo (save q) w.store).orders v.ledger ≡ noted (headers_of geo q v.store) (dispatch geo (save q) v.store).orders v.ledger
      by_headers q z e =
          ap (λ (k : ℕ). noted (headers_of geo q w.store) k v.ledger) (same_end (save q)).1
          ∙ ap (λ (hs : List PlannedHeader). noted hs (dispatch geo (save q) v.store).orders v.ledger) (headers_same q w.store v.store z (same_logged e) (same_grouped e) same-waiting (same_log_lem e) (same-group e))

      -- the ledger behind a save that is not refused: a sync or an apply, while open
      saved_ledger : (q : Save) → cause geo (Request.save q) w.store ≡ 0 → entered geo (save q) w.store v.ledger ≡ entered geo (save q) v.store v.ledger
      unfolding entered
      saved_ledger Save.sync h = by_headers Save.sync (λ e. let z : ◌≡◌ {A = ℕ} 0 1 = cc in omega arith) (is_open geo w.store w.ledger d t.first Request.sync refl (cause_passes geo Request.sync w.store h)).mode
      saved_ledger Save.apply h = by_headers Save.apply (λ e. let z : ◌≡◌ {A = ℕ} 0 1 = cc in omega arith) (is_open geo w.store w.ledger d t.first Request.apply refl (cause_passes geo Request.apply w.store h)).mode
      saved_ledger Save.recover h = absurd (recover-refused geo w.store t.first_mode h)

      served_ledger : (c : Call) → cause geo (request_of c) w.store ≡ 0 → ((ms : List ℕ) → c ≡ cut ms → (dispatch geo c w.store).answer ≢ 0)
          → entered geo c w.store v.ledger ≡ entered geo c v.store v.ledger
      unfolding entered
      served_ledger (local q) h u = refl
      served_ledger (direct a b) h u = refl
      served_ledger (save q) h u = saved_ledger q h
      served_ledger (cut ms) h u = absurd (u ms refl (cut_accepted geo w.store ms h))

      -- behind a call that is not refused: kept, or one write more waits, or what waited has settled, or nothing waits
      served_homes : (c : Call) → cause geo (request_of c) w.store ≡ 0 → ((ms : List ℕ) → c ≡ cut ms → (dispatch geo c w.store).answer ≢ 0)
          → WorldSim geo (next geo c w) → WorldSim geo (next geo c v) → (g : ℕ) → (next geo c v).plain ≡ regrouped g (next geo c w).plain → Homes (next geo c w) (next geo c v)
      unfolding next
      served_homes (local q) h u m n g p = kept_homes _ _ (local_holds geo w.store q) (local_holds geo v.store q)
      served_homes (direct a b) h u m n g p = go (eqb w.store.rec.waiting geo.direct) refl
        where
          other : {s : Bool} → eqb w.store.rec.waiting geo.direct ≡ s → eqb v.store.rec.waiting geo.direct ≡ s
          other z = ap (λ (k : ℕ). eqb k geo.direct) (sym same-waiting) ∙ z

          accepted : cause geo (Request.direct a b) v.store ≡ 0
          accepted = sym (same_row (direct a b)) ∙ h

          opened : (next geo (direct a b) w).store.rec.mode ≡ open_mode → (next geo (direct a b) v).store.rec.mode ≡ open_mode
          opened e = sym n.basics.mirrors.mode ∙ ap (λ (y : Plain). y.mode) p ∙ m.basics.mirrors.mode ∙ e

          go : (s : Bool) → eqb w.store.rec.waiting geo.direct ≡ s → Homes (next geo (direct a b) w) (next geo (direct a b) v)
          go false z = λ e. more_homes _ _ _ (direct_holds geo w.store a b h z e) (direct_holds geo v.store a b accepted (other z) (opened e)) e
          go true z = λ e. flushed_homes _ _ _ (direct_flushes geo w.store a b h z e) (direct_flushes geo v.store a b accepted (other z) (opened e)) e
      served_homes (save Save.sync) h u m n g p = λ e.
          homes_none (next geo sync w) (next geo sync v) m n g p
          (let q = plain_served geo sync (fed geo sync w) d (sym (same-cause geo w.store w.ledger d t.first sync) ∙ h) in
          ap (λ (y : Done). y.plain.waiting) q ∙ sync_empties geo d (sym (ap (λ (y : Done). y.plain.mode) q) ∙ m.basics.mirrors.mode ∙ e))
          e
      served_homes (save Save.apply) h u m n g p = go (ℕ_discrete w.store.rec.logged 0)
        where
          o : OpenSim geo w.store w.ledger d
          o = is_open geo w.store w.ledger d t.first Request.apply refl (cause_passes geo Request.apply w.store h)

          go : Dec (w.store.rec.logged ≡ 0) → Homes (next geo apply w) (next geo apply v)
          go (yes z) = kept_homes _ _ (apply-holds geo w.store z) (apply-holds geo v.store (sym (same_logged o.mode) ∙ z))
          go (no z) = λ e.
              homes_none (next geo apply w) (next geo apply v) m n g p
              (let q = plain_served geo apply (fed geo apply w) d (sym (same-cause geo w.store w.ledger d t.first apply) ∙ h) in
              ap (λ (y : Done). y.plain.waiting) q ∙ apply_empties geo d (λ k. z (sym o.n ∙ k)) (sym (ap (λ (y : Done). y.plain.mode) q) ∙ m.basics.mirrors.mode ∙ e))
              e
      served_homes (save Save.recover) h u m n g p = absurd (recover-refused geo w.store t.first_mode h)
      served_homes (cut ms) h u m n g p = absurd (u ms refl (cut_accepted geo w.store ms h))

      module _ (c : Call) (u : (ms : List ℕ) → c ≡ cut ms → (dispatch geo c w.store).answer ≢ 0) where
        next_homes : WorldSim geo (next geo c w) → WorldSim geo (next geo c v) → (g : ℕ) → (next geo c v).plain ≡ regrouped g (next geo c w).plain → Homes (next geo c w) (next geo c v)
        unfolding next
        next_homes m n g p = go (ℕ_discrete (cause geo (request_of c) w.store) 0)
          where
            same_state : (st : State) → cause geo (request_of c) st ≢ 0 → Keeps geo st (dispatch geo c st).state
            same_state st h = subst (Keeps geo st) (sym (ap (λ (o : Outcome). o.state) (dispatch-refused geo c st h))) (itself geo st)

            go : Dec (cause geo (request_of c) w.store ≡ 0) → Homes (next geo c w) (next geo c v)
            go (no h) = kept_homes _ _ (same_state w.store h) (same_state v.store (λ z. h (same_row c ∙ z)))
            go (yes h) = served_homes c h u m n g p

        uncut_second : (ms : List ℕ) → c ≡ cut ms → (dispatch geo c v.store).answer ≢ 0
        uncut_second ms e z = u ms e ((same_end c).0 ∙ z)

        next_ledger : ledger_next geo c w ≡ ledger_next geo c v
        next_ledger = ap (entered geo c w.store) t.ledger ∙ go (ℕ_discrete (cause geo (request_of c) w.store) 0)
          where
            go : Dec (cause geo (request_of c) w.store ≡ 0) → entered geo c w.store v.ledger ≡ entered geo c v.store v.ledger
            go (no h) = entered-refused geo c w.store v.ledger h ∙ sym (entered-refused geo c v.store v.ledger (λ z. h (same_row c ∙ z)))
            go (yes h) = served_ledger c h u

        steady : refusal geo c d ≡ 0 → Steady c
        steady z =
            let h : cause geo (request_of c) w.store ≡ 0 = same-cause geo w.store w.ledger d t.first c ∙ z in
            ((λ ms e. u ms e (accepted c ms e h)), λ e. recover-refused geo w.store t.first_mode (subst (λ (q : Call). cause geo (request_of q) w.store ≡ 0) e h))
          where
            accepted : (c : Call) (ms : List ℕ) → c ≡ cut ms → cause geo (request_of c) w.store ≡ 0 → (dispatch geo c w.store).answer ≡ 0
            accepted c ms e h = subst (λ (q : Call). cause geo (request_of q) w.store ≡ 0 → (dispatch geo q w.store).answer ≡ 0) (sym e) (cut_accepted geo w.store ms) h

        pub twins_next : Twins (next geo c w) (next geo c v)
        unfolding next
        twins_next =
            let r = same_plain geo t.groups d modes below c (fed geo c w) (fed geo c v) steady in
            let m = next_sim geo c w t.first (uncut_clean c w u) in
            let n = next_sim geo c v t.second (uncut_clean c v uncut_second) in
            let p : (next geo c v).plain ≡ regrouped r.0 (next geo c w).plain = as_first (λ (p : Plain). (plain_step geo c (fed geo c v) p).plain) ∙ r.1 in
            record {
              first = m;
              second = n;
              groups = r.0;
              plain = p;
              ledger = next_ledger;
              first_mode = (goes geo w.store t.first_mode c u).mode;
              homes = next_homes m n r.0 p;
            }

-- ---- a list of calls

abbrev pub world_of : State → Ledger → Plain → World
world_of st l d = record { store = st; ledger = l; plain = d; excepted = false }

module _ (geo : Geometry) where
  -- some ledgers and plain disks make them twins
  pub record TwinsOf (a b : State) : Type 0 where
    pub ledger : Ledger
    pub other_ledger : Ledger
    pub plain : Plain
    pub other_plain : Plain
    pub twins : Twins geo (world_of a ledger plain) (world_of b other_ledger other_plain)

  twins_of : (w v : World) → Twins geo w v → TwinsOf w.store v.store
  twins_of w v t = record {
    ledger = w.ledger;
    other_ledger = v.ledger;
    plain = w.plain;
    other_plain = v.plain;
    twins = record { first = t.first; second = t.second; groups = t.groups; plain = t.plain; ledger = t.ledger; first_mode = t.first_mode; homes = t.homes };
  }

  pub twins_left : (cs : List Call) (a b : State) → TwinsOf a b → Uncut geo cs a → Uncut geo cs b → (left geo cs a).rec.save ≢ most_save → (left geo cs b).rec.save ≢ most_save
      → TwinsOf (left geo cs a) (left geo cs b)
  unfolding left next
  twins_left [] a b t p q x y = t
  twins_left (c ∷ cs) a b t p q x y =
      let w = world_of a t.ledger t.plain in
      let v = world_of b t.other_ledger t.other_plain in
      twins_left cs (dispatch geo c a).state (dispatch geo c b).state
      (twins_of (next geo c w) (next geo c v) (twins_next geo w v t.twins (λ z. x (stays_last geo (c ∷ cs) a t.twins.first_mode p z)) (λ z. y (stays_last geo (c ∷ cs) b (λ e. t.twins.first_mode (same_mode geo w v t.twins ∙ e)) q z)) c p.0))
      p.1 q.1 x y
