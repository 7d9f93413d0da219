-- An open world, and a closed one, written out: the plain disk and the ledger by the store's own record and lists.
use Prim.Native.Nat.{ℕ}
use mathlib.Core.Path.{◌≡◌, refl, ap, sym, subst, ◌∙◌}
use mathlib.Core.Logic.{◌⊎◌}
use mathlib.Core.Bool.{Bool, true}
use mathlib.Core.List.{List}
use lib.ListN.{take}
use native.Mathlib.Omega.{arith}
use native.Mathlib.Decide.{ℕ_discrete}
use Rattle.cells.specs.Entry.{Entry}
use Rattle.crash.specs.Laid.{Laid}
use Rattle.card.specs.Card.{queue}
use Rattle.store.specs.State.{State, closed, card_in}
use Rattle.journal.specs.Log.{entries}
use Rattle.store.proofs.Causes.{needs_open}
use Rattle.journal.specs.Geometry.{Geometry}
use Rattle.history.specs.Call.{Call, request_of}
use Rattle.history.specs.Plain.{Plain, addresses, with_s, with_count, in_mode, with_power, with_waiting, with_f, with_log, with_writes, with_loose, blank_plain, refusal}
use Rattle.history.specs.Ledger.{Ledger, settled_by}
use Rattle.history.specs.History.{World}
use Rattle.history.proofs.Relation.Sim.{Basics, OpenSim, ClosedSim, Sim}
use Rattle.history.proofs.Relation.PlainLaws.{plain_eq, ledger_eq}
use Rattle.history.proofs.Relation.CauseLaws.{record_facts, idle, cause_passes}
use Rattle.history.proofs.Steps.Shown.{WorldSim, StepOK, same-cause, refused-step}
use Rattle.history.proofs.Steps.Local.{is_open}
use Rattle.history.proofs.Steps.Ends.{open_plain}

-- every header settled, the last one's list v
abbrev pub settled_ledger : List Entry → Ledger
settled_ledger v = settled_by v

module _ (geo : Geometry) where
  abbrev pub plain_now : State → Laid → Plain
  plain_now st S = with_waiting st.rec.waiting (with_writes (addresses (queue (card_in st))) (open_plain geo st st.rec S st.rec.power (addresses (entries geo st.settled st.rec.logged))))

  abbrev pub open_world : State → List Entry → Laid → Bool → World
  open_world st v S x = record { store = st; ledger = settled_ledger v; plain = plain_now st S; excepted = x }

  pub record Opened (st : State) (v : List Entry) (S : Laid) : Type 0 where
    pub basics : Basics geo st (plain_now st S)
    pub sim : OpenSim geo st (settled_ledger v) (plain_now st S)

  pub opened_sim : {st : State} {v : List Entry} {S : Laid} → Opened st v S → Sim geo st (settled_ledger v) (plain_now st S)
  opened_sim f = record { basics = f.basics; phase = ◌⊎◌.inl f.sim }

  module _ (w : World) (b : Basics geo w.store w.plain) (o : OpenSim geo w.store w.ledger w.plain) where
    open_ledger : w.ledger ≡ settled_ledger w.ledger.written
    open_ledger = ledger_eq refl o.pending

    open_plain_lem : w.plain ≡ plain_now w.store w.plain.S
    open_plain_lem =
        plain_eq b.mirrors.N refl (b.mirrors.G o.mode) (b.mirrors.T o.mode) o.n (b.mirrors.mode ∙ o.mode) b.power b.mirrors.waiting o.short o.F
        (b.mirrors.log o.mode) (b.mirrors.writes o.mode) o.loose

    pub open-world : w ≡ open_world w.store w.ledger.written w.plain.S w.excepted
    open-world = λ i. record {
      store = w.store;
      ledger = open_ledger i;
      plain = open_plain_lem i;
      excepted = w.excepted;
    }

    pub opened : Opened w.store w.ledger.written w.plain.S
    opened = record {
      basics = record { sizes = b.sizes; counts = b.counts; mirrors = record { mode = sym o.mode; N = refl; waiting = refl; T = λ z. refl; G = λ z. refl; save = b.mirrors.save; log = λ z. refl; writes = λ z. refl }; power = refl };
      sim = record { mode = o.mode; n = refl; F = refl; short = refl; loose = refl; pending = refl; sum = o.sum; waits = o.waits; card = o.card };
    }

    pub opened_refusal : (c : Call) → refusal geo c w.plain ≡ 0 → refusal geo c (plain_now w.store w.plain.S) ≡ 0
    opened_refusal c h = ap (refusal geo c) (sym open_plain_lem) ∙ h

  -- a call that needs an open record: its step in such a world is its step
  pub open_step : (c : Call) → needs_open geo (request_of c) ≡ true → ((st : State) (v : List Entry) (S : Laid) (x : Bool) → Opened st v S → refusal geo c (plain_now st S) ≡ 0 → StepOK geo c (open_world st v S x)) → (w : World) → WorldSim geo w → StepOK geo c w
  open_step c n f w m = go (ℕ_discrete (refusal geo c w.plain) 0)
    where
      go : Dec (refusal geo c w.plain ≡ 0) → StepOK geo c w
      go (no h) = refused-step geo c w m h
      go (yes h) =
          let o : OpenSim geo w.store w.ledger w.plain = is_open geo w.store w.ledger w.plain m (request_of c) n (cause_passes geo (request_of c) w.store (same-cause geo w.store w.ledger w.plain m c ∙ h)) in
          subst (StepOK geo c) (sym (open-world w m.basics o)) (f w.store w.ledger.written w.plain.S w.excepted (opened w m.basics o) (opened_refusal w m.basics o c h))

-- ---- closed

-- the log's addresses are those of the first n entries of the list v
abbrev pub plain_shut : State → List Entry → Laid → ℕ → Bool → List ℕ → Plain
plain_shut st v S n F loose = in_mode closed (with_f F (with_count n (with_log (addresses (take n v)) (with_loose loose (with_power st.rec.power (with_s S (blank_plain st.rec.blocks)))))))

abbrev pub closed_world : State → List Entry → Laid → ℕ → Bool → List ℕ → Bool → World
closed_world st v S n F loose x = record { store = st; ledger = settled_ledger v; plain = plain_shut st v S n F loose; excepted = x }

module _ (geo : Geometry) where
  pub record Closed (st : State) (v : List Entry) (S : Laid) (n : ℕ) (F : Bool) (loose : List ℕ) : Type 0 where
    pub basics : Basics geo st (plain_shut st v S n F loose)
    pub sim : ClosedSim geo st (settled_ledger v) (plain_shut st v S n F loose)

  pub closed_sim : {st : State} {v : List Entry} {S : Laid} {n : ℕ} {F : Bool} {loose : List ℕ} → Closed st v S n F loose → Sim geo st (settled_ledger v) (plain_shut st v S n F loose)
  closed_sim f = record { basics = f.basics; phase = ◌⊎◌.inr (◌⊎◌.inl f.sim) }

  module _ (w : World) (b : Basics geo w.store w.plain) (o : ClosedSim geo w.store w.ledger w.plain) where
    pub idle_closed : w.store.rec.waiting ≡ 0
    idle_closed = idle geo w.store (record_facts geo w.store b.counts) o.mode

    closed_ledger : w.ledger ≡ settled_ledger w.ledger.written
    closed_ledger = ledger_eq refl o.pending

    closed_plain : w.plain ≡ plain_shut w.store w.ledger.written w.plain.S w.plain.n w.plain.F w.plain.loose
    closed_plain = plain_eq b.mirrors.N refl o.G o.T refl (b.mirrors.mode ∙ o.mode) b.power (b.mirrors.waiting ∙ idle_closed) o.short refl o.log o.writes refl

    pub closed-world : w ≡ closed_world w.store w.ledger.written w.plain.S w.plain.n w.plain.F w.plain.loose w.excepted
    closed-world = λ i. record {
      store = w.store;
      ledger = closed_ledger i;
      plain = closed_plain i;
      excepted = w.excepted;
    }

    pub shut : Closed w.store w.ledger.written w.plain.S w.plain.n w.plain.F w.plain.loose
    shut = record {
      basics = record {
        sizes = b.sizes;
        counts = b.counts;
        mirrors = record { mode = sym o.mode; N = refl; waiting = sym idle_closed; T = λ z. absurd (omega (arith, o.mode)); G = λ z. absurd (omega (arith, o.mode)); save = λ z. absurd (omega (arith, o.mode)); log = λ z. absurd (omega (arith, o.mode)); writes = λ z. absurd (omega (arith, o.mode)) };
        power = refl;
      };
      sim = record { mode = o.mode; T = refl; G = refl; short = refl; writes = refl; log = refl; pending = refl; save = o.save; card = o.card };
    }
