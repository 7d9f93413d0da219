-- The relation of the store, its ledger and the plain disk, by mode.
use Prim.Native.Nat.{ℕ}
use mathlib.Core.Path.{◌≡◌}
use mathlib.Core.Logic.{◌⊎◌}
use mathlib.Core.Bool.{true, false, cond}
use mathlib.Core.List.{List, [], ◌++◌}
use lib.ListN.{length, take}
use Rattle.cells.specs.Entry.{Entry}
use Rattle.fnv.specs.Fnv.{start}
use Rattle.crash.specs.Laid.{lay_over}
use Rattle.card.specs.Card as Card
use Rattle.card.specs.Card.{queue, settle, block_at}
use Rattle.card.specs.Marks.{marks_fit}
use Rattle.card.proofs.All.{All}
use Rattle.card.proofs.MarkLaws.{HeaderLast}
use Rattle.journal.specs.Geometry.{Geometry}
use Rattle.journal.specs.Log.{entries, sum_of}
use Rattle.crash.proofs.Cards.{Every, WholeCard, ClosedCard}
use Rattle.crash.proofs.Leads.{Leads, found_in}
use Rattle.store.specs.State.{State, closed, open_mode, down, card_in}
use Rattle.store.specs.Causes.{wrong_sizes, wrong_record}
use Rattle.history.specs.Plain.{Plain, among, addresses, none, header_waits, Verdict, verdict, log_at, header_kept}
use Rattle.history.specs.Ledger.{Ledger, nothing, resolved, same_log}
use Rattle.history.proofs.Relation.Lists.{Data}
use Rattle.history.proofs.Relation.CauseLaws.{Mirrors}
use Rattle.history.proofs.Relation.EvenLedgers.{Even}

module _ (geo : Geometry) where
  -- what holds in every mode
  pub record Basics (st : State) (d : Plain) : Type 0 where
    pub sizes : wrong_sizes geo st ≡ false
    pub counts : wrong_record geo st ≡ false
    pub mirrors : Mirrors geo st d
    pub power : d.power ≡ st.rec.power

  -- the addresses that may be found otherwise are not in question
  abbrev pub Firm : List ℕ → ℕ → Type 0
  Firm xs a = among a xs ≡ false

  -- a direct write that waits: to a data block that is not in the log
  abbrev pub Waits : State → Entry → Type 0
  Waits st e = Data geo st.rec.blocks e × (among e.address (addresses (entries geo st.settled st.rec.logged)) ≡ false)

  -- the settled bytes once the waiting writes have settled
  abbrev pub flushed_bytes : State → List ℕ
  flushed_bytes st = settle (queue (card_in st)) st.settled

  -- open: direct writes alone wait, and the record's n and sum are those of the list on the card
  pub record OpenSim (st : State) (l : Ledger) (d : Plain) : Type 0 where
    pub mode : st.rec.mode ≡ open_mode
    pub n : d.n ≡ st.rec.logged
    pub F : d.F ≡ false
    pub short : d.short ≡ none
    pub loose : d.loose ≡ []
    pub pending : l.pending ≡ nothing
    pub sum : st.rec.sum ≡ sum_of start (entries geo st.settled st.rec.logged)
    pub waits : All (Waits st) (queue (card_in st))
    pub card : WholeCard geo Every st.rec.blocks (block_at (flushed_bytes st)) l.written d.S st.rec.logged

  -- closed: the card as a cut left it
  pub record ClosedSim (st : State) (l : Ledger) (d : Plain) : Type 0 where
    pub mode : st.rec.mode ≡ closed
    pub T : d.T ≡ []
    pub G : d.G ≡ []
    pub short : d.short ≡ none
    pub writes : d.writes ≡ []
    pub log : d.log ≡ addresses (take d.n l.written)
    pub pending : l.pending ≡ nothing
    pub save : st.rec.save ≡ 0
    pub card : ClosedCard geo (Firm d.loose) st.rec.blocks (block_at st.settled) l.written d.S d.n d.F

-- what a cut by these marks would leave, and what the plain disk would choose
abbrev pub cut_settled : List ℕ → State → List ℕ
cut_settled ms st = (Card.cut ms (card_in st)).settled

abbrev pub cut_written : List ℕ → Ledger → List Entry
cut_written ms l = resolved ms l.pending l.written

-- the addresses that are loose then
abbrev pub cut_loose : Plain → List ℕ
cut_loose d = d.writes ++ d.loose

module _ (geo : Geometry) where
  abbrev pub cut_verdict : List ℕ → State → Ledger → Plain → Verdict
  cut_verdict ms st l d =
      verdict geo d.short d.n (length d.G) d.F (header_kept ms d.waiting) (same_log (found_in geo (cut_settled ms st)) (cut_written ms l))

  -- a choice v leads to the card and the log's addresses
  abbrev pub Chosen : Verdict → ℕ → List ℕ → List Entry → Plain → Type 0
  Chosen v N s w d =
      Leads geo (Firm geo (cut_loose d)) N s w (cond v.laid (lay_over d.G d.S) d.S) v.n v.F
      × (log_at v d.G d.log ≡ addresses (take v.n w))

  abbrev pub CutLeads : List ℕ → State → Ledger → Plain → Type 0
  CutLeads ms st l d = Chosen (cut_verdict ms st l d) st.rec.blocks (cut_settled ms st) (cut_written ms l) d

  -- by another name
  pub chosen_by : (N : ℕ) (s : List ℕ) (w : List Entry) (d : Plain) (v v' : Verdict) → v ≡ v' → Chosen v' N s w d → Chosen v N s w d
  chosen_by N s w d v v' e c = rw e c

  -- one that lays nothing
  pub chosen-still : (N : ℕ) (s : List ℕ) (w : List Entry) (d : Plain) (v : Verdict) → v.laid ≡ false → Leads geo (Firm geo (cut_loose d)) N s w d.S v.n v.F → take v.n d.log ≡ addresses (take v.n w) → Chosen v N s w d
  chosen-still N s w d v e l q = rw e (l, q)

  -- down: a header waits as the last write or none does, as the plain disk has it, and every cut leads to what it chooses
  pub record DownSim (st : State) (l : Ledger) (d : Plain) : Type 0 where
    pub mode : st.rec.mode ≡ down
    pub top : HeaderLast (header_waits geo d.short d.n (length d.G)) (queue (card_in st))
    pub cuts : (ms : List ℕ) → marks_fit ms (queue (card_in st)) ≡ true → CutLeads ms st l d

  pub record Sim (st : State) (l : Ledger) (d : Plain) : Type 0 where
    pub basics : Basics geo st d
    pub phase : OpenSim geo st l d ⊎ (ClosedSim geo st l d ⊎ DownSim st l d)

  -- a state that some ledger, as long as l and with its sums, and some plain disk belong to: what no collision breaks
  pub record Safe (st : State) (l : Ledger) : Type 0 where
    pub ledger : Ledger
    pub plain : Plain
    pub sim : Sim st ledger plain
    pub even : Even l ledger
