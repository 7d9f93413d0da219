-- Two cards that are alike: recovered, they are twins, and so they stay; and what C is told.
use Prim.Native.Nat.{ℕ}
use mathlib.Core.Path.{◌≡◌, refl, ap, ap₂, sym, ◌∙◌}
use mathlib.Core.Logic.{◌↔◌}
use mathlib.Core.Bool.{Bool, true, false, cond}
use mathlib.Core.List.{List, [], ◌∷◌}
use native.Mathlib.Omega.{arith}
use Rattle.cells.specs.Upto.Laws.{ext_up_to}
use Rattle.cells.specs.Entry.{Entry}
use Rattle.journal.specs.Geometry.{Geometry}
use Rattle.journal.specs.Layout.{is_data}
use Rattle.journal.specs.Log.{slot_entry, entries}
use Rattle.store.specs.State.{State}
use Rattle.inspect.specs.Reading.{inspection, chosen_count, laid_over}
use Rattle.inspect.specs.Alike.{alike_of, Same}
use Rattle.firmware.specs.Face.{Compared, compared_of, compared}
use Rattle.inspect.proofs.Comparisons.{alike_yes}
use Rattle.history.specs.Call.{Call, recover}
use Rattle.history.specs.Dispatch.{dispatch}
use Rattle.history.specs.Ledger.{settled_by}
use Rattle.history.specs.History.{World, next, after}
use Rattle.history.specs.AlikeCards.{Clones, left, recovered, Reaches, AlikeCards}
use Rattle.history.proofs.Twins.Reopens.{plain_reopened}
use Rattle.history.proofs.Twins.Pairs.{homes_none, world_of, TwinsOf, twins_left}
use Rattle.history.proofs.Boundary.FaceRefusals.{reads}
use Rattle.history.proofs.Twins.Shows.{same_at, still_alike}
use Rattle.history.proofs.Twins.Recovered.{size, enough, opens}

module _ (geo : Geometry) (a b : State) (c : Clones geo a b) where
  yes : Same geo a.settled b.settled
  yes = (alike_yes geo a.settled b.settled).0 c.alike

  -- N, the count of the log, its entries, and the data blocks
  blocks : a.rec.blocks ≡ b.rec.blocks
  blocks = size geo a c.first yes.first ∙ yes.blocks ∙ sym (size geo b c.second yes.second)

  abbrev n : ℕ
  n = chosen_count geo a.settled

  log : entries geo a.settled n ≡ entries geo b.settled n
  log = ext_up_to (slot_entry geo a.settled) (slot_entry geo b.settled) n yes.slots

  data-blocks : (x : ℕ) → is_data geo b.rec.blocks x ≡ true → laid_over geo a.settled x ≡ laid_over geo b.settled x
  data-blocks x q = yes.laid x (ap (λ (N : ℕ). is_data geo N x) (sym (size geo a c.first yes.first) ∙ blocks) ∙ q)

  twins : (k : ℕ) → (dispatch geo recover a).answer ≡ 0 → (dispatch geo recover b).answer ≡ 0 → TwinsOf geo (recovered geo k a) (recovered geo k b)
  twins k d e =
      let p = opens geo a c.first yes.first k n (laid_over geo a.settled) refl (λ x q. refl) d in
      let q = opens geo b c.second yes.second k n (laid_over geo a.settled) (sym yes.count) data-blocks e in
      let same_plain : plain_reopened b.rec.blocks (laid_over geo a.settled) q.0 n (entries geo b.settled n) k ≡ plain_reopened a.rec.blocks (laid_over geo a.settled) q.0 n (entries geo a.settled n) k =
      ap₂ (λ (N : ℕ) (es : List Entry). plain_reopened N (laid_over geo a.settled) q.0 n es k) (sym blocks) (sym log) in
      record {
        ledger = settled_by (entries geo a.settled n);
        other_ledger = settled_by (entries geo b.settled n);
        plain = plain_reopened a.rec.blocks (laid_over geo a.settled) p.0 n (entries geo a.settled n) k;
        other_plain = plain_reopened b.rec.blocks (laid_over geo a.settled) q.0 n (entries geo b.settled n) k;
        twins = record {
          first = p.1;
          second = q.1;
          groups = q.0;
          plain = same_plain;
          ledger = ap settled_by log;
          first_mode = λ z. omega (arith, p.1.basics.mirrors.mode, z);
          homes = homes_none geo (world_of _ _ _) (world_of _ _ _) p.1 q.1 q.0 same_plain refl;
        };
      }

  behind : (k : ℕ) (cs : List Call) → Reaches geo k cs a → Reaches geo k cs b → TwinsOf geo (left geo cs (recovered geo k a)) (left geo cs (recovered geo k b))
  behind k cs x y = twins_left geo cs (recovered geo k a) (recovered geo k b) (twins k x.done y.done) x.uncut y.uncut x.numbered y.numbered

  pub alike_cards : AlikeCards geo a b
  alike_cards = record {
    recovers = (enough geo a c.first yes.first, enough geo b c.second yes.second);
    same = λ k cs x y q. let t = behind k cs x y in same_at geo (world_of _ t.ledger t.plain) (world_of _ t.other_ledger t.other_plain) t.twins x.numbered y.numbered q;
    still = λ k cs x y e. let t = behind k cs x y in still_alike geo (world_of _ t.ledger t.plain) (world_of _ t.other_ledger t.other_plain) t.twins e;
  }

-- ---- what C is told

module _ (geo : Geometry) where
  pub told : (a b : List ℕ) → (compared geo a b ≡ compared_of 0 1) ↔ Same geo a b
  unfolding compared
  told a b = (
    λ e. (alike_yes geo a b).0 (one (alike_of geo a b).yes (ap (λ (x : Compared). x.yes) e)),
    λ h. ap₂ compared_of ((reads geo a b).alike_serves h.first h.second) (ap (λ (t : Bool). cond t 1 0) ((alike_yes geo a b).1 h)),
  )
    where
      one : (t : Bool) → ◌≡◌ {A = ℕ} (cond t 1 0) 1 → t ≡ true
      one true e = refl
      one false e = absurd (omega arith)

  pub told_no : (a b : List ℕ) → inspection geo a ≡ 0 → inspection geo b ≡ 0 → (Same geo a b → ⊥) → compared geo a b ≡ compared_of 0 0
  unfolding compared
  told_no a b e h z = ap₂ compared_of ((reads geo a b).alike_serves e h) (go (alike_of geo a b).yes refl)
    where
      go : (t : Bool) → (alike_of geo a b).yes ≡ t → ◌≡◌ {A = ℕ} (cond t 1 0) 0
      go true p = absurd (z ((alike_yes geo a b).0 p))
      go false p = refl

  -- ---- what a list leaves

  pub runs : (cs : List Call) (w : World) → (after geo cs w).store ≡ left geo cs w.store
  unfolding after next left
  runs [] w = refl
  runs (c ∷ cs) w = runs cs (next geo c w)
