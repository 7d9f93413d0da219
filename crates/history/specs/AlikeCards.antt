-- W-208: what alike promises of the calls to come. "two that read alike behaved differently on the next save since one log was nearly full": two
-- cards that are alike come to the same at every call, and are alike again while open, until a cut or the largest save number.
use Rattle.std.specs.Prelude.{ℕ, ◌+◌, ◌≤◌, ◌<◌, ◌≡◌, ◌≢◌, ◌↔◌, true, List, [], ◌∷◌, length}
use Rattle.cells.specs.Little.{Bytes}
use Rattle.card.specs.Card.{queue}
use Rattle.journal.specs.Geometry.{Geometry}
use Rattle.journal.specs.Header.{most_save}
use Rattle.store.specs.State.{State, closed, open_mode, with_save, card_in}
use Rattle.store.specs.Get.{block_of}
use Rattle.store.specs.GetList.{listing}
use Rattle.store.specs.Save.{Save}
use Rattle.store.specs.Cost.{cost_of}
use Rattle.inspect.specs.Reading.{inspection}
use Rattle.inspect.specs.Alike.{alike_of, Same}
use Rattle.firmware.specs.Face.{compared_of, compared}
use Rattle.history.specs.Call.{Call, power, recover, cut}
use Rattle.history.specs.Dispatch.{dispatch}
use Rattle.history.specs.Cuts.{first_rows}
use Rattle.history.specs.History.{World, after}

module _ (geo : Geometry) where
  -- a card lent with a closed record that passes 1 and 2; what is lent are bytes
  pub record Shut (st : State) : Type 0 where
    pub mode : st.rec.mode ≡ closed
    pub passes : first_rows geo st ≡ 0
    pub bytes : Bytes st.settled

  -- two cards that alike says yes of. What the two records hold beside, and their waiting and work bytes, may be unlike
  pub record Clones (a b : State) : Type 0 where
    pub first : Shut a
    pub second : Shut b
    pub alike : (alike_of geo a.settled b.settled).yes ≡ true

  -- ---- a list of calls

  -- what it leaves
  unfoldable pub left : List Call → State → State
  left [] st = st
  left (c ∷ cs) st = left cs (dispatch geo c st).state

  -- it goes without a cut: no cut in it is accepted
  abbrev pub Uncut : List Call → State → Type 0
  Uncut [] st = Unit {0}
  Uncut (c ∷ cs) st = ((ms : List ℕ) → c ≡ cut ms → (dispatch geo c st).answer ≢ 0) × Uncut cs (dispatch geo c st).state

  -- a recover, then the power set
  abbrev pub recovered : ℕ → State → State
  recovered k st = (dispatch geo (power k) (dispatch geo recover st).state).state

  -- behind a recover that is done, the power set to k, and the calls cs, without a cut; and the save number is not the largest then
  pub record Reaches (k : ℕ) (cs : List Call) (st : State) : Type 0 where
    pub done : (dispatch geo recover st).answer ≡ 0
    pub uncut : Uncut cs (recovered k st)
    pub numbered : (left cs (recovered k st)).rec.save ≢ most_save

  -- ---- what is the same

  -- a call's answer and orders; what a get made there hands out, or a list of gets, whatever it asks for; and the figures of an inquiry
  pub record SameAt (c : Call) (a b : State) : Type 0 where
    pub answer : (dispatch geo c a).answer ≡ (dispatch geo c b).answer
    pub orders : (dispatch geo c a).orders ≡ (dispatch geo c b).orders
    pub block : (x : ℕ) → block_of geo x a ≡ block_of geo x b
    pub list : (xs bs : List ℕ) → listing geo xs bs a ≡ listing geo xs bs b
    pub figures : (q : Save) → cost_of geo q a ≡ cost_of geo q b

  -- the cards are alike again, the records the same but for the save number, and what waits is the same
  pub record StillAlike (a b : State) : Type 0 where
    pub alike : (alike_of geo a.settled b.settled).yes ≡ true
    pub rec : with_save 0 a.rec ≡ with_save 0 b.rec
    -- W-209: and the same direct writes wait
    pub queue : queue (card_in a) ≡ queue (card_in b)

  pub record AlikeCards (a b : State) : Type 0 where
    -- with power for two orders, which is always enough, each is recovered
    pub recovers : (2 ≤ a.rec.power → (dispatch geo recover a).answer ≡ 0) × (2 ≤ b.rec.power → (dispatch geo recover b).answer ≡ 0)
    -- then, with the same power and behind the same calls, every call comes to the same, a cut too
    pub same : (k : ℕ) (cs : List Call) → Reaches k cs a → Reaches k cs b → (c : Call) → SameAt c (left cs (recovered k a)) (left cs (recovered k b))
    -- and while open they are still alike
    pub still : (k : ℕ) (cs : List Call) → Reaches k cs a → Reaches k cs b → (left cs (recovered k a)).rec.mode ≡ open_mode
        → StillAlike (left cs (recovered k a)) (left cs (recovered k b))

  -- ---- that there are such cards and such lists

  -- no call of the list is a cut
  abbrev pub CutFree : List Call → Type 0
  CutFree [] = Unit {0}
  CutFree (c ∷ cs) = ((ms : List ℕ) → c ≢ cut ms) × CutFree cs

  pub record Recovery (st : State) : Type 0 where
    -- a recover that is done leaves a card that is alike the one it met, also where it fell back: "The save number takes no part"
    pub alike : (alike_of geo st.settled (dispatch geo recover st).state.settled).yes ≡ true
    -- behind it, any list of calls in which there is no cut, as long as the number found and the calls do not make up the largest
    pub reaches : (k : ℕ) (cs : List Call) → CutFree cs → (dispatch geo recover st).state.rec.save + length cs < most_save → Reaches k cs st

  pub record AllAlike : Type 0 where
    -- "alike is yes exactly if": what C is told of two cards, number 0 and 1 for yes; 0 for no, where neither is refused
    pub told : (a b : List ℕ) → (compared geo a b ≡ compared_of 0 1) ↔ Same geo a b
    pub told_no : (a b : List ℕ) → inspection geo a ≡ 0 → inspection geo b ≡ 0 → (Same geo a b → ⊥) → compared geo a b ≡ compared_of 0 0
    pub cards : (a b : State) → Clones a b → AlikeCards a b
    pub recovery : (st : State) → Shut st → (dispatch geo recover st).answer ≡ 0 → Recovery st
    -- what a list leaves is what it leaves in a history
    pub runs : (cs : List Call) (w : World) → (after geo cs w).store ≡ left cs w.store
