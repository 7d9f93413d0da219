-- What C passes on from call to call is the store's state as bytes: so the statements speak of the C library too.
use Rattle.std.specs.Prelude.{ℕ, ◌^◌, ◌<◌, ◌≡◌, List, [], ◌∷◌}
use Rattle.store.specs.State.{State}
use Rattle.store.specs.CodeState.{state_of}
use Rattle.store.specs.Format.{format_call}
use Rattle.store.specs.Save.{Save}
use Rattle.store.specs.GetList.{listing}
use Rattle.store.specs.Cost.{cost_of}
use Rattle.firmware.specs.Face.{encode_record, decode_record, Face, face_of, faced, got_in, got, listed, told, asked}
use Rattle.journal.specs.Geometry.{Geometry}
use Rattle.history.specs.Call.{Call, power, of_get, of_list}
use Rattle.history.specs.Dispatch.{dispatch}
use Rattle.history.specs.History.{begun, after}

module _ (geo : Geometry) where
  -- "Each call gets the record and the settled, waiting and work bytes that the last one returned or left", the record as 44 bytes. A
  -- get has none of these to change, and a list of them (W-207) has none either
  abbrev pub face_next : Call → Face → Face
  face_next c f =
      of_get c (λ a. face_of (got geo a f.rec f.settled f.waiting f.work).number 0 f.rec f.settled f.waiting f.work)
      (of_list c (λ xs bs. face_of (listed geo xs bs f.rec f.settled f.waiting f.work).number 0 f.rec f.settled f.waiting f.work)
      (faced (dispatch geo c) f.rec f.settled f.waiting f.work))

  unfoldable pub face_after : List Call → Face → Face
  face_after [] f = f
  face_after (c ∷ cs) f = face_after cs (face_next c f)

-- a count that C can pass is a 4-byte number
abbrev pub Passable : Call → Type 0
Passable c = (k : ℕ) → c ≡ power k → k < 2 ^ 32

abbrev pub AllPassable : List Call → Type 0
AllPassable [] = Unit {0}
AllPassable (c ∷ cs) = Passable c × AllPassable cs

-- the bytes are those of the state
pub record BytesOf (f : Face) (st : State) : Type 0 where
  pub rec : f.rec ≡ encode_record st.rec
  pub settled : f.settled ≡ st.settled
  pub waiting : f.waiting ≡ st.waiting
  pub work : f.work ≡ st.work

module _ (geo : Geometry) where
  -- a call through C: the store's number, its orders, the place of a get, what a list of them hands out, and the bytes of what it leaves.
  -- W-202: an inquiry made before it gives the store's number and figures, and has no lent byte to change
  pub record Links (c : Call) (f : Face) (st : State) : Type 0 where
    pub number : (face_next geo c f).number ≡ (dispatch geo c st).answer
    pub orders : (face_next geo c f).orders ≡ (dispatch geo c st).orders
    pub place : (a : ℕ) → got geo a f.rec f.settled f.waiting f.work ≡ got_in geo a st
    pub list : (xs bs : List ℕ) → listed geo xs bs f.rec f.settled f.waiting f.work ≡ listing geo xs bs st
    pub figures : (q : Save) → asked (cost_of geo q) f.rec f.settled f.waiting f.work ≡ told (cost_of geo q st)
    pub left : BytesOf (face_next geo c f) (dispatch geo c st).state

  -- at every call of every list, from what a format through C that answers 0 left
  abbrev pub Linked : Type 0
  Linked =
      (r s w k : List ℕ) → (faced (format_call geo) r s w k).number ≡ 0 → (cs : List Call) (c : Call) → AllPassable cs
      → Links c (face_after geo cs (faced (format_call geo) r s w k)) (after geo cs (begun geo (state_of (decode_record r) s w k))).store
