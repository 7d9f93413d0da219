-- One call of a list as C makes it: the step of `linked`, the place of a get and what a list of gets hands out. W-202: the call that an
-- inquiry is about.
use Rattle.std.specs.Prelude.{ℕ, List}
use Rattle.firmware.specs.Face.{Face, Got, got_of, got, listed, Asked, asked}
use Rattle.history.specs.Call.{Call, direct, cut, power, put, get, get_list, commit, abandon, sync, apply, recover, of_get, of_list}
use Rattle.history.specs.Linked.{face_next}
use Rattle.store.specs.Save.{Save}
use Rattle.store.specs.GetList.{Listing, listing_of}
use Rattle.store.specs.Cost.{cost_of}
use Rattle.journal.specs.Geometry.{trap}
use Rattle.linkage.specs.declared.ask.Inquiry.{Inquiry}
use Rattle.linkage.specs.declared.ask.Inquiry.TheVariants.{SyncCost, ApplyCost, RecoverCost}
use Rattle.linkage.specs.declared.step.Code.{Code}
use Rattle.linkage.specs.declared.step.Code.TheVariants.{Power, Put, Get, GetList, Commit, Abandon, Direct, Sync, Apply, Recover, Cut}

-- the call that the code's enum names: "put's block and cut's marks come in buffers of their own", and so do a direct write's block and a list's
-- addresses and blocks
abbrev pub call_of : Code → List ℕ → List ℕ → List ℕ → List ℕ → Call
call_of (Power k) block marks xs bs = power k
call_of (Put a) block marks xs bs = put a block
call_of (Get a) block marks xs bs = get a
call_of GetList block marks xs bs = get_list xs bs
call_of Commit block marks xs bs = commit
call_of Abandon block marks xs bs = abandon
call_of (Direct a) block marks xs bs = direct a block
call_of Sync block marks xs bs = sync
call_of Apply block marks xs bs = apply
call_of Recover block marks xs bs = recover
call_of Cut block marks xs bs = cut marks

-- likewise the call that an inquiry is about
abbrev pub save_of : Inquiry → Save
save_of SyncCost = Save.sync
save_of ApplyCost = Save.apply
save_of RecoverCost = Save.recover

-- what C sees of a call: number, orders and every lent byte; of a get also the buffer and the byte in it where the block starts; of a list
-- of gets the slots and the blocks
pub record Stepped : Type 0 where
  pub face : Face
  pub buffer : ℕ
  pub offset : ℕ
  pub slots : ℕ
  pub blocks : List ℕ

abbrev pub stepped_of : Face → ℕ → ℕ → ℕ → List ℕ → Stepped
stepped_of f b o n bs = record { face = f; buffer = b; offset = o; slots = n; blocks = bs }

abbrev nowhere : Got
nowhere = got_of 0 0 0

-- of the places of all addresses the one that the call hands out: none but a get does
abbrev pub placed : Call → (ℕ → Got) → Got
placed c g = of_get c g nowhere

-- of all lists the one that the call hands out: any other call counts no slot and leaves the buffer
abbrev pub listed_by : Call → List ℕ → (List ℕ → List ℕ → Listing) → Listing
listed_by c bs l = of_list c l (listing_of 0 0 bs)

abbrev pub hands_out : Call → List ℕ → Face → (ℕ → Got) → (List ℕ → List ℕ → Listing) → Stepped
hands_out c bs f g l = stepped_of f (placed c g).buffer (placed c g).offset (listed_by c bs l).slots (listed_by c bs l).blocks

-- "Each call gets the record and the settled, waiting and work bytes that the last one returned or left": the step of `linked`, its
-- place and its list among those that `linked` speaks of; bs is the buffer lent for blocks
abbrev pub stepped : Call → List ℕ → Face → Stepped
stepped c bs f =
    hands_out c bs (face_next trap c f) (λ a. got trap a f.rec f.settled f.waiting f.work)
    (λ xs b. listed trap xs b f.rec f.settled f.waiting f.work)

-- W-202: an inquiry on these bytes, of the figures that `linked` speaks of
abbrev pub asked_on : Save → Face → Asked
asked_on q f = asked (cost_of trap q) f.rec f.settled f.waiting f.work
