-- Every call of every list through the functions for C is the store's call.
use Rattle.std.specs.Prelude.{ℕ, ◌≡◌, List}
use Rattle.store.specs.State.{State}
use Rattle.store.specs.CodeState.{state_of}
use Rattle.store.specs.Format.{format_call}
use Rattle.store.specs.Save.{Save}
use Rattle.store.specs.GetList.{listing}
use Rattle.store.specs.Cost.{cost_of}
use Rattle.firmware.specs.Face.{decode_record, faced, handed, got_in, told}
use Rattle.history.specs.Call.{Call}
use Rattle.history.specs.Dispatch.{dispatch}
use Rattle.history.specs.History.{begun, after}
use Rattle.history.specs.Linked.{face_after, AllPassable}
use Rattle.journal.specs.Geometry.{trap}
use Rattle.linkage.specs.Step.{Stepped, hands_out, stepped, asked_on}

-- the store's own call, as C would see it
abbrev pub stored : Call → List ℕ → State → Stepped
stored c bs st = hands_out c bs (handed (dispatch trap c st)) (λ a. got_in trap a st) (λ xs b. listing trap xs b st)

-- "It starts from a fresh card, as a format answering 0 left it": what `format` promises. From there what `step` promises of every
-- call of every list is the store's: number, orders, record, every lent byte, place of a get, slots and blocks of a list of gets
abbrev pub Through : Type 0
Through =
    (r s w k : List ℕ) → (faced (format_call trap) r s w k).number ≡ 0
    → (cs : List Call) (c : Call) (bs : List ℕ) → AllPassable cs
    → stepped c bs (face_after trap cs (faced (format_call trap) r s w k)) ≡ stored c bs (after trap cs (begun trap (state_of (decode_record r) s w k))).store

-- W-202: what `ask` promises of an inquiry behind every such list is the store's: number and figures
abbrev pub AskedThrough : Type 0
AskedThrough =
    (r s w k : List ℕ) → (faced (format_call trap) r s w k).number ≡ 0
    → (cs : List Call) (q : Save) → AllPassable cs
    → asked_on q (face_after trap cs (faced (format_call trap) r s w k)) ≡ told (cost_of trap q (after trap cs (begun trap (state_of (decode_record r) s w k))).store)
