-- Every call of every list through the functions for C is the store's: by `linked`.
use Rattle.firmware.specs.Face.{face_of}
use Rattle.history.specs.Call.{commit}
use Rattle.history.proofs.Theorems.{linked}
use Rattle.journal.specs.Geometry.{trap}
use Rattle.linkage.specs.Step.{hands_out}
use Rattle.linkage.specs.Through.{Through, AskedThrough}

pub through : Through
through r s w k z cs c bs ps =
    let m = linked trap r s w k z cs c ps in
    λ j.
    hands_out c bs (face_of (m.number j) (m.orders j) (m.left.rec j) (m.left.settled j) (m.left.waiting j) (m.left.work j))
    (λ a. m.place a j) (λ xs b. m.list xs b j)

-- whatever call is made next
pub asked_through : AskedThrough
asked_through r s w k z cs q ps = (linked trap r s w k z cs commit ps).figures q
