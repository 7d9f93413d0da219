-- The log found and the log written, as lists: equal, or a checksum collision.
use Rattle.std.specs.Prelude.{Bool, true, false, not, ◌&&◌, List, [], ◌∷◌, eqb, length}
use Rattle.cells.specs.Entry.{Entry}
use Rattle.cells.specs.Same.{same}
use Rattle.fnv.specs.Fnv.{start}
use Rattle.journal.specs.Log.{sum_of}

unfoldable pub same_log : List Entry → List Entry → Bool
same_log [] [] = true
same_log [] (f ∷ fs) = false
same_log (e ∷ es) [] = false
same_log (e ∷ es) (f ∷ fs) = eqb e.address f.address && same e.block f.block && same_log es fs

-- a checksum collision: another list than the one written, as long, with the same sum
unfoldable pub collides : List Entry → List Entry → Bool
collides found written =
    not (same_log found written) && eqb (length found) (length written) && eqb (sum_of start found) (sum_of start written)
