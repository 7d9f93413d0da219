-- A disk: what stands at each address. Entries laid over it, the last one with an address wins.
use Rattle.std.specs.Prelude.{ℕ, cond, List, [], ◌∷◌, eqb}
use Rattle.cells.specs.Entry.{Entry}

abbrev pub Disk : Type 0
Disk = ℕ → List ℕ

-- d with e's block at e's address
unfoldable pub lay : Entry → Disk → Disk
lay e d = λ a. cond (eqb a e.address) e.block (d a)

-- d with a list laid over it, in the list's order
unfoldable pub overlay : List Entry → Disk → Disk
overlay [] d = d
overlay (e ∷ es) d = overlay es (lay e d)
