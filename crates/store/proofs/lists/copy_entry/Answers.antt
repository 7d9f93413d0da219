-- `store::lists::copy_entry` meets its contract: the bytes of an entry are its cell.
use Prim.Native.Nat.{ℕ, ◌+◌, ◌*◌, ◌-◌, ◌≤◌}
use mathlib.Core.Path.{◌≡◌, ap, sym, ◌∙◌}
use mathlib.Core.List.{List, ◌++◌}
use native.Mathlib.Omega.{arith}
use lib.ListN.{length, take, drop}
use Rattle.cells.specs.Little.{Bytes}
use Rattle.cells.specs.Cell.{cell, set_cell}
use Rattle.cells.specs.Cell.Laws.{cell_part, length-cell, put-cell}
use Rattle.cells.specs.Entry.{entry_bytes, set_entry}
use Rattle.store.proofs.Commits.{middle_bytes, entry_cell}
use Rattle.store.proofs.lists.copy_entry.Goals as goal

pub returns : goal.returns
unfolding set_entry
returns c =
    let a = c.args in
    let s : List ℕ = a.work.now in
    let inside : entry_bytes * a.from + entry_bytes ≤ length s = c.requires.entry_bytes_in_bounds in
    let copied : List ℕ = c.copy-2.new.dst in
    let n : 516 * a.from + 516 - 516 * a.from ≡ 516 = omega arith in
    let m : 516 * a.to + 516 - 516 * a.to ≡ 516 = omega arith in
    let source : copied ≡ cell entry_bytes s a.from =
    c.copy-2.ensures ∙ c.copy.ensures ∙ ap (λ (k : ℕ). take k (drop (516 * a.from) s)) n ∙ sym (cell_part entry_bytes s a.from) in
    let size : length copied ≡ entry_bytes = ap length source ∙ length-cell entry_bytes s a.from inside in
    let rest : List ℕ = drop (516 * a.to + 516 - 516 * a.to) (drop (516 * a.to) s) in
    let all : Bytes (take (516 * a.to) s ++ (copied ++ rest)) = λ i. omega (arith, c.type_inv.work i) in
    let bytes : Bytes (cell entry_bytes s a.from) = rw (← source) (middle_bytes (take (516 * a.to) s) copied rest all) in
    put-cell entry_bytes s a.to copied (516 * a.to + 516 - 516 * a.to) (c.requires.entry_bytes_in_bounds_2) size m
    ∙ ap (λ (l : List ℕ). set_cell entry_bytes s a.to l) (source ∙ sym (entry_cell s a.from bytes inside))
