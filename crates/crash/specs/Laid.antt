-- W-201: "the number found must count the nonempty groups laid into the disk that is found": the disk and their number go together.
use Rattle.std.specs.Prelude.{ℕ, ◌+◌, List}
use Rattle.cells.specs.Entry.{Entry}
use Rattle.card.specs.Disk.{Disk, overlay}

pub record Laid : Type 0 where
  pub disk : Disk
  pub groups : ℕ

-- one group more
abbrev pub lay_over : List Entry → Laid → Laid
lay_over G S = record { disk = overlay G S.disk; groups = S.groups + 1 }
