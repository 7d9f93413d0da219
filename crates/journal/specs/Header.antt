-- "Block 0 is the header"
use Rattle.std.specs.Prelude.{ℕ, ◌-◌, ◌^◌, List, [], ◌∷◌, ◌++◌, get_or, replicate}
use Rattle.cells.specs.Entry.{block_bytes}
use Rattle.cells.specs.Row.{Field, total, row, values_from}
use Rattle.fnv.specs.Fnv.{start}
use Rattle.journal.specs.declared.header.Header.{Header}

-- W-201: "The header's format number is 2; 1 is now foreign."
abbrev pub format_number : ℕ
format_number = 2

-- the largest save number
abbrev pub most_save : ℕ
most_save = 2 ^ 64 - 1

-- "bytes 0–3 format number […]; 4–7 N; 8–11 previous count p; 12–15 count n; 16–23 sum of the first p entries; 24–31 sum of the
-- first n"; W-201: "Header bytes 32–39 now carry a save number"
abbrev pub header_fields : List (Field Header)
header_fields =
    (4, λ h. h.format)
    ∷ (4, λ h. h.blocks)
    ∷ (4, λ h. h.previous)
    ∷ (4, λ h. h.count)
    ∷ (8, λ h. h.presum)
    ∷ (8, λ h. h.sum)
    ∷ (8, λ h. h.save)
    ∷ []

-- the header of these numbers, in that order
abbrev pub header_of_values : List ℕ → Header
header_of_values v = record {
  format = get_or v 0 0;
  blocks = get_or v 1 0;
  previous = get_or v 2 0;
  count = get_or v 3 0;
  presum = get_or v 4 0;
  sum = get_or v 5 0;
  save = get_or v 6 0;
}

-- behind it "written as zero, not read": from W-201 on, bytes 40–511
unfoldable pub encode : Header → List ℕ
encode h = row header_fields h ++ replicate (block_bytes - total header_fields) 0

unfoldable pub decode : List ℕ → Header
decode b = header_of_values (values_from header_fields 0 b)

-- a header of this format: N, p and its sum, n and its sum, the save number c
abbrev pub header : ℕ → ℕ → ℕ → ℕ → ℕ → ℕ → Header
header N p ps n ns c = header_of_values (format_number ∷ N ∷ p ∷ n ∷ ps ∷ ns ∷ c ∷ [])

-- the header of an empty log
abbrev pub empty_header : ℕ → ℕ → Header
empty_header N c = header N 0 start 0 start c
