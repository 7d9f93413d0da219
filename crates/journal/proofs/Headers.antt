-- The laws of the header's bytes.
use Prim.Native.Nat.{ℕ, ◌+◌, ◌-◌}
use mathlib.Core.Path.{◌≡◌, refl, ap, ap₂, ◌∙◌}
use mathlib.Core.List.{List}
use native.Mathlib.Omega.{arith}
use lib.Dec.{lit≤}
use lib.ListN.{length, replicate, length-append, length-replicate}
use Rattle.cells.specs.Entry.{block_bytes}
use Rattle.cells.specs.Little.{Bytes}
use Rattle.cells.specs.Row.{total, row}
use Rattle.cells.specs.Row.Laws.{length-row, Fits, values-row, values_fit, stored_from, stored_row}
use Rattle.journal.specs.declared.header.Header.{Header}
use Rattle.journal.specs.Header.{header_fields, header_of_values, encode, decode}

pub length-encode : (h : Header) → length (encode h) ≡ block_bytes
unfolding encode
length-encode h =
    length-append (row header_fields h) _
    ∙ ap₂ (λ (a b : ℕ). a + b) (length-row header_fields h) (length-replicate {A = ℕ} (block_bytes - total header_fields) 0)

-- the numbers of a header fit their bytes
abbrev pub Fitting : Header → Type 0
Fitting h = Fits header_fields h

-- what is written is read
pub decode-encode : (h : Header) → Fitting h → decode (encode h) ≡ h
unfolding decode encode
decode-encode h f = ap header_of_values (values-row header_fields h _ f)

-- the numbers that are read from a block of bytes
pub decode_fits : (b : List ℕ) → Bytes b → length b ≡ block_bytes → Fitting (decode b)
unfolding decode
decode_fits b h l = values_fit header_fields 0 (decode b) b refl h (omega arith)

-- stored number by number, in a block of zeros
pub filled : (h : Header) (z : List ℕ) → z ≡ replicate block_bytes 0 → stored_from header_fields 0 h z ≡ encode h
unfolding encode
filled h z e = rw e (stored_row header_fields h (replicate block_bytes 0) (lit≤ tt))
