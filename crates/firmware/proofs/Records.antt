-- The laws of the record's bytes.
use Prim.Native.Nat.{ℕ, ◌≤◌}
use mathlib.Core.Path.{◌≡◌, refl, ap, sym, ◌∙◌}
use mathlib.Core.List.{List, [], ◌++◌, append-nil}
use native.Mathlib.Omega.{arith}
use lib.ListN.{length, drop_of_length-le}
use Rattle.cells.specs.Little.{Bytes}
use Rattle.cells.specs.Row.{total, row}
use Rattle.cells.specs.Row.Laws.{length-row, Fits, values-row, row-values, stored_from, stored_row}
use Rattle.store.specs.declared.record.Record.{Record}
use Rattle.firmware.specs.Face.{record_bytes, record_fields, record_of_values, encode_record, decode_record}

pub length-encode : (r : Record) → length (encode_record r) ≡ record_bytes
unfolding encode_record
length-encode r = length-row record_fields r

-- stored number by number
pub stored : (r : Record) (b : List ℕ) → length b ≡ record_bytes → stored_from record_fields 0 r b ≡ encode_record r
unfolding encode_record
stored r b l =
    let long : total record_fields ≤ length b = omega arith in
    let short : length b ≤ total record_fields = omega arith in
    stored_row record_fields r b long
    ∙ ap (λ (x : List ℕ). row record_fields r ++ x) (drop_of_length-le b short) ∙ append-nil (row record_fields r)

-- the numbers of a record fit their bytes
abbrev pub Fitting : Record → Type 0
Fitting r = Fits record_fields r

-- what is written is read
pub decode-encode : (r : Record) → Fitting r → decode_record (encode_record r) ≡ r
unfolding decode_record encode_record
decode-encode r f =
    ap decode_record (sym (append-nil (row record_fields r)))
    ∙ ap record_of_values (values-row record_fields r [] f)

-- what is read is written back
pub encode-decode : (b : List ℕ) → length b ≡ record_bytes → Bytes b → encode_record (decode_record b) ≡ b
unfolding encode_record decode_record
encode-decode b l h = row-values record_fields (decode_record b) b refl h l
