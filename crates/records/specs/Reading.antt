-- One call of a reader.
use Rattle.std.specs.Prelude.{◌≡◌, ℕ, ◌-◌, ◌≤◌, List, [], length, drop, Some, None, Ok, Err, Option, Result}
use Rattle.seven_bit.specs.declared.fault.NumberFault.TheVariants.{Malformed, Cut as NumberCut}
use Rattle.records.specs.declared.defect.Defect.{Defect}
use Rattle.records.specs.declared.defect.Defect.TheVariants.{Unknown, Wrong, Cut}
use Rattle.records.specs.declared.fault.Fault.TheVariants.{NoSuchRecord, Number}
use Rattle.records.specs.declared.fault.Placed.{Placed}
use Rattle.records.specs.declared.reader.Found.{Found}
use Rattle.records.specs.Records.{item, label_length, record_at}

-- The fault of a record at p in an input of n bytes: an unknown record is told with its place, a malformed number with that of its first byte, and what is
-- cut with that of the end.
abbrev pub placed : ℕ → ℕ → Defect → Placed
placed n p Unknown = record { fault = NoSuchRecord; place = p }
placed n p (Wrong left) = record { fault = Number Malformed; place = n - left }
placed n p Cut = record { fault = Number NumberCut; place = n }

-- from the place p to the place q
abbrev pub Reads : List ℕ → ℕ → ℕ → Result (Option Found) Placed → Type 0
Reads input p q (Ok None) = (drop p input ≡ []) × (q ≡ p)
Reads input p q (Ok (Some f)) = (record_at (drop p input) ≡ Ok (item f.record, drop q input)) × (f.place ≡ p)
Reads input p q (Err e) = (b : Defect) × (record_at (drop p input) ≡ Err b) × (e ≡ placed (length input) p b) × (q ≡ p)

-- labels are no longer than the input, and places are in it or at its end
abbrev pub Within : List ℕ → Result (Option Found) Placed → Type 0
Within input (Ok None) = Unit {0}
Within input (Ok (Some f)) = (label_length (item f.record) ≤ length input) × (f.place ≤ length input)
Within input (Err e) = e.place ≤ length input
