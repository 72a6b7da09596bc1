-- An answer in one number of 64 bits.
use Rattle.std.specs.Prelude.{ℕ, ◌+◌, ◌*◌, ◌^◌, cond, Ok, Err, Result}
use Rattle.recurrence.specs.declared.registers.Outcome.{Outcome}
use Rattle.single.specs.declared.answer.Answer.{Answer}
use Rattle.single.specs.MarkSets.{number as marks_number}
use Rattle.exports.specs.Faults.{number}
use Rattle.exports.specs.declared.fault.Fault.{Fault}
use Rattle.exports.specs.declared.packed.Packed.{Packed}

-- f, with marks that are 1 for an inexact result
abbrev pub packed_outcome : Outcome → Packed
packed_outcome o = record { value = o.f; marks = cond o.exact 0 1 }

-- the word, with the number of the marks
abbrev pub packed_answer : Answer → Packed
packed_answer a = record { value = a.word; marks = marks_number a.marks }

-- value + marks * 2 ^ 32, or the refusal's number * 2 ^ 40
abbrev pub encoded : Result Packed Fault → ℕ
encoded (Ok p) = p.value + p.marks * 2 ^ 32
encoded (Err e) = number e * 2 ^ 40

-- an answer of any kind, by how it is packed
abbrev pub told_by : {A : Type 0} → (A → Packed) → Result A Fault → ℕ
told_by packed (Ok a) = encoded (Ok (packed a))
told_by packed (Err e) = encoded (Err e)
