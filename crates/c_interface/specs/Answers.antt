-- What the exported call answers.
use Rattle.std.specs.Prelude.{ℕ, Some, None, Ok, Err, Result}
use Rattle.selection.specs.Operands.{refusal}
use Rattle.recurrence.specs.declared.registers.Outcome.{Outcome}
use Rattle.recurrence.specs.Recurrence.{worked}
use Rattle.recurrence.specs.Root.{ReciprocalRoot}
use Rattle.exports.specs.declared.fault.Fault.{Fault}
use Rattle.exports.specs.declared.fault.Fault.TheVariants.{Operand}
use Rattle.exports.specs.declared.offered.Offered.{Offered}
use Rattle.exports.specs.Offers.{offered, by_offered}
use Rattle.exports.specs.Encoding.{packed_outcome, told_by}

-- what an operand comes to by an offered make
abbrev pub outcome : Offered → ℕ → ℕ → ℕ → Outcome
outcome make K Q x = by_offered (λ S F. worked S F K Q x) make

-- the make is checked first, then the operand
abbrev pub answer : ℕ → ℕ → ℕ → ℕ → Result Outcome Fault
answer make K Q x = elim (offered make) [ Err e ↦ Err e | Ok m ↦ elim (refusal K Q x) [ Some e ↦ Err (Operand e) | None ↦ Ok (outcome m K Q x) ] ]

-- an answer in one number of 64 bits: f + marks * 2 ^ 32, where marks is 1 for an inexact result, or the refusal's number * 2 ^ 40
abbrev pub told : Result Outcome Fault → ℕ
told = told_by packed_outcome

-- an answer's f is the largest
abbrev pub RootTold : ℕ → ℕ → ℕ → Result Outcome Fault → Type 0
RootTold K Q x (Ok o) = ReciprocalRoot K Q x o.f
RootTold K Q x (Err e) = Unit {0}
