-- What the exported call on singles answers.
use Rattle.std.specs.Prelude.{◌≡◌, ℕ, Ok, Err, Result}
use Rattle.single.specs.declared.answer.Answer.{Answer}
use Rattle.single.specs.declared.mode.Mode.{Mode}
use Rattle.single.specs.Modes.{mode_of}
use Rattle.single.specs.Rsqrt.{Rsqrt}
use Rattle.single.specs.Readings.{reading, told as single_told}
use Rattle.exports.specs.declared.fault.Fault.{Fault}
use Rattle.exports.specs.declared.fault.Fault.TheVariants.{Mode as ModeRefused}
use Rattle.exports.specs.declared.offered.Offered.{Offered}
use Rattle.exports.specs.Offers.{offered, by_offered}
use Rattle.exports.specs.Encoding.{packed_answer, told_by}

-- what a single comes to by an offered make
abbrev pub outcome : Offered → ℕ → Mode → Answer
outcome make v mode = by_offered (λ S F. single_told S F mode (reading v)) make

-- the make is checked first, then the mode
abbrev pub answer : ℕ → ℕ → ℕ → Result Answer Fault
answer make v mode = elim (offered make) [ Err e ↦ Err e | Ok m ↦ elim (mode_of mode) [ Err e ↦ Err (ModeRefused e) | Ok r ↦ Ok (outcome m v r) ] ]

-- an answer in one number of 64 bits: word + marks * 2 ^ 32, or the refusal's number * 2 ^ 40
abbrev pub told : Result Answer Fault → ℕ
told = told_by packed_answer

-- an answer is IEEE 754's
abbrev pub RightTold : ℕ → ℕ → Result Answer Fault → Type 0
RightTold v mode (Ok a) = (m : Mode) → mode_of mode ≡ Ok m → Rsqrt m v a.word a.marks
RightTold v mode (Err e) = Unit {0}
