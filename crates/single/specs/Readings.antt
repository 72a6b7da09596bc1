-- How a single is read once, worked as a fixed-point operand, and its result rounded to a word.
use Rattle.std.specs.Prelude.{ℕ, ◌+◌, ◌*◌, ◌/◌, ◌%◌, ◌^◌, cond, ℤ, pos, ◌-ℤ◌, ◌==◌, nat_le, unsigned_abs}
use Rattle.number_form.specs.Forms.{FormModel}
use Rattle.selection.specs.Selectors.{SelectorModel}
use Rattle.recurrence.specs.declared.registers.Outcome.{Outcome}
use Rattle.recurrence.specs.Recurrence.{worked}
use Rattle.single.specs.declared.mode.Mode.{Mode}
use Rattle.single.specs.declared.mode.Mode.TheVariants.{Nearest, TowardZero, Up, Down}
use Rattle.single.specs.declared.answer.Answer.{Answer}
use Rattle.single.specs.declared.decoded.Decoded.{Decoded}
use Rattle.single.specs.declared.decoded.Decoded.TheVariants.{Special as SpecialWord, Positive}
use Rattle.single.specs.declared.special.Special.{Special}
use Rattle.single.specs.declared.special.Special.TheVariants.{NotANumber, Zero, PlusInfinity, Negative}
use Rattle.single.specs.MarkSets.{no_marks, inexact_mark, invalid_mark, division_mark}
use Rattle.single.specs.Words.{exponent, fraction, infinity, is_nan, is_negative, reads_as_zero}

-- What a word is: a special word, which is settled at once, or a positive number m * 2 ^ (E - 150) with a significand m of 24 bits and a
-- signed exponent E.
pub data Reading : Type 0 where
  special : Special → Reading
  positive : ℕ → ℤ → Reading

abbrev pub reading : ℕ → Reading
reading v =
    cond (is_nan v) (special (NotANumber (nat_le (2 ^ 22) (fraction v))))
    (cond (reads_as_zero v) (special (Zero (is_negative v)))
    (cond (v == infinity) (special PlusInfinity)
    (cond (is_negative v) (special Negative) (positive (2 ^ 23 + fraction v) (pos (exponent v))))))

-- a decoded word, but for the invariant of its significand and exponent
abbrev pub seen : Decoded → Reading
seen (SpecialWord s) = special s
seen (Positive n) = positive n.significand n.exponent

-- what a special word comes to
abbrev pub special_answer : Special → Answer
special_answer (NotANumber quiet) = record { word = 0x7fc00000; marks = cond quiet no_marks invalid_mark }
special_answer (Zero negative) = record { word = cond negative 0xff800000 0x7f800000; marks = division_mark }
special_answer PlusInfinity = record { word = 0; marks = no_marks }
special_answer Negative = record { word = 0x7fc00000; marks = invalid_mark }

-- 378 - E, even just where E is
abbrev pub reach : ℤ → ℕ
reach E = unsigned_abs (pos 378 -ℤ E)

-- The operand of 25 bits that is worked to 24 places: 2 * m for an even exponent, m for an odd one.
abbrev pub number : ℕ → ℤ → ℕ
number m E = cond (reach E % 2 == 0) (2 * m) m

-- f of 25 bits cut to the 24 of a single; the root itself needs no rounding
abbrev pub cut : Mode → ℕ → ℕ
cut Nearest f = (f + 1) / 2
cut TowardZero f = f / 2
cut Up f = f / 2 + 1
cut Down f = f / 2

-- The word of n * 2 ^ k units: the exponent field is one more than k, which is 126 - h for the result S * 2 ^ -h. A carry out of n's 24 bits goes
-- into the exponent.
abbrev pub packed : ℕ → ℕ → ℕ
packed k n = k * 2 ^ 23 + n

abbrev pub rounded : Mode → ℤ → Outcome → Answer
rounded mode E o =
    cond o.exact (record { word = packed (reach E / 2) (o.f / 2); marks = no_marks })
    (record { word = packed (reach E / 2) (cut mode o.f); marks = inexact_mark })

-- What a single comes to: settled at once, or worked by all its digits and rounded.
abbrev pub told : SelectorModel → FormModel → Mode → Reading → Answer
told S F mode (special s) = special_answer s
told S F mode (positive m E) = rounded mode E (worked S F 25 24 (number m E))
