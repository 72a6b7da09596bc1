-- The reference jobs, and what is established of them: by the definition of the result and by the recurrence.
use Rattle.std.specs.Prelude.{ℕ, zero, suc, ◌≡◌, true, false, List, [], ◌∷◌, ℤ, pos, negsuc}
use Rattle.number_form.specs.Forms.{FormModel}
use Rattle.number_form.specs.Plain.{plain}
use Rattle.selection.specs.Selectors.{SelectorModel, digits}
use Rattle.selection.specs.Radix2.{radix_2}
use Rattle.selection.specs.Radix4.{radix_4}
use Rattle.recurrence.specs.declared.registers.Registers.{Registers}
use Rattle.recurrence.specs.Recurrence.{chosen, turned, turns, first_registers, worked}
use Rattle.recurrence.specs.Root.{ReciprocalRoot}
use Rattle.single.specs.declared.mode.Mode.TheVariants.{Nearest, Up}
use Rattle.single.specs.declared.answer.Answer.{Answer}
use Rattle.single.specs.MarkSets.{marks_of}
use Rattle.single.specs.Rsqrt.{Rsqrt}
use Rattle.single.specs.Readings.{reading, told}
use Rattle.reference_rows.specs.declared.FixedRow.{FixedRow}
use Rattle.reference_rows.specs.declared.SingleRow.{SingleRow}
use Rattle.reference_rows.specs.declared.Rows.{Rows}

abbrev pub fixed_rows : List FixedRow
fixed_rows =
    record { x = 5; f = 28; exact = false } ∷
    record { x = 8; f = 22; exact = false } ∷
    record { x = 12; f = 18; exact = false } ∷
    record { x = 15; f = 16; exact = false } ∷
    record { x = 4; f = 32; exact = true } ∷ []

abbrev pub single_rows : List SingleRow
single_rows =
    record { mode = Nearest; operand = 0x40000000; result = 0x3f3504f3; exact = false } ∷
    record { mode = Nearest; operand = 0x3e800000; result = 0x40000000; exact = true } ∷
    record { mode = Nearest; operand = 0x3f7fffff; result = 0x3f800000; exact = false } ∷
    record { mode = Nearest; operand = 0x3f800001; result = 0x3f7fffff; exact = false } ∷
    record { mode = Up; operand = 0x3f800001; result = 0x3f800000; exact = false } ∷ []

abbrev pub reference_rows : Rows
reference_rows = record { fixed = fixed_rows; singles = single_rows }

-- The row's f is the largest, and both radices come to it over plain numbers.
pub record RowRight (r : FixedRow) : Type 0 where
  pub root : ReciprocalRoot 4 4 r.x r.f
  pub by_radix_2 : worked radix_2 plain 4 4 r.x ≡ record { f = r.f; exact = r.exact }
  pub by_radix_4 : worked radix_4 plain 4 4 r.x ≡ record { f = r.f; exact = r.exact }

abbrev pub EachRight : List FixedRow → Type 0
EachRight [] = Unit {0}
EachRight (r ∷ rs) = RowRight r × EachRight rs

-- The row's word and marks are those of IEEE 754's rSqrt, and both radices come to them over plain numbers.
abbrev pub row_answer : SingleRow → Answer
row_answer r = record { word = r.result; marks = marks_of r.exact }

pub record SingleRight (r : SingleRow) : Type 0 where
  pub root : Rsqrt r.mode r.operand (row_answer r).word (row_answer r).marks
  pub by_radix_2 : told radix_2 plain r.mode (reading r.operand) ≡ row_answer r
  pub by_radix_4 : told radix_4 plain r.mode (reading r.operand) ≡ row_answer r

abbrev pub EachSingleRight : List SingleRow → Type 0
EachSingleRight [] = Unit {0}
EachSingleRight (r ∷ rs) = SingleRight r × EachSingleRight rs

-- so many digits from the registers on, the first one first
abbrev pub digits_from : SelectorModel → FormModel → ℕ → Registers → List ℤ
digits_from S F zero c = []
digits_from S F (suc n) c = (chosen S F c).digit ∷ digits_from S F n (turned S F c)

-- all digits of a job, and the partial result after them
abbrev pub all_digits : SelectorModel → FormModel → ℕ → ℕ → ℕ → List ℤ
all_digits S F K Q x = digits_from S F (digits S Q) (first_registers S F K Q x)

abbrev pub last_partial : SelectorModel → FormModel → ℕ → ℕ → ℕ → ℕ
last_partial S F K Q x = (turns S F (digits S Q) (first_registers S F K Q x)).partial.s

-- The rows are right; for x = 8 the digits are 1, -1, 1, 1 in radix 2 and 0, -1 in radix 4, both ending at s = 23.
pub record Established : Type 0 where
  pub fixed_right : EachRight fixed_rows
  pub singles_right : EachSingleRight single_rows
  pub radix_2_digits : all_digits radix_2 plain 4 4 8 ≡ pos 1 ∷ negsuc 0 ∷ pos 1 ∷ pos 1 ∷ []
  pub radix_2_ends : last_partial radix_2 plain 4 4 8 ≡ 23
  pub radix_4_digits : all_digits radix_4 plain 4 4 8 ≡ pos 0 ∷ negsuc 0 ∷ []
  pub radix_4_ends : last_partial radix_4 plain 4 4 8 ≡ 23
