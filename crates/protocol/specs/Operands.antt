-- What a holder loads, what it is worked by, and what is right to tell of it.
use Rattle.std.specs.Prelude.{ℕ, ◌+◌, ◌^◌, Bool, true, cond}
use Rattle.arithmetic.specs.Estimates.{shortfall}
use Rattle.number_form.specs.Forms.{FormModel, LawfulForm}
use Rattle.selection.specs.Operands.{quarter}
use Rattle.selection.specs.Selectors.{SelectorModel, LawfulSelector}
use Rattle.selection.specs.Selectors as selectors
use Rattle.recurrence.specs.declared.make.Make.{Make as CodeMake}
use Rattle.recurrence.specs.Recurrence.{turns, first_registers}
use Rattle.recurrence.specs.Root.{ReciprocalRoot, Exactness}
use Rattle.single.specs.declared.mode.Mode.{Mode}
use Rattle.single.specs.declared.marks.Marks.{Marks}
use Rattle.single.specs.MarkSets.{marks_of}
use Rattle.single.specs.Rsqrt.{Rsqrt}
use Rattle.single.specs.Readings.{Reading, reading}
use Rattle.single.specs.Readings as readings
use Rattle.single.specs.Readings.Reading.{special, positive}

-- what a bank is made of
pub record Make : Type 0 where
  pub selector : SelectorModel
  pub form : FormModel

abbrev pub make : SelectorModel → FormModel → Make
make S F = record { selector = S; form = F }

-- the make that a code's make is, by the models of its selector and its form
abbrev pub models : {S F : Type 0} → (S → SelectorModel) → (F → FormModel) → CodeMake S F → Make
models s f m = make (s m.selector.now) (f m.form.now)

pub record Lawful (m : Make) : Type 0 where
  pub selector : LawfulSelector shortfall m.selector
  pub form : LawfulForm shortfall m.form

-- a fixed-point operand x of width K with its result's places Q, or the word of a single
pub data Operand : Type 0 where
  fixed : ℕ → ℕ → ℕ → Operand
  single : ℕ → Operand

-- the fixed-point operand that is worked on, of width K with Q places
abbrev pub width : Operand → ℕ
width (fixed K Q x) = K
width (single v) = 25

abbrev pub places : Operand → ℕ
places (fixed K Q x) = Q
places (single v) = 24

-- its number x; a special single has none, and 0 stands in its place
abbrev pub number_read : Reading → ℕ
number_read (special s) = 0
number_read (positive m E) = readings.number m E

abbrev pub number : Operand → ℕ
number (fixed K Q x) = x
number (single v) = number_read (reading v)

-- settled at load: a special single, and the quarter
abbrev pub settled_read : Reading → Bool
settled_read (special s) = true
settled_read (positive m E) = quarter 25 (readings.number m E)

abbrev pub settled : Operand → Bool
settled (fixed K Q x) = quarter K x
settled (single v) = settled_read (reading v)

-- how many digits the operand takes
abbrev pub digits : Make → Operand → ℕ
digits m o = cond (settled o) 0 (selectors.digits m.selector (places o))

-- the partial result of an operand settled at load: 0 for a special single, 2 for a quarter
abbrev pub settled_partial_read : Reading → ℕ
settled_partial_read (special s) = 0
settled_partial_read (positive m E) = 2 ^ 25

abbrev pub settled_partial : Operand → ℕ
settled_partial (fixed K Q x) = 2 ^ (Q + 1)
settled_partial (single v) = settled_partial_read (reading v)

-- The partial result after j digits, times 2 ^ Q.
abbrev pub partial_result : Make → Operand → ℕ → ℕ
partial_result m o j =
    cond (settled o) (settled_partial o)
    (turns m.selector m.form j (first_registers m.selector m.form (width o) (places o) (number o))).partial.s

-- The word and the marks that are right for an operand: in every mode the largest f, marked inexact where f / 2 ^ Q is not the reciprocal root
-- itself; for a single what IEEE 754 says of its mode.
pub data Right (mode : Mode) : Operand → ℕ → Marks → Type 0 where
  root : {K Q x f : ℕ} {exact : Bool} → ReciprocalRoot K Q x f → Exactness K Q x f exact → Right mode (fixed K Q x) f (marks_of exact)
  rounded : {v word : ℕ} {marks : Marks} → Rsqrt mode v word marks → Right mode (single v) word marks
