-- The marks that a result raises.
use Rattle.std.specs.Prelude.{ℕ, ◌+◌, Bool, true, false, cond}
use Rattle.single.specs.declared.marks.Marks.{Marks}

-- 1 for inexact, 2 for invalid, 4 for division by zero, added
abbrev pub number : Marks → ℕ
number m = cond m.inexact 1 0 + cond m.invalid 2 0 + cond m.division_by_zero 4 0

abbrev pub union : Marks → Marks → Marks
union a b =
    record {
      inexact = cond a.inexact true b.inexact;
      invalid = cond a.invalid true b.invalid;
      division_by_zero = cond a.division_by_zero true b.division_by_zero;
    }

abbrev pub no_marks : Marks
no_marks = record { inexact = false; invalid = false; division_by_zero = false }

abbrev pub inexact_mark : Marks
inexact_mark = record { inexact = true; invalid = false; division_by_zero = false }

-- the marks of a result, by whether it is the root itself
abbrev pub marks_of : Bool → Marks
marks_of exact = cond exact no_marks inexact_mark

abbrev pub invalid_mark : Marks
invalid_mark = record { inexact = false; invalid = true; division_by_zero = false }

abbrev pub division_mark : Marks
division_mark = record { inexact = false; invalid = false; division_by_zero = true }
