-- How far a shift goes.
use Rattle.std.specs.Prelude.{ℕ}
use Rattle.number_form.specs.declared.shift.Shift.{Shift}
use Rattle.number_form.specs.declared.shift.Shift.TheVariants.{One, Two}

abbrev pub places : Shift → ℕ
places One = 1
places Two = 2
