-- The makes that are offered to C, and what is worked by them.
use Rattle.std.specs.Prelude.{ℕ, cond, Ok, Err, Result, ◌==◌}
use Rattle.number_form.specs.Forms.{FormModel}
use Rattle.number_form.specs.Plain.{plain}
use Rattle.number_form.specs.CarrySave.{carry_save}
use Rattle.selection.specs.Selectors.{SelectorModel}
use Rattle.selection.specs.Radix2.{radix_2}
use Rattle.selection.specs.Radix4.{radix_4}
use Rattle.exports.specs.declared.fault.Fault.{Fault}
use Rattle.exports.specs.declared.fault.Fault.TheVariants.{Make}
use Rattle.exports.specs.declared.offered.Offered.{Offered}
use Rattle.exports.specs.declared.offered.Offered.TheVariants.{Radix2Plain, Radix4CarrySave}

-- 0 is radix 2 over plain numbers, 1 radix 4 over carry-save numbers; any other number is refused
abbrev pub offered : ℕ → Result Offered Fault
offered make = cond (make == 0) (Ok Radix2Plain) (cond (make == 1) (Ok Radix4CarrySave) (Err Make))

-- what is worked of the models of an offered make
abbrev pub by_offered : {A : Type 0} → (SelectorModel → FormModel → A) → Offered → A
by_offered worked Radix2Plain = worked radix_2 plain
by_offered worked Radix4CarrySave = worked radix_4 carry_save
