-- What a bank is made of.
use Rattle.std.specs.Prelude.{◌≡◌}
use Rattle.number_form.specs.Forms.{FormModel}
use Rattle.selection.specs.Selectors.{SelectorModel}
use Rattle.protocol.specs.Operands.{Make, make}
use Rattle.bank.specs.declared.bank.Bank.{Bank}

-- the make of a bank, by the models of its selector and its form
abbrev pub models : {S F : Type 0} → (S → SelectorModel) → (F → FormModel) → Bank S F → Make
models s f b = make (s b.selector) (f b.form)

-- selector and form are what they were
abbrev pub KeepsMake : {S F : Type 0} → Bank S F → Bank S F → Type 0
KeepsMake before after = (after.selector ≡ before.selector) × (after.form ≡ before.form)
