use native.Mathlib.Omega.{arith}
use Rattle.number_form.proofs.Shared.{more_units}
use Rattle.number_form.proofs.PlainLawful.{plain_lawful}
use Rattle.number_form.proofs.plain.PlainNumberForm.lawful.Goals as goal

pub returns : goal.returns
returns c = record { laws = more_units {m = 1} {n = 2} (omega arith) plain_lawful; one_unit = plain_lawful }
