use Rattle.selection.proofs.Radix4Lawful.{radix_4_lawful, contains_every}
use Rattle.selection.proofs.radix4.Radix4Selector.lawful.Goals as goal

pub returns : goal.returns
returns c = record { laws = radix_4_lawful; every_operand = contains_every }
