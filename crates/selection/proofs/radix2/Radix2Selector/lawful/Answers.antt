use Rattle.selection.proofs.Radix2Lawful.{radix_2_lawful, contains_every}
use Rattle.selection.proofs.radix2.Radix2Selector.lawful.Goals as goal

pub returns : goal.returns
returns c = record { laws = radix_2_lawful; every_operand = contains_every }
