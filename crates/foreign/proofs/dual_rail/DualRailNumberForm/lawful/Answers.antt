use Rattle.foreign.proofs.DualRailLawful.{dual_rail_lawful}
use Rattle.foreign.proofs.dual_rail.DualRailNumberForm.lawful.Goals as goal

pub returns : goal.returns
returns c = dual_rail_lawful
