use Rattle.foreign.proofs.MiddleStartLawful.{middle_start_lawful}
use Rattle.foreign.proofs.middle_start.MiddleStartSelector.lawful.Goals as goal

pub returns : goal.returns
returns c = middle_start_lawful c.lawful.ensures.laws
