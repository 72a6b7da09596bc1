use Rattle.protocol.proofs.story.slow_job.Goals as goal
use Rattle.protocol.proofs.Telling.{everywhere}

pub returns-clause-told : goal.returns-clause-told
returns-clause-told c = everywhere
