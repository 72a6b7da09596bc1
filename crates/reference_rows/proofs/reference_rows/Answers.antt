use Rattle.reference_rows.proofs.Computed.{established}
use Rattle.reference_rows.proofs.reference_rows.Goals as goal

pub returns-clause-established : goal.returns-clause-established
returns-clause-established c = established
