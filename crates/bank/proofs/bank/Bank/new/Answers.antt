use Rattle.protocol.proofs.Refusing.{refusals_leave}
use Rattle.protocol.proofs.Share.{holders_share}
use Rattle.bank.proofs.bank.Bank.new.Goals as goal

pub returns-clause-lawful : goal.returns-clause-lawful
returns-clause-lawful g c = record { selector = c.lawful.ensures; form = c.lawful-2.ensures }

pub returns-clause-refusals : goal.returns-clause-refusals
returns-clause-refusals g c = refusals_leave

pub returns-clause-share : goal.returns-clause-share
returns-clause-share g c = holders_share
