use Rattle.std.proofs.Common.{sym, rules}
use Rattle.protocol.specs.declared.call.Call.TheVariants.{Ask}
use Rattle.protocol.specs.declared.call.Request.TheVariants.{Load}
use Rattle.protocol.specs.Operands.{Make, make}
use Rattle.protocol.proofs.Refusing.{refusals_leave}
use Rattle.lanes.specs.Seen.{seen}
use Rattle.bank.proofs.bank.Bank.load.Goals as goal

pub returns-in_err-job-clause-leaves : goal.returns-in_err-job-clause-leaves
returns-in_err-job-clause-leaves g c =
    let m : Make = make (g.S.Selector.model c.args.self.now.selector) (g.F.NumberForm.model c.args.self.now.form) in
    sym (refusals_leave m (seen c.args.self.now.lanes) (Ask c.args.name (Load c.args.k c.args.q c.args.x)) (search rules))
