use Rattle.std.proofs.Common.{refl}
use Rattle.protocol.specs.Operands.{Make, make}
use Rattle.bank.proofs.bank.Bank.take.Goals as goal

pub returns : goal.returns
returns g c =
    let m : Make = make (g.S.Selector.model c.args.self.now.selector) (g.F.NumberForm.model c.args.self.now.form) in
    record { answers = c.take.ensures.answers m; leaves = c.take.ensures.leaves m; make = (refl, refl) }
