use Rattle.std.proofs.Common.{◌≡◌}
use Rattle.protocol.specs.Operands.{make}
use Rattle.bank.specs.Makes.{KeepsMake}
use Rattle.lanes.specs.Seen.{seen}
use Rattle.protocol.proofs.Playing.{Midway}
use Rattle.bank.proofs.bank.Bank.play.Given as goal

abbrev pub invariant-loop-play : goal.invariant-loop-play
invariant-loop-play g l =
    KeepsMake l.initial.self l.self ×
    Midway (make (g.S.Selector.model l.initial.self.selector) (g.F.NumberForm.model l.initial.self.form)) (seen l.initial.self.lanes) l.initial.plays l.play-index l.plays (seen l.self.lanes)
