use Rattle.std.proofs.Common.{◌≡◌, ◌-◌, length}
use Rattle.protocol.specs.Operands.{make}
use Rattle.bank.specs.Makes.{KeepsMake}
use Rattle.lanes.specs.Seen.{seen}
use Rattle.stream.proofs.Coursing.{Midway}
use Rattle.stream.proofs.run.work_off.Given as goal

abbrev pub invariant-loop-stop : goal.invariant-loop-stop
invariant-loop-stop g l =
    (l.writer.out.ghost_name ≡ l.initial.writer.out.ghost_name) × (l.reader.input.now ≡ l.input) × KeepsMake l.initial.bank l.bank ×
    Midway (make (g.S.Selector.model l.initial.bank.selector) (g.F.NumberForm.model l.initial.bank.form)) l.input l.initial.writer.out.now (seen l.initial.bank.lanes) l.initial.control
    l.reader.at l.writer.at l.writer.out.now (seen l.bank.lanes) l.control

abbrev pub decreases-loop-stop : goal.decreases-loop-stop
decreases-loop-stop g l = length l.reader.input.now - l.reader.at
