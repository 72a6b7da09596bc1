use Rattle.std.proofs.Common.{◌≡◌}
use Rattle.recurrence.specs.Recurrence.{turns}
use Rattle.recurrence.proofs.work.make_all_turns.Given as goal

abbrev pub invariant-loop : goal.invariant-loop
invariant-loop g l = l.running.registers ≡ turns (g.S.Selector.model l.make.selector.now) (g.F.NumberForm.model l.make.form.now) l.counter l.initial.running.registers
