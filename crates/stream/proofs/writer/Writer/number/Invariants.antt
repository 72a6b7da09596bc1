use Rattle.std.proofs.Common.{◌≡◌}
use Rattle.stream.proofs.Grouping.{Grouped}
use Rattle.stream.proofs.writer.Writer.number.Given as goal

abbrev pub invariant-loop-rest : goal.invariant-loop-rest
invariant-loop-rest l = (l.self.out.ghost_name ≡ l.initial.self.out.ghost_name) × Grouped l.initial.self.at l.initial.self.out.now l.self.at l.self.out.now l.rest l.initial.number

abbrev pub decreases-loop-rest : goal.decreases-loop-rest
decreases-loop-rest l = l.rest
