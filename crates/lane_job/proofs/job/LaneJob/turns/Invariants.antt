use Rattle.std.proofs.Common.{◌≡◌}
use Rattle.protocol.specs.Operands.{make}
use Rattle.protocol.specs.Jobs.{turns}
use Rattle.lane_job.specs.Seen.{seen_job}
use Rattle.lane_job.proofs.job.LaneJob.turns.Given as goal

abbrev pub invariant-loop : goal.invariant-loop
invariant-loop g l = seen_job l.job ≡ turns (make (g.S.Selector.model l.make.selector.now) (g.F.NumberForm.model l.make.form.now)) l.counter (seen_job l.initial.job)
