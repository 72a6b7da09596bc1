use Rattle.std.proofs.Common.{arith}
use Rattle.stream.proofs.Grouping.{finished}
use Rattle.stream.proofs.writer.Writer.number.Goals as goal

pub returns-clause-writes : goal.returns-clause-writes
returns-clause-writes c = finished _ _ _ _ _ _ _ _ (omega (arith, c.loop-rest-test.false)) c.loop-rest.invariant.1 c.byte-2.ensures.writes
