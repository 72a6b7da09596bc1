use Rattle.seven_bit.proofs.Encoding.{Partway}
use Rattle.seven_bit.proofs.encode.encode.Given as goal

abbrev pub invariant-loop-rest : goal.invariant-loop-rest
invariant-loop-rest l = Partway l.groups l.rest l.number

abbrev pub decreases-loop-rest : goal.decreases-loop-rest
decreases-loop-rest l = l.rest
