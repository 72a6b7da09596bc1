use Rattle.std.proofs.Common.{◌^◌, ◌<◌, ◌≤◌, arith}
use Rattle.recurrence.proofs.Starting.{halves_most, operand_small, square_small}
use Rattle.recurrence.proofs.first.first_residual.Goals as goal

pub at_place-requires : goal.at_place-requires
at_place-requires c =
    let x : c.from.result < 2 ^ 28 = omega (arith, operand_small c.args.operand.k c.args.operand.x (omega arith) (omega arith)) in
    let h : c.from-halves.result ≤ 4 = omega (arith, halves_most c.args.start) in
    (omega (arith, square_small c.from.result c.from-halves.result x h), omega arith)
