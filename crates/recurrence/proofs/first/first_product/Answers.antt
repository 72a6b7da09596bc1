use Rattle.std.proofs.Common.{◌^◌, ◌<◌, ◌≤◌, arith}
use Rattle.recurrence.proofs.Starting.{halves_most, operand_small, product_small}
use Rattle.recurrence.proofs.first.first_product.Goals as goal

pub at_place-requires : goal.at_place-requires
at_place-requires c =
    let x : c.from.result < 2 ^ 28 = omega (arith, operand_small c.args.operand.k c.args.operand.x (omega arith) (omega arith)) in
    let h : c.from-2.result ≤ 4 = omega (arith, halves_most c.args.start) in
    (omega (arith, product_small c.from.result c.from-2.result x h), omega arith)
