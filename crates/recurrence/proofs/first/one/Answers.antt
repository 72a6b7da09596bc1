use Rattle.std.proofs.Common.{◌≡◌, ◌+◌, ◌*◌, ◌%◌, ◌^◌, ◌≤◌, pos, arith, pow_mono, w64, to_z}
use Rattle.std.proofs.lemmas.Int.{ints}
use Rattle.recurrence.proofs.first.one.Goals as goal

pub returns : goal.returns
returns c =
    let few : c.args.operand.k + c.args.operand.q ≤ 56 = omega arith in
    let small : 2 ^ (c.args.operand.k + c.args.operand.q) ≤ 2 ^ 56 = pow_mono {j = 56} few in
    let is : to_z w64 ((1 * 2 ^ (c.args.operand.k + c.args.operand.q)) % 2 ^ 64) ≡ pos (2 ^ (c.args.operand.k + c.args.operand.q)) = omega (arith, ints) in
    record { is = is; most = rw is (omega (arith, ints)) }
