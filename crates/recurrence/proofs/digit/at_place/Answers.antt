use Rattle.std.proofs.Common.{◌≡◌, ◌*◌, ◌%◌, ◌^◌, pos, arith, w64, to_z}
use Rattle.std.proofs.lemmas.Int.{ints}
use Rattle.recurrence.proofs.Products.{placed}
use Rattle.recurrence.proofs.digit.at_place.Goals as goal

pub overflow_cast-result-2 : goal.overflow_cast-result-2
overflow_cast-result-2 c =
    let fits = placed c.args.factor (2 ^ 32) c.args.place (omega arith) (omega arith) in omega (arith, ints)

pub returns : goal.returns
returns c =
    let fits = placed c.args.factor (2 ^ 32) c.args.place (omega arith) (omega arith) in
    let most = placed c.args.factor c.args.factor c.args.place (omega arith) (omega arith) in
    let is : to_z w64 ((c.args.factor * 2 ^ c.args.place) % 2 ^ 64) ≡ pos (c.args.factor * 2 ^ c.args.place) = omega (arith, ints) in
    record { is = is; most = rw is (omega (arith, ints)) }
