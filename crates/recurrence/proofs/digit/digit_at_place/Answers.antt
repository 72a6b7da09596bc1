use Rattle.std.proofs.Common.{◌≡◌, ◌≤◌, nat_abs, mod-eq_of_lt, arith, w64, to_z, of_z}
use Rattle.std.proofs.lemmas.Int.{ints}
use Rattle.recurrence.proofs.Products.{placed}
use Rattle.recurrence.proofs.digit.digit_at_place.Goals as goal

pub returns : goal.returns
returns c =
    let same : nat_abs (to_z w64 (of_z w64 c.args.digit)) ≡ nat_abs c.args.digit = omega (arith, ints) in
    let small : nat_abs c.args.digit ≤ 3 = omega (arith, ints) in
    let fits = placed (nat_abs c.args.digit) 3 c.args.place small (omega arith) in
    record { is = rw same (mod-eq_of_lt (omega arith)); most = rw same (omega (arith, fits)) }
