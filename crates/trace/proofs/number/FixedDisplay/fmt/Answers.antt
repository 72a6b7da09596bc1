use Rattle.std.proofs.Common.{ℕ, ◌^◌, ◌≤◌, mul-le-mul, arith}
use Rattle.std.proofs.Math.Nat.{pow-le-pow_right}
use Rattle.trace.proofs.number.FixedDisplay.fmt.Goals as goal

-- A number has at most 28 places.
fives : (p : ℕ) → p ≤ 28 → 5 ^ p ≤ 5 ^ 28
fives p few = pow-le-pow_right {n = 5} (omega arith) few

pub pow-requires : goal.pow-requires
pow-requires g c = grind (arith, fives)

pub overflow_mul-digits : goal.overflow_mul-digits
overflow_mul-digits g c =
    let part : c.from.result ≤ 2 ^ 32 = omega arith in
    let power : c.pow.result ≤ 5 ^ 28 = grind (arith, fives) in
    omega (arith, mul-le-mul part power)
