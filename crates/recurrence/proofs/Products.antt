-- Sizes of what a digit and a factor make at a place.
use Rattle.std.proofs.Common.{ℕ, ◌*◌, ◌^◌, ◌≤◌, ℤ, ◌*ℤ◌, nat_abs, mul-le-mul_right, mul-le-mul, arith, pow_mono}
use Rattle.std.proofs.lemmas.Int.{unsigned_abs-mul}

-- a number at a place of at most 28
pub placed : (n m p : ℕ) → n ≤ m → p ≤ 28 → n * 2 ^ p ≤ m * 2 ^ 28
placed n m p h l = mul-le-mul h (pow_mono {i = p} {j = 28} l)

-- a digit below 4 in size times a number
pub digit_times : (q n : ℤ) → nat_abs q ≤ 3 → nat_abs (q *ℤ n) ≤ 3 * nat_abs n
digit_times q n h = omega (arith, unsigned_abs-mul q n, mul-le-mul_right (nat_abs n) h)
