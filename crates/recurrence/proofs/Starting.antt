-- Sizes at a job's start.
use Rattle.std.proofs.Common.{◌≡◌, ℕ, ◌+◌, ◌-◌, ◌*◌, ◌^◌, ◌<◌, ◌≤◌, mul-le-mul_right, mul-le-mul, arith, pow_mono, pow-add}
use Rattle.arithmetic.proofs.Powers.{power_of_sum}
use Rattle.selection.specs.declared.start.Start.{Start}
use Rattle.selection.specs.declared.start.Start.TheVariants.{One, ThreeHalves, Two}
use Rattle.selection.specs.Starts.{halves}

pub halves_least : (s : Start) → 2 ≤ halves s
halves_least One = omega arith
halves_least ThreeHalves = omega arith
halves_least Two = omega arith

pub halves_most : (s : Start) → halves s ≤ 4
halves_most One = omega arith
halves_most ThreeHalves = omega arith
halves_most Two = omega arith

-- an operand has at most 28 bits
pub operand_small : (k x : ℕ) → k ≤ 28 → x < 2 ^ k → x < 2 ^ 28
operand_small k x h l = omega (arith, pow_mono {i = k} {j = 28} h)

pub product_small : (x h : ℕ) → x < 2 ^ 28 → h ≤ 4 → x * h ≤ 2 ^ 30
product_small x h l m = let few : x ≤ 2 ^ 28 = omega arith in omega (arith, mul-le-mul few m)

pub square_small : (x h : ℕ) → x < 2 ^ 28 → h ≤ 4 → x * (h * h) ≤ 2 ^ 32
square_small x h l m = let few : x ≤ 2 ^ 28 = omega arith in omega (arith, mul-le-mul few (mul-le-mul m m))

-- a start lies from 1 to 2
pub record InPartial (q s : ℕ) : Type 0 where
  pub least : 2 ^ q ≤ s
  pub most : s + 2 ^ q ≤ 2 ^ (q + 2)
  pub fits : s ≤ 2 ^ 30

pub start_size : (q h : ℕ) → 2 ≤ q → q ≤ 28 → 2 ≤ h → h ≤ 4 → InPartial q (h * 2 ^ (q - 1))
start_size q h l m low high =
    let one : 2 ^ q ≡ 2 * 2 ^ (q - 1) = power_of_sum q 1 (q - 1) (omega arith) in
    let two : 2 ^ (q + 2) ≡ 2 ^ q * 4 = pow-add 2 q 2 in
    let small : 2 ^ q ≤ 2 ^ 28 = pow_mono {i = q} {j = 28} m in
    let up = mul-le-mul_right (2 ^ (q - 1)) low in
    let down = mul-le-mul_right (2 ^ (q - 1)) high in
    record { least = omega arith; most = omega arith; fits = omega arith }
