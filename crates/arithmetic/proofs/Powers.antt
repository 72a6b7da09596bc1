-- Powers of two.
use Rattle.std.proofs.Common.{◌≡◌, ℕ, ◌+◌, ◌*◌, ◌^◌, ap, ◌∙◌, pow-add}

-- a power of a sum is the product of two powers
pub power_of_sum : (n i j : ℕ) → n ≡ i + j → 2 ^ n ≡ 2 ^ i * 2 ^ j
power_of_sum n i j e = ap (λ k. 2 ^ k) e ∙ pow-add 2 i j
