-- Whole numbers modulo 2 ^ 64: congruence, the 64 bits of a number, and the signed reading of 64 bits.
use Rattle.std.specs.Prelude.{◌≡◌, ℕ, ◌-◌, ◌%◌, ◌^◌, cond, ℤ, pos, negsuc, ◌+ℤ◌, ◌*ℤ◌, neg_ℤ, ◌≤ℤ◌, ◌<ℤ◌, nat_lt}
use Rattle.std.specs.Int.Signed.{shr_z}

-- a and b differ by a multiple of 2 ^ 64
abbrev pub Congruent : ℤ → ℤ → Type 0
Congruent a b = (k : ℤ) × (a ≡ b +ℤ k *ℤ pos (2 ^ 64))

-- n is a signed number of 64 bits
pub record InSigned (n : ℤ) : Type 0 where
  pub least : neg_ℤ (pos (2 ^ 63)) ≤ℤ n
  pub most : n <ℤ pos (2 ^ 63)

-- the 64 bits of a number in two's complement, which are the number modulo 2 ^ 64
abbrev pub word : ℤ → ℕ
word (pos n) = n % 2 ^ 64
word (negsuc n) = 2 ^ 64 - 1 - n % 2 ^ 64

-- 64 bits read in two's complement, from -2 ^ 63 to 2 ^ 63 - 1
abbrev pub signed : ℕ → ℤ
signed f = cond (nat_lt f (2 ^ 63)) (pos f) (negsuc (2 ^ 64 - 1 - f))

-- the signed reading of a number modulo 2 ^ 64
abbrev pub reading : ℤ → ℤ
reading n = signed (word n)

-- a signed number in units of 2 ^ u, rounded down
abbrev pub floored : ℕ → ℤ → ℤ
floored u n = shr_z n (2 ^ u)
