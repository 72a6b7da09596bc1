-- IEEE 754 singles by their words: sign bit, exponent field of 8 bits, fraction of 23 bits.
use Rattle.std.specs.Prelude.{ℕ, zero, suc, ◌+◌, ◌*◌, ◌/◌, ◌%◌, ◌^◌, ◌<◌, ◌≤◌, Bool, ◌&&◌, ◌⊎◌, ◌==◌, nat_le, nat_lt}

abbrev pub exponent : ℕ → ℕ
exponent w = w / 2 ^ 23 % 2 ^ 8

abbrev pub fraction : ℕ → ℕ
fraction w = w % 2 ^ 23

-- The value of a positive finite single in units of 2 ^ -149, the smallest positive one, by its exponent field and its fraction.
abbrev pub scaled : ℕ → ℕ → ℕ
scaled zero m = m
scaled (suc e) m = (2 ^ 23 + m) * 2 ^ e

abbrev pub units : ℕ → ℕ
units w = scaled (exponent w) (fraction w)

-- plus infinity; the words below it are the positive finite singles, zero among them
abbrev pub infinity : ℕ
infinity = 0x7f800000

abbrev pub is_nan : ℕ → Bool
is_nan v = exponent v == 255 && nat_lt 0 (fraction v)

-- the sign bit
abbrev pub is_negative : ℕ → Bool
is_negative v = nat_le (2 ^ 31) v

-- Zeros, and the subnormals, which count as zeros.
abbrev pub reads_as_zero : ℕ → Bool
reads_as_zero v = exponent v == 0

-- finite singles with none between
pub record Neighbours (y z : ℕ) : Type 0 where
  pub low_finite : y < infinity
  pub high_finite : z < infinity
  pub apart : units y < units z
  pub nothing_between : (w : ℕ) → w < infinity → (units w ≤ units y) ⊎ (units z ≤ units w)
