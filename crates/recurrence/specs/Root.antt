-- The result of a fixed-point job.
use Rattle.std.specs.Prelude.{◌≡◌, ℕ, ◌+◌, ◌*◌, ◌^◌, ◌<◌, ◌≤◌, Bool, true, false}

-- f is the largest number with X * (f / 2 ^ Q) ^ 2 at most 1, where X is x / 2 ^ K
pub record ReciprocalRoot (K Q x f : ℕ) : Type 0 where
  pub fits : x * f ^ 2 ≤ 2 ^ (K + 2 * Q)
  pub largest : 2 ^ (K + 2 * Q) < x * (f + 1) ^ 2

-- whether f / 2 ^ Q is the reciprocal root of X itself, and not less
pub record Exactness (K Q x f : ℕ) (exact : Bool) : Type 0 where
  pub equal : exact ≡ true → x * f ^ 2 ≡ 2 ^ (K + 2 * Q)
  pub below : exact ≡ false → x * f ^ 2 < 2 ^ (K + 2 * Q)
