-- Estimates: a number known by its leading bits, and by how much it may exceed them.
use Rattle.std.specs.Prelude.{ℕ, ◌-◌, ◌^◌, ℤ, pos, ◌+ℤ◌, ◌*ℤ◌, ◌≤ℤ◌, ◌<ℤ◌}

-- By less than this many units an estimate falls short of what it estimates. Number forms promise it and selectors bear it.
abbrev pub shortfall : ℕ
shortfall = 2

-- The estimate E, in units of 2 ^ -t, falls short of value / 2 ^ n by at least 0 and by less than so many units.
pub record Estimates (units n t : ℕ) (E value : ℤ) : Type 0 where
  pub not_over : (E *ℤ pos (2 ^ (n - t))) ≤ℤ value
  pub not_far : value <ℤ ((E +ℤ pos units) *ℤ pos (2 ^ (n - t)))
