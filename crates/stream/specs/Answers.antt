-- Answers as bytes.
use Rattle.std.specs.Prelude.{◌≡◌, ℕ, ◌+◌, List, ◌++◌, length, take, drop, flat_map}
use Rattle.seven_bit.specs.Numbers.{encoded}

-- the bytes of some numbers
abbrev pub bytes : List ℕ → List ℕ
bytes vs = flat_map encoded vs

-- Some bytes are written at a place, from which the buffer goes on as it was.
pub record Writes (at : ℕ) (before : List ℕ) (next : ℕ) (after : List ℕ) (bs : List ℕ) : Type 0 where
  pub next_is : next ≡ at + length bs
  pub written : take next after ≡ take at before ++ bs
  pub beyond : drop next after ≡ drop next before
  pub room : length after ≡ length before
