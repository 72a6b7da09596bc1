-- A number's groups, written one after the other.
use Rattle.std.proofs.Common.{ℕ, ◌+◌, ◌%◌, ◌/◌, ◌^◌, ◌<◌, ◌≤◌, List, [], ◌∷◌, ◌++◌, length, refl, sym, ap, arith, length-append}
use Rattle.seven_bit.specs.Numbers.{groups, encoded}
use Rattle.seven_bit.proofs.Encoding as partway
use Rattle.seven_bit.proofs.Encoding.{Partway}
use Rattle.stream.specs.Answers.{Writes}
use Rattle.stream.proofs.Written.{wrote_none, wrote_then}

-- some groups of a number are written, and the rest is still to be
pub record Grouped (a : ℕ) (o : List ℕ) (b : ℕ) (p : List ℕ) (rest number : ℕ) : Type 0 where
  pub groups : List ℕ
  pub writes : Writes a o b p groups
  pub partway : Partway groups rest number

pub begun : (a : ℕ) (o : List ℕ) (number : ℕ) → number < 2 ^ 32 → Grouped a o a o number number
begun a o number h = record { groups = []; writes = wrote_none a o; partway = partway.begun [] number refl h }

pub one_more : (a : ℕ) (o : List ℕ) (b : ℕ) (p : List ℕ) (c : ℕ) (q : List ℕ) (rest number : ℕ) → 128 ≤ rest → Grouped a o b p rest number → Writes b p c q ((128 + rest % 128) ∷ []) →
    Grouped a o c q (rest / 128) number
one_more a o b p c q rest number h g w =
    record {
      groups = g.groups ++ (128 + rest % 128) ∷ [];
      writes = wrote_then a o b p c q g.groups _ g.writes w;
      partway = partway.one_more g.groups rest number _ h g.partway refl;
    }

pub finished : (a : ℕ) (o : List ℕ) (b : ℕ) (p : List ℕ) (c : ℕ) (q : List ℕ) (rest number : ℕ) → rest < 128 → Grouped a o b p rest number → Writes b p c q (rest ∷ []) →
    Writes a o c q (encoded number)
finished a o b p c q rest number h g w = rw (sym (partway.finished g.groups rest number h g.partway)) (wrote_then a o b p c q g.groups _ g.writes w)

-- there is room for one group more
pub room : (a : ℕ) (o : List ℕ) (b : ℕ) (p : List ℕ) (rest number : ℕ) → a + length (encoded number) ≤ length o → Grouped a o b p rest number → b < length p
room a o b p rest number h g =
    omega (arith, h, g.writes.next_is, g.writes.room, ap length (g.partway.is), length-append g.groups (groups g.partway.left rest), partway.some g.partway.left rest)
