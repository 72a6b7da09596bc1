-- The operation rSqrt of IEEE 754, with subnormal operands read as zeros: the correctly rounded reciprocal square root of a single.
use Rattle.std.specs.Prelude.{◌≡◌, ℕ, ◌+◌, ◌*◌, ◌^◌, ◌<◌, ◌≤◌, true, false, ◌≢◌}
use Rattle.single.specs.declared.mode.Mode.{Mode}
use Rattle.single.specs.declared.mode.Mode.TheVariants.{Nearest, TowardZero, Up, Down}
use Rattle.single.specs.declared.marks.Marks.{Marks}
use Rattle.single.specs.MarkSets.{no_marks, inexact_mark, invalid_mark, division_mark}
use Rattle.single.specs.Words.{units, infinity, fraction, is_nan, is_negative, reads_as_zero, Neighbours}

-- One over the root of v's value, compared with y's value by squares: y * y * v against 1, which is 2 ^ 447 in cubed units of 2 ^ -149.
abbrev pub AtMostRoot : ℕ → ℕ → Type 0
AtMostRoot v y = units y ^ 2 * units v ≤ 2 ^ 447

abbrev pub AtLeastRoot : ℕ → ℕ → Type 0
AtLeastRoot v y = 2 ^ 447 ≤ units y ^ 2 * units v

-- the same of the point halfway between y and z
abbrev pub HalfwayBelowRoot : ℕ → ℕ → ℕ → Type 0
HalfwayBelowRoot v y z = (units y + units z) ^ 2 * units v < 4 * 2 ^ 447

abbrev pub HalfwayAboveRoot : ℕ → ℕ → ℕ → Type 0
HalfwayAboveRoot v y z = 4 * 2 ^ 447 < (units y + units z) ^ 2 * units v

-- no root lies halfway between two neighbours
abbrev pub NeverTied : Type 0
NeverTied = (v y z : ℕ) → Neighbours y z → (units y + units z) ^ 2 * units v ≢ 4 * 2 ^ 447

-- r is nearer to the root than every other finite single. No tie occurs, so this is nearest, ties to even.
pub record Closest (v r : ℕ) : Type 0 where
  pub lower : (y : ℕ) → y < infinity → units y < units r → HalfwayBelowRoot v y r
  pub upper : (y : ℕ) → y < infinity → units r < units y → HalfwayAboveRoot v r y

-- the largest finite single that does not exceed the root
pub record LargestBelow (v r : ℕ) : Type 0 where
  pub under : AtMostRoot v r
  pub largest : (y : ℕ) → y < infinity → AtMostRoot v y → units y ≤ units r

-- the smallest finite single that the root does not exceed
pub record SmallestAbove (v r : ℕ) : Type 0 where
  pub over : AtLeastRoot v r
  pub smallest : (y : ℕ) → y < infinity → AtLeastRoot v y → units r ≤ units y

abbrev pub Rounded : Mode → ℕ → ℕ → Type 0
Rounded Nearest = Closest
Rounded TowardZero = LargestBelow
Rounded Up = SmallestAbove
Rounded Down = LargestBelow

-- The word v, the result's word, and the marks raised. A result that is the root itself is exact; any other is marked inexact.
pub data Rsqrt (mode : Mode) : ℕ → ℕ → Marks → Type 0 where
  quiet_nan : {v : ℕ} → is_nan v ≡ true → 2 ^ 22 ≤ fraction v → Rsqrt mode v 0x7fc00000 no_marks
  signalling_nan : {v : ℕ} → is_nan v ≡ true → fraction v < 2 ^ 22 → Rsqrt mode v 0x7fc00000 invalid_mark
  plus_zero : {v : ℕ} → reads_as_zero v ≡ true → is_negative v ≡ false → Rsqrt mode v 0x7f800000 division_mark
  minus_zero : {v : ℕ} → reads_as_zero v ≡ true → is_negative v ≡ true → Rsqrt mode v 0xff800000 division_mark
  plus_infinity : Rsqrt mode infinity 0 no_marks
  negative : {v : ℕ} → is_nan v ≡ false → reads_as_zero v ≡ false → is_negative v ≡ true → Rsqrt mode v 0x7fc00000 invalid_mark
  exact : {v r : ℕ} → reads_as_zero v ≡ false → v < infinity → r < infinity → Rounded mode v r → units r ^ 2 * units v ≡ 2 ^ 447 → Rsqrt mode v r no_marks
  inexact : {v r : ℕ} → reads_as_zero v ≡ false → v < infinity → r < infinity → Rounded mode v r → units r ^ 2 * units v ≢ 2 ^ 447 → Rsqrt mode v r inexact_mark
