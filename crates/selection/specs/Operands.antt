-- Operands, their refusals, and the containment bound, with every fraction multiplied out to whole numbers and roots compared by squares.
use Rattle.std.specs.Prelude.{◌≡◌, ℕ, ◌+◌, ◌-◌, ◌*◌, ◌%◌, ◌^◌, ◌<◌, ◌≤◌, Bool, cond, not, ◌||◌, Some, None, Ok, Err, Option, Result, ◌==◌, nat_le, nat_lt}
use Rattle.selection.specs.declared.refusal.Refusal.{Refusal}
use Rattle.selection.specs.declared.refusal.Refusal.TheVariants.{Width, Places, Range}
use Rattle.selection.specs.declared.operand.Operand.{Operand}

-- A width K from 4 to 28, and a result of Q places, even and from 2 to 28.
pub record Sized (K Q : ℕ) : Type 0 where
  pub width : (4 ≤ K) × (K ≤ 28)
  pub places : (2 ≤ Q) × (Q ≤ 28)
  pub even : Q % 2 ≡ 0

-- An operand x of width K stands for X = x / 2 ^ K, which is at least 1/4 and below 1.
pub record InRange (K x : ℕ) : Type 0 where
  pub quarter : 2 ^ (K - 2) ≤ x
  pub below_one : x < 2 ^ K

-- X is 1/4
abbrev pub quarter : ℕ → ℕ → Bool
quarter K x = x == 2 ^ (K - 2)

-- ---- refusals

-- the number by which each refusal is told to callers
abbrev pub number : Refusal → ℕ
number Width = 1
number Places = 2
number Range = 3

-- why an operand is refused, if it is; the first check that fails decides
abbrev pub refusal : ℕ → ℕ → ℕ → Option Refusal
refusal K Q x =
    cond (nat_lt K 4 || nat_lt 28 K) (Some Width)
    (cond (nat_lt Q 2 || nat_lt 28 Q || not (Q % 2 == 0)) (Some Places)
    (cond (nat_lt x (2 ^ (K - 2)) || nat_le (2 ^ K) x) (Some Range) None))

-- what checking K, Q and x gives: the operand as it stands, or the first refusal
abbrev pub Checked : ℕ → ℕ → ℕ → Result Operand Refusal → Type 0
Checked K Q x r = elim r [ Ok o ↦ (refusal K Q x ≡ None) × (o.k ≡ K) × (o.q ≡ Q) × (o.x ≡ x) | Err e ↦ refusal K Q x ≡ Some e ]

-- ---- the containment bound

-- A partial result s of Q places stands for S = s / 2 ^ Q. With digits of b bits from -a to a, r = 2 ^ b and rho = a / (r - 1), S meets the
-- containment bound after j digits where (S - rho * r ^ -j) ^ 2 < 1 / X < (S + rho * r ^ -j) ^ 2 and S is at least rho * r ^ -j.
-- Multiplied by (r - 1) * 2 ^ Q, S is (r - 1) * s and rho * r ^ -j is the slack a * 2 ^ (Q - b * j).
abbrev pub slack : (b a Q j : ℕ) → ℕ
slack b a Q j = a * 2 ^ (Q - b * j)

pub record Contained (b a K Q x j s : ℕ) : Type 0 where
  pub reach : slack b a Q j ≤ (2 ^ b - 1) * s
  pub low : ((2 ^ b - 1) * s - slack b a Q j) ^ 2 * x < 2 ^ K * ((2 ^ b - 1) * 2 ^ Q) ^ 2
  pub high : 2 ^ K * ((2 ^ b - 1) * 2 ^ Q) ^ 2 < ((2 ^ b - 1) * s + slack b a Q j) ^ 2 * x
