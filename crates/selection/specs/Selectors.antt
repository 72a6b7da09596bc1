-- Selectors: what they name and choose, and the two laws that keep every partial result within the containment bound.
use Rattle.std.specs.Prelude.{◌≡◌, ℕ, suc, ◌+◌, ◌-◌, ◌*◌, ◌/◌, ◌%◌, ◌^◌, ◌<◌, ◌≤◌, Bool, cond, ◌||◌, ◌⊎◌, ℤ, pos, negsuc, ◌+ℤ◌, ◌-ℤ◌, ◌*ℤ◌, neg_ℤ, ◌≤ℤ◌, int_lt}
use Rattle.arithmetic.specs.Estimates.{Estimates}
use Rattle.selection.specs.declared.start.Start.{Start}
use Rattle.selection.specs.Starts.{halves}
use Rattle.selection.specs.Operands.{Sized, InRange, Contained}

-- A selector names the bits b of its digits, its largest digit a, and the places t and d of its two estimates. It gives a start from the
-- width and the operand, and a digit from the estimates of the shifted residual and of the product.
pub record SelectorModel : Type 0 where
  pub bits : ℕ
  pub largest : ℕ
  pub residual_places : ℕ
  pub product_places : ℕ
  pub start : ℕ → ℕ → Start
  pub digit : ℤ → ℤ → ℤ

-- The constants b, a, t and d are those that the model names.
pub record Named (b a t d : ℕ) (S : SelectorModel) : Type 0 where
  pub bits : S.bits ≡ b
  pub largest : S.largest ≡ a
  pub residual_places : S.residual_places ≡ t
  pub product_places : S.product_places ≡ d

abbrev pub radix : SelectorModel → ℕ
radix S = 2 ^ S.bits

-- the digits of a result of Q places
abbrev pub digits : SelectorModel → ℕ → ℕ
digits S Q = Q / S.bits

-- the start S[0], times 2 ^ Q
abbrev pub started : SelectorModel → ℕ → ℕ → ℕ → ℕ
started S K Q x = halves (S.start K x) * 2 ^ (Q - 1)

-- W = r ^ j * (1 - X * S ^ 2) times 2 ^ (K + Q): the number w with w * 2 ^ Q = 2 ^ (b * j) * (2 ^ (K + 2 * Q) - x * s ^ 2)
pub record Residual (b K Q x j s : ℕ) (w : ℤ) : Type 0 where
  pub balances : (w *ℤ pos (2 ^ Q)) ≡ (pos (2 ^ (b * j)) *ℤ (pos (2 ^ (K + 2 * Q)) -ℤ pos (x * s ^ 2)))

-- For the operand x, one digit keeps the bound: let S meet it at j, short of the last digit; let S be the start when j is 0, and otherwise
-- a multiple of r ^ -j; let the estimates fall short of r * W and of P = X * S by at least 0 and by less than so many units each. Then S
-- with the selector's digit at its place meets the bound at j + 1. Here S is s / 2 ^ Q, and w and x * s are W and P times 2 ^ (K + Q).
abbrev pub Contains : ℕ → SelectorModel → ℕ → ℕ → ℕ → Type 0
Contains units S K Q x =
    (j s : ℕ) (w Ŵ P̂ : ℤ) → j < digits S Q →
    Contained S.bits S.largest K Q x j s →
    (j ≡ 0 → s ≡ started S K Q x) →
    (0 < j → s % 2 ^ (Q - S.bits * j) ≡ 0) →
    Residual S.bits K Q x j s w →
    Estimates units (K + Q) S.residual_places Ŵ (pos (radix S) *ℤ w) →
    Estimates units (K + Q) S.product_places P̂ (pos (x * s)) →
    (s' : ℕ) × (pos s' ≡ pos s +ℤ S.digit Ŵ P̂ *ℤ pos (2 ^ (Q - S.bits * suc j))) × Contained S.bits S.largest K Q x (suc j) s'

-- Digits have 1 or 2 bits, r / 2 ≤ a < r, the estimates have 0 to 6 places, and digits run from -a to a. For every operand above a quarter
-- the start meets the bound, and every digit keeps it.
pub record LawfulSelector (units : ℕ) (S : SelectorModel) : Type 0 where
  pub bits : (S.bits ≡ 1) ⊎ (S.bits ≡ 2)
  pub half : radix S ≤ 2 * S.largest
  pub under : S.largest < radix S
  pub residual_places : S.residual_places ≤ 6
  pub product_places : S.product_places ≤ 6
  pub least : (Ŵ P̂ : ℤ) → neg_ℤ (pos S.largest) ≤ℤ S.digit Ŵ P̂
  pub most : (Ŵ P̂ : ℤ) → S.digit Ŵ P̂ ≤ℤ pos S.largest
  pub start_contained : (K Q x : ℕ) → Sized K Q → InRange K x → 2 ^ (K - 2) < x → Contained S.bits S.largest K Q x 0 (started S K Q x)
  pub containment : (K Q x : ℕ) → Sized K Q → InRange K x → 2 ^ (K - 2) < x → Contains units S K Q x

-- ---- what the delivered selectors share

-- an estimate beyond 2 ^ 40 units
abbrev pub beyond : ℤ → Bool
beyond z = int_lt z (negsuc (2 ^ 40 - 1)) || int_lt (pos (2 ^ 40)) z

-- 0 where an estimate lies beyond 2 ^ 40 units, which no job's does
abbrev pub guarded : (ℤ → ℤ → ℤ) → ℤ → ℤ → ℤ
guarded f Ŵ P̂ = cond (beyond Ŵ || beyond P̂) (pos 0) (f Ŵ P̂)
