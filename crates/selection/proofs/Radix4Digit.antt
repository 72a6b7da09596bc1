-- One digit of radix 4, from the second on, keeps the containment bound, at the scale of the last digit: S = s / 4 ^ j.
use Rattle.std.proofs.Common.{◌≡◌, ℕ, zero, suc, ◌+◌, ◌-◌, ◌*◌, ◌^◌, ◌<◌, ◌≤◌, Bool, true, false, cond, ℤ, pos, negsuc, ◌+ℤ◌, ◌-ℤ◌, ◌*ℤ◌, ◌≤ℤ◌, ◌<ℤ◌, refl, mul-le-mul_right, mul-le-mul, mul-le-mul_left, pow-suc, arith, lit≤}
use Rattle.std.proofs.lemmas.Nat.{mul-pow}
use native.Mathlib.Nat.{le_dest, one-le-pow}
use lib.Signed.{le_z}
use borrow.Author.Differences.{ints, up, down}
use Rattle.arithmetic.proofs.Ring.{add_*ℤ}
use Rattle.selection.specs.Radix4.{two_from, one_from, zero_from, minus_one_from, choice_4}

-- radix 4, digits -2 to 2: |S - 1/√X| < (2/3) 4^-j, squared and multiplied out
pub record Bound4 (K j x s : ℕ) : Type 0 where
  pub one : 1 ≤ s
  pub low : (3 * s - 2) * (3 * s - 2) * x < 9 * (2 ^ K * 16 ^ j)
  pub high : 9 * (2 ^ K * 16 ^ j) < (3 * s + 2) * (3 * s + 2) * x

-- the residual W = 4^j (1 - X S²) is rest4 / (2^K · 4^j)
abbrev pub rest4 : ℕ → ℕ → ℕ → ℕ → ℤ
rest4 K j x s = pos (2 ^ K * 16 ^ j) -ℤ pos (x * (s * s))

-- w/16 is short of 4W, and p/64 of X S, by at least 0 and less than 2 units
pub record Estimate4 (K j x s p : ℕ) (w : ℤ) : Type 0 where
  pub w_below : (w *ℤ pos (2 ^ K * 4 ^ j)) ≤ℤ (pos 64 *ℤ rest4 K j x s)
  pub w_near : (pos 64 *ℤ rest4 K j x s) <ℤ ((w +ℤ pos 2) *ℤ pos (2 ^ K * 4 ^ j))
  pub p_below : p * (2 ^ K * 4 ^ j) ≤ 64 * (x * s)
  pub p_near : 64 * (x * s) < (p + 2) * (2 ^ K * 4 ^ j)

-- the digit, for a product that is no negative number
abbrev pub digit4 : ℕ → ℤ → ℤ
digit4 p w = choice_4 w (pos p)

-- the next partial result is s' = 4 s + q
abbrev pub Step4 : Type 0
Step4 = (K j x s s' p : ℕ) (w : ℤ) → 1 ≤ j → 2 ^ K ≤ 4 * x → x < 2 ^ K → Bound4 K j x s → Estimate4 K j x s p w → pos s' ≡ pos (4 * s) +ℤ digit4 p w → Bound4 K (suc j) x s'

-- (b - a)(d - c) ≥ 0
cross : (a b c d : ℕ) → a ≤ b → c ≤ d → a * d + b * c ≤ a * c + b * d
cross a b c d h k = let (m, e) = le_dest h in let (n, f) = le_dest k in rw (← e, ← f) (omega arith)

-- squares keep the order
root : (a b : ℕ) → a * a < b * b → a < b
root a b h = omega (arith, big)
  where
    big : b ≤ a → ⊥
    big g = omega (arith, mul-le-mul g g)

-- S is at least 1
pub at_least_one : (P R x s : ℕ) → x < P → 9 * (P * R * R) < (3 * s + 2) * (3 * s + 2) * x → R ≤ s
at_least_one P R x s hx high = omega (arith, root (3 * R) (3 * s + 2) (omega (arith, big)))
  where
    big : (3 * s + 2) * (3 * s + 2) ≤ 3 * R * (3 * R) → ⊥
    big g = omega (arith, mul-le-mul_right x g, mul-le-mul_right (R * R) hx)

-- the bound of s = t + 1 is (3t + 1)²x < 9 P R R < (3t + 5)²x
module _ (P R x t : ℕ) (hP : P ≤ 4 * x) (hx : x < P) (high : 9 * (P * R * R) < (3 * t + 5) * (3 * t + 5) * x) where
  -- R (P + 2x) < (3t + 5) x, by 9 P x ≥ (P + 2x)²
  chord : R * (P + 2 * x) < (3 * t + 5) * x
  chord = root (R * (P + 2 * x)) ((3 * t + 5) * x) (omega (arith, mul-le-mul_right x high, mul-le-mul_right (R * R) sq))
    where
      sq : (P + 2 * x) * (P + 2 * x) ≤ 9 * P * x
      sq = omega (arith, cross P (4 * x) x P (omega arith) (omega arith))

  -- from the second digit on, 28 ≤ p
  p_large : 4 ≤ R → (p : ℕ) → 64 * (x * suc t) < (p + 2) * (P * R) → 28 ≤ p
  p_large r p h = omega (arith, low)
    where
      low : p ≤ 27 → ⊥
      low g = omega (arith, chord, mul-le-mul_right (P * R) g, mul-le-mul_right x r, mul-le-mul_right R hP)

-- what bound and estimates say, where D is P R, α - β is w D and pD is p D
record Near (N D x t pD α β : ℕ) : Type 0 where
  x_pos : 1 ≤ x
  w_below : α + 64 * (x * (suc t * suc t)) ≤ 64 * N + β
  w_near : 64 * N + β < 64 * (x * (suc t * suc t)) + α + 2 * D
  p_below : pD ≤ 64 * (x * suc t)
  p_near : 64 * (x * suc t) < pD + 2 * D
  p_big : 28 * D ≤ pD
  t_big : 4 * x ≤ x * suc t

-- what the comparisons say
module _ (p : ℕ) (w : ℤ) where
  at_two : le_z (two_from (pos p)) w ≡ true → 3 * p + 4 * down w ≤ 4 * up w
  at_two h = omega (arith, ints)

  under_two : le_z (two_from (pos p)) w ≡ false → 4 * up w + 1 ≤ 3 * p + 4 * down w
  under_two h = omega (arith, ints)

  at_one : le_z (one_from (pos p)) w ≡ true → p + 4 * down w ≤ 4 * up w + 2
  at_one h = omega (arith, ints)

  under_one : le_z (one_from (pos p)) w ≡ false → 4 * up w + 3 ≤ p + 4 * down w
  under_one h = omega (arith, ints)

  at_zero : le_z (zero_from (pos p)) w ≡ true → 4 * down w ≤ 4 * up w + p + 1
  at_zero h = omega (arith, ints)

  under_zero : le_z (zero_from (pos p)) w ≡ false → 4 * up w + p + 2 ≤ 4 * down w
  under_zero h = omega (arith, ints)

  at_minus_one : le_z (minus_one_from (pos p)) w ≡ true → 4 * down w ≤ 4 * up w + 3 * p + 3
  at_minus_one h = omega (arith, ints)

  under_minus_one : le_z (minus_one_from (pos p)) w ≡ false → 4 * up w + 3 * p + 4 ≤ 4 * down w
  under_minus_one h = omega (arith, ints)

scale : (K j : ℕ) → 2 ^ K * 16 ^ j ≡ 2 ^ K * 4 ^ j * 4 ^ j
scale K j = rw (mul-pow 4 4 j) (omega arith)

scale_suc : (K j : ℕ) → 9 * (2 ^ K * 16 ^ suc j) ≡ 144 * (2 ^ K * 16 ^ j)
scale_suc K j = rw (pow-suc 16 j) (omega arith)

four_le : (j : ℕ) → 1 ≤ j → 4 ≤ 4 ^ j
four_le zero h = omega arith
four_le (suc j) h = rw (pow-suc 4 j) (omega (arith, one-le-pow j 4 (lit≤ tt)))

build : (K j x t s : ℕ) → s ≡ t + 1 → (3 * t + 1) * (3 * t + 1) * x < 144 * (2 ^ K * 16 ^ j) → 144 * (2 ^ K * 16 ^ j) < (3 * t + 5) * (3 * t + 5) * x → Bound4 K (suc j) x s
build K j x t s e l h =
    let p : 3 * s - 2 ≡ 3 * t + 1 = omega arith in
    let q : 3 * s + 2 ≡ 3 * t + 5 = omega arith in
    record { one = omega arith; low = rw (p, scale_suc K j) l; high = rw (q, scale_suc K j) h }

-- the digit by cases, each with what it says, times D
pub by_digit : (D p : ℕ) (w : ℤ) (G : ℤ → Type 0)
    → (3 * (p * D) + 4 * (down w * D) ≤ 4 * (up w * D) → G (pos 2))
    → ((4 * (up w * D) + D ≤ 3 * (p * D) + 4 * (down w * D)) × (p * D + 4 * (down w * D) ≤ 4 * (up w * D) + 2 * D) → G (pos 1))
    → ((4 * (up w * D) + 3 * D ≤ p * D + 4 * (down w * D)) × (4 * (down w * D) ≤ 4 * (up w * D) + p * D + D) → G (pos 0))
    → ((4 * (up w * D) + p * D + 2 * D ≤ 4 * (down w * D)) × (4 * (down w * D) ≤ 4 * (up w * D) + 3 * (p * D) + 3 * D) → G (negsuc 0))
    → (4 * (up w * D) + 3 * (p * D) + 4 * D ≤ 4 * (down w * D) → G (negsuc 1))
    → G (digit4 p w)
by_digit D p w G a b c d e = go (le_z (two_from (pos p)) w) (le_z (one_from (pos p)) w) (le_z (zero_from (pos p)) w) (le_z (minus_one_from (pos p)) w) refl refl refl refl
  where
    go : (c₂ c₁ d₁ d₂ : Bool) → le_z (two_from (pos p)) w ≡ c₂ → le_z (one_from (pos p)) w ≡ c₁ → le_z (zero_from (pos p)) w ≡ d₁ → le_z (minus_one_from (pos p)) w ≡ d₂ → G (cond c₂ (pos 2) (cond c₁ (pos 1) (cond d₁ (pos 0) (cond d₂ (negsuc 0) (negsuc 1)))))
    go true c₁ d₁ d₂ h₂ h₁ k₁ k₂ = a (omega (arith, mul-le-mul_right D (at_two p w h₂)))
    go false true d₁ d₂ h₂ h₁ k₁ k₂ = b (omega (arith, mul-le-mul_right D (under_two p w h₂), mul-le-mul_right D (at_one p w h₁)))
    go false false true d₂ h₂ h₁ k₁ k₂ = c (omega (arith, mul-le-mul_right D (under_one p w h₁), mul-le-mul_right D (at_zero p w k₁)))
    go false false false true h₂ h₁ k₁ k₂ = d (omega (arith, mul-le-mul_right D (under_zero p w k₁), mul-le-mul_right D (at_minus_one p w k₂)))
    go false false false false h₂ h₁ k₁ k₂ = e (omega (arith, mul-le-mul_right D (under_minus_one p w k₂)))

pub step4 : Step4
step4 K j x zero s' p w hj hP hx b e q = absurd (omega (arith, b.one))
step4 K j x (suc t) s' p w hj hP hx b e q = by_digit (2 ^ K * 4 ^ j) p w (λ z. pos s' ≡ pos (4 * suc t) +ℤ z → Bound4 K (suc j) x s')
    (λ h m. build K j x (4 * t + 5) s' (omega (arith, ints)) (omega (arith, f)) (omega (arith, high, scale K j)))
    (λ h m. build K j x (4 * t + 4) s' (omega (arith, ints)) (omega (arith, f)) (omega (arith, f)))
    (λ h m. build K j x (4 * t + 3) s' (omega (arith, ints)) (omega (arith, f)) (omega (arith, f)))
    (λ h m. build K j x (4 * t + 2) s' (omega (arith, ints)) (omega (arith, f)) (omega (arith, f)))
    (λ h m. build K j x (4 * t + 1) s' (omega (arith, ints)) (omega (arith, low)) (omega (arith, f)))
    q
  where
    low : (3 * t + 1) * (3 * t + 1) * x < 9 * (2 ^ K * 16 ^ j)
    low = let r : 3 * suc t - 2 ≡ 3 * t + 1 = omega arith in rw r at b.low

    high : 9 * (2 ^ K * 4 ^ j * 4 ^ j) < (3 * t + 5) * (3 * t + 5) * x
    high = let r : 3 * suc t + 2 ≡ 3 * t + 5 = omega arith in rw (r, scale K j) at b.high

    near : (pos 64 *ℤ rest4 K j x (suc t)) <ℤ (w *ℤ pos (2 ^ K * 4 ^ j) +ℤ pos 2 *ℤ pos (2 ^ K * 4 ^ j))
    near = rw add_*ℤ at e.w_near

    f : Near (2 ^ K * 16 ^ j) (2 ^ K * 4 ^ j) x t (p * (2 ^ K * 4 ^ j)) (up w * (2 ^ K * 4 ^ j)) (down w * (2 ^ K * 4 ^ j))
    f = record {
      x_pos = omega arith;
      w_below = omega (arith, ints, e.w_below);
      w_near = omega (arith, ints, near);
      p_below = e.p_below;
      p_near = omega (arith, e.p_near);
      p_big = mul-le-mul_right (2 ^ K * 4 ^ j) (p_large (2 ^ K) (4 ^ j) x t hP hx high (four_le j hj) p e.p_near);
      t_big = omega (arith, mul-le-mul_left x (at_least_one (2 ^ K) (4 ^ j) x (suc t) hx (omega (arith, high))), mul-le-mul_left x (four_le j hj));
    }
