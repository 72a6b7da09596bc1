-- One digit of radix 2 keeps the containment bound, at the scale of the last digit: S = s / 2 ^ j.
use Rattle.std.proofs.Common.{◌≡◌, ℕ, zero, suc, ◌+◌, ◌-◌, ◌*◌, ◌^◌, ◌<◌, ◌≤◌, Bool, true, false, cond, ℤ, pos, negsuc, ◌+ℤ◌, ◌-ℤ◌, ◌*ℤ◌, ◌≤ℤ◌, ◌<ℤ◌, refl, mul-le-mul_right, mul-le-mul, mul-le-mul_left, mul-pos, pow-suc, arith, pow_pos}
use Rattle.std.proofs.lemmas.Nat.{mul-pow}
use lib.Signed.{le_z}
use borrow.Author.Differences.{ints, le_out, lt_out}
use Rattle.arithmetic.proofs.Ring.{add_*ℤ}
use Rattle.selection.specs.Radix2.{down_from, up_from, choice_2}

-- radix 2: |S - 1/√X| < 2^-j, squared and multiplied out
pub record Bound2 (K j x s : ℕ) : Type 0 where
  pub one : 1 ≤ s
  pub low : (s - 1) * (s - 1) * x < 2 ^ K * 4 ^ j
  pub high : 2 ^ K * 4 ^ j < (s + 1) * (s + 1) * x

-- the residual W = 2^j (1 - X S²) is rest2 / (2^K · 2^j)
abbrev pub rest2 : ℕ → ℕ → ℕ → ℕ → ℤ
rest2 K j x s = pos (2 ^ K * 4 ^ j) -ℤ pos (x * (s * s))

-- w/4 is short of 2W by at least 0 and less than 2/4
pub record Estimate2 (K j x s : ℕ) (w : ℤ) : Type 0 where
  pub below : (w *ℤ pos (2 ^ K * 2 ^ j)) ≤ℤ (pos 8 *ℤ rest2 K j x s)
  pub near : (pos 8 *ℤ rest2 K j x s) <ℤ ((w +ℤ pos 2) *ℤ pos (2 ^ K * 2 ^ j))

abbrev pub digit2 : ℤ → ℤ
digit2 w = choice_2 w (pos 0)

-- the next partial result is s' = 2 s + q
abbrev pub Step2 : Type 0
Step2 = (K j x s s' : ℕ) (w : ℤ) → 0 < x → 2 ^ K ≤ 4 * x → x < 2 ^ K → Bound2 K j x s → Estimate2 K j x s w → pos s' ≡ pos (2 * s) +ℤ digit2 w → Bound2 K (suc j) x s'

-- N is P·R·R, the bound of s = t + 1 is t²x < N < (t + 2)²x
-- R ≤ t + 1
large : (P R x t : ℕ) → x < P → P * R * R < (t + 2) * (t + 2) * x → R ≤ t + 1
large P R x t h k = omega (arith, big)
  where
    big : t + 2 ≤ R → ⊥
    big g = omega (arith, mul-le-mul_right x (mul-le-mul g g), mul-le-mul_right (R * R) h)

-- the digit 0: -1/8 ≤ W < 1/4
zero_low : (P R x t : ℕ) → 0 < x → P ≤ 4 * x → R ≤ t + 1 → 8 * (x * ((t + 1) * (t + 1))) ≤ 8 * (P * R * R) + P * R → (2 * t + 1) * (2 * t + 1) * x < 4 * (P * R * R)
zero_low P R x t p h g e = omega (arith, mul-le-mul_right R h, mul-le-mul_left x g)

zero_high : (P R x t : ℕ) → 0 < x → P ≤ 4 * x → R ≤ t + 1 → 8 * (P * R * R) < 8 * (x * ((t + 1) * (t + 1))) + 2 * (P * R) → 4 * (P * R * R) < (2 * t + 3) * (2 * t + 3) * x
zero_high P R x t p h g e = omega (arith, mul-le-mul_right R h, mul-le-mul_left x g)

-- what the estimate says of 8 (N - M), where D is 2^K 2^j
module _ (N M D : ℕ) (w : ℤ) (D_pos : 1 ≤ D) (below : (w *ℤ pos D) ≤ℤ (pos 8 *ℤ (pos N -ℤ pos M))) (near : (pos 8 *ℤ (pos N -ℤ pos M)) <ℤ (w *ℤ pos D +ℤ pos 2 *ℤ pos D)) where
  when_up : up_from ≤ℤ w → M < N
  when_up h = omega (arith, ints, mul-le-mul_right D (le_out up_from w h))

  when_down : w ≤ℤ down_from → N < M
  when_down h = omega (arith, ints, mul-le-mul_right D (le_out w down_from h))

  when_still : down_from <ℤ w → w <ℤ up_from → (8 * M ≤ 8 * N + D) × (8 * N < 8 * M + 2 * D)
  when_still h k = omega (arith, ints, mul-le-mul_right D (lt_out down_from w h), mul-le-mul_right D (lt_out w up_from k))

-- 2^K 4^j, by powers of 2
scale : (K j : ℕ) → 2 ^ K * 4 ^ j ≡ 2 ^ K * 2 ^ j * 2 ^ j
scale K j = rw (mul-pow 2 2 j) (omega arith)

scale_suc : (K j : ℕ) → 2 ^ K * 4 ^ suc j ≡ 4 * (2 ^ K * 2 ^ j * 2 ^ j)
scale_suc K j = rw (pow-suc 4 j) (omega (arith, scale K j))

build : (K j x t s : ℕ) → s ≡ t + 1 → t * t * x < 4 * (2 ^ K * 2 ^ j * 2 ^ j) → 4 * (2 ^ K * 2 ^ j * 2 ^ j) < (t + 2) * (t + 2) * x → Bound2 K (suc j) x s
build K j x t s e l h =
    let p : s - 1 ≡ t = omega arith in
    let q : s + 1 ≡ t + 2 = omega arith in
    record { one = omega arith; low = rw (p, scale_suc K j) l; high = rw (q, scale_suc K j) h }

-- the three digits
module _ (K j x t : ℕ) (hp : 0 < x) (hP : 2 ^ K ≤ 4 * x) (hx : x < 2 ^ K) (low : t * t * x < 2 ^ K * 2 ^ j * 2 ^ j) (high : 2 ^ K * 2 ^ j * 2 ^ j < (t + 2) * (t + 2) * x) where
  digit_up : (s' : ℕ) → s' ≡ 2 * t + 3 → x * (suc t * suc t) < 2 ^ K * 4 ^ j → Bound2 K (suc j) x s'
  digit_up s' e h = build K j x (2 * t + 2) s' (omega arith) (omega (arith, scale K j)) (omega arith)

  digit_down : (s' : ℕ) → s' ≡ 2 * t + 1 → 2 ^ K * 4 ^ j < x * (suc t * suc t) → Bound2 K (suc j) x s'
  digit_down s' e h = build K j x (2 * t) s' (omega arith) (omega arith) (omega (arith, scale K j))

  digit_zero : (s' : ℕ) → s' ≡ 2 * t + 2 → 8 * (x * (suc t * suc t)) ≤ 8 * (2 ^ K * 4 ^ j) + 2 ^ K * 2 ^ j → 8 * (2 ^ K * 4 ^ j) < 8 * (x * (suc t * suc t)) + 2 * (2 ^ K * 2 ^ j) → Bound2 K (suc j) x s'
  digit_zero s' e h k =
      let g = large (2 ^ K) (2 ^ j) x t hx high in
      build K j x (2 * t + 1) s' (omega arith) (zero_low (2 ^ K) (2 ^ j) x t hp hP g (omega (arith, scale K j))) (omega (arith, zero_high (2 ^ K) (2 ^ j) x t hp hP g (omega (arith, scale K j))))

pub step2 : Step2
step2 K j x zero s' w hp hP hx b e q = absurd (omega (arith, b.one))
step2 K j x (suc t) s' w hp hP hx b e q = go (le_z w down_from) (le_z up_from w) refl refl q
  where
    D_pos : 1 ≤ 2 ^ K * 2 ^ j
    D_pos = mul-pos (pow_pos K) (pow_pos j)

    low : t * t * x < 2 ^ K * 2 ^ j * 2 ^ j
    low = let p : suc t - 1 ≡ t = omega arith in rw (p, scale K j) at b.low

    high : 2 ^ K * 2 ^ j * 2 ^ j < (t + 2) * (t + 2) * x
    high = let p : suc t + 1 ≡ t + 2 = omega arith in rw (p, scale K j) at b.high

    near : (pos 8 *ℤ rest2 K j x (suc t)) <ℤ (w *ℤ pos (2 ^ K * 2 ^ j) +ℤ pos 2 *ℤ pos (2 ^ K * 2 ^ j))
    near = rw add_*ℤ at e.near

    go : (c d : Bool) → le_z w down_from ≡ c → le_z up_from w ≡ d → pos s' ≡ pos (2 * suc t) +ℤ cond c (negsuc 0) (cond d (pos 1) (pos 0)) → Bound2 K (suc j) x s'
    go true d p r m = digit_down K j x t hp hP hx low high s' (omega (arith, ints)) (when_down (2 ^ K * 4 ^ j) (x * (suc t * suc t)) (2 ^ K * 2 ^ j) w D_pos e.below near (grind (arith, ints)))
    go false true p r m = digit_up K j x t hp hP hx low high s' (omega (arith, ints)) (when_up (2 ^ K * 4 ^ j) (x * (suc t * suc t)) (2 ^ K * 2 ^ j) w D_pos e.below near (grind (arith, ints)))
    go false false p r m = let h = when_still (2 ^ K * 4 ^ j) (x * (suc t * suc t)) (2 ^ K * 2 ^ j) w D_pos e.below near (grind (arith, ints)) (grind (arith, ints)) in digit_zero K j x t hp hP hx low high s' (omega (arith, ints)) h.0 h.1
