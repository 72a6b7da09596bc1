-- The containment bound over plain numbers, and the sizes that it gives to partial result and residual.
use Rattle.std.proofs.Common.{◌≡◌, ℕ, suc, ◌+◌, ◌-◌, ◌*◌, ◌^◌, ◌<◌, ◌≤◌, ℤ, pos, ◌-ℤ◌, ◌*ℤ◌, sym, ap, ◌∙◌, mul-le-mul_right, mul-le-mul, mul-le-mul_left, arith, pow_pos, pow_mono, pow-add}
use borrow.Author.Differences.{ints, up, down}
use Rattle.arithmetic.proofs.Congruence.{Size}
use Rattle.arithmetic.proofs.Powers.{power_of_sum}
use Rattle.arithmetic.proofs.Squares.{square}
use Rattle.selection.specs.Operands.{Sized, InRange, Contained}
use Rattle.selection.specs.Selectors.{Residual}

-- the bound with c for r - 1, v for 2 ^ (Q - b * j) and N for 2 ^ (K + 2 * Q): gap is c * s - a * v
pub record Sides (c a v x s N : ℕ) : Type 0 where
  pub gap : ℕ
  pub over : c * s ≡ gap + a * v
  pub low : gap * gap * x < c * c * N
  pub high : c * c * N < (c * s + a * v) * (c * s + a * v) * x

-- 2 ^ (K + 2 * Q)
pub whole : (K Q : ℕ) → 2 ^ (K + 2 * Q) ≡ 2 ^ K * (2 ^ Q * 2 ^ Q)
whole K Q = pow-add 2 K (2 * Q) ∙ ap (λ k. 2 ^ K * k) (power_of_sum (2 * Q) Q Q (omega arith))

scaled : (K Q c : ℕ) → 2 ^ K * (c * 2 ^ Q) ^ 2 ≡ c * c * 2 ^ (K + 2 * Q)
scaled K Q c = rw (square (c * 2 ^ Q), whole K Q) (omega arith)

pub opens : (b a K Q x j s : ℕ) → Contained b a K Q x j s → Sides (2 ^ b - 1) a (2 ^ (Q - b * j)) x s (2 ^ (K + 2 * Q))
opens b a K Q x j s h = let r = go (2 ^ b - 1) (a * 2 ^ (Q - b * j)) h.reach h.low h.high in record { gap = r.gap; over = r.over; low = r.low; high = r.high }
  where
    go : (c z : ℕ) → z ≤ c * s → (c * s - z) ^ 2 * x < 2 ^ K * (c * 2 ^ Q) ^ 2 → 2 ^ K * (c * 2 ^ Q) ^ 2 < (c * s + z) ^ 2 * x →
        record { gap : ℕ; over : c * s ≡ gap + z; low : gap * gap * x < c * c * 2 ^ (K + 2 * Q); high : c * c * 2 ^ (K + 2 * Q) < (c * s + z) * (c * s + z) * x }
    go c z r l h = record { gap = c * s - z; over = omega arith; low = rw (square (c * s - z), scaled K Q c) at l; high = rw (square (c * s + z), scaled K Q c) at h }

pub shuts : (b a K Q x j s : ℕ) → Sides (2 ^ b - 1) a (2 ^ (Q - b * j)) x s (2 ^ (K + 2 * Q)) → Contained b a K Q x j s
shuts b a K Q x j s h =
    let c = 2 ^ b - 1 in
    let z = a * 2 ^ (Q - b * j) in
    let e : c * s - z ≡ h.gap = omega (arith, h.over) in
    record {
      reach = omega (arith, h.over);
      low = rw (e, square h.gap, scaled K Q c) h.low;
      high = rw (square (c * s + z), scaled K Q c) h.high;
    }

-- G is 2 ^ Q and P is 2 ^ K
module _ (c a v x s P G : ℕ) (c_pos : 1 ≤ c) (a_small : a ≤ c) (v_small : v ≤ G) (quarter : P ≤ 4 * x) (b : Sides c a v x s (P * (G * G))) where
  -- S is at most 3
  pub narrow : s ≤ 3 * G
  narrow = omega (arith, big)
    where
      big : 3 * G ≤ s → ⊥
      big h =
          let g : 2 * (c * G) ≤ b.gap = omega (arith, b.over, mul-le-mul_left c h, mul-le-mul a_small v_small) in
          omega (arith, b.low, mul-le-mul_right x (mul-le-mul g g), mul-le-mul_left (c * c * (G * G)) quarter)

-- the residual w with w * v = N - x * s ^ 2
module _ (c a v x s N : ℕ) (w : ℤ) (c_pos : 1 ≤ c) (v_pos : 1 ≤ v) (a_small : a ≤ c) (b : Sides c a v x s N) (is : up w * v + x * (s * s) ≡ N + down w * v) where
  pub not_above : up w < (2 * s + v) * x + down w
  not_above = omega (arith, big)
    where
      big : (2 * s + v) * x + down w ≤ up w → ⊥
      big h =
          let l : c * s + a * v ≤ c * (s + v) = omega (arith, mul-le-mul_right v a_small) in
          let m : x * ((s + v) * (s + v)) ≤ N = omega (arith, mul-le-mul_right v h) in
          omega (arith, b.high, mul-le-mul_right x (mul-le-mul l l), mul-le-mul_left (c * c) m)

  pub not_below : down w < (2 * s + v) * x + up w
  not_below = omega (arith, big)
    where
      big : (2 * s + v) * x + up w ≤ down w → ⊥
      big h =
          let m : N + (2 * s + v) * x * v ≤ x * (s * s) = omega (arith, mul-le-mul_right v h) in
          let k : c * c * N + c * c * ((2 * s + v) * x * v) ≤ x * ((b.gap + a * v) * (b.gap + a * v)) = rw (← b.over) (omega (arith, mul-le-mul_left (c * c) m)) in
          let n : (b.gap + a * v) * (2 * (a * v) * x) ≤ c * s * (2 * (c * v) * x) = rw b.over (omega (arith, mul-le-mul_left ((b.gap + a * v) * v * x) a_small)) in
          omega (arith, b.low, k, n)

-- ---- the same at the operand's scale

-- what a width, a number of places and an operand say in plain numbers
pub record Plain (K Q x : ℕ) : Type 0 where
  pub operand : x < 2 ^ K
  pub some : 0 < x
  pub quarter : 2 ^ K ≤ 4 * x
  pub half : 2 ^ Q ≡ 4 * 2 ^ (Q - 2)
  pub place : 2 ^ Q ≤ 2 ^ 28
  pub unit : 2 ^ (K + Q) ≡ 2 ^ K * 2 ^ Q
  pub unit_small : 2 ^ (K + Q) ≤ 2 ^ 56
  pub width_small : 2 ^ K ≤ 2 ^ 28

pub plain : (K Q x : ℕ) → Sized K Q → InRange K x → Plain K Q x
plain K Q x z r =
    let k : 2 ^ K ≡ 4 * 2 ^ (K - 2) = power_of_sum K 2 (K - 2) (omega (arith, z.width.0)) in
    let p : 2 ^ Q ≡ 4 * 2 ^ (Q - 2) = power_of_sum Q 2 (Q - 2) (omega (arith, z.places.0)) in
    let s : K + Q ≤ 56 = omega (arith, z.width.1, z.places.1) in
    record {
      operand = r.below_one;
      some = omega (arith, r.quarter, pow_pos (K - 2));
      quarter = omega (arith, r.quarter);
      half = p;
      place = pow_mono z.places.1;
      unit = pow-add 2 K Q;
      unit_small = pow_mono s;
      width_small = pow_mono z.width.1;
    }

-- an operand above the quarter
pub above_quarter : (K Q x : ℕ) → Sized K Q → 2 ^ (K - 2) < x → 2 ^ K < 4 * x
above_quarter K Q x z h = omega (arith, power_of_sum K 2 (K - 2) (omega (arith, z.width.0)))

-- b * j places made of Q
pub split : (b Q j : ℕ) → b * j ≤ Q → 2 ^ (b * j) * 2 ^ (Q - b * j) ≡ 2 ^ Q
split b Q j h = sym (power_of_sum Q (b * j) (Q - b * j) (omega arith))

pub next_place : (b Q j : ℕ) → b * suc j ≤ Q → 2 ^ (Q - b * j) ≡ 2 ^ b * 2 ^ (Q - b * suc j)
next_place b Q j h = power_of_sum (Q - b * j) b (Q - b * suc j) (omega arith)

pub next_power : (b j : ℕ) → 2 ^ (b * suc j) ≡ 2 ^ b * 2 ^ (b * j)
next_power b j = power_of_sum (b * suc j) b (b * j) (omega arith)

-- the residual in plain numbers, with its power of two taken out
pub balanced : (b K Q x j s : ℕ) (w : ℤ) → b * j ≤ Q → Residual b K Q x j s w → up w * 2 ^ (Q - b * j) + x * (s * s) ≡ 2 ^ (K + 2 * Q) + down w * 2 ^ (Q - b * j)
balanced b K Q x j s w h r = go (2 ^ (b * j)) (2 ^ (Q - b * j)) (2 ^ Q) (2 ^ (K + 2 * Q)) (pow_pos (b * j)) (split b Q j h) (rw (square s) at r.balances)
  where
    go : (g v G N : ℕ) → 0 < g → g * v ≡ G → w *ℤ pos G ≡ pos g *ℤ (pos N -ℤ pos (x * (s * s))) → up w * v + x * (s * s) ≡ N + down w * v
    go g v G N g_pos e r = native.Mathlib.Nat.eq_of_mul-eq-mul_left g g_pos (up w * v + x * (s * s)) (N + down w * v) (omega (arith, ints, r, ap (λ k. up w * k) e, ap (λ k. down w * k) e, sum))
      where
        d : ℤ
        d = pos N -ℤ pos (x * (s * s))

        sum : g * (up d + x * (s * s)) ≡ g * (N + down d)
        sum = ap (λ k. g * k) (omega (arith, ints))

-- residual and product below seven and three units
pub residual_size : (b a K Q x j s : ℕ) (w : ℤ) → Plain K Q x → 1 ≤ b → a < 2 ^ b → b * j ≤ Q → Contained b a K Q x j s → Residual b K Q x j s w → (s ≤ 3 * 2 ^ Q) × Size (7 * 2 ^ (K + Q)) w
residual_size b a K Q x j s w p b_pos a_small h c r =
    let v = 2 ^ (Q - b * j) in
    let two : 2 ^ 1 ≤ 2 ^ b = pow_mono b_pos in
    let c_pos : 1 ≤ 2 ^ b - 1 = omega arith in
    let a_le : a ≤ 2 ^ b - 1 = omega arith in
    let v_pos : 1 ≤ v = pow_pos (Q - b * j) in
    let v_le : v ≤ 2 ^ Q = pow_mono (native.Mathlib.Nat.sub-le Q (b * j)) in
    let o = opens b a K Q x j s c in
    let o' : Sides (2 ^ b - 1) a v x s (2 ^ K * (2 ^ Q * 2 ^ Q)) = rw (whole K Q) at o in
    let n : s ≤ 3 * 2 ^ Q = narrow (2 ^ b - 1) a v x s (2 ^ K) (2 ^ Q) c_pos a_le v_le p.quarter o' in
    let i = balanced b K Q x j s w h r in
    let k : (2 * s + v) * x ≤ 7 * 2 ^ (K + Q) = top (2 ^ Q) (2 ^ K) (2 ^ (K + Q)) s v n v_le p.unit p.operand in
    (n, record { at_most = omega (arith, not_above (2 ^ b - 1) a v x s (2 ^ (K + 2 * Q)) w c_pos v_pos a_le o i, k); at_least = omega (arith, not_below (2 ^ b - 1) a v x s (2 ^ (K + 2 * Q)) w c_pos v_pos a_le o i, k) })
  where
    top : (G P D s v : ℕ) → s ≤ 3 * G → v ≤ G → D ≡ P * G → x < P → (2 * s + v) * x ≤ 7 * D
    top G P D s v n l e o = let f : 2 * s + v ≤ 7 * G = omega arith in let x_le : x ≤ P = omega arith in omega (arith, mul-le-mul f x_le)
