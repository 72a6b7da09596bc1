-- The bound and the estimates at the scale of the last digit's place: s = y * v, with v out of every term.
use Rattle.std.proofs.Common.{◌≡◌, ℕ, zero, suc, ◌+◌, ◌-◌, ◌*◌, ◌^◌, ◌<◌, ◌≤◌, [], ◌∷◌, ℤ, pos, negsuc, ◌+ℤ◌, ◌*ℤ◌, neg_ℤ, ◌≤ℤ◌, ◌<ℤ◌, sym, refl, ap, ◌∙◌, mul-le-mul_right, lt_of_mul-lt-mul_right, mul-le-mul_left, mul-pos, le_of_mul-le-mul_right, arith, pow_pos, pow_mono}
use borrow.Author.Differences.{ints, up, down}
use Rattle.arithmetic.specs.Estimates.{shortfall, Estimates}
use Rattle.arithmetic.proofs.Ring.{ring, v, ◌⊕◌, ◌⊗◌, add_*ℤ}
use Rattle.arithmetic.proofs.Powers.{power_of_sum}
use Rattle.arithmetic.proofs.Congruence.{Size}
use Rattle.selection.proofs.Range.{Sides}

-- ---- the bound

pub shrink : (c a e x y M : ℕ) → 0 < e → Sides c a e x (y * e) (M * (e * e)) → Sides c a 1 x y M
shrink c a e x y M e_pos b =
    let reach : a ≤ c * y = le_of_mul-le-mul_right {k = e} (omega (arith, b.over)) e_pos in
    let t = c * y - a in
    let over : c * y ≡ t + a = omega arith in
    let gap : b.gap ≡ t * e = omega (arith, b.over, ap (λ k. k * e) over) in
    let low = rw gap at b.low in
    record {
      gap = t;
      over = omega arith;
      low = lt_of_mul-lt-mul_right (e * e) (omega arith);
      high = lt_of_mul-lt-mul_right (e * e) (omega (arith, b.high));
    }

pub grow : (c a e x y M : ℕ) → 0 < e → Sides c a 1 x y M → Sides c a e x (y * e) (M * (e * e))
grow c a e x y M e_pos b =
    record {
      gap = b.gap * e;
      over = omega (arith, ap (λ k. k * e) b.over);
      low = omega (arith, mul-le-mul_right (e * e) b.low, mul-pos e_pos e_pos);
      high = omega (arith, mul-le-mul_right (e * e) b.high, mul-pos e_pos e_pos);
    }

-- ---- the estimates

-- with R for T * r, α - β for the estimate and ω - δ for w; few factors to a product, for `omega`
module _ (α β ω δ n R D H e A B : ℕ) (unit : D ≡ H * e) (is : n * ω + B * e ≡ A * e + n * δ) where
  core_below : α * D + R * δ ≤ R * ω + β * D → (n * (α * H) + R * B) * e ≤ (R * A + n * (β * H)) * e
  core_below h = omega (arith, mul-le-mul_left n h, ap (λ k. n * (α * k)) unit, ap (λ k. n * (β * k)) unit, ap (λ k. R * k) is)

  core_near : 0 < n → R * ω + β * D < R * δ + α * D + 2 * D → (R * A + n * (β * H)) * e < (R * B + n * (α * H) + 2 * (n * H)) * e
  core_near n_pos h =
      let k : n * (R * ω) + n * (β * D) < n * (R * δ) + n * (α * D) + 2 * (n * D) = omega (arith, mul-le-mul_left n h) in
      let l = rw unit at k in
      let j : R * (n * ω) + R * (B * e) ≡ R * (A * e) + R * (n * δ) = omega (arith, ap (λ k. R * k) is) in
      omega (arith, l, j)

-- n * w = (A - B) * e, and 2 ^ (K + Q) is T units U and also H * e
module _ (E w : ℤ) (n r T U H e A B : ℕ) (e_pos : 0 < e) (n_pos : 0 < n) (T_pos : 0 < T) (unit : T * U ≡ H * e) (is : n * up w + B * e ≡ A * e + n * down w)
    (below : (E *ℤ pos U) ≤ℤ (pos r *ℤ w)) (near : (pos r *ℤ w) <ℤ ((E +ℤ pos 2) *ℤ pos U)) where
  pub estimate_below : n * (up E * H) + T * r * B ≤ T * r * A + n * (down E * H)
  estimate_below =
      let h : up E * U + r * down w ≤ r * up w + down E * U = omega (arith, ints, below) in
      let k : up E * (T * U) + T * r * down w ≤ T * r * up w + down E * (T * U) = omega (arith, mul-le-mul_left T h) in
      le_of_mul-le-mul_right {k = e} (core_below (up E) (down E) (up w) (down w) n (T * r) (T * U) H e A B unit is k) e_pos

  pub estimate_near : T * r * A + n * (down E * H) < T * r * B + n * (up E * H) + 2 * (n * H)
  estimate_near =
      let near' : (pos r *ℤ w) <ℤ (E *ℤ pos U +ℤ pos 2 *ℤ pos U) = rw add_*ℤ at near in
      let h : r * up w + down E * U < r * down w + up E * U + 2 * U = omega (arith, ints, near') in
      let k : T * r * up w + down E * (T * U) < T * r * down w + up E * (T * U) + 2 * (T * U) = omega (arith, mul-le-mul_left T h) in
      lt_of_mul-lt-mul_right e (core_near (up E) (down E) (up w) (down w) n (T * r) (T * U) H e A B unit is n_pos k)

-- an estimate of a number of at most k units of 2 ^ n has at most k * 2 ^ t + 2 units of its own
pub estimate_size : (n t k : ℕ) (E z : ℤ) → t ≤ 6 → 6 ≤ n → Estimates shortfall n t E z → Size (k * 2 ^ n) z → Size (64 * k + 2) E
estimate_size n t k E z t_small n_large e s = go (2 ^ t) (2 ^ (n - t)) (2 ^ n) (pow_mono {j = 6} t_small) (pow_pos (n - t)) full s e.not_over (rw add_*ℤ at e.not_far)
  where
    full : 2 ^ n ≡ 2 ^ t * 2 ^ (n - t)
    full = power_of_sum n t (n - t) (omega arith)

    go : (T U D : ℕ) → T ≤ 64 → 0 < U → D ≡ T * U → Size (k * D) z → (E *ℤ pos U) ≤ℤ z → z <ℤ (E *ℤ pos U +ℤ pos 2 *ℤ pos U) → Size (64 * k + 2) E
    go T U D T_small U_pos d s below near =
        let big : k * D ≤ 64 * k * U = omega (arith, ap (λ i. k * i) d, mul-le-mul_left (k * U) T_small) in
        record {
          at_most = le_of_mul-le-mul_right {k = U} (omega (arith, ints, below, s.at_most)) U_pos;
          at_least = le_of_mul-le-mul_right {k = U} (omega (arith, ints, near, s.at_least)) U_pos;
        }

-- ---- the next partial result

pub natural : (n a : ℕ) (q : ℤ) → a ≤ n → neg_ℤ (pos a) ≤ℤ q → (y : ℕ) × (pos y ≡ pos n +ℤ q)
natural n a q h l = go (pos n +ℤ q) refl
  where
    go : (z : ℤ) → pos n +ℤ q ≡ z → (y : ℕ) × (pos y ≡ pos n +ℤ q)
    go (pos y) e = (y, sym e)
    go (negsuc y) e = absurd (omega (arith, ints))

pub moved : (y y' r p s : ℕ) (q : ℤ) → s ≡ y * (r * p) → pos y' ≡ pos (r * y) +ℤ q → pos (y' * p) ≡ pos s +ℤ q *ℤ pos p
moved y y' r p s q e f = ap (λ z. z *ℤ pos p) f ∙ ring (pos y ∷ pos r ∷ pos p ∷ q ∷ []) ((v 1 ⊗ v 0 ⊕ v 3) ⊗ v 2) (v 0 ⊗ (v 1 ⊗ v 2) ⊕ v 3 ⊗ v 2) refl ∙ ap (λ t. pos t +ℤ q *ℤ pos p) (sym e)

-- ---- the residual

-- n * w = (M - x * y ^ 2) * e
pub rest_is : (n e x y M : ℕ) (w : ℤ) → 0 < e → up w * (n * e) + x * (y * e * (y * e)) ≡ M * (e * e) + down w * (n * e) → n * up w + x * (y * y) * e ≡ M * e + n * down w
rest_is n e x y M w e_pos h = native.Mathlib.Nat.eq_of_mul-eq-mul_right e e_pos (n * up w + x * (y * y) * e) (M * e + n * down w) (omega arith)

-- ---- the product's estimate

module _ (p x s y U H e : ℕ) (e_pos : 0 < e) (unit : 64 * U ≡ H * e) (s_is : s ≡ y * e) where
  pub product_below : (pos p *ℤ pos U) ≤ℤ pos (x * s) → p * H ≤ 64 * (x * y)
  product_below h =
      let k : p * U ≤ x * s = omega (arith, ints, h) in
      le_of_mul-le-mul_right {k = e} (omega (arith, ap (λ t. p * t) unit, ap (λ t. x * t) s_is)) e_pos

  pub product_near : pos (x * s) <ℤ ((pos p +ℤ pos 2) *ℤ pos U) → 64 * (x * y) < (p + 2) * H
  product_near h =
      let k : x * s < (p + 2) * U = omega (arith, ints, h) in
      lt_of_mul-lt-mul_right e (omega (arith, ap (λ t. (p + 2) * t) unit, ap (λ t. x * t) s_is))

-- where the product is at least a unit of its estimate, the estimate is no negative number
pub estimate_natural : (P̂ : ℤ) (U n : ℕ) → U ≤ n → pos n <ℤ ((P̂ +ℤ pos 2) *ℤ pos U) → (p : ℕ) × (P̂ ≡ pos p)
estimate_natural (pos p) U n h l = (p, refl)
estimate_natural (negsuc zero) U n h l = absurd (omega (arith, ints))
estimate_natural (negsuc (suc k)) U n h l = absurd (omega (arith, ints, rw add_*ℤ at l))
