-- Radix 2 from the start 3/2 is a lawful selector. From the second digit on it is radix 2 itself.
use Rattle.std.proofs.Common.{◌≡◌, ℕ, zero, suc, ◌+◌, ◌-◌, ◌*◌, ◌^◌, ◌<◌, ◌≤◌, Bool, true, false, cond, ◌||◌, ℤ, pos, negsuc, ◌+ℤ◌, ◌*ℤ◌, neg_ℤ, ◌≤ℤ◌, ◌<ℤ◌, sym, refl, ap, ◌∙◌, mul-le-mul_right, lt_of_mul-lt-mul_right, le_of_mul-le-mul_right, arith, pow_pos, pow-add}
use native.Mathlib.Nat.{eq_of_mul-eq-mul_right}
use lib.Signed.{le_z}
use borrow.Author.Differences.{ints, up, down, le_out, lt_out}
use Rattle.arithmetic.specs.Estimates.{shortfall, Estimates}
use Rattle.arithmetic.proofs.Powers.{power_of_sum}
use Rattle.arithmetic.proofs.Ring.{add_*ℤ}
use Rattle.selection.specs.Operands.{Sized, InRange, Contained}
use Rattle.selection.specs.Selectors.{Residual, LawfulSelector, Contains, beyond, guarded}
use Rattle.selection.specs.Radix2.{down_from, up_from, choice_2, radix_2}
use Rattle.selection.proofs.Range.{plain, whole, Sides, shuts, balanced}
use Rattle.selection.proofs.Scale.{natural}
use Rattle.selection.proofs.Guard.{guard_still}
use Rattle.selection.proofs.Radix2Digit.{Bound2}
use Rattle.selection.proofs.Radix2Lawful.{contained}
use Rattle.foreign.specs.MiddleStart.{middle_start}

-- ---- the estimate of the first residual, with P for 2 ^ K, H for 2 ^ (Q - 1) and U for its unit

module _ (P H x U : ℕ) (w E : ℤ) (H_pos : 0 < H) (unit : 2 * U ≡ P * H) (is : up w * (2 * H) + x * (3 * H * (3 * H)) ≡ P * (2 * H * (2 * H)) + down w * (2 * H))
    (below : (E *ℤ pos U) ≤ℤ (pos 2 *ℤ w)) (near : (pos 2 *ℤ w) <ℤ (E *ℤ pos U +ℤ pos 2 *ℤ pos U)) where
  rest : 2 * up w + 9 * (x * H) ≡ 4 * (P * H) + 2 * down w
  rest = eq_of_mul-eq-mul_right H H_pos (2 * up w + 9 * (x * H)) (4 * (P * H) + 2 * down w) (omega arith)

  estimate_below : up E * P + 18 * x ≤ 8 * P + down E * P
  estimate_below = le_of_mul-le-mul_right {k = H} (omega (arith, ints, rest, ap (λ k. up E * k) unit, ap (λ k. down E * k) unit)) H_pos

  estimate_near : 8 * P + down E * P < up E * P + 18 * x + 2 * P
  estimate_near = lt_of_mul-lt-mul_right H (omega (arith, ints, rest, unit, ap (λ k. up E * k) unit, ap (λ k. down E * k) unit))

-- ---- the first digit

module _ (K x : ℕ) (E : ℤ) (some : 0 < x) (quarter : 2 ^ K ≤ 4 * x) (operand : x < 2 ^ K) (below : up E * 2 ^ K + 18 * x ≤ 8 * 2 ^ K + down E * 2 ^ K)
    (near : 8 * 2 ^ K + down E * 2 ^ K < up E * 2 ^ K + 18 * x + 2 * 2 ^ K) where
  first_digit : (y : ℕ) → pos y ≡ pos 3 +ℤ choice_2 E (pos 0) → Bound2 K 1 x y
  first_digit y e = go (le_z E down_from) (le_z up_from E) refl refl e
    where
      go : (c d : Bool) → le_z E down_from ≡ c → le_z up_from E ≡ d → pos y ≡ pos 3 +ℤ cond c (negsuc 0) (cond d (pos 1) (pos 0)) → Bound2 K 1 x y
      go true d p r m =
          let l : E ≤ℤ down_from = grind (arith, ints) in
          let k = mul-le-mul_right (2 ^ K) (le_out E down_from l) in
          let is : y ≡ 2 = omega (arith, ints) in
          rw is (record { one = omega arith; low = omega arith; high = omega (arith, k) })
      go false true p r m =
          let l : up_from ≤ℤ E = grind (arith, ints) in
          let k = mul-le-mul_right (2 ^ K) (le_out up_from E l) in
          let is : y ≡ 4 = omega (arith, ints) in
          rw is (record { one = omega arith; low = omega (arith, k); high = omega arith })
      go false false p r m =
          let l : down_from <ℤ E = grind (arith, ints) in
          let h : E <ℤ up_from = grind (arith, ints) in
          let k = mul-le-mul_right (2 ^ K) (lt_out down_from E l) in
          let n = mul-le-mul_right (2 ^ K) (lt_out E up_from h) in
          let is : y ≡ 3 = omega (arith, ints) in
          rw is (record { one = omega arith; low = omega (arith, k, n); high = omega (arith, k, n) })

-- ---- the laws

-- 2 ^ Q in halves
half : (Q : ℕ) → 2 ≤ Q → 2 ^ Q ≡ 2 * 2 ^ (Q - 1)
half Q h = power_of_sum Q 1 (Q - 1) (omega arith)

start : (K Q x : ℕ) → Sized K Q → InRange K x → 2 ^ (K - 2) < x → Contained 1 1 K Q x 0 (3 * 2 ^ (Q - 1))
start K Q x sized range above =
    let P = plain K Q x sized range in
    let H = 2 ^ (Q - 1) in
    let n : Q - 1 * 0 ≡ Q = omega arith in
    let v : 2 ^ (Q - 1 * 0) ≡ 2 * 2 ^ (Q - 1) = ap (λ k. 2 ^ k) n ∙ half Q sized.places.0 in
    let N : 2 ^ (K + 2 * Q) ≡ 2 ^ K * (2 * 2 ^ (Q - 1) * (2 * 2 ^ (Q - 1))) = whole K Q ∙ ap (λ k. 2 ^ K * (k * k)) (half Q sized.places.0) in
    shuts 1 1 K Q x 0 (3 * 2 ^ (Q - 1)) (rw (v, N) (sides (2 ^ (Q - 1)) (2 ^ K) (pow_pos (Q - 1)) P.some P.operand P.quarter))
  where
    sides : (H P : ℕ) → 0 < H → 0 < x → x < P → P ≤ 4 * x → Sides 1 1 (2 * H) x (3 * H) (P * (2 * H * (2 * H)))
    sides H P h o l q =
        record {
          gap = H;
          over = omega arith;
          low = omega (arith, native.Mathlib.Nat.mul-lt-mul_of_pos_right {m = x} {n = 4 * P} (omega arith) (native.Mathlib.Nat.mul-pos h h));
          high = omega (arith, native.Mathlib.Nat.mul-lt-mul_of_pos_right {m = 4 * P} {n = 25 * x} (omega arith) (native.Mathlib.Nat.mul-pos h h));
        }

module _ (K Q x s : ℕ) (w Ŵ P̂ : ℤ) (sized : Sized K Q) (range : InRange K x) (c : Contained 1 1 K Q x 0 s) (s_is : s ≡ 3 * 2 ^ (Q - 1)) (r : Residual 1 K Q x 0 s w)
    (eW : Estimates shortfall (K + Q) 2 Ŵ (pos (2 ^ 1) *ℤ w)) (eP : Estimates shortfall (K + Q) 0 P̂ (pos (x * s))) where
  first : (s' : ℕ) × (pos s' ≡ pos s +ℤ guarded choice_2 Ŵ P̂ *ℤ pos (2 ^ (Q - 1 * 1))) × Contained 1 1 K Q x 1 s'
  first =
      let P = plain K Q x sized range in
      let place : Q - 1 * 1 ≡ Q - 1 = omega arith in
      let none : Q - 1 * 0 ≡ Q = omega arith in
      let v : 2 ^ (Q - 1 * 0) ≡ 2 * 2 ^ (Q - 1) = ap (λ k. 2 ^ k) none ∙ half Q sized.places.0 in
      let N : 2 ^ (K + 2 * Q) ≡ 2 ^ K * (2 * 2 ^ (Q - 1) * (2 * 2 ^ (Q - 1))) = whole K Q ∙ ap (λ k. 2 ^ K * (k * k)) (half Q sized.places.0) in
      let is : up w * (2 * 2 ^ (Q - 1)) + x * (3 * 2 ^ (Q - 1) * (3 * 2 ^ (Q - 1))) ≡ 2 ^ K * (2 * 2 ^ (Q - 1) * (2 * 2 ^ (Q - 1))) + down w * (2 * 2 ^ (Q - 1)) =
      rw (s_is, v, N) at (balanced 1 K Q x 0 s w (omega arith) r) in
      let four : 4 * 2 ^ (K + Q - 2) ≡ 2 ^ K * (2 * 2 ^ (Q - 1)) = sym (power_of_sum (K + Q) 2 (K + Q - 2) (omega (arith, sized.width.0))) ∙ pow-add 2 K Q ∙ ap (λ k. 2 ^ K * k) (half Q sized.places.0) in
      let unit : 2 * 2 ^ (K + Q - 2) ≡ 2 ^ K * 2 ^ (Q - 1) = omega arith in
      let near : (pos 2 *ℤ w) <ℤ (Ŵ *ℤ pos (2 ^ (K + Q - 2)) +ℤ pos 2 *ℤ pos (2 ^ (K + Q - 2))) = rw add_*ℤ at eW.not_far in
      let low = estimate_below (2 ^ K) (2 ^ (Q - 1)) x (2 ^ (K + Q - 2)) w Ŵ (pow_pos (Q - 1)) unit is eW.not_over near in
      let high = estimate_near (2 ^ K) (2 ^ (Q - 1)) x (2 ^ (K + Q - 2)) w Ŵ (pow_pos (Q - 1)) unit is eW.not_over near in
      let still : (beyond Ŵ || beyond P̂) ≡ false = guard_still 1 1 2 0 K Q x 0 s w Ŵ P̂ sized range (omega arith) (omega arith) (omega arith) (omega arith) (omega arith) (omega arith) c r eW eP in
      let q : guarded choice_2 Ŵ P̂ ≡ choice_2 Ŵ (pos 0) = rw still refl in
      let n = natural 3 1 (choice_2 Ŵ (pos 0)) (omega arith) (least Ŵ) in
      let b : Bound2 K 1 x n.0 = first_digit K x Ŵ P.some P.quarter P.operand low high n.0 n.1 in
      let moved : pos (n.0 * 2 ^ (Q - 1 * 1)) ≡ pos s +ℤ choice_2 Ŵ (pos 0) *ℤ pos (2 ^ (Q - 1 * 1)) =
      ap (λ z. z *ℤ pos (2 ^ (Q - 1 * 1))) n.1 ∙ add_*ℤ (pos 3) (choice_2 Ŵ (pos 0)) (pos (2 ^ (Q - 1 * 1)))
      ∙ ap (λ k. pos k +ℤ choice_2 Ŵ (pos 0) *ℤ pos (2 ^ (Q - 1 * 1))) (ap (λ k. 3 * 2 ^ k) place ∙ sym s_is) in
      (n.0 * 2 ^ (Q - 1 * 1), rw q moved, contained K Q x 1 n.0 (omega (arith, sized.places.0)) b)
    where
      least : (E : ℤ) → neg_ℤ (pos 1) ≤ℤ choice_2 E (pos 0)
      least E = go (le_z E down_from) (le_z up_from E)
        where
          go : (c d : Bool) → neg_ℤ (pos 1) ≤ℤ cond c (negsuc 0) (cond d (pos 1) (pos 0))
          go true d = omega (arith, ints)
          go false true = omega (arith, ints)
          go false false = omega (arith, ints)

pub middle_start_lawful : LawfulSelector shortfall radix_2 → LawfulSelector shortfall middle_start
middle_start_lawful L =
    record {
      bits = L.bits;
      half = L.half;
      under = L.under;
      residual_places = L.residual_places;
      product_places = L.product_places;
      least = L.least;
      most = L.most;
      start_contained = start;
      containment = contains;
    }
  where
    contains : (K Q x : ℕ) → Sized K Q → InRange K x → 2 ^ (K - 2) < x → Contains shortfall middle_start K Q x
    contains K Q x sized range above zero s w Ŵ P̂ more c start_is aligned r eW eP = first K Q x s w Ŵ P̂ sized range c (start_is refl) r eW eP
    contains K Q x sized range above (suc j) s w Ŵ P̂ more c start_is aligned r eW eP =
        L.containment K Q x sized range above (suc j) s w Ŵ P̂ more c (λ e. absurd (omega arith)) aligned r eW eP
