-- The first digit of radix 4: s' = u + q, where the start is u / 4.
use Rattle.std.proofs.Common.{◌≡◌, ℕ, ◌+◌, ◌-◌, ◌*◌, ◌^◌, ◌<◌, ◌≤◌, Bool, true, false, cond, ltb, ℤ, pos, ◌+ℤ◌, ◌-ℤ◌, ◌*ℤ◌, ◌≤ℤ◌, ◌<ℤ◌, refl, arith, ltb-false, ltb-true}
use borrow.Author.Differences.{ints, up, down}
use Rattle.arithmetic.proofs.Ring.{add_*ℤ}
use Rattle.selection.specs.declared.start.Start.{Start}
use Rattle.selection.specs.declared.start.Start.TheVariants.{One, ThreeHalves, Two}
use Rattle.selection.specs.Starts.{halves}
use Rattle.selection.specs.Radix4.{start_4}
use Rattle.selection.proofs.Radix4Digit.{Bound4, digit4, by_digit}

-- the start in quarters: 8, 6 or 4
abbrev pub start4 : ℕ → ℕ → ℕ
start4 K x = 2 * halves (start_4 K x)

-- the estimates of 4 W[0] and X S[0], for S[0] = u / 4
pub record First4 (K x u p : ℕ) (w : ℤ) : Type 0 where
  pub w_below : (w *ℤ pos (2 ^ K)) ≤ℤ (pos 4 *ℤ (pos (16 * 2 ^ K) -ℤ pos (x * (u * u))))
  pub w_near : (pos 4 *ℤ (pos (16 * 2 ^ K) -ℤ pos (x * (u * u)))) <ℤ ((w +ℤ pos 2) *ℤ pos (2 ^ K))
  pub p_below : p * 2 ^ K ≤ 16 * (x * u)
  pub p_near : 16 * (x * u) < (p + 2) * 2 ^ K

abbrev pub Begin4 : Type 0
Begin4 = (K x s' p : ℕ) (w : ℤ) → 2 ^ K ≤ 4 * x → x < 2 ^ K → First4 K x (start4 K x) p w → pos s' ≡ pos (start4 K x) +ℤ digit4 p w → Bound4 K 1 x s'

-- the start by cases, each with what it says
pub by_start : (K x : ℕ) (G : Start → Type 0) → (8 * x < 3 * 2 ^ K → G Two) → (3 * 2 ^ K ≤ 8 * x → 4 * x < 3 * 2 ^ K → G ThreeHalves) → (3 * 2 ^ K ≤ 4 * x → G One) → G (start_4 K x)
by_start K x G f g h = go (ltb (8 * x) (3 * 2 ^ K)) (ltb (4 * x) (3 * 2 ^ K)) refl refl
  where
    go : (a b : Bool) → ltb (8 * x) (3 * 2 ^ K) ≡ a → ltb (4 * x) (3 * 2 ^ K) ≡ b → G (cond a Two (cond b ThreeHalves One))
    go true b p q = f (omega (arith, ltb-true))
    go false true p q = g (omega (arith, ltb-false)) (omega (arith, ltb-true))
    go false false p q = h (omega (arith, ltb-false))

-- these estimates in natural numbers, where w is up w less down w
record Near (K x u p : ℕ) (w : ℤ) : Type 0 where
  w_below : up w * 2 ^ K + 4 * (x * (u * u)) ≤ 64 * 2 ^ K + down w * 2 ^ K
  w_near : 64 * 2 ^ K + down w * 2 ^ K < 4 * (x * (u * u)) + up w * 2 ^ K + 2 * 2 ^ K
  p_below : p * 2 ^ K ≤ 16 * (x * u)
  p_near : 16 * (x * u) < p * 2 ^ K + 2 * 2 ^ K

near : (K x u p : ℕ) (w : ℤ) → First4 K x u p w → Near K x u p w
near K x u p w e =
    let n : (pos 4 *ℤ (pos (16 * 2 ^ K) -ℤ pos (x * (u * u)))) <ℤ (w *ℤ pos (2 ^ K) +ℤ pos 2 *ℤ pos (2 ^ K)) = rw add_*ℤ at e.w_near in
    record { w_below = omega (arith, ints, e.w_below); w_near = omega (arith, ints, n); p_below = e.p_below; p_near = omega (arith, e.p_near) }

done : {K x s : ℕ} (u : ℕ) → pos s ≡ pos u → 1 ≤ u → ((3 * u - 2) * (3 * u - 2) * x < 144 * 2 ^ K) × (144 * 2 ^ K < (3 * u + 2) * (3 * u + 2) * x) → Bound4 K 1 x s
done {K} {x} {s} u e h g = let r : s ≡ u = omega (arith, ints) in rw r (record { one = h; low = omega (arith, g.0); high = omega (arith, g.1) })

-- the five digits after each start
module _ (K x s p : ℕ) (w : ℤ) where
  from_two : 2 ^ K ≤ 4 * x → 8 * x < 3 * 2 ^ K → Near K x 8 p w → pos s ≡ pos 8 +ℤ digit4 p w → Bound4 K 1 x s
  from_two l h f = by_digit (2 ^ K) p w (λ q. pos s ≡ pos 8 +ℤ q → Bound4 K 1 x s)
      (λ k m. done 10 m (omega arith) (omega arith))
      (λ k m. done 9 m (omega arith) (omega arith))
      (λ k m. done 8 m (omega arith) (omega arith))
      (λ k m. done 7 m (omega arith) (omega arith))
      (λ k m. done 6 m (omega arith) (omega arith))

  from_three_halves : 3 * 2 ^ K ≤ 8 * x → 4 * x < 3 * 2 ^ K → Near K x 6 p w → pos s ≡ pos 6 +ℤ digit4 p w → Bound4 K 1 x s
  from_three_halves l h f = by_digit (2 ^ K) p w (λ q. pos s ≡ pos 6 +ℤ q → Bound4 K 1 x s)
      (λ k m. done 8 m (omega arith) (omega arith))
      (λ k m. done 7 m (omega arith) (omega arith))
      (λ k m. done 6 m (omega arith) (omega arith))
      (λ k m. done 5 m (omega arith) (omega arith))
      (λ k m. done 4 m (omega arith) (omega arith))

  from_one : 3 * 2 ^ K ≤ 4 * x → x < 2 ^ K → Near K x 4 p w → pos s ≡ pos 4 +ℤ digit4 p w → Bound4 K 1 x s
  from_one l h f = by_digit (2 ^ K) p w (λ q. pos s ≡ pos 4 +ℤ q → Bound4 K 1 x s)
      (λ k m. done 6 m (omega arith) (omega arith))
      (λ k m. done 5 m (omega arith) (omega arith))
      (λ k m. done 4 m (omega arith) (omega arith))
      (λ k m. done 3 m (omega arith) (omega arith))
      (λ k m. done 2 m (omega arith) (omega arith))

pub begin4 : Begin4
begin4 K x s p w l h = by_start K x (λ u. First4 K x (2 * halves u) p w → pos s ≡ pos (2 * halves u) +ℤ digit4 p w → Bound4 K 1 x s)
    (λ m e. from_two K x s p w l m (near K x 8 p w e))
    (λ k m e. from_three_halves K x s p w k m (near K x 6 p w e))
    (λ k e. from_one K x s p w k h (near K x 4 p w e))
