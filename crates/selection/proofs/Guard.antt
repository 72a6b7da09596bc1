-- The estimates that a lawful job meets lie far within 2 ^ 40 units, so the guard of a delivered selector never speaks in one.
use Rattle.std.proofs.Common.{◌≡◌, ℕ, ◌+◌, ◌-◌, ◌*◌, ◌^◌, ◌<◌, ◌≤◌, Bool, true, false, cond, ◌||◌, ℤ, pos, negsuc, ◌*ℤ◌, neg_ℤ, ◌≤ℤ◌, ap₂, mul-le-mul, mul-le-mul_left, arith, pow_mono}
use lib.Signed.{lt_z}
use borrow.Author.Differences.{ints}
use Rattle.std.proofs.lemmas.Bool.Decides.{nat_tests}
use Rattle.arithmetic.specs.Estimates.{shortfall, Estimates}
use Rattle.arithmetic.proofs.Congruence.{Size}
use Rattle.selection.specs.Operands.{Sized, InRange, Contained}
use Rattle.selection.specs.Selectors.{Residual, beyond, guarded}
use Rattle.selection.proofs.Range.{plain, residual_size}
use Rattle.selection.proofs.Scale.{estimate_size}

not_less : (a b : ℤ) → b ≤ℤ a → lt_z a b ≡ false
not_less a b h = grind (arith, ints, nat_tests)

pub within : {h : ℕ} {z : ℤ} → Size h z → h ≤ 2 ^ 40 → beyond z ≡ false
within {h} {z} s l = ap₂ ◌||◌ (not_less z (negsuc (2 ^ 40 - 1)) (omega (arith, ints, s.at_least))) (not_less (pos (2 ^ 40)) z (omega (arith, ints, s.at_most)))

pub guard_still : (b a t d K Q x j s : ℕ) (w Ŵ P̂ : ℤ) → Sized K Q → InRange K x → 1 ≤ b → b ≤ 2 → a < 2 ^ b → t ≤ 6 → d ≤ 6 → b * j ≤ Q →
    Contained b a K Q x j s → Residual b K Q x j s w → Estimates shortfall (K + Q) t Ŵ (pos (2 ^ b) *ℤ w) → Estimates shortfall (K + Q) d P̂ (pos (x * s)) →
    (beyond Ŵ || beyond P̂) ≡ false
guard_still b a t d K Q x j s w Ŵ P̂ sized range b_pos b_small under t_small d_small room c r eW eP =
    let P = plain K Q x sized range in
    let sizes = residual_size b a K Q x j s w P b_pos under room c r in
    let large : 6 ≤ K + Q = omega (arith, sized.width.0, sized.places.0) in
    let four : 2 ^ b ≤ 2 ^ 2 = pow_mono b_small in
    let operand : x ≤ 2 ^ K = omega (arith, P.operand) in
    let ps : Size (3 * 2 ^ (K + Q)) (pos (x * s)) = record { at_most = omega (arith, mul-le-mul operand sizes.0, P.unit); at_least = omega arith } in
    ap₂ ◌||◌ (within (estimate_size (K + Q) t 28 Ŵ (pos (2 ^ b) *ℤ w) t_small large eW (times (2 ^ b) (2 ^ (K + Q)) four sizes.1)) (omega arith))
    (within (estimate_size (K + Q) d 3 P̂ (pos (x * s)) d_small large eP ps) (omega arith))
  where
    times : (r D : ℕ) → r ≤ 4 → Size (7 * D) w → Size (28 * D) (pos r *ℤ w)
    times r D l z =
        let k : r * (7 * D) ≤ 4 * (7 * D) = native.Mathlib.Nat.mul-le-mul_right (7 * D) l in
        record { at_most = omega (arith, ints, mul-le-mul_left r z.at_most); at_least = omega (arith, ints, mul-le-mul_left r z.at_least) }

-- a guarded digit stays in range
pub guarded_least : (a : ℕ) (f : ℤ → ℤ → ℤ) → ((w p : ℤ) → neg_ℤ (pos a) ≤ℤ f w p) → (w p : ℤ) → neg_ℤ (pos a) ≤ℤ guarded f w p
guarded_least a f h w p = go (beyond w || beyond p)
  where
    go : (c : Bool) → neg_ℤ (pos a) ≤ℤ cond c (pos 0) (f w p)
    go true = omega (arith, ints)
    go false = h w p

pub guarded_most : (a : ℕ) (f : ℤ → ℤ → ℤ) → ((w p : ℤ) → f w p ≤ℤ pos a) → (w p : ℤ) → guarded f w p ≤ℤ pos a
guarded_most a f h w p = go (beyond w || beyond p)
  where
    go : (c : Bool) → cond c (pos 0) (f w p) ≤ℤ pos a
    go true = omega (arith, ints)
    go false = h w p
