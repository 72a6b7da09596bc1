-- Radix 2 is a lawful selector.
use Rattle.std.proofs.Common.{◌≡◌, ℕ, zero, suc, ◌+◌, ◌-◌, ◌*◌, ◌/◌, ◌%◌, ◌^◌, ◌<◌, ◌≤◌, Bool, true, false, cond, ◌||◌, ℤ, pos, negsuc, ◌+ℤ◌, ◌*ℤ◌, neg_ℤ, ◌≤ℤ◌, sym, refl, ap, ◌∙◌, inl, div-add-mod', arith, pow_pos, pow-add}
use lib.Signed.{le_z}
use Rattle.std.proofs.lemmas.Nat.{mul-pow}
use borrow.Author.Differences.{ints, up, down}
use Rattle.arithmetic.specs.Estimates.{shortfall, Estimates}
use Rattle.arithmetic.proofs.Ring.{add_*ℤ}
use Rattle.arithmetic.proofs.Powers.{power_of_sum}
use Rattle.selection.specs.Operands.{Sized, InRange, Contained}
use Rattle.selection.specs.Selectors.{Residual, LawfulSelector, Contains, beyond, guarded}
use Rattle.selection.specs.Radix2.{down_from, up_from, choice_2, radix_2}
use Rattle.selection.proofs.Range.{plain, above_quarter, whole, split, next_place, Sides, opens, shuts, balanced}
use Rattle.selection.proofs.Scale.{shrink, grow, estimate_below, estimate_near, natural, moved, rest_is}
use Rattle.selection.proofs.Guard.{guard_still, guarded_least, guarded_most}
use Rattle.selection.proofs.Radix2Digit.{Bound2, Estimate2, digit2, step2}

-- ---- the bound at the scale of the digit

to_bound : (K j x y : ℕ) → Sides 1 1 1 x y (2 ^ K * (2 ^ j * 2 ^ j)) → Bound2 K j x y
to_bound K j x y b =
    let e : y - 1 ≡ b.gap = omega (arith, b.over) in
    record { one = omega (arith, b.over); low = rw (e, mul-pow 2 2 j) (omega (arith, b.low)); high = rw (mul-pow 2 2 j) (omega (arith, b.high)) }

from_bound : (K j x y : ℕ) → Bound2 K j x y → Sides 1 1 1 x y (2 ^ K * (2 ^ j * 2 ^ j))
from_bound K j x y b =
    let l = rw (mul-pow 2 2 j) at b.low in
    let h = rw (mul-pow 2 2 j) at b.high in
    record { gap = y - 1; over = omega (arith, b.one); low = omega arith; high = omega arith }

-- 2 ^ (K + 2 * Q) by the places made and those to come
whole_at : (K Q j : ℕ) → 1 * j ≤ Q → 2 ^ (K + 2 * Q) ≡ 2 ^ K * (2 ^ j * 2 ^ j) * (2 ^ (Q - 1 * j) * 2 ^ (Q - 1 * j))
whole_at K Q j h =
    let i : 1 * j ≡ j = omega arith in
    let s : 2 ^ j * 2 ^ (Q - 1 * j) ≡ 2 ^ Q = ap (λ t. 2 ^ t * 2 ^ (Q - 1 * j)) (sym i) ∙ split 1 Q j h in
    whole K Q ∙ rw (← s) (omega arith)

pub contained : (K Q x j y : ℕ) → 1 * j ≤ Q → Bound2 K j x y → Contained 1 1 K Q x j (y * 2 ^ (Q - 1 * j))
contained K Q x j y room b =
    shuts 1 1 K Q x j (y * 2 ^ (Q - 1 * j)) (rw (whole_at K Q j room) (grow 1 1 (2 ^ (Q - 1 * j)) x y (2 ^ K * (2 ^ j * 2 ^ j)) (pow_pos (Q - 1 * j)) (from_bound K j x y b)))

estimate : (K Q x j y : ℕ) (w E : ℤ) → 6 ≤ K + Q → 1 * j ≤ Q → 1 * up w + x * (y * y) * 2 ^ (Q - 1 * j) ≡ 2 ^ K * (2 ^ j * 2 ^ j) * 2 ^ (Q - 1 * j) + 1 * down w →
    Estimates shortfall (K + Q) 2 E (pos (2 ^ 1) *ℤ w) → Estimate2 K j x y E
estimate K Q x j y w E large room is e =
    let i : 1 * j ≡ j = omega arith in
    let s : 2 ^ j * 2 ^ (Q - 1 * j) ≡ 2 ^ Q = ap (λ t. 2 ^ t * 2 ^ (Q - 1 * j)) (sym i) ∙ split 1 Q j room in
    let u : 4 * 2 ^ (K + Q - 2) ≡ 2 ^ K * 2 ^ j * 2 ^ (Q - 1 * j) = sym (power_of_sum (K + Q) 2 (K + Q - 2) (omega arith)) ∙ pow-add 2 K Q ∙ rw (← s) (omega arith) in
    let below = estimate_below E w 1 2 4 (2 ^ (K + Q - 2)) (2 ^ K * 2 ^ j) (2 ^ (Q - 1 * j)) (2 ^ K * (2 ^ j * 2 ^ j)) (x * (y * y)) (pow_pos (Q - 1 * j)) (omega arith) (omega arith) u is e.not_over e.not_far in
    let near = estimate_near E w 1 2 4 (2 ^ (K + Q - 2)) (2 ^ K * 2 ^ j) (2 ^ (Q - 1 * j)) (2 ^ K * (2 ^ j * 2 ^ j)) (x * (y * y)) (pow_pos (Q - 1 * j)) (omega arith) (omega arith) u is e.not_over e.not_far in
    record { below = rw (mul-pow 2 2 j) (omega (arith, ints, below)); near = rw (mul-pow 2 2 j, add_*ℤ) (omega (arith, ints, near)) }

-- ---- the laws

-- before the first digit, the last place of Q in halves
halved : (K Q : ℕ) → Sized K Q → 2 * 2 ^ (Q - 1) ≡ 1 * 2 ^ (Q - 1 * 0)
halved K Q sized = omega (arith, power_of_sum (Q - 1 * 0) 1 (Q - 1) (omega (arith, sized.places.0)))

start : (K Q x : ℕ) → Sized K Q → InRange K x → 2 ^ (K - 2) < x → Contained 1 1 K Q x 0 (2 * 2 ^ (Q - 1))
start K Q x sized range above =
    let s : 2 * 2 ^ (Q - 1) ≡ 1 * 2 ^ (Q - 1 * 0) = halved K Q sized in
    let one : Sides 1 1 1 x 1 (2 ^ K) = record { gap = 0; over = refl; low = omega (arith, pow_pos K); high = omega (arith, above_quarter K Q x sized above) } in
    let z : 2 ^ (K + 2 * Q) ≡ 2 ^ K * (2 ^ (Q - 1 * 0) * 2 ^ (Q - 1 * 0)) = whole_at K Q 0 (omega arith) ∙ omega arith in
    shuts 1 1 K Q x 0 (2 * 2 ^ (Q - 1)) (rw (s, z) (grow 1 1 (2 ^ (Q - 1 * 0)) x 1 (2 ^ K) (pow_pos (Q - 1 * 0)) one))

multiple : (K Q x j s : ℕ) → Sized K Q → (j ≡ 0 → s ≡ 2 * 2 ^ (Q - 1)) → (0 < j → s % 2 ^ (Q - 1 * j) ≡ 0) → (y : ℕ) × (s ≡ y * 2 ^ (Q - 1 * j))
multiple K Q x zero s sized f g = (1, f refl ∙ halved K Q sized)
multiple K Q x (suc j) s sized f g = let z : s % 2 ^ (Q - 1 * suc j) ≡ 0 = g (omega arith) in (s / 2 ^ (Q - 1 * suc j), omega (arith, div-add-mod' s (2 ^ (Q - 1 * suc j))))

choice_least : (w p : ℤ) → neg_ℤ (pos 1) ≤ℤ choice_2 w p
choice_least w p = go (le_z w down_from) (le_z up_from w)
  where
    go : (c d : Bool) → neg_ℤ (pos 1) ≤ℤ cond c (negsuc 0) (cond d (pos 1) (pos 0))
    go true d = omega (arith, ints)
    go false true = omega (arith, ints)
    go false false = omega (arith, ints)

choice_most : (w p : ℤ) → choice_2 w p ≤ℤ pos 1
choice_most w p = go (le_z w down_from) (le_z up_from w)
  where
    go : (c d : Bool) → cond c (negsuc 0) (cond d (pos 1) (pos 0)) ≤ℤ pos 1
    go true d = omega (arith, ints)
    go false true = omega (arith, ints)
    go false false = omega (arith, ints)

module _ (K Q x j s : ℕ) (w Ŵ P̂ : ℤ) (sized : Sized K Q) (range : InRange K x) (more : j < Q / 1) (c : Contained 1 1 K Q x j s)
    (start_is : j ≡ 0 → s ≡ 2 * 2 ^ (Q - 1)) (aligned : 0 < j → s % 2 ^ (Q - 1 * j) ≡ 0) (r : Residual 1 K Q x j s w)
    (eW : Estimates shortfall (K + Q) 2 Ŵ (pos (2 ^ 1) *ℤ w)) (eP : Estimates shortfall (K + Q) 0 P̂ (pos (x * s))) where
  contains : (s' : ℕ) × (pos s' ≡ pos s +ℤ guarded choice_2 Ŵ P̂ *ℤ pos (2 ^ (Q - 1 * suc j))) × Contained 1 1 K Q x (suc j) s'
  contains =
      let P = plain K Q x sized range in
      let room : 1 * suc j ≤ Q = omega arith in
      let room_now : 1 * j ≤ Q = omega arith in
      let large : 6 ≤ K + Q = omega (arith, sized.width.0, sized.places.0) in
      let e = 2 ^ (Q - 1 * j) in
      let p = 2 ^ (Q - 1 * suc j) in
      let m = multiple K Q x j s sized start_is aligned in
      let y = m.0 in
      let sides : Sides 1 1 e x (y * e) (2 ^ K * (2 ^ j * 2 ^ j) * (e * e)) = rw (m.1, whole_at K Q j room_now) at (opens 1 1 K Q x j s c) in
      let bound : Bound2 K j x y = to_bound K j x y (shrink 1 1 e x y (2 ^ K * (2 ^ j * 2 ^ j)) (pow_pos (Q - 1 * j)) sides) in
      let bal : up w * e + x * (y * e * (y * e)) ≡ 2 ^ K * (2 ^ j * 2 ^ j) * (e * e) + down w * e = rw (m.1, whole_at K Q j room_now) at (balanced 1 K Q x j s w room_now r) in
      let is = rest_is 1 e x y (2 ^ K * (2 ^ j * 2 ^ j)) w (pow_pos (Q - 1 * j)) (omega arith) in
      let est : Estimate2 K j x y Ŵ = estimate K Q x j y w Ŵ large room_now is eW in
      let still : (beyond Ŵ || beyond P̂) ≡ false = guard_still 1 1 2 0 K Q x j s w Ŵ P̂ sized range (omega arith) (omega arith) (omega arith) (omega arith) (omega arith) room_now c r eW eP in
      let q : guarded choice_2 Ŵ P̂ ≡ digit2 Ŵ = rw still in
      let n = natural (2 * y) 1 (digit2 Ŵ) (omega (arith, bound.one)) (choice_least Ŵ P̂) in
      let next : Bound2 K (suc j) x n.0 = step2 K j x y n.0 Ŵ P.some P.quarter P.operand bound est n.1 in
      let s_is : s ≡ y * (2 * p) = m.1 ∙ ap (λ t. y * t) (next_place 1 Q j room) in (
        n.0 * p,
        rw q (moved y n.0 2 p s (digit2 Ŵ) s_is n.1),
        contained K Q x (suc j) n.0 room next,
      )

pub contains_every : (K Q x : ℕ) → Sized K Q → InRange K x → Contains shortfall radix_2 K Q x
contains_every K Q x sized range j s w Ŵ P̂ = contains K Q x j s w Ŵ P̂ sized range

pub radix_2_lawful : LawfulSelector shortfall radix_2
radix_2_lawful =
    record {
      bits = inl refl;
      half = omega arith;
      under = omega arith;
      residual_places = omega arith;
      product_places = omega arith;
      least = guarded_least 1 choice_2 choice_least;
      most = guarded_most 1 choice_2 choice_most;
      start_contained = start;
      containment = λ K Q x sized range above. contains_every K Q x sized range;
    }
