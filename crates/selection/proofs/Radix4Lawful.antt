-- Radix 4 is a lawful selector.
use Rattle.std.proofs.Common.{◌≡◌, ℕ, zero, suc, ◌+◌, ◌-◌, ◌*◌, ◌/◌, ◌%◌, ◌^◌, ◌<◌, ◌≤◌, Bool, true, false, cond, ◌||◌, ℤ, pos, negsuc, ◌+ℤ◌, ◌*ℤ◌, neg_ℤ, ◌≤ℤ◌, ◌<ℤ◌, sym, refl, ap, ◌∙◌, subst, inr, mul-le-mul_right, mul-le-mul_left, div-add-mod', arith, pow_pos, pow-add}
use Rattle.std.proofs.lemmas.Nat.{mul-pow}
use lib.Signed.{le_z}
use borrow.Author.Differences.{ints, up, down}
use Rattle.arithmetic.specs.Estimates.{shortfall, Estimates}
use Rattle.arithmetic.proofs.Ring.{add_*ℤ}
use Rattle.arithmetic.proofs.Powers.{power_of_sum}
use Rattle.selection.specs.Starts.{halves}
use Rattle.selection.specs.Operands.{Sized, InRange, Contained}
use Rattle.selection.specs.Selectors.{Residual, LawfulSelector, Contains, beyond, guarded}
use Rattle.selection.specs.Radix4.{start_4, two_from, one_from, zero_from, minus_one_from, choice_4, radix_4}
use Rattle.selection.proofs.Range.{Plain, plain, whole, split, next_place, Sides, opens, shuts, balanced}
use Rattle.selection.proofs.Scale.{shrink, grow, estimate_below, estimate_near, natural, moved, rest_is, product_below, product_near, estimate_natural}
use Rattle.selection.proofs.Guard.{guard_still, guarded_least, guarded_most}
use Rattle.selection.proofs.Radix4Digit.{Bound4, Estimate4, digit4, step4, at_least_one}
use Rattle.selection.proofs.Radix4First.{First4, start4, by_start, begin4}

-- ---- the bound at the scale of the digit

to_bound : (K j x y : ℕ) → Sides 3 2 1 x y (2 ^ K * (4 ^ j * 4 ^ j)) → Bound4 K j x y
to_bound K j x y b =
    let e : 3 * y - 2 ≡ b.gap = omega (arith, b.over) in
    record { one = omega (arith, b.over); low = rw (e, mul-pow 4 4 j) (omega (arith, b.low)); high = rw (mul-pow 4 4 j) (omega (arith, b.high)) }

from_bound : (K j x y : ℕ) → Bound4 K j x y → Sides 3 2 1 x y (2 ^ K * (4 ^ j * 4 ^ j))
from_bound K j x y b =
    let l = rw (mul-pow 4 4 j) at b.low in
    let h = rw (mul-pow 4 4 j) at b.high in
    record { gap = 3 * y - 2; over = omega (arith, b.one); low = omega arith; high = omega arith }

four_is : (j : ℕ) → 2 ^ (2 * j) ≡ 4 ^ j
four_is j = power_of_sum (2 * j) j j (omega arith) ∙ sym (mul-pow 2 2 j)

-- 2 ^ Q by the places made and those to come
places_at : (Q j : ℕ) → 2 * j ≤ Q → 4 ^ j * 2 ^ (Q - 2 * j) ≡ 2 ^ Q
places_at Q j h = ap (λ t. t * 2 ^ (Q - 2 * j)) (sym (four_is j)) ∙ split 2 Q j h

whole_at : (K Q j : ℕ) → 2 * j ≤ Q → 2 ^ (K + 2 * Q) ≡ 2 ^ K * (4 ^ j * 4 ^ j) * (2 ^ (Q - 2 * j) * 2 ^ (Q - 2 * j))
whole_at K Q j h = whole K Q ∙ rw (← (places_at Q j h)) (omega arith)

-- units of 2 ^ t, by the same
unit_at : (K Q j t : ℕ) → t ≤ K + Q → 2 * j ≤ Q → 2 ^ t * 2 ^ (K + Q - t) ≡ 2 ^ K * 4 ^ j * 2 ^ (Q - 2 * j)
unit_at K Q j t l h =
    sym (power_of_sum (K + Q) t (K + Q - t) (omega arith)) ∙ pow-add 2 K Q ∙ rw (← (places_at Q j h)) (omega arith)

contained : (K Q x j y : ℕ) → 2 * j ≤ Q → Bound4 K j x y → Contained 2 2 K Q x j (y * 2 ^ (Q - 2 * j))
contained K Q x j y room b =
    shuts 2 2 K Q x j (y * 2 ^ (Q - 2 * j)) (rw (whole_at K Q j room) (grow 3 2 (2 ^ (Q - 2 * j)) x y (2 ^ K * (4 ^ j * 4 ^ j)) (pow_pos (Q - 2 * j)) (from_bound K j x y b)))

enough : (K Q : ℕ) → Sized K Q → 6 ≤ K + Q
enough K Q sized = omega (arith, sized.width.0, sized.places.0)

-- a product of at least X has an estimate that is no negative number
product_natural : (K Q x s : ℕ) (P̂ : ℤ) → Plain K Q x → 6 ≤ K + Q → 2 ^ Q ≤ s → Estimates shortfall (K + Q) 6 P̂ (pos (x * s)) → (p : ℕ) × (P̂ ≡ pos p)
product_natural K Q x s P̂ P large h e =
    let u : 2 ^ (K + Q) ≡ 64 * 2 ^ (K + Q - 6) = power_of_sum (K + Q) 6 (K + Q - 6) (omega arith) in
    estimate_natural P̂ (2 ^ (K + Q - 6)) (x * s) (omega (arith, mul-le-mul_left x h, mul-le-mul_right (2 ^ Q) P.quarter, P.unit)) e.not_far

-- the estimates at the scale of the digit
estimate : (K Q x j y p s : ℕ) (w E : ℤ) → 6 ≤ K + Q → 2 * j ≤ Q → s ≡ y * 2 ^ (Q - 2 * j) → 1 * up w + x * (y * y) * 2 ^ (Q - 2 * j) ≡ 2 ^ K * (4 ^ j * 4 ^ j) * 2 ^ (Q - 2 * j) + 1 * down w →
    Estimates shortfall (K + Q) 4 E (pos (2 ^ 2) *ℤ w) → Estimates shortfall (K + Q) 6 (pos p) (pos (x * s)) → Estimate4 K j x y p E
estimate K Q x j y p s w E large room s_is is e f =
    let u = unit_at K Q j 4 (omega arith) room in
    let u' = unit_at K Q j 6 (omega arith) room in
    let below = estimate_below E w 1 4 16 (2 ^ (K + Q - 4)) (2 ^ K * 4 ^ j) (2 ^ (Q - 2 * j)) (2 ^ K * (4 ^ j * 4 ^ j)) (x * (y * y)) (pow_pos (Q - 2 * j)) (omega arith) (omega arith) u is e.not_over e.not_far in
    let near = estimate_near E w 1 4 16 (2 ^ (K + Q - 4)) (2 ^ K * 4 ^ j) (2 ^ (Q - 2 * j)) (2 ^ K * (4 ^ j * 4 ^ j)) (x * (y * y)) (pow_pos (Q - 2 * j)) (omega arith) (omega arith) u is e.not_over e.not_far in
    record {
      w_below = rw (mul-pow 4 4 j) (omega (arith, ints, below));
      w_near = rw (mul-pow 4 4 j, add_*ℤ) (omega (arith, ints, near));
      p_below = product_below p x s y (2 ^ (K + Q - 6)) (2 ^ K * 4 ^ j) (2 ^ (Q - 2 * j)) (pow_pos (Q - 2 * j)) u' s_is f.not_over;
      p_near = product_near p x s y (2 ^ (K + Q - 6)) (2 ^ K * 4 ^ j) (2 ^ (Q - 2 * j)) (pow_pos (Q - 2 * j)) u' s_is f.not_far;
    }

-- ---- the start

start_large : (K x : ℕ) → 2 ≤ halves (start_4 K x)
start_large K x = by_start K x (λ s. 2 ≤ halves s) (λ p. omega arith) (λ p q. omega arith) (λ p. omega arith)

-- in halves, the slack is 4
start_sides : (K x : ℕ) → 2 ^ K ≤ 4 * x → x < 2 ^ K → Sides 3 4 1 x (halves (start_4 K x)) (4 * 2 ^ K)
start_sides K x l h =
    by_start K x (λ s. Sides 3 4 1 x (halves s) (4 * 2 ^ K))
    (λ p. record { gap = 8; over = refl; low = omega arith; high = omega arith })
    (λ p q. record { gap = 5; over = refl; low = omega arith; high = omega arith })
    (λ p. record { gap = 2; over = refl; low = omega arith; high = omega arith })

start : (K Q x : ℕ) → Sized K Q → InRange K x → Contained 2 2 K Q x 0 (halves (start_4 K x) * 2 ^ (Q - 1))
start K Q x sized range =
    let P = plain K Q x sized range in
    let u = halves (start_4 K x) in
    let e : 2 ^ (Q - 2 * 0) ≡ 2 * 2 ^ (Q - 1) = power_of_sum (Q - 2 * 0) 1 (Q - 1) (omega (arith, sized.places.0)) in
    let z : 2 ^ (K + 2 * Q) ≡ 4 * 2 ^ K * (2 ^ (Q - 1) * 2 ^ (Q - 1)) = whole_at K Q 0 (omega arith) ∙ rw e (omega arith) in
    shuts 2 2 K Q x 0 (u * 2 ^ (Q - 1)) (go u (2 ^ (Q - 1)) (2 ^ (Q - 2 * 0)) (2 ^ (K + 2 * Q)) e z (grow 3 4 (2 ^ (Q - 1)) x u (4 * 2 ^ K) (pow_pos (Q - 1)) (start_sides K x P.quarter P.operand)))
  where
    go : (u h e N : ℕ) → e ≡ 2 * h → N ≡ 4 * 2 ^ K * (h * h) → Sides 3 4 h x (u * h) (4 * 2 ^ K * (h * h)) → Sides 3 2 e x (u * h) N
    go u h e N p q b = rw (p, q) (record { gap = b.gap; over = omega (arith, b.over); low = b.low; high = omega (arith, b.high) })

-- ---- the digits

choice_least : (w p : ℤ) → neg_ℤ (pos 2) ≤ℤ choice_4 w p
choice_least w p = go (le_z (two_from p) w) (le_z (one_from p) w) (le_z (zero_from p) w) (le_z (minus_one_from p) w)
  where
    go : (c d e f : Bool) → neg_ℤ (pos 2) ≤ℤ cond c (pos 2) (cond d (pos 1) (cond e (pos 0) (cond f (negsuc 0) (negsuc 1))))
    go true d e f = omega (arith, ints)
    go false true e f = omega (arith, ints)
    go false false true f = omega (arith, ints)
    go false false false true = omega (arith, ints)
    go false false false false = omega (arith, ints)

choice_most : (w p : ℤ) → choice_4 w p ≤ℤ pos 2
choice_most w p = go (le_z (two_from p) w) (le_z (one_from p) w) (le_z (zero_from p) w) (le_z (minus_one_from p) w)
  where
    go : (c d e f : Bool) → cond c (pos 2) (cond d (pos 1) (cond e (pos 0) (cond f (negsuc 0) (negsuc 1)))) ≤ℤ pos 2
    go true d e f = omega (arith, ints)
    go false true e f = omega (arith, ints)
    go false false true f = omega (arith, ints)
    go false false false true = omega (arith, ints)
    go false false false false = omega (arith, ints)

abbrev Goal : ℕ → ℕ → ℕ → ℕ → ℕ → ℤ → ℤ → Type 0
Goal K Q x j s Ŵ P̂ = (s' : ℕ) × (pos s' ≡ pos s +ℤ guarded choice_4 Ŵ P̂ *ℤ pos (2 ^ (Q - 2 * suc j))) × Contained 2 2 K Q x (suc j) s'

-- ---- the first digit, at the scale of its place, where e is 2 ^ (Q - 2)

first : (K x u p e U U' s : ℕ) (w E : ℤ) → 0 < e → 16 * U ≡ 4 * 2 ^ K * e → 64 * U' ≡ 4 * 2 ^ K * e → s ≡ u * e → 4 * up w + x * (u * u) * e ≡ 16 * 2 ^ K * e + 4 * down w →
    (E *ℤ pos U) ≤ℤ (pos 4 *ℤ w) → (pos 4 *ℤ w) <ℤ ((E +ℤ pos 2) *ℤ pos U) → (pos p *ℤ pos U') ≤ℤ pos (x * s) → pos (x * s) <ℤ ((pos p +ℤ pos 2) *ℤ pos U') → First4 K x u p E
first K x u p e U U' s w E e_pos unit unit' s_is is below near p_below p_near =
    let b = estimate_below E w 4 4 16 U (4 * 2 ^ K) e (16 * 2 ^ K) (x * (u * u)) e_pos (omega arith) (omega arith) unit is below near in
    let n = estimate_near E w 4 4 16 U (4 * 2 ^ K) e (16 * 2 ^ K) (x * (u * u)) e_pos (omega arith) (omega arith) unit is below near in
    record {
      w_below = omega (arith, ints, b);
      w_near = rw add_*ℤ (omega (arith, ints, n));
      p_below = omega (arith, product_below p x s u U' (4 * 2 ^ K) e e_pos unit' s_is p_below);
      p_near = omega (arith, product_near p x s u U' (4 * 2 ^ K) e e_pos unit' s_is p_near);
    }

module _ (K Q x s : ℕ) (w Ŵ : ℤ) (sized : Sized K Q) (range : InRange K x) (c : Contained 2 2 K Q x 0 s) (start_is : s ≡ halves (start_4 K x) * 2 ^ (Q - 1))
    (r : Residual 2 K Q x 0 s w) (eW : Estimates shortfall (K + Q) 4 Ŵ (pos (2 ^ 2) *ℤ w)) where
  room_first : 2 * 1 ≤ Q
  room_first = omega (arith, sized.places.0)

  s_is : s ≡ halves (start_4 K x) * (2 * 2 ^ (Q - 2 * 1))
  s_is =
      let h : 2 ^ (Q - 1) ≡ 2 * 2 ^ (Q - 2 * 1) = power_of_sum (Q - 1) 1 (Q - 2 * 1) (omega (arith, room_first)) in
      start_is ∙ ap (λ t. halves (start_4 K x) * t) h

  in_quarters : s ≡ start4 K x * 2 ^ (Q - 2 * 1)
  in_quarters = omega (arith, s_is)

  rest_first : 4 * up w + x * (start4 K x * start4 K x) * 2 ^ (Q - 2 * 1) ≡ 16 * 2 ^ K * 2 ^ (Q - 2 * 1) + 4 * down w
  rest_first =
      let i : 2 ^ (Q - 2 * 0) ≡ 4 * 2 ^ (Q - 2 * 1) = next_place 2 Q 0 room_first in
      let z : 2 ^ (K + 2 * Q) ≡ 16 * 2 ^ K * (2 ^ (Q - 2 * 1) * 2 ^ (Q - 2 * 1)) = whole_at K Q 1 room_first ∙ omega arith in
      rest_is 4 (2 ^ (Q - 2 * 1)) x (start4 K x) (16 * 2 ^ K) w (pow_pos (Q - 2 * 1)) (rw (i, in_quarters, z) at (balanced 2 K Q x 0 s w (omega arith) r))

  large_first : 2 ^ Q ≤ s
  large_first =
      let h : 2 ^ Q ≡ 2 * 2 ^ (Q - 1) = power_of_sum Q 1 (Q - 1) (omega (arith, room_first)) in
      omega (arith, start_is, mul-le-mul_right (2 ^ (Q - 1)) (start_large K x))

  -- with a natural number for the product's estimate
  first_at : (p : ℕ) → Estimates shortfall (K + Q) 6 (pos p) (pos (x * s)) → Goal K Q x 0 s Ŵ (pos p)
  first_at p eP =
      let P = plain K Q x sized range in
      let e = 2 ^ (Q - 2 * 1) in
      let unit = unit_at K Q 1 4 (omega (arith, enough K Q sized)) room_first in
      let unit' = unit_at K Q 1 6 (enough K Q sized) room_first in
      let est : First4 K x (start4 K x) p Ŵ =
      first K x (start4 K x) p e (2 ^ (K + Q - 4)) (2 ^ (K + Q - 6)) s w Ŵ (pow_pos (Q - 2 * 1)) (omega arith) (omega arith) in_quarters rest_first eW.not_over eW.not_far eP.not_over eP.not_far in
      let still : (beyond Ŵ || beyond (pos p)) ≡ false = guard_still 2 2 4 6 K Q x 0 s w Ŵ (pos p) sized range (omega arith) (omega arith) (omega arith) (omega arith) (omega arith) (omega arith) c r eW eP in
      let q : guarded choice_4 Ŵ (pos p) ≡ digit4 p Ŵ = rw still in
      let n = natural (start4 K x) 2 (digit4 p Ŵ) (omega (arith, start_large K x)) (choice_least Ŵ (pos p)) in
      let next : Bound4 K 1 x n.0 = begin4 K x n.0 p Ŵ P.quarter P.operand est n.1 in (
        n.0 * e,
        rw q (moved (halves (start_4 K x)) n.0 2 e s (digit4 p Ŵ) s_is n.1),
        contained K Q x 1 n.0 room_first next,
      )

  contains_first : (P̂ : ℤ) → Estimates shortfall (K + Q) 6 P̂ (pos (x * s)) → Goal K Q x 0 s Ŵ P̂
  contains_first P̂ eP = let n = product_natural K Q x s P̂ (plain K Q x sized range) (enough K Q sized) large_first eP in rw n.1 (first_at n.0 (rw n.1 at eP))

-- ---- the later digits, for s = y * 2 ^ (Q - 2 * j)

module _ (K Q x j y : ℕ) (w Ŵ : ℤ) (sized : Sized K Q) (range : InRange K x) (later : 1 ≤ j) (room : 2 * suc j ≤ Q) (c : Contained 2 2 K Q x j (y * 2 ^ (Q - 2 * j)))
    (r : Residual 2 K Q x j (y * 2 ^ (Q - 2 * j)) w) (eW : Estimates shortfall (K + Q) 4 Ŵ (pos (2 ^ 2) *ℤ w)) where
  room_now : 2 * j ≤ Q
  room_now = omega arith

  bound : Bound4 K j x y
  bound =
      let sides = rw (whole_at K Q j room_now) at (opens 2 2 K Q x j (y * 2 ^ (Q - 2 * j)) c) in
      to_bound K j x y (shrink 3 2 (2 ^ (Q - 2 * j)) x y (2 ^ K * (4 ^ j * 4 ^ j)) (pow_pos (Q - 2 * j)) sides)

  rest_now : 1 * up w + x * (y * y) * 2 ^ (Q - 2 * j) ≡ 2 ^ K * (4 ^ j * 4 ^ j) * 2 ^ (Q - 2 * j) + 1 * down w
  rest_now =
      let b = rw (whole_at K Q j room_now) at (balanced 2 K Q x j (y * 2 ^ (Q - 2 * j)) w room_now r) in
      rest_is 1 (2 ^ (Q - 2 * j)) x y (2 ^ K * (4 ^ j * 4 ^ j)) w (pow_pos (Q - 2 * j)) (omega arith)

  large_now : 2 ^ Q ≤ y * 2 ^ (Q - 2 * j)
  large_now =
      let h = rw (mul-pow 4 4 j) at bound.high in
      let g : 4 ^ j ≤ y = at_least_one (2 ^ K) (4 ^ j) x y range.below_one (omega arith) in
      omega (arith, mul-le-mul_right (2 ^ (Q - 2 * j)) g, places_at Q j room_now)

  next_at : (p : ℕ) → Estimates shortfall (K + Q) 6 (pos p) (pos (x * (y * 2 ^ (Q - 2 * j)))) → Goal K Q x j (y * 2 ^ (Q - 2 * j)) Ŵ (pos p)
  next_at p eP =
      let P = plain K Q x sized range in
      let s = y * 2 ^ (Q - 2 * j) in
      let e = 2 ^ (Q - 2 * suc j) in
      let est : Estimate4 K j x y p Ŵ = estimate K Q x j y p s w Ŵ (enough K Q sized) room_now refl rest_now eW eP in
      let still : (beyond Ŵ || beyond (pos p)) ≡ false = guard_still 2 2 4 6 K Q x j s w Ŵ (pos p) sized range (omega arith) (omega arith) (omega arith) (omega arith) (omega arith) room_now c r eW eP in
      let q : guarded choice_4 Ŵ (pos p) ≡ digit4 p Ŵ = rw still in
      let n = natural (4 * y) 2 (digit4 p Ŵ) (omega (arith, bound.one)) (choice_least Ŵ (pos p)) in
      let next : Bound4 K (suc j) x n.0 = step4 K j x y n.0 p Ŵ later P.quarter P.operand bound est n.1 in
      let s_is : s ≡ y * (4 * e) = ap (λ t. y * t) (next_place 2 Q j room) in (
        n.0 * e,
        rw q (moved y n.0 4 e s (digit4 p Ŵ) s_is n.1),
        contained K Q x (suc j) n.0 room next,
      )

  contains_next : (P̂ : ℤ) → Estimates shortfall (K + Q) 6 P̂ (pos (x * (y * 2 ^ (Q - 2 * j)))) → Goal K Q x j (y * 2 ^ (Q - 2 * j)) Ŵ P̂
  contains_next P̂ eP =
      let n = product_natural K Q x (y * 2 ^ (Q - 2 * j)) P̂ (plain K Q x sized range) (enough K Q sized) large_now eP in
      rw n.1 (next_at n.0 (rw n.1 at eP))

-- ---- the laws

contains : (K Q x j s : ℕ) (w Ŵ P̂ : ℤ) → Sized K Q → InRange K x → j < Q / 2 → Contained 2 2 K Q x j s → (j ≡ 0 → s ≡ halves (start_4 K x) * 2 ^ (Q - 1)) →
    (0 < j → s % 2 ^ (Q - 2 * j) ≡ 0) → Residual 2 K Q x j s w → Estimates shortfall (K + Q) 4 Ŵ (pos (2 ^ 2) *ℤ w) → Estimates shortfall (K + Q) 6 P̂ (pos (x * s)) → Goal K Q x j s Ŵ P̂
contains K Q x zero s w Ŵ P̂ sized range more c start_is aligned r eW eP = contains_first K Q x s w Ŵ sized range c (start_is refl) r eW P̂ eP
contains K Q x (suc j) s w Ŵ P̂ sized range more c start_is aligned r eW eP = go (s / 2 ^ (Q - 2 * suc j)) s_is c r eP
  where
    s_is : s ≡ s / 2 ^ (Q - 2 * suc j) * 2 ^ (Q - 2 * suc j)
    s_is = let z : s % 2 ^ (Q - 2 * suc j) ≡ 0 = aligned (omega arith) in omega (arith, div-add-mod' s (2 ^ (Q - 2 * suc j)))

    go : (y : ℕ) → s ≡ y * 2 ^ (Q - 2 * suc j) → Contained 2 2 K Q x (suc j) s → Residual 2 K Q x (suc j) s w → Estimates shortfall (K + Q) 6 P̂ (pos (x * s)) → Goal K Q x (suc j) s Ŵ P̂
    go y i =
        subst (λ t. Contained 2 2 K Q x (suc j) t → Residual 2 K Q x (suc j) t w → Estimates shortfall (K + Q) 6 P̂ (pos (x * t)) → Goal K Q x (suc j) t Ŵ P̂) (sym i)
        (λ c r eP. contains_next K Q x (suc j) y w Ŵ sized range (omega arith) (omega arith) c r eW P̂ eP)

pub contains_every : (K Q x : ℕ) → Sized K Q → InRange K x → Contains shortfall radix_4 K Q x
contains_every K Q x sized range j s w Ŵ P̂ = contains K Q x j s w Ŵ P̂ sized range

pub radix_4_lawful : LawfulSelector shortfall radix_4
radix_4_lawful =
    record {
      bits = inr refl;
      half = omega arith;
      under = omega arith;
      residual_places = omega arith;
      product_places = omega arith;
      least = guarded_least 2 choice_4 choice_least;
      most = guarded_most 2 choice_4 choice_most;
      start_contained = λ K Q x sized range above. start K Q x sized range;
      containment = λ K Q x sized range above. contains_every K Q x sized range;
    }
