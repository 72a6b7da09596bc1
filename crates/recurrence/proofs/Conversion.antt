-- On-the-fly conversion adds the digit at its place, and keeps S less one unit beside S.
use Rattle.std.proofs.Common.{◌≡◌, ℕ, zero, suc, ◌+◌, ◌-◌, ◌*◌, ◌^◌, ◌<◌, ◌≤◌, true, ℤ, pos, negsuc, ◌+ℤ◌, ◌-ℤ◌, ◌*ℤ◌, neg_ℤ, nat_abs, ◌<ℤ◌, ap, ◌∙◌, mul-le-mul_right, arith}
use lib.Signed.{le_z, lt_z}
use borrow.Author.Differences.{ints}
use Rattle.std.proofs.lemmas.Bool.Decides.{nat_tests}
use Rattle.recurrence.specs.declared.registers.Partial.{Partial}
use Rattle.recurrence.specs.Recurrence.{next_s, next_below}

-- a partial result with the digit q at the place p, where its last digit stands at r * 2 ^ p
pub record Converted (top r p : ℕ) (q : ℤ) (c : Partial) : Type 0 where
  pub is : pos (next_s (pos r) q p c) ≡ pos c.s +ℤ q *ℤ pos (2 ^ p)
  pub below : next_below (pos r) q p c + 2 ^ p ≡ next_s (pos r) q p c
  pub least : 2 ^ p ≤ next_s (pos r) q p c
  pub most : next_s (pos r) q p c + 2 ^ p ≤ top

module _ (top r p : ℕ) (c : Partial) (below : c.below + r * 2 ^ p ≡ c.s) (most : c.s + r * 2 ^ p ≤ top) where
  zero_digit : 0 < r → Converted top r p (pos 0) c
  zero_digit h =
      let d : nat_abs (pos r -ℤ pos 1 +ℤ pos 0) ≡ r - 1 = omega (arith, ints) in
      let e : r ≡ suc (r - 1) = omega arith in
      let f : r * 2 ^ p ≡ (r - 1) * 2 ^ p + 2 ^ p = ap (λ k. k * 2 ^ p) e ∙ omega arith in
      record {
        is = omega (arith, ints);
        below = rw d (omega arith);
        least = omega arith;
        most = omega arith;
      }

  up_digit : (n : ℕ) → suc n < r → Converted top r p (pos (suc n)) c
  up_digit n h =
      let d : nat_abs (pos (suc n) -ℤ pos 1) ≡ n = omega (arith, ints) in
      let m : suc (suc n) * 2 ^ p ≤ r * 2 ^ p = mul-le-mul_right (2 ^ p) h in
      let t : le_z (pos 0) (pos (suc n)) ≡ true = grind (arith, ints, nat_tests) in
      let u : lt_z (pos 0) (pos (suc n)) ≡ true = grind (arith, ints, nat_tests) in
      record {
        is = rw t (omega (arith, ints));
        below = rw (t, u, d) (omega arith);
        least = rw t (omega arith);
        most = rw t (omega arith);
      }

  down_digit : (n : ℕ) → suc n < r → Converted top r p (negsuc n) c
  down_digit n h =
      let e : nat_abs (pos r +ℤ negsuc n) ≡ r - suc n = omega (arith, ints) in
      let d : nat_abs (pos r -ℤ pos 1 +ℤ negsuc n) ≡ r - suc n - 1 = omega (arith, ints) in
      let split : r ≡ r - suc n - 1 + 1 + suc n = omega arith in
      let one : r - suc n ≡ r - suc n - 1 + 1 = omega arith in
      let whole : r * 2 ^ p ≡ (r - suc n - 1) * 2 ^ p + 2 ^ p + suc n * 2 ^ p = ap (λ k. k * 2 ^ p) split ∙ omega arith in
      let part : (r - suc n) * 2 ^ p ≡ (r - suc n - 1) * 2 ^ p + 2 ^ p = ap (λ k. k * 2 ^ p) one ∙ omega arith in
      record {
        is = rw e (omega (arith, ints));
        below = rw (e, d) (omega arith);
        least = rw e (omega arith);
        most = rw e (omega arith);
      }

  pub converted : (q : ℤ) → neg_ℤ (pos r) <ℤ q → q <ℤ pos r → Converted top r p q c
  converted (pos zero) l h = zero_digit (omega (arith, ints))
  converted (pos (suc n)) l h = up_digit n (omega (arith, ints))
  converted (negsuc n) l h = down_digit n (omega (arith, ints))
