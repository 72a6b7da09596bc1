-- What a job comes to is the largest f with X * (f / 2 ^ Q) ^ 2 at most 1, and nothing else is.
use Rattle.std.proofs.Common.{◌≡◌, ℕ, zero, suc, ◌+◌, ◌-◌, ◌*◌, ◌/◌, ◌%◌, ◌^◌, ◌<◌, ◌≤◌, Bool, true, false, cond, ◌⊎◌, ℤ, pos, negsuc, sym, refl, ap, ◌∙◌, subst, inl, inr, ⊎_elim, mul-le-mul_right, mul-le-mul, mul-le-mul_left, arith, pow_pos, pow_mono, pow-add, eqb-true}
use borrow.Author.Differences.{ints, up, down}
use borrow.Author.Tests.{eqb-false}
use Rattle.std.proofs.lemmas.Bool.{cases_lt}
use Rattle.arithmetic.specs.Estimates.{shortfall}
use Rattle.arithmetic.proofs.Powers.{power_of_sum}
use Rattle.arithmetic.proofs.Squares.{square, factor}
use Rattle.number_form.specs.declared.sign.Sign.{Sign}
use Rattle.number_form.specs.declared.sign.Sign.TheVariants.{Negative, NotNegative}
use Rattle.number_form.specs.Forms.{FormModel, LawfulForm, sign_of}
use Rattle.selection.specs.Operands.{Sized, InRange, quarter}
use Rattle.selection.specs.Selectors.{SelectorModel, LawfulSelector, digits}
use Rattle.selection.proofs.Range.{Sides, opens, balanced}
use Rattle.recurrence.specs.declared.registers.Registers.{Registers}
use Rattle.recurrence.specs.declared.registers.Outcome.{Outcome}
use Rattle.recurrence.specs.Recurrence.{result_of, quarter_outcome, worked, turns, first_registers}
use Rattle.recurrence.specs.Root.{ReciprocalRoot, Exactness}
use Rattle.recurrence.specs.Stages.{Stage, Kept}
use Rattle.recurrence.proofs.Recurring.{bits_pos, kept}

-- ---- the last digit

-- the bound at the last digit, whose unit is 1: s - 1 is below the root and s + 1 above it
module _ (c a x t N : ℕ) (c_pos : 1 ≤ c) (a_small : a ≤ c) (b : Sides c a 1 x (suc t) N) where
  under_root : x * (t * t) < N
  under_root = omega (arith, big)
    where
      big : N ≤ x * (t * t) → ⊥
      big h = let g : c * t ≤ b.gap = omega (arith, b.over) in omega (arith, b.low, mul-le-mul_left (c * c) h, mul-le-mul_right x (mul-le-mul g g))

  over_root : N < x * ((t + 2) * (t + 2))
  over_root = omega (arith, big)
    where
      big : x * ((t + 2) * (t + 2)) ≤ N → ⊥
      big h = let g : c * suc t + a * 1 ≤ c * (t + 2) = omega arith in omega (arith, b.high, mul-le-mul_left (c * c) h, mul-le-mul_right x (mul-le-mul g g))

last_place : (b Q : ℕ) → (b ≡ 1) ⊎ (b ≡ 2) → Q % 2 ≡ 0 → b * (Q / b) ≡ Q
last_place b Q (inl e) h = rw e (omega arith)
last_place b Q (inr e) h = rw e (omega arith)

abbrev picked : Sign → ℕ → ℕ
picked n s = elim n [ Negative ↦ s - 1 | NotNegative ↦ s ]

-- f is s, or s - 1 where the residual is negative
ends : (K Q x c a s : ℕ) (w : ℤ) → 1 ≤ c → 1 ≤ a → a ≤ c → Sides c a 1 x s (2 ^ (K + 2 * Q)) → up w + x * (s * s) ≡ 2 ^ (K + 2 * Q) + down w → ReciprocalRoot K Q x (picked (sign_of w) s)
ends K Q x c a zero w c_pos a_pos a_small b e = absurd (omega (arith, b.over))
ends K Q x c a (suc t) (negsuc n) c_pos a_pos a_small b e =
    let k : suc t - 1 ≡ t = omega arith in
    rw k (record { fits = rw (square t) (omega (arith, under_root c a x t (2 ^ (K + 2 * Q)) c_pos a_small b)); largest = rw (square (t + 1)) (omega (arith, ints)) })
ends K Q x c a (suc t) (pos n) c_pos a_pos a_small b e =
    record { fits = rw (square (suc t)) (omega (arith, ints)); largest = rw (square (suc t + 1)) (omega (arith, over_root c a x t (2 ^ (K + 2 * Q)) c_pos a_small b)) }

module _ (S : SelectorModel) (F : FormModel) (LS : LawfulSelector shortfall S) (LF : LawfulForm shortfall F) (K Q x : ℕ) (sized : Sized K Q) where
  -- at the last stage
  finished : (c : Registers) → Stage shortfall S F K Q x (digits S Q) c → ReciprocalRoot K Q x (result_of F c).f
  finished c f =
      let place : S.bits * digits S Q ≡ Q = last_place S.bits Q LS.bits sized.even in
      let room_left : S.bits * digits S Q ≤ Q = omega arith in
      let nothing : Q - S.bits * digits S Q ≡ 0 = omega arith in
      let one : 2 ^ (Q - S.bits * digits S Q) ≡ 1 = ap (λ t. 2 ^ t) nothing in
      let two : 2 ^ 1 ≤ 2 ^ S.bits = pow_mono (bits_pos S LS) in
      let o = rw one at (opens S.bits S.largest K Q x (digits S Q) c.partial.s f.contained) in
      let e = rw one at (balanced S.bits K Q x (digits S Q) c.partial.s f.w room_left f.residual_is) in
      let e' : up f.w + x * (c.partial.s * c.partial.s) ≡ 2 ^ (K + 2 * Q) + down f.w = omega arith in
      let sign = LF.sign_reads c.residual f.w f.residual_means.fits f.residual_means.reads f.residual_means.means in
      subst (λ z. ReciprocalRoot K Q x (picked z c.partial.s)) (sym sign)
      (ends K Q x (2 ^ S.bits - 1) S.largest c.partial.s f.w (omega arith) (omega (arith, LS.half)) (omega (arith, LS.under)) o e')

-- ---- the quarter

quarter_whole : (K Q : ℕ) → 2 ≤ K → 2 ^ (K + 2 * Q) ≡ 2 ^ (K - 2) * (2 ^ (Q + 1) * 2 ^ (Q + 1))
quarter_whole K Q h =
    power_of_sum (K + 2 * Q) (K - 2) (Q + 1 + (Q + 1)) (omega arith) ∙ ap (λ k. 2 ^ (K - 2) * k) (pow-add 2 (Q + 1) (Q + 1))

quarter_root : (K Q : ℕ) → 2 ≤ K → ReciprocalRoot K Q (2 ^ (K - 2)) (2 ^ (Q + 1))
quarter_root K Q h =
    let r = go (2 ^ (K - 2)) (2 ^ (Q + 1)) (2 ^ (K + 2 * Q)) (pow_pos (K - 2)) (quarter_whole K Q h) in
    record { fits = r.fits; largest = r.largest }
  where
    go : (y f N : ℕ) → 0 < y → N ≡ y * (f * f) → record { fits : y * f ^ 2 ≤ N; largest : N < y * (f + 1) ^ 2 }
    go y f N y_pos e = record { fits = rw (square f) (omega arith); largest = rw (square (f + 1)) (omega arith) }

-- ---- the root is one number, and only the quarter's is exact

pub root_unique : (K Q x f g : ℕ) → ReciprocalRoot K Q x f → ReciprocalRoot K Q x g → f ≡ g
root_unique K Q x f g r t = omega (arith, apart f g r t, apart g f t r)
  where
    apart : (f g : ℕ) → ReciprocalRoot K Q x f → ReciprocalRoot K Q x g → suc f ≤ g → ⊥
    apart f g r t h =
        let l = rw (square (f + 1)) at r.largest in
        let m = rw (square g) at t.fits in
        omega (arith, mul-le-mul_left x (mul-le-mul h h))

-- a power of two between two others
between : (i l h : ℕ) → 2 ^ l < 2 ^ i → 2 ^ i < 2 ^ h → (l < i) × (i < h)
between i l h p q =
    (⊎_elim (λ k. k) (λ k. absurd (omega (arith, pow_mono {i = i} {j = l} k))) (cases_lt l i), ⊎_elim (λ k. k) (λ k. absurd (omega (arith, pow_mono {i = h} {j = i} k))) (cases_lt i h))

same_power : (m n : ℕ) → 2 ^ m ≡ 2 ^ n → m ≡ n
same_power m n e = omega (arith, apart m n e, apart n m (sym e))
  where
    apart : (m n : ℕ) → 2 ^ m ≡ 2 ^ n → suc m ≤ n → ⊥
    apart m n e h = omega (arith, pow_mono {i = suc m} {j = n} h, pow_pos m, power_of_sum (suc m) 1 m (omega arith))

never_exact : (K Q x f : ℕ) → 2 ≤ K → 2 ^ (K - 2) < x → x < 2 ^ K → x * (f * f) ≡ 2 ^ (K + 2 * Q) → ⊥
never_exact K Q x f h low high e =
    let m = factor (K + 2 * Q) x (f * f) e in
    let i = factor (K + 2 * Q) f (x * f) (omega arith) in
    let b = between m.0 (K - 2) K (subst (λ (k : ℕ). 2 ^ (K - 2) < k) m.1 low) (subst (λ (k : ℕ). k < 2 ^ K) m.1 high) in
    let whole : 2 ^ (m.0 + (i.0 + i.0)) ≡ 2 ^ (K + 2 * Q) =
    pow-add 2 m.0 (i.0 + i.0) ∙ ap (λ k. 2 ^ m.0 * k) (pow-add 2 i.0 i.0) ∙ sym (together m.0 i.0 m.1 i.1) ∙ e in
    let same = same_power (m.0 + (i.0 + i.0)) (K + 2 * Q) whole in
    omega (arith, b.0, b.1)
  where
    together : (m i : ℕ) → x ≡ 2 ^ m → f ≡ 2 ^ i → x * (f * f) ≡ 2 ^ m * (2 ^ i * 2 ^ i)
    together m i a b = cc

-- ---- what `worked` is

module _ (S : SelectorModel) (F : FormModel) (LS : LawfulSelector shortfall S) (LF : LawfulForm shortfall F) (K Q x : ℕ) (sized : Sized K Q) (range : InRange K x) where
  -- an operand other than the quarter
  pub above : quarter K x ≡ false → 2 ^ (K - 2) < x
  above e = omega (arith, range.quarter, eqb-false x (2 ^ (K - 2)) e)

  pub kept_above : quarter K x ≡ false → Kept shortfall S F K Q x
  kept_above e = kept S F LS LF K Q x sized range (above e)

  abbrev by_digits : Outcome
  by_digits = result_of F (turns S F (digits S Q) (first_registers S F K Q x))

  root_by_digits : quarter K x ≡ false → ReciprocalRoot K Q x by_digits.f
  root_by_digits e = finished S F LS LF K Q x sized (turns S F (digits S Q) (first_registers S F K Q x)) (kept_above e (digits S Q) (omega arith))

  root_at_quarter : quarter K x ≡ true → ReciprocalRoot K Q x (2 ^ (Q + 1))
  root_at_quarter e = rw (eqb-true x (2 ^ (K - 2)) e) (quarter_root K Q (omega (arith, sized.width.0)))

  pub worked_root : ReciprocalRoot K Q x (worked S F K Q x).f
  worked_root = go (quarter K x) refl
    where
      go : (c : Bool) → quarter K x ≡ c → ReciprocalRoot K Q x (cond c (quarter_outcome Q) by_digits).f
      go true e = root_at_quarter e
      go false e = root_by_digits e

  pub worked_exactness : Exactness K Q x (worked S F K Q x).f (worked S F K Q x).exact
  worked_exactness = go (quarter K x) refl
    where
      go : (c : Bool) → quarter K x ≡ c → Exactness K Q x (cond c (quarter_outcome Q) by_digits).f (cond c (quarter_outcome Q) by_digits).exact
      go true e =
          let is : x ≡ 2 ^ (K - 2) = eqb-true x (2 ^ (K - 2)) e in
          record {
            equal = λ _. rw (square (2 ^ (Q + 1)), is) (sym (quarter_whole K Q (omega (arith, sized.width.0))));
            below = λ f. cc;
          }
      go false e =
          let r = root_by_digits e in
          let not_equal : x * (by_digits.f * by_digits.f) ≡ 2 ^ (K + 2 * Q) → ⊥ = never_exact K Q x by_digits.f (omega (arith, sized.width.0)) (above e) range.below_one in
          record { equal = λ f. cc; below = λ _. rw (square by_digits.f) (omega (arith, not_equal, rw (square by_digits.f) at r.fits)) }
