-- What a single comes to is right.
use Rattle.std.proofs.Common.{◌≡◌, ℕ, ◌+◌, ◌^◌, ◌<◌, Bool, true, false, cond, eqb, leb, ◌≢◌, pos, sym, refl, subst, arith, eqb-true, leb-false, leb-true}
use borrow.Author.Tests.{eqb-false}
use Rattle.std.proofs.lemmas.Bool.Decides.{nat_tests}
use Rattle.arithmetic.specs.Estimates.{shortfall}
use Rattle.number_form.specs.Forms.{FormModel, LawfulForm}
use Rattle.selection.specs.Operands.{Sized, InRange, quarter}
use Rattle.selection.specs.Selectors.{SelectorModel, LawfulSelector, digits}
use Rattle.recurrence.specs.Recurrence.{quarter_outcome, worked, result_of, turns, first_registers}
use Rattle.recurrence.specs.Root.{ReciprocalRoot, Exactness}
use Rattle.recurrence.proofs.Finishing.{worked_root, worked_exactness}
use Rattle.single.specs.declared.mode.Mode.{Mode}
use Rattle.single.specs.declared.answer.Answer.{Answer}
use Rattle.single.specs.declared.special.Special.TheVariants.{NotANumber, Zero, PlusInfinity, Negative}
use Rattle.single.specs.Words.{exponent, fraction, infinity, is_nan, is_negative, reads_as_zero}
use Rattle.single.specs.Rsqrt.{Rsqrt}
use Rattle.single.specs.Rsqrt.Rsqrt.{quiet_nan, signalling_nan, plus_zero, minus_zero, plus_infinity, negative}
use Rattle.single.specs.Readings.{reading, special_answer, rounded, told}
use Rattle.single.specs.Readings.Reading.{special, positive}
use Rattle.single.proofs.Rounding.{job_number, number_low, number_high, worked_right, quarter_right}

abbrev Right : Mode → ℕ → Answer → Type 0
Right mode v a = Rsqrt mode v a.word a.marks

-- ---- positive numbers

-- the sizes in which a single is worked are in range
pub sized : Sized 25 24
sized = record { width = (omega arith, omega arith); places = (omega arith, omega arith); even = refl }

module _ (mode : Mode) (v : ℕ) (z : reads_as_zero v ≡ false) (h : v < infinity) where
  range : InRange 25 (job_number v)
  range = record { quarter = number_low v; below_one = number_high v }

  -- what comes by digits is never exact, and the quarter is
  by_outcome : (f : ℕ) (c : Bool) → quarter 25 (job_number v) ≡ c → ReciprocalRoot 25 24 (job_number v) (cond c (quarter_outcome 24) (record { f = f; exact = false })).f →
      Exactness 25 24 (job_number v) (cond c (quarter_outcome 24) (record { f = f; exact = false })).f (cond c (quarter_outcome 24) (record { f = f; exact = false })).exact →
      Right mode v (rounded mode (pos (exponent v)) (cond c (quarter_outcome 24) (record { f = f; exact = false })))
  by_outcome f true e r x = quarter_right v z h (eqb-true (job_number v) (2 ^ 23) e) mode
  by_outcome f false e r x =
      let not_quarter : job_number v ≢ 2 ^ 23 = eqb-false (job_number v) (2 ^ 23) e in
      worked_right v f z h (omega (arith, number_low v)) (x.below refl) r mode

  positive_right : (S : SelectorModel) (F : FormModel) → LawfulSelector shortfall S → LawfulForm shortfall F → Right mode v (rounded mode (pos (exponent v)) (worked S F 25 24 (job_number v)))
  positive_right S F LS LF =
      by_outcome (result_of F (turns S F (digits S 24) (first_registers S F 25 24 (job_number v)))).f (quarter 25 (job_number v)) refl
      (worked_root S F LS LF 25 24 (job_number v) sized range) (worked_exactness S F LS LF 25 24 (job_number v) sized range)

-- ---- every word

finite : (v : ℕ) → is_nan v ≡ false → eqb v infinity ≡ false → is_negative v ≡ false → v < infinity
finite v n i p = grind (arith, nat_tests)

module _ (S : SelectorModel) (F : FormModel) (LS : LawfulSelector shortfall S) (LF : LawfulForm shortfall F) (mode : Mode) (v : ℕ) where
  pub told_right : Right mode v (told S F mode (reading v))
  told_right = pick (is_nan v) (reads_as_zero v) (eqb v infinity) (is_negative v) (leb (2 ^ 22) (fraction v)) refl refl refl refl refl
    where
      pick : (n z i p q : Bool) → is_nan v ≡ n → reads_as_zero v ≡ z → eqb v infinity ≡ i → is_negative v ≡ p → leb (2 ^ 22) (fraction v) ≡ q →
          Right mode v (told S F mode (cond n (special (NotANumber q))
          (cond z (special (Zero p))
          (cond i (special PlusInfinity)
          (cond p (special Negative) (positive (2 ^ 23 + fraction v) (pos (exponent v))))))))
      pick true z i p true n_is z_is i_is p_is q_is = quiet_nan n_is (leb-true (2 ^ 22) (fraction v) q_is)
      pick true z i p false n_is z_is i_is p_is q_is = signalling_nan n_is (leb-false (2 ^ 22) (fraction v) q_is)
      pick false true i true q n_is z_is i_is p_is q_is = minus_zero z_is p_is
      pick false true i false q n_is z_is i_is p_is q_is = plus_zero z_is p_is
      pick false false true p q n_is z_is i_is p_is q_is = subst (λ (w : ℕ). Rsqrt mode w 0 (special_answer PlusInfinity).marks) (sym (eqb-true v infinity i_is)) plus_infinity
      pick false false false true q n_is z_is i_is p_is q_is = negative n_is z_is p_is
      pick false false false false q n_is z_is i_is p_is q_is = positive_right mode v z_is (finite v n_is i_is p_is) S F LS LF
