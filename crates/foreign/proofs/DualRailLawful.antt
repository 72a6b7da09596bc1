-- The dual-rail form is lawful.
use Rattle.std.proofs.Common.{◌≡◌, ℕ, ◌-◌, ◌*◌, ◌%◌, ◌^◌, ◌<◌, ◌≤◌, Bool, true, false, cond, ltb, ℤ, pos, negsuc, ◌+ℤ◌, ◌*ℤ◌, sym, refl, ap, ◌∙◌, subst, mod-eq_of_lt, arith, eq-eqb, eqb-true}
use Rattle.std.proofs.lemmas.Bool.Decides.{nat_tests}
use Rattle.arithmetic.specs.Residues.{Congruent, InSigned, word, signed, floored}
use Rattle.arithmetic.specs.Estimates.{shortfall}
use Rattle.arithmetic.proofs.Congruence.{cong_sym}
use Rattle.arithmetic.proofs.Words.{word_fits, word_means, signed_is, range, floor, reading_is}
use Rattle.number_form.specs.declared.words.Words.{Words}
use Rattle.number_form.specs.declared.sign.Sign.TheVariants.{Negative, NotNegative}
use Rattle.number_form.specs.Forms.{Fit, LawfulForm, sign_of}
use Rattle.foreign.specs.DualRail.{both_rails, dual_rail}

fits : (n : ℕ) → n < 2 ^ 64 → Fit dual_rail (both_rails n)
fits n h =
    record {
      fits = record { first_fits = omega arith; second_fits = h };
      keeps = eq-eqb (2 ^ 64 - 1 - n) (2 ^ 64 - 1 - n) refl;
    }

module _ (f : ℕ) (f_fits : f < 2 ^ 64) where
  in_signed : InSigned (signed f)
  in_signed = (signed_is f f_fits (ltb f (2 ^ 63)) refl).0

  reads : Congruent (pos f) (signed f)
  reads = cong_sym (signed f) (pos f) (signed_is f f_fits (ltb f (2 ^ 63)) refl).1

  short : (u : ℕ) → u ≤ 60 → (e : ℕ) × (e < shortfall * 2 ^ u) × Congruent (pos f) (floored u (signed f) *ℤ pos (2 ^ u) +ℤ pos e)
  short u small = let r = floor u small (signed f) in (r.0, omega (arith, r.1), subst (λ z. Congruent (pos f) z) r.2 reads)

-- the top bit of the inverted rail
inverted : (i f : ℕ) → i ≡ 2 ^ 64 - 1 - f → f < 2 ^ 64 → ltb i (2 ^ 63) ≡ ltb (2 ^ 63 - 1) f
inverted i f e h = grind (arith, nat_tests)

sign_by : (f : ℕ) (c : Bool) → ltb f (2 ^ 63) ≡ c → cond (ltb (2 ^ 63 - 1) f) Negative NotNegative ≡ sign_of (cond c (pos f) (negsuc (2 ^ 64 - 1 - f)))
sign_by f true e = let t : ltb (2 ^ 63 - 1) f ≡ false = grind (arith, nat_tests) in rw t refl
sign_by f false e = let t : ltb (2 ^ 63 - 1) f ≡ true = grind (arith, nat_tests) in rw t refl

sign : (w : Words) (n : ℤ) → Fit dual_rail w → InSigned n → Congruent (pos w.second) n → dual_rail.sign w ≡ sign_of n
sign w n f s c =
    let whole : w.second % 2 ^ 64 ≡ w.second = mod-eq_of_lt f.fits.second_fits in
    ap (λ k. cond k Negative NotNegative) (inverted w.first w.second (eqb-true w.first (2 ^ 64 - 1 - w.second) f.keeps) f.fits.second_fits)
    ∙ sign_by w.second (ltb w.second (2 ^ 63)) refl
    ∙ ap (λ k. sign_of (signed k)) (sym whole) ∙ ap sign_of (reading_is (pos w.second) n s c)

pub dual_rail_lawful : LawfulForm shortfall dual_rail
dual_rail_lawful =
    record {
      set_fits = λ n s. fits (word n) (word_fits n);
      set_means = λ n s. word_means n;
      shift_fits = λ b w h f. fits ((2 ^ b * w.second) % 2 ^ 64) (word_fits (pos (2 ^ b * w.second)));
      shift_means = λ b w h f. word_means (pos (2 ^ b * w.second));
      add_fits = λ n w s f. fits (word (pos w.second +ℤ n)) (word_fits (pos w.second +ℤ n));
      add_means = λ n w s f. word_means (pos w.second +ℤ n);
      multiple_fits = λ c v w s f g. fits (word (pos w.second +ℤ c *ℤ pos v.second)) (word_fits (pos w.second +ℤ c *ℤ pos v.second));
      multiple_means = λ c v w s f g. word_means (pos w.second +ℤ c *ℤ pos v.second);
      estimate_range = λ u w h f. range u h (signed w.second) (in_signed w.second f.fits.second_fits);
      estimate_short = λ u w h f. short w.second f.fits.second_fits u h;
      sign_reads = sign;
    }
