-- The plain form is lawful; its estimates fall short by less than one unit.
use Prim.Native.Nat.{ℕ, ◌*◌, ◌%◌, ◌^◌, ◌≤◌, ◌<◌}
use mathlib.Core.Path.{◌≡◌, refl, ap, sym, ◌∙◌, subst}
use native.Mathlib.Omega.{arith}
use native.Mathlib.Nat.{mod-eq_of_lt}
use lib.Dec.{ltb}
use lib.IntN.{ℤ, pos, ◌+ℤ◌, ◌*ℤ◌}
use borrow.Author.Tests.{eqb-true, eq-eqb}
use Rattle.arithmetic.specs.Residues.{Congruent, InSigned, word, signed, floored}
use Rattle.arithmetic.proofs.Congruence.{cong_sym}
use Rattle.arithmetic.proofs.Words.{word_fits, word_means, signed_is, range, floor}
use Rattle.number_form.specs.declared.words.Words.{Words}
use Rattle.number_form.specs.Forms.{Fit, LawfulForm, shifted, sign_of}
use Rattle.number_form.specs.Plain.{plain}
use Rattle.number_form.proofs.Shared.{in_first_fits, shifted_fits, sign_is}

-- the second word stays as it is
fits : (n : ℤ) (w : Words) → Fit plain w → Fit plain (record { first = word n; second = w.second })
fits n w f = record { fits = record { first_fits = word_fits n; second_fits = f.fits.second_fits }; keeps = f.keeps }

shift_fits : (b : ℕ) (w : Words) → Fit plain w → Fit plain (shifted b w)
shift_fits b w f =
    let none : w.second ≡ 0 = eqb-true w.second 0 f.keeps in
    let still : (2 ^ b * w.second) % 2 ^ 64 ≡ 0 = rw none (omega arith) in
    record { fits = shifted_fits b w; keeps = eq-eqb ((2 ^ b * w.second) % 2 ^ 64) 0 still }

module _ (f : ℕ) (f_fits : f < 2 ^ 64) where
  in_signed : InSigned (signed f)
  in_signed = (signed_is f f_fits (ltb f (2 ^ 63)) refl).0

  reads : Congruent (pos f) (signed f)
  reads = cong_sym (signed f) (pos f) (signed_is f f_fits (ltb f (2 ^ 63)) refl).1

  short : (u : ℕ) → u ≤ 60 → (e : ℕ) × (e < 1 * 2 ^ u) × Congruent (pos f) (floored u (signed f) *ℤ pos (2 ^ u) +ℤ pos e)
  short u small = let r = floor u small (signed f) in (r.0, omega (arith, r.1), subst (λ z. Congruent (pos f) z) r.2 reads)

  sign : (n : ℤ) → InSigned n → Congruent (pos f) n → sign_of (signed f) ≡ sign_of n
  sign n s c = let whole : f % 2 ^ 64 ≡ f = mod-eq_of_lt f_fits in ap (λ k. sign_of (signed k)) (sym whole) ∙ sign_is (pos f) n s c

pub plain_lawful : LawfulForm 1 plain
plain_lawful =
    record {
      set_fits = λ n s. record { fits = in_first_fits n; keeps = refl };
      set_means = λ n s. word_means n;
      shift_fits = λ b w h f. shift_fits b w f;
      shift_means = λ b w h f. word_means (pos (2 ^ b * w.first));
      add_fits = λ n w s f. fits (pos w.first +ℤ n) w f;
      add_means = λ n w s f. word_means (pos w.first +ℤ n);
      multiple_fits = λ c v w s f g. fits (pos w.first +ℤ c *ℤ pos v.first) w g;
      multiple_means = λ c v w s f g. word_means (pos w.first +ℤ c *ℤ pos v.first);
      estimate_range = λ u w h f. range u h (signed w.first) (in_signed w.first f.fits.first_fits);
      estimate_short = λ u w h f. short w.first f.fits.first_fits u h;
      sign_reads = λ w n f s c. sign w.first f.fits.first_fits n s c;
    }
