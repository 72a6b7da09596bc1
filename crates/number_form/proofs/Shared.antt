-- What the delivered forms share: words of 64 bits, and the sign.
use Prim.Native.Nat.{ℕ, ◌*◌, ◌^◌, ◌≤◌}
use mathlib.Core.Path.{◌≡◌, ap}
use native.Mathlib.Omega.{arith}
use native.Mathlib.Nat.{mul-le-mul_right}
use lib.IntN.{ℤ, pos}
use Rattle.arithmetic.specs.Residues.{Congruent, InSigned, reading}
use Rattle.arithmetic.proofs.Words.{word_fits, reading_is}
use Rattle.number_form.specs.declared.words.Words.{Words}
use Rattle.number_form.specs.Forms.{InWords, FormModel, LawfulForm, in_first, shifted, sign_of}

pub in_first_fits : (n : ℤ) → InWords (in_first n)
in_first_fits n = record { first_fits = word_fits n; second_fits = omega arith }

pub shifted_fits : (b : ℕ) (w : Words) → InWords (shifted b w)
shifted_fits b w = record { first_fits = word_fits (pos (2 ^ b * w.first)); second_fits = word_fits (pos (2 ^ b * w.second)) }

pub sign_is : (z n : ℤ) → InSigned n → Congruent z n → sign_of (reading z) ≡ sign_of n
sign_is z n s c = ap sign_of (reading_is z n s c)

-- a form that falls short by less than so many units does so by less than more
pub more_units : {m n : ℕ} {F : FormModel} → m ≤ n → LawfulForm m F → LawfulForm n F
more_units {m} {n} {F} h L =
    record {
      set_fits = L.set_fits;
      set_means = L.set_means;
      shift_fits = L.shift_fits;
      shift_means = L.shift_means;
      add_fits = L.add_fits;
      add_means = L.add_means;
      multiple_fits = L.multiple_fits;
      multiple_means = L.multiple_means;
      estimate_range = L.estimate_range;
      estimate_short = λ u w s f. let e = L.estimate_short u w s f in (e.0, omega (arith, e.1, mul-le-mul_right (2 ^ u) h), e.2);
      sign_reads = L.sign_reads;
    }
