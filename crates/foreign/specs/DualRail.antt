-- The dual-rail form: the number in the second word, and every bit of it inverted in the first.
use Rattle.std.specs.Prelude.{ℕ, ◌-◌, ◌*◌, ◌%◌, ◌^◌, cond, pos, ◌+ℤ◌, ◌*ℤ◌, ◌==◌, nat_lt}
use Rattle.arithmetic.specs.Residues.{word, signed, floored}
use Rattle.number_form.specs.declared.words.Words.{Words}
use Rattle.number_form.specs.declared.sign.Sign.TheVariants.{Negative, NotNegative}
use Rattle.number_form.specs.Forms.{FormModel}

abbrev pub both_rails : ℕ → Words
both_rails n = record { first = 2 ^ 64 - 1 - n; second = n }

-- The rails agree. The sign is read off the inverted one.
abbrev pub dual_rail : FormModel
dual_rail =
    record {
      keeps = λ w. (w.first == 2 ^ 64 - 1 - w.second);
      meaning = λ w. pos w.second;
      set = λ n. both_rails (word n);
      shift = λ b w. both_rails ((2 ^ b * w.second) % 2 ^ 64);
      add = λ n w. both_rails (word (pos w.second +ℤ n));
      add_multiple = λ c v w. both_rails (word (pos w.second +ℤ c *ℤ pos v.second));
      estimate = λ u w. floored u (signed w.second);
      sign = λ w. cond (nat_lt w.first (2 ^ 63)) Negative NotNegative;
    }
