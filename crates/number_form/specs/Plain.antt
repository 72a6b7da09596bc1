-- The plain form: the number in the first word, and 0 in the second.
use Rattle.std.specs.Prelude.{eqb, pos, ◌+ℤ◌, ◌*ℤ◌}
use Rattle.arithmetic.specs.Residues.{word, signed, floored}
use Rattle.number_form.specs.Forms.{FormModel, in_first, shifted, sign_of}

abbrev pub plain : FormModel
plain =
    record {
      keeps = λ w. eqb w.second 0;
      meaning = λ w. pos w.first;
      set = in_first;
      shift = shifted;
      add = λ n w. record { first = word (pos w.first +ℤ n); second = w.second };
      add_multiple = λ c v w. record { first = word (pos w.first +ℤ c *ℤ pos v.first); second = w.second };
      estimate = λ u w. floored u (signed w.first);
      sign = λ w. sign_of (signed w.first);
    }
