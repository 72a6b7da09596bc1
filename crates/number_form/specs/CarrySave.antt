-- The carry-save form: the number is the sum of the words.
use Rattle.std.specs.Prelude.{ℕ, ◌*◌, ◌%◌, ◌^◌, true, pos, ◌+ℤ◌, ◌*ℤ◌}
use Rattle.std.specs.Int.Bits.{bit_and, bit_or, bit_xor}
use Rattle.arithmetic.specs.Residues.{word, reading, floored}
use Rattle.number_form.specs.Forms.{FormModel, in_first, shifted, from_place, sign_of}
use Rattle.number_form.specs.declared.words.Words.{Words}

-- bit by bit, what two of three words have
abbrev pub majority : ℕ → ℕ → ℕ → ℕ
majority a b c = bit_or (bit_or (bit_and a b) (bit_and a c)) (bit_and b c)

-- A word added: the sums without carries in the first word, the carries in the second.
abbrev pub carried : ℕ → Words → Words
carried n w =
    record {
      first = bit_xor (bit_xor w.first w.second) n;
      second = (2 * majority w.first w.second n) % 2 ^ 64;
    }

-- The estimate is the sum of both words, each cut to its bits from place u up, read signed modulo 2 ^ 64 and in units of 2 ^ u.
abbrev pub carry_save : FormModel
carry_save =
    record {
      keeps = λ w. true;
      meaning = λ w. pos w.first +ℤ pos w.second;
      set = in_first;
      shift = shifted;
      add = λ n w. carried (word n) w;
      add_multiple = λ c v w. carried (word (c *ℤ pos v.second)) (carried (word (c *ℤ pos v.first)) w);
      estimate = λ u w. floored u (reading (pos (from_place u w.first) +ℤ pos (from_place u w.second)));
      sign = λ w. sign_of (reading (pos w.first +ℤ pos w.second));
    }
