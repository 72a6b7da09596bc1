-- The borrow-save form: the number is the first word less the second.
use Rattle.std.specs.Prelude.{ℕ, ◌-◌, ◌*◌, ◌%◌, ◌^◌, true, ℤ, pos, ◌-ℤ◌, ◌*ℤ◌, neg_ℤ}
use Rattle.std.specs.Int.Bits.{bit_xor}
use Rattle.arithmetic.specs.Residues.{word, reading, floored}
use Rattle.number_form.specs.Forms.{FormModel, in_first, shifted, from_place, sign_of}
use Rattle.number_form.specs.CarrySave.{majority}
use Rattle.number_form.specs.declared.words.Words.{Words}

-- A word added. A bit of x + y - z is twice the majority of x, y and not z, less the exclusive or of x, y and z: the former goes to the
-- first word, the latter to the second. The specification leaves this split open, and another would mean the same number.
abbrev pub borrowed : ℕ → Words → Words
borrowed n w =
    record {
      first = (2 * majority w.first n (2 ^ 64 - 1 - w.second)) % 2 ^ 64;
      second = bit_xor (bit_xor w.first n) w.second;
    }

-- The difference of the words, each cut to its bits from place u up, less one unit, since the bits cut from the second word may be more
-- than those cut from the first.
abbrev pub cut : ℕ → Words → ℤ
cut u w = pos (from_place u w.first) -ℤ pos (from_place u w.second) -ℤ pos (2 ^ u)

-- The estimate is that difference, read signed modulo 2 ^ 64 and in units of 2 ^ u.
abbrev pub borrow_save : FormModel
borrow_save =
    record {
      keeps = λ w. true;
      meaning = λ w. pos w.first -ℤ pos w.second;
      set = in_first;
      shift = shifted;
      add = λ n w. borrowed (word n) w;
      add_multiple = λ c v w. borrowed (word (neg_ℤ (c *ℤ pos v.second))) (borrowed (word (c *ℤ pos v.first)) w);
      estimate = λ u w. floored u (reading (cut u w));
      sign = λ w. sign_of (reading (pos w.first -ℤ pos w.second));
    }
