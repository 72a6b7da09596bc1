-- Number forms: what a form's functions compute from two words, and the laws that tie them to the number the words mean.
use Rattle.std.specs.Prelude.{ℕ, ◌-◌, ◌*◌, ◌/◌, ◌%◌, ◌^◌, ◌≤◌, ◌<◌, ◌≡◌, ◌⊎◌, Bool, true, ℤ, pos, negsuc, ◌+ℤ◌, ◌*ℤ◌, neg_ℤ, ◌<ℤ◌, ◌≤ℤ◌}
use Rattle.arithmetic.specs.Residues.{Congruent, InSigned, word}
use Rattle.number_form.specs.declared.words.Words.{Words}
use Rattle.number_form.specs.declared.sign.Sign.{Sign}
use Rattle.number_form.specs.declared.sign.Sign.TheVariants.{Negative, NotNegative}

abbrev pub sign_of : ℤ → Sign
sign_of (pos n) = NotNegative
sign_of (negsuc n) = Negative

-- What the functions of a form leave and answer. `keeps` is the form's own invariant on its words, and `meaning` the number that they
-- stand for, to be read modulo 2 ^ 64.
pub record FormModel : Type 0 where
  pub keeps : Words → Bool
  pub meaning : Words → ℤ
  pub set : ℤ → Words
  pub shift : ℕ → Words → Words
  pub add : ℤ → Words → Words
  pub add_multiple : ℤ → Words → Words → Words
  pub estimate : ℕ → Words → ℤ
  pub sign : Words → Sign

-- both words have 64 bits
pub record InWords (w : Words) : Type 0 where
  pub first_fits : w.first < 2 ^ 64
  pub second_fits : w.second < 2 ^ 64

-- words that the form may hold
pub record Fit (F : FormModel) (w : Words) : Type 0 where
  pub fits : InWords w
  pub keeps : F.keeps w ≡ true

-- Setting establishes the form's invariant, shifting, adding and adding a multiple keep it, and each does modulo 2 ^ 64 to the meaning
-- what its name says. The estimate E at u, from -2 ^ (63 - u) to 2 ^ (63 - u) - 1, falls short of the meaning by some e that is at
-- least 0 and below so many units of 2 ^ u. The sign is that of the signed reading.
pub record LawfulForm (units : ℕ) (F : FormModel) : Type 0 where
  pub set_fits : (n : ℤ) → InSigned n → Fit F (F.set n)
  pub set_means : (n : ℤ) → InSigned n → Congruent (F.meaning (F.set n)) n
  pub shift_fits : (b : ℕ) (w : Words) → (b ≡ 1) ⊎ (b ≡ 2) → Fit F w → Fit F (F.shift b w)
  pub shift_means : (b : ℕ) (w : Words) → (b ≡ 1) ⊎ (b ≡ 2) → Fit F w → Congruent (F.meaning (F.shift b w)) (pos (2 ^ b) *ℤ F.meaning w)
  pub add_fits : (n : ℤ) (w : Words) → InSigned n → Fit F w → Fit F (F.add n w)
  pub add_means : (n : ℤ) (w : Words) → InSigned n → Fit F w → Congruent (F.meaning (F.add n w)) (F.meaning w +ℤ n)
  pub multiple_fits : (c : ℤ) (v w : Words) → InSigned c → Fit F v → Fit F w → Fit F (F.add_multiple c v w)
  pub multiple_means : (c : ℤ) (v w : Words) → InSigned c → Fit F v → Fit F w → Congruent (F.meaning (F.add_multiple c v w)) (F.meaning w +ℤ c *ℤ F.meaning v)
  pub estimate_range : (u : ℕ) (w : Words) → u ≤ 60 → Fit F w → (neg_ℤ (pos (2 ^ (63 - u))) ≤ℤ F.estimate u w) × (F.estimate u w <ℤ pos (2 ^ (63 - u)))
  pub estimate_short : (u : ℕ) (w : Words) → u ≤ 60 → Fit F w → (e : ℕ) × (e < units * 2 ^ u) × Congruent (F.meaning w) (F.estimate u w *ℤ pos (2 ^ u) +ℤ pos e)
  pub sign_reads : (w : Words) (n : ℤ) → Fit F w → InSigned n → Congruent (F.meaning w) n → F.sign w ≡ sign_of n

-- ---- what the delivered forms share

-- a number in the first word
abbrev pub in_first : ℤ → Words
in_first n = record { first = word n; second = 0 }

-- both words shifted left by b places
abbrev pub shifted : ℕ → Words → Words
shifted b w = record { first = (2 ^ b * w.first) % 2 ^ 64; second = (2 ^ b * w.second) % 2 ^ 64 }

-- a word's bits from place u up, the others cleared
abbrev pub from_place : ℕ → ℕ → ℕ
from_place u f = f / 2 ^ u * 2 ^ u
