-- What a job's registers mean after j digits, for every lawful selector over every lawful form.
use Rattle.std.specs.Prelude.{◌≡◌, ℕ, suc, ◌+◌, ◌-◌, ◌*◌, ◌^◌, ◌≤◌, List, [], ◌∷◌, length, ℤ, pos, ◌+ℤ◌, ◌*ℤ◌, neg_ℤ, ◌≤ℤ◌}
use Rattle.arithmetic.specs.Residues.{Congruent, InSigned}
use Rattle.arithmetic.specs.Estimates.{Estimates}
use Rattle.number_form.specs.declared.words.Words.{Words}
use Rattle.number_form.specs.Forms.{FormModel, Fit}
use Rattle.selection.specs.Operands.{Contained}
use Rattle.selection.specs.Selectors.{SelectorModel, radix, digits, started, Residual}
use Rattle.recurrence.specs.declared.registers.Registers.{Registers}
use Rattle.recurrence.specs.Recurrence.{turns, first_registers}

-- Words that the form may hold mean n: modulo 2 ^ 64, and n is their signed reading.
pub record Means (F : FormModel) (u : Words) (n : ℤ) : Type 0 where
  pub fits : Fit F u
  pub means : Congruent (F.meaning u) n
  pub reads : InSigned n

-- ---- the digits, in the subject's own words

-- q, from -a to a, is the selector's digit at the partial result S = s / 2 ^ Q of j digits: for the form's estimates of words that mean
-- r * W and P. These estimates fall short of r * W and of P by at least 0 and by less than so many units.
pub record Selected (units : ℕ) (S : SelectorModel) (F : FormModel) (K Q x j s : ℕ) (q : ℤ) : Type 0 where
  pub least : neg_ℤ (pos S.largest) ≤ℤ q
  pub most : q ≤ℤ pos S.largest
  pub w : ℤ
  pub residual_is : Residual S.bits K Q x j s w
  pub shifted : Words
  pub shifted_means : Means F shifted (pos (radix S) *ℤ w)
  pub shifted_estimates : Estimates units (K + Q) S.residual_places (F.estimate (K + Q - S.residual_places) shifted) (pos (radix S) *ℤ w)
  pub product : Words
  pub product_means : Means F product (pos (x * s))
  pub product_estimates : Estimates units (K + Q) S.product_places (F.estimate (K + Q - S.product_places) product) (pos (x * s))
  pub chosen : q ≡ S.digit (F.estimate (K + Q - S.residual_places) shifted) (F.estimate (K + Q - S.product_places) product)

-- S[0] + q_1 * r ^ -1 + .. + q_j * r ^ -j, times 2 ^ Q; the newest digit stands first
abbrev pub summed : SelectorModel → ℕ → ℕ → ℕ → List ℤ → ℤ
summed S K Q x [] = pos (started S K Q x)
summed S K Q x (q ∷ qs) = summed S K Q x qs +ℤ q *ℤ pos (2 ^ (Q - S.bits * suc (length qs)))

-- each digit is the selector's at the partial result before it, which is the sum of the digits before it
pub data EachSelected (units : ℕ) (S : SelectorModel) (F : FormModel) (K Q x : ℕ) : List ℤ → Type 0 where
  none : EachSelected units S F K Q x []
  next : {q : ℤ} {qs : List ℤ} {s : ℕ} → EachSelected units S F K Q x qs → pos s ≡ summed S K Q x qs → Selected units S F K Q x (length qs) s q →
      EachSelected units S F K Q x (q ∷ qs)

-- j digits that lead to the partial result s
pub record Digits (units : ℕ) (S : SelectorModel) (F : FormModel) (K Q x j s : ℕ) : Type 0 where
  pub list : List ℤ
  pub as_many : length list ≡ j
  pub sum : pos s ≡ summed S K Q x list
  pub each : EachSelected units S F K Q x list

-- ---- the registers

-- After j digits, with S = s / 2 ^ Q: the residual means W = r ^ j * (1 - X * S ^ 2) and the product P = X * S, both times 2 ^ (K + Q); beside S
-- stands S - r ^ -j; S meets the containment bound; and j digits led to it.
pub record Stage (units : ℕ) (S : SelectorModel) (F : FormModel) (K Q x j : ℕ) (c : Registers) : Type 0 where
  pub width_is : c.k ≡ K
  pub places_are : c.q ≡ Q
  pub factor_is : c.factor ≡ x
  pub place_is : c.place ≡ Q - S.bits * j
  pub w : ℤ
  pub residual_is : Residual S.bits K Q x j c.partial.s w
  pub residual_means : Means F c.residual w
  pub product_means : Means F c.product (pos (x * c.partial.s))
  pub below_is : c.partial.below + 2 ^ (Q - S.bits * j) ≡ c.partial.s
  pub contained : Contained S.bits S.largest K Q x j c.partial.s
  pub digits_made : Digits units S F K Q x j c.partial.s

-- every stage of a job, from its start to its last digit
abbrev pub Kept : ℕ → SelectorModel → FormModel → ℕ → ℕ → ℕ → Type 0
Kept units S F K Q x = (j : ℕ) → j ≤ digits S Q → Stage units S F K Q x j (turns S F j (first_registers S F K Q x))
