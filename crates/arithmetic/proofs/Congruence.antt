-- Numbers modulo 2 ^ 64, and when a congruence is an equation.
use Rattle.std.proofs.Common.{◌≡◌, ℕ, zero, suc, ◌+◌, ◌^◌, ◌<◌, ◌≤◌, [], ◌∷◌, ℤ, pos, negsuc, ◌+ℤ◌, ◌-ℤ◌, ◌*ℤ◌, neg_ℤ, sym, refl, ap, ◌∙◌, ap₂, arith}
use borrow.Author.Differences.{ints, up, down}
use Rattle.arithmetic.proofs.Ring.{ring, ring₂, ring₃, ring₄, v, #, ◌⊕◌, ◌⊖◌, ◌⊗◌, neg}
use Rattle.arithmetic.specs.Residues.{Congruent, InSigned}

abbrev pub modulus : ℤ
modulus = pos (2 ^ 64)

pub cong_refl : (a : ℤ) → Congruent a a
cong_refl a = (pos 0, ring₂ a modulus (λ x m. x) (λ x m. x ⊕ # (pos 0) ⊗ m) refl)

pub cong_sym : (a b : ℤ) → Congruent a b → Congruent b a
cong_sym a b (k, e) = (neg_ℤ k, sym (ap (λ z. z +ℤ neg_ℤ k *ℤ modulus) e ∙ ring₃ b k modulus (λ y l m. y ⊕ l ⊗ m ⊕ neg l ⊗ m) (λ y l m. y) refl))

pub cong_trans : (a b c : ℤ) → Congruent a b → Congruent b c → Congruent a c
cong_trans a b c (k, e) (l, f) =
    (l +ℤ k, e ∙ ap (λ z. z +ℤ k *ℤ modulus) f ∙ ring₄ c l k modulus (λ z p q m. z ⊕ p ⊗ m ⊕ q ⊗ m) (λ z p q m. z ⊕ (p ⊕ q) ⊗ m) refl)

pub cong_sum : (a b c d : ℤ) → Congruent a b → Congruent c d → Congruent (a +ℤ c) (b +ℤ d)
cong_sum a b c d (k, e) (l, f) =
    (k +ℤ l, ap₂ ◌+ℤ◌ e f ∙ ring (b ∷ d ∷ k ∷ l ∷ modulus ∷ []) ((v 0 ⊕ v 2 ⊗ v 4) ⊕ (v 1 ⊕ v 3 ⊗ v 4)) ((v 0 ⊕ v 1) ⊕ (v 2 ⊕ v 3) ⊗ v 4) refl)

pub cong_less : (a b c d : ℤ) → Congruent a b → Congruent c d → Congruent (a -ℤ c) (b -ℤ d)
cong_less a b c d (k, e) (l, f) =
    (k -ℤ l, ap₂ ◌-ℤ◌ e f ∙ ring (b ∷ d ∷ k ∷ l ∷ modulus ∷ []) ((v 0 ⊕ v 2 ⊗ v 4) ⊖ (v 1 ⊕ v 3 ⊗ v 4)) ((v 0 ⊖ v 1) ⊕ (v 2 ⊖ v 3) ⊗ v 4) refl)

pub cong_times : (c a b : ℤ) → Congruent a b → Congruent (c *ℤ a) (c *ℤ b)
cong_times c a b (k, e) = (c *ℤ k, ap (λ z. c *ℤ z) e ∙ ring₄ c b k modulus (λ x y l m. x ⊗ (y ⊕ l ⊗ m)) (λ x y l m. x ⊗ y ⊕ x ⊗ l ⊗ m) refl)

-- two numbers less than 2 ^ 64 apart
pub cong_near : (a b : ℤ) → Congruent a b → up a + down b < up b + down a + 2 ^ 64 → up b + down a < up a + down b + 2 ^ 64 → a ≡ b
cong_near a b (pos zero, e) h g = omega (arith, ints)
cong_near a b (pos (suc k), e) h g = absurd (omega (arith, ints))
cong_near a b (negsuc k, e) h g = absurd (omega (arith, ints))

-- -h ≤ n ≤ h
pub record Size (h : ℕ) (n : ℤ) : Type 0 where
  pub at_most : up n ≤ down n + h
  pub at_least : down n ≤ up n + h

pub signed : {h : ℕ} {n : ℤ} → Size h n → h < 2 ^ 63 → InSigned n
signed {h} {n} z l = record { least = omega (arith, ints); most = omega (arith, ints) }
