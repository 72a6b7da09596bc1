-- The 64 bits of a number, their signed reading, and its cut at a place.
use Rattle.std.proofs.Common.{◌≡◌, ℕ, zero, suc, ◌+◌, ◌-◌, ◌*◌, ◌/◌, ◌%◌, ◌^◌, ◌<◌, ◌≤◌, Bool, true, false, cond, ltb, [], ◌∷◌, ℤ, pos, negsuc, ◌+ℤ◌, ◌-ℤ◌, ◌*ℤ◌, neg_ℤ, ◌≤ℤ◌, ◌<ℤ◌, sym, refl, ap, ◌∙◌, subst, mod-lt, div-lt_iff_lt-mul, div-add-mod', arith, pow_pos, w64, SFits, to_z, of_z, ltb-false, ltb-true}
use lib.IntN.{*ℤ_comm}
use mir.Val.{sel}
use borrow.Author.Differences.{ints}
use Rattle.arithmetic.specs.Residues.{Congruent, InSigned, word, signed, reading, floored}
use Rattle.arithmetic.proofs.Ring.{ring, v, ◌⊕◌, ◌⊖◌, ◌⊗◌}
use Rattle.arithmetic.proofs.Powers.{power_of_sum}
use Rattle.arithmetic.proofs.Congruence.{modulus, cong_refl, cong_sym, cong_trans, cong_sum, cong_less, cong_times, cong_near}

-- ---- a number's 64 bits

pub word_fits : (n : ℤ) → word n < 2 ^ 64
word_fits (pos n) = omega arith
word_fits (negsuc n) = omega arith

pub word_means : (n : ℤ) → Congruent (pos (word n)) n
word_means (pos n) = (neg_ℤ (pos (n / 2 ^ 64)), omega (arith, ints))
word_means (negsuc n) = (pos (suc (n / 2 ^ 64)), omega (arith, ints))

-- ---- their signed reading

pub signed_is : (f : ℕ) → f < 2 ^ 64 → (c : Bool) → ltb f (2 ^ 63) ≡ c → InSigned (cond c (pos f) (negsuc (2 ^ 64 - 1 - f))) × Congruent (cond c (pos f) (negsuc (2 ^ 64 - 1 - f))) (pos f)
signed_is f h true e = let l = ltb-true f (2 ^ 63) e in (record { least = omega (arith, ints); most = omega (arith, ints) }, (pos 0, omega (arith, ints)))
signed_is f h false e = let l = ltb-false f (2 ^ 63) e in (record { least = omega (arith, ints); most = omega (arith, ints) }, (negsuc 0, omega (arith, ints)))

pub read_signed : (n : ℤ) → InSigned (reading n)
read_signed n = (signed_is (word n) (word_fits n) (ltb (word n) (2 ^ 63)) refl).0

pub read_means : (n : ℤ) → Congruent (reading n) n
read_means n =
    cong_trans (reading n) (pos (word n)) n
    (signed_is (word n) (word_fits n) (ltb (word n) (2 ^ 63)) refl).1 (word_means n)

same_reading : (a b : ℤ) → InSigned a → InSigned b → Congruent a b → a ≡ b
same_reading a b s t c = cong_near a b c (omega (arith, ints, s.least, s.most, t.least, t.most)) (omega (arith, ints, s.least, s.most, t.least, t.most))

-- a number's signed reading is the signed number that it is congruent to
pub reading_is : (z n : ℤ) → InSigned n → Congruent z n → reading z ≡ n
reading_is z n s c = same_reading (reading z) n (read_signed z) s (cong_trans (reading z) z n (read_means z) c)

-- ---- what code computes

pub bits_are : (n : ℤ) → SFits w64 n → word n ≡ of_z w64 n
bits_are (pos n) f = omega (arith, f.sfits)
bits_are (negsuc n) f = omega (arith, f.sfits)

signed_by : (f : ℕ) (c : Bool) → cond c (pos f) (negsuc (2 ^ 64 - 1 - f)) ≡ sel c (pos f) (negsuc (2 ^ 64 - suc f))
signed_by f true = refl
signed_by f false = ap negsuc (omega arith)

pub signed_reads : (f : ℕ) → signed f ≡ to_z w64 f
signed_reads f = signed_by f (ltb f (2 ^ 63))

same_bits : (a b : ℕ) → a < 2 ^ 64 → b < 2 ^ 64 → Congruent (pos a) (pos b) → a ≡ b
same_bits a b h l c = let e = cong_near (pos a) (pos b) c (omega arith) (omega arith) in omega (arith, ints)

bits_by : (n : ℤ) (m : ℕ) → Congruent n (pos m) → word n ≡ m % 2 ^ 64
bits_by n m c =
    same_bits (word n) (m % 2 ^ 64) (word_fits n) (word_fits (pos m))
    (cong_trans (pos (word n)) n (pos (m % 2 ^ 64)) (word_means n)
    (cong_trans n (pos m) (pos (m % 2 ^ 64)) c (cong_sym (pos (m % 2 ^ 64)) (pos m) (word_means (pos m)))))

-- a wrapping product with a signed number
pub product_bits : (c : ℤ) (x : ℕ) → word (c *ℤ pos x) ≡ (x * word c) % 2 ^ 64
product_bits c x =
    bits_by (c *ℤ pos x) (x * word c)
    (subst (λ z. Congruent z (pos (x * word c))) (*ℤ_comm (pos x) c)
    (cong_times (pos x) c (pos (word c)) (cong_sym (pos (word c)) c (word_means c))))

-- congruent numbers have the same bits
pub word_cong : (a b : ℤ) → Congruent a b → word a ≡ word b
word_cong a b c =
    same_bits (word a) (word b) (word_fits a) (word_fits b)
    (cong_trans (pos (word a)) a (pos (word b)) (word_means a) (cong_trans a b (pos (word b)) c (cong_sym (pos (word b)) b (word_means b))))

-- a difference may take the bits of its first number, or of its second
pub difference_left : (m : ℤ) (b : ℕ) → word (pos (word m) -ℤ pos b) ≡ word (m -ℤ pos b)
difference_left m b = word_cong (pos (word m) -ℤ pos b) (m -ℤ pos b) (cong_less (pos (word m)) m (pos b) (pos b) (word_means m) (cong_refl (pos b)))

pub opposite : (m : ℤ) → word (pos 0 -ℤ pos (word m)) ≡ word (neg_ℤ m)
opposite m =
    word_cong (pos 0 -ℤ pos (word m)) (neg_ℤ m)
    (subst (λ z. Congruent (pos 0 -ℤ pos (word m)) z) (omega (arith, ints)) (cong_less (pos 0) (pos 0) (pos (word m)) m (cong_refl (pos 0)) (word_means m)))

-- ---- the reading, cut at place u

module _ (u : ℕ) (small : u ≤ 60) where
  half : 2 ^ (63 - u) * 2 ^ u ≡ 2 ^ 63
  half = sym (power_of_sum 63 (63 - u) u (omega arith))

  full : 2 ^ (64 - u) * 2 ^ u ≡ 2 ^ 64
  full = sym (power_of_sum 64 (64 - u) u (omega arith))

  pub range : (z : ℤ) → InSigned z → (neg_ℤ (pos (2 ^ (63 - u))) ≤ℤ floored u z) × (floored u z <ℤ pos (2 ^ (63 - u)))
  range (pos a) s =
      let l : a < 2 ^ (63 - u) * 2 ^ u = omega (arith, ints, half, s.most) in
      let h : a / 2 ^ u < 2 ^ (63 - u) = (div-lt_iff_lt-mul (pow_pos u)).1 l in
      (omega (arith, ints), omega (arith, ints))
  range (negsuc a) s =
      let l : a < 2 ^ (63 - u) * 2 ^ u = omega (arith, ints, half, s.least) in
      let h : a / 2 ^ u < 2 ^ (63 - u) = (div-lt_iff_lt-mul (pow_pos u)).1 l in
      (omega (arith, ints), omega (arith, ints))

  pub floor : (z : ℤ) → (e : ℕ) × (e < 2 ^ u) × (z ≡ floored u z *ℤ pos (2 ^ u) +ℤ pos e)
  floor (pos a) =
      let d : a / 2 ^ u * 2 ^ u + a % 2 ^ u ≡ a = div-add-mod' a (2 ^ u) in
      (a % 2 ^ u, mod-lt a (pow_pos u), omega (arith, ints))
  floor (negsuc a) =
      let d : a / 2 ^ u * 2 ^ u + a % 2 ^ u ≡ a = div-add-mod' a (2 ^ u) in
      let m : a % 2 ^ u < 2 ^ u = mod-lt a (pow_pos u) in
      (2 ^ u - 1 - a % 2 ^ u, omega arith, omega (arith, ints))

  -- a multiple of p below p
  none : (m : ℤ) (e p : ℕ) → e < p → pos e ≡ m *ℤ pos p → e ≡ 0
  none (pos zero) e p h q = omega (arith, ints)
  none (pos (suc k)) e p h q = absurd (omega (arith, ints))
  none (negsuc k) e p h q = absurd (omega (arith, ints))

  -- a number that is a multiple of 2 ^ u loses nothing
  exact : (n z : ℤ) → Congruent z (n *ℤ pos (2 ^ u)) → z ≡ floored u z *ℤ pos (2 ^ u)
  exact n z (k, q) =
      let p : ℤ = pos (2 ^ u) in
      let E : ℤ = floored u z in
      let f = floor z in
      let all : modulus ≡ pos (2 ^ (64 - u)) *ℤ p = ap pos (sym full) in
      let e_is : pos f.0 ≡ z -ℤ E *ℤ p = omega (arith, ints, f.2) in
      let multiple : pos f.0 ≡ (n +ℤ k *ℤ pos (2 ^ (64 - u)) -ℤ E) *ℤ p =
      e_is ∙ ap (λ y. y -ℤ E *ℤ p) (q ∙ ap (λ y. n *ℤ p +ℤ k *ℤ y) all)
      ∙ ring (n ∷ k ∷ pos (2 ^ (64 - u)) ∷ E ∷ p ∷ []) (v 0 ⊗ v 4 ⊕ v 1 ⊗ (v 2 ⊗ v 4) ⊖ v 3 ⊗ v 4) ((v 0 ⊕ v 1 ⊗ v 2 ⊖ v 3) ⊗ v 4) refl in
      let nil : f.0 ≡ 0 = none (n +ℤ k *ℤ pos (2 ^ (64 - u)) -ℤ E) f.0 (2 ^ u) f.1 multiple in
      omega (arith, ints, f.2)

  -- The value n * 2 ^ u + e is estimated by what its multiple of 2 ^ u reads.
  pub estimated_means : (n value x : ℤ) (e : ℕ) → value ≡ n *ℤ pos (2 ^ u) +ℤ pos e → x ≡ n *ℤ pos (2 ^ u) → Congruent value (floored u (reading x) *ℤ pos (2 ^ u) +ℤ pos e)
  estimated_means n value x e value_is x_is =
      let z : ℤ = reading x in
      let c : Congruent z (n *ℤ pos (2 ^ u)) = subst (λ y. Congruent z y) x_is (read_means x) in
      let d : Congruent (n *ℤ pos (2 ^ u)) (floored u z *ℤ pos (2 ^ u)) = subst (λ y. Congruent (n *ℤ pos (2 ^ u)) y) (exact n z c) (cong_sym z (n *ℤ pos (2 ^ u)) c) in
      subst (λ y. Congruent y (floored u z *ℤ pos (2 ^ u) +ℤ pos e)) (sym value_is)
      (cong_sum (n *ℤ pos (2 ^ u)) (floored u z *ℤ pos (2 ^ u)) (pos e) (pos e) d (cong_refl (pos e)))
