-- The values of the finite singles: no two words have one value, and where they lie.
use Rattle.std.proofs.Common.{◌≡◌, ℕ, zero, suc, ◌+◌, ◌-◌, ◌*◌, ◌^◌, ◌<◌, ◌≤◌, sym, refl, ap, ◌∙◌, subst, ap₂, ⊎_elim, mul-le-mul_right, lt_of_mul-lt-mul_right, mul-le-mul_left, arith, pow_pos, pow_mono}
use native.Mathlib.Nat.{eq_of_mul-eq-mul_right}
use Rattle.std.proofs.lemmas.Bool.{cases_lt, cases_order}
use Rattle.arithmetic.proofs.Powers.{power_of_sum}
use Rattle.single.specs.Words.{exponent, fraction, scaled, units, infinity}
use Rattle.single.specs.Readings.{packed}

-- a value is a number of 24 bits times a power of two
pub record Shape (u : ℕ) : Type 0 where
  pub bits : ℕ
  pub place : ℕ
  pub is : u ≡ bits * 2 ^ place
  pub few : bits < 2 ^ 24

scaled_shape : (e m : ℕ) → m < 2 ^ 23 → Shape (scaled e m)
scaled_shape zero m h = record { bits = m; place = 0; is = omega arith; few = omega arith }
scaled_shape (suc e) m h = record { bits = 2 ^ 23 + m; place = e; is = refl; few = omega arith }

pub shape : (w : ℕ) → Shape (units w)
shape w = scaled_shape (exponent w) (fraction w) (omega arith)

-- none lies strictly between n and n + 1 units of 2 ^ k, where n has 24 bits or more
shape_gap : (u n k : ℕ) → Shape u → 2 ^ 23 ≤ n → n * 2 ^ k < u → (n + 1) * 2 ^ k ≤ u
shape_gap u n k s l h = ⊎_elim (λ a. absurd (finer a)) coarser (cases_lt s.place k)
  where
    finer : s.place < k → ⊥
    finer a = omega (arith, s.is, mul-le-mul_right (2 ^ s.place) s.few, pow_mono a, mul-le-mul_right (2 ^ k) l)

    coarser : k ≤ s.place → (n + 1) * 2 ^ k ≤ u
    coarser a =
        let e : u ≡ s.bits * 2 ^ (s.place - k) * 2 ^ k = omega (arith, s.is, ap (λ (z : ℕ). s.bits * z) (power_of_sum s.place (s.place - k) k (omega arith))) in
        let g : n < s.bits * 2 ^ (s.place - k) = lt_of_mul-lt-mul_right (2 ^ k) (omega arith) in
        omega (arith, mul-le-mul_right (2 ^ k) g)

pub gap : (w n k : ℕ) → 2 ^ 23 ≤ n → n * 2 ^ k < units w → (n + 1) * 2 ^ k ≤ units w
gap w n k l h = shape_gap (units w) n k (shape w) l h

-- ---- the value of a packed word

pub by_fields : (w e m : ℕ) → exponent w ≡ e → fraction w ≡ m → units w ≡ scaled e m
by_fields w e m p q = ap₂ scaled p q

pub units_packed : (k n : ℕ) → k ≤ 252 → 2 ^ 23 ≤ n → n ≤ 2 ^ 24 → units (packed k n) ≡ n * 2 ^ k
units_packed k n b l h = ⊎_elim plain carried (cases_lt n (2 ^ 24))
  where
    plain : n < 2 ^ 24 → units (k * 2 ^ 23 + n) ≡ n * 2 ^ k
    plain a =
        let m : n ≡ 2 ^ 23 + (n - 2 ^ 23) = omega arith in
        by_fields (k * 2 ^ 23 + n) (suc k) (n - 2 ^ 23) (omega arith) (omega arith) ∙ ap (λ (z : ℕ). z * 2 ^ k) (sym m)

    carried : 2 ^ 24 ≤ n → units (k * 2 ^ 23 + n) ≡ n * 2 ^ k
    carried a =
        let m : n ≡ 2 ^ 24 = omega arith in
        by_fields (k * 2 ^ 23 + n) (suc (suc k)) 0 (omega arith) (omega arith) ∙ rw m (omega arith)

pub packed_finite : (k n : ℕ) → k ≤ 252 → n ≤ 2 ^ 24 → packed k n < infinity
packed_finite k n b h = omega arith

-- ---- one value, one word

pub under_next : (e m : ℕ) → m < 2 ^ 23 → scaled e m < 2 ^ 23 * 2 ^ e
under_next zero m h = omega arith
under_next (suc e) m h = omega (arith, mul-le-mul_right (2 ^ e) h, pow_pos e)

from_first : (e m : ℕ) → 2 ^ 23 * 2 ^ e ≤ scaled (suc e) m
from_first e m = omega arith

scaled_lt : (e e' m m' : ℕ) → m < 2 ^ 23 → e < e' → scaled e m < scaled e' m'
scaled_lt e zero m m' h l = absurd (omega arith)
scaled_lt e (suc e') m m' h l = omega (arith, under_next e m h, from_first e' m', mul-le-mul_left (2 ^ 23) (pow_mono {i = e} {j = e'} (omega arith)))

scaled_once : (e m m' : ℕ) → scaled e m ≡ scaled e m' → m ≡ m'
scaled_once zero m m' q = q
scaled_once (suc e) m m' q = omega (arith, eq_of_mul-eq-mul_right (2 ^ e) (pow_pos e) (2 ^ 23 + m) (2 ^ 23 + m') q)

same_fields : (e e' m m' : ℕ) → m < 2 ^ 23 → m' < 2 ^ 23 → scaled e m ≡ scaled e' m' → (e ≡ e') × (m ≡ m')
same_fields e e' m m' h h' q = ⊎_elim (λ p. (p, scaled_once e m m' (q ∙ ap (λ (z : ℕ). scaled z m') (sym p)))) (λ s. absurd (⊎_elim (λ l. omega (arith, scaled_lt e e' m m' h l)) (λ l. omega (arith, scaled_lt e' e m' m h' l)) s)) (cases_order e e')

scaled_mono : (e m m' : ℕ) → m < m' → scaled e m < scaled e m'
scaled_mono zero m m' h = h
scaled_mono (suc e) m m' h = omega (arith, mul-le-mul_right (2 ^ e) h, pow_pos e)

pub units_once : (y z : ℕ) → y < infinity → z < infinity → units y ≡ units z → y ≡ z
units_once y z a b q =
    let t = same_fields (exponent y) (exponent z) (fraction y) (fraction z) (omega arith) (omega arith) q in
    omega (arith, t.0, t.1)

pub units_lt : (y z : ℕ) → z < infinity → y < z → units y < units z
units_lt y z b l = ⊎_elim (λ c. scaled_lt (exponent y) (exponent z) (fraction y) (fraction z) (omega arith) c) (λ c. level (exponent y) (exponent z) (fraction y) (fraction z) (omega arith) (omega arith)) (cases_lt (exponent y) (exponent z))
  where
    level : (e e' m m' : ℕ) → e ≡ e' → m < m' → scaled e m < scaled e' m'
    level e e' m m' p h = subst (λ (q : ℕ). scaled e m < scaled q m') p (scaled_mono e m m' h)
