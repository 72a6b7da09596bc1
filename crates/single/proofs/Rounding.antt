-- The rounding recipe: f of 25 bits, cut to 24 by the mode and packed, is the correctly rounded reciprocal root.
use Rattle.std.proofs.Common.{◌≡◌, ℕ, zero, suc, ◌+◌, ◌-◌, ◌*◌, ◌/◌, ◌%◌, ◌^◌, ◌<◌, ◌≤◌, Bool, true, false, cond, eqb, ◌≢◌, pos, sym, refl, ap, ◌∙◌, subst, ⊎_elim, mul-le-mul_right, mul-le-mul, arith, pow_pos, pow-add, eqb-true}
use borrow.Author.Differences.{ints}
use borrow.Author.Tests.{eqb-false}
use Rattle.std.proofs.lemmas.Bool.{cases_lt, cases_eq}
use Rattle.arithmetic.proofs.Powers.{power_of_sum}
use Rattle.arithmetic.proofs.Squares.{square}
use Rattle.recurrence.specs.Root.{ReciprocalRoot}
use Rattle.single.specs.declared.mode.Mode.{Mode}
use Rattle.single.specs.declared.mode.Mode.TheVariants.{Nearest, TowardZero, Up, Down}
use Rattle.single.specs.MarkSets.{no_marks, inexact_mark}
use Rattle.single.specs.Words.{exponent, fraction, scaled, units, infinity, reads_as_zero}
use Rattle.single.specs.Rsqrt.{Closest, LargestBelow, SmallestAbove, Rounded, Rsqrt}
use Rattle.single.specs.Rsqrt.Rsqrt.{exact, inexact}
use Rattle.single.specs.Readings.{reach, number, cut, packed}
use Rattle.single.proofs.Halves.{square_lt, square_of_sum, short, long, less, more}
use Rattle.single.proofs.Spacing.{gap, units_packed, packed_finite}

-- v is x at the place that a result's words k * 2 ^ 23 + n answer: value n * 2 ^ k, and n ^ 2 * x against 2 ^ 71
pub record Placed (v k x : ℕ) : Type 0 where
  pub reach : k ≤ 252
  pub balance : 2 ^ k * 2 ^ k * units v ≡ x * 2 ^ 376

-- the root lies strictly between f and f + 1
pub record Between (x f : ℕ) : Type 0 where
  pub low : 2 ^ 24 ≤ f
  pub high : f < 2 ^ 25
  pub fits : x * (f * f) < 2 ^ 73
  pub beyond : 2 ^ 73 < x * ((f + 1) * (f + 1))

pub between : (x f : ℕ) → 2 ^ 23 < x → x < 2 ^ 25 → x * f ^ 2 < 2 ^ 73 → ReciprocalRoot 25 24 x f → Between x f
between x f l h e r =
    let a : x * (f * f) < 2 ^ 73 = rw (square f) at e in
    let b : 2 ^ 73 < x * ((f + 1) * (f + 1)) = rw (square (f + 1)) at r.largest in
    let low : 2 ^ 24 ≤ f = ⊎_elim (λ c. absurd (omega (arith, mul-le-mul_right x (mul-le-mul c c)))) (λ c. c) (cases_lt f (2 ^ 24)) in
    let high : f < 2 ^ 25 = ⊎_elim (λ c. c) (λ c. absurd (omega (arith, mul-le-mul_right x (mul-le-mul c c)))) (cases_lt f (2 ^ 25)) in
    record { low = low; high = high; fits = a; beyond = b }

-- a finite value below n + 1 units of 2 ^ k is at most n of them
fits_below : (y n k : ℕ) → 2 ^ 23 ≤ n → units y < (n + 1) * 2 ^ k → units y ≤ n * 2 ^ k
fits_below y n k l h = ⊎_elim (λ c. absurd (omega (arith, gap y n k l c))) (λ c. c) (cases_lt (n * 2 ^ k) (units y))

-- what is asked of the result's word r
pub record Answers (mode : Mode) (v r : ℕ) : Type 0 where
  pub finite : r < infinity
  pub rounded : Rounded mode v r
  pub not_exact : units r ^ 2 * units v ≢ 2 ^ 447

module _ (v k x f : ℕ) (p : Placed v k x) (b : Between x f) where
  halfway_short : (P : ℕ) → P ≤ f * 2 ^ k → P ^ 2 * units v < 4 * 2 ^ 447
  halfway_short = short (2 ^ k) (units v) x (2 ^ 376) (2 ^ 73) (2 ^ 447) f p.balance refl (pow_pos 376) b.fits b.beyond

  halfway_long : (P : ℕ) → (f + 1) * 2 ^ k ≤ P → 4 * 2 ^ 447 < P ^ 2 * units v
  halfway_long = long (2 ^ k) (units v) x (2 ^ 376) (2 ^ 73) (2 ^ 447) f p.balance refl (pow_pos 376) b.fits b.beyond

  under_root : (U : ℕ) → U + U ≤ f * 2 ^ k → U ^ 2 * units v < 2 ^ 447
  under_root = less (2 ^ k) (units v) x (2 ^ 376) (2 ^ 73) (2 ^ 447) f p.balance refl (pow_pos 376) b.fits b.beyond

  over_root : (U : ℕ) → (f + 1) * 2 ^ k ≤ U + U → 2 ^ 447 < U ^ 2 * units v
  over_root = more (2 ^ k) (units v) x (2 ^ 376) (2 ^ 73) (2 ^ 447) f p.balance refl (pow_pos 376) b.fits b.beyond

  module _ (n : ℕ) (l : 2 ^ 23 ≤ n) (h : n < 2 ^ 24) (lo : n + n ≤ f) (hi : f + 1 ≤ (n + 1) + (n + 1)) where
    here : units (packed k n) ≡ n * 2 ^ k
    here = units_packed k n p.reach l (omega arith)

    next : units (packed k (n + 1)) ≡ (n + 1) * 2 ^ k
    next = units_packed k (n + 1) p.reach (omega arith) (omega arith)

    here_under : units (packed k n) ^ 2 * units v < 2 ^ 447
    here_under = subst (λ (z : ℕ). z ^ 2 * units v < 2 ^ 447) (sym here) (under_root (n * 2 ^ k) (omega (arith, mul-le-mul_right (2 ^ k) lo)))

    next_over : 2 ^ 447 < units (packed k (n + 1)) ^ 2 * units v
    next_over = subst (λ (z : ℕ). 2 ^ 447 < z ^ 2 * units v) (sym next) (over_root ((n + 1) * 2 ^ k) (omega (arith, mul-le-mul_right (2 ^ k) hi)))

    below : LargestBelow v (packed k n)
    below =
        record {
          under = omega (arith, here_under);
          largest = λ y f at. ⊎_elim (λ c. absurd (above_it y at (subst (λ (z : ℕ). z < units y) here c))) (λ c. c) (cases_lt (units (packed k n)) (units y));
        }
      where
        above_it : (y : ℕ) → units y ^ 2 * units v ≤ 2 ^ 447 → n * 2 ^ k < units y → ⊥
        above_it y at c =
            let g = gap y n k l c in
            let o = over_root (units y) (omega (arith, g, mul-le-mul_right (2 ^ k) hi)) in
            omega (arith, o, at)

    above : SmallestAbove v (packed k (n + 1))
    above =
        record {
          over = omega (arith, next_over);
          smallest = λ y f at. ⊎_elim (λ c. absurd (below_it y at (subst (λ (z : ℕ). units y < z) next c))) (λ c. c) (cases_lt (units y) (units (packed k (n + 1))));
        }
      where
        below_it : (y : ℕ) → 2 ^ 447 ≤ units y ^ 2 * units v → units y < (n + 1) * 2 ^ k → ⊥
        below_it y at c =
            let g = fits_below y n k l c in
            let o = under_root (units y) (omega (arith, g, mul-le-mul_right (2 ^ k) lo)) in
            omega (arith, o, at)

    nearest_here : f ≡ n + n → Closest v (packed k n)
    nearest_here e =
        record {
          lower = λ y _ c. subst (λ (z : ℕ). (units y + z) ^ 2 * units v < 4 * 2 ^ 447) (sym here) (from_below y (subst (λ (z : ℕ). units y < z) here c));
          upper = λ y _ c. subst (λ (z : ℕ). 4 * 2 ^ 447 < (z + units y) ^ 2 * units v) (sym here) (from_above y (subst (λ (z : ℕ). z < units y) here c));
        }
      where
        from_below : (y : ℕ) → units y < n * 2 ^ k → (units y + n * 2 ^ k) ^ 2 * units v < 4 * 2 ^ 447
        from_below y c = halfway_short (units y + n * 2 ^ k) (omega (arith, c, mul-le-mul_right (2 ^ k) lo))

        from_above : (y : ℕ) → n * 2 ^ k < units y → 4 * 2 ^ 447 < (n * 2 ^ k + units y) ^ 2 * units v
        from_above y c =
            let g = gap y n k l c in
            let t : f + 1 ≤ n + (n + 1) = omega arith in
            halfway_long (n * 2 ^ k + units y) (omega (arith, g, mul-le-mul_right (2 ^ k) t))

    nearest_next : f ≡ suc (n + n) → Closest v (packed k (n + 1))
    nearest_next e =
        record {
          lower = λ y _ c. subst (λ (z : ℕ). (units y + z) ^ 2 * units v < 4 * 2 ^ 447) (sym next) (from_below y (subst (λ (z : ℕ). units y < z) next c));
          upper = λ y _ c. subst (λ (z : ℕ). 4 * 2 ^ 447 < (z + units y) ^ 2 * units v) (sym next) (from_above y (subst (λ (z : ℕ). z < units y) next c));
        }
      where
        from_below : (y : ℕ) → units y < (n + 1) * 2 ^ k → (units y + (n + 1) * 2 ^ k) ^ 2 * units v < 4 * 2 ^ 447
        from_below y c =
            let g = fits_below y n k l c in
            let t : n + (n + 1) ≤ f = omega arith in
            halfway_short (units y + (n + 1) * 2 ^ k) (omega (arith, g, mul-le-mul_right (2 ^ k) t))

        from_above : (y : ℕ) → (n + 1) * 2 ^ k < units y → 4 * 2 ^ 447 < ((n + 1) * 2 ^ k + units y) ^ 2 * units v
        from_above y c = halfway_long ((n + 1) * 2 ^ k + units y) (omega (arith, c, mul-le-mul_right (2 ^ k) hi))

    down_answers : (mode : Mode) → Rounded mode v (packed k n) → Answers mode v (packed k n)
    down_answers mode r = record { finite = packed_finite k n p.reach (omega arith); rounded = r; not_exact = omega (arith, here_under) }

    up_answers : (mode : Mode) → Rounded mode v (packed k (n + 1)) → Answers mode v (packed k (n + 1))
    up_answers mode r = record { finite = packed_finite k (n + 1) p.reach (omega arith); rounded = r; not_exact = omega (arith, next_over) }

  half_low : 2 ^ 23 ≤ f / 2
  half_low = omega (arith, b.low)

  half_high : f / 2 < 2 ^ 24
  half_high = omega (arith, b.high)

  half_fits : f / 2 + f / 2 ≤ f
  half_fits = omega arith

  half_next : f + 1 ≤ (f / 2 + 1) + (f / 2 + 1)
  half_next = omega arith

  pub answers : (mode : Mode) → Answers mode v (packed k (cut mode f))
  answers Nearest = ⊎_elim even odd (cases_eq (f % 2) 0)
    where
      even : f % 2 ≡ 0 → Answers Nearest v (packed k ((f + 1) / 2))
      even e =
          let c : f / 2 ≡ (f + 1) / 2 = omega arith in
          let r = nearest_here (f / 2) half_low half_high half_fits half_next (omega arith) in
          subst (λ (n : ℕ). Answers Nearest v (packed k n)) c (down_answers (f / 2) half_low half_high half_fits half_next Nearest r)

      odd : (f % 2 ≡ 0 → ⊥) → Answers Nearest v (packed k ((f + 1) / 2))
      odd e =
          let c : f / 2 + 1 ≡ (f + 1) / 2 = omega arith in
          let r = nearest_next (f / 2) half_low half_high half_fits half_next (omega arith) in
          subst (λ (n : ℕ). Answers Nearest v (packed k n)) c (up_answers (f / 2) half_low half_high half_fits half_next Nearest r)
  answers TowardZero = down_answers (f / 2) half_low half_high half_fits half_next TowardZero (below (f / 2) half_low half_high half_fits half_next)
  answers Up = up_answers (f / 2) half_low half_high half_fits half_next Up (above (f / 2) half_low half_high half_fits half_next)
  answers Down = down_answers (f / 2) half_low half_high half_fits half_next Down (below (f / 2) half_low half_high half_fits half_next)

-- ---- where a normal operand stands

pub three_powers : (a b c d : ℕ) → a + b + c ≡ d → 2 ^ a * 2 ^ b * 2 ^ c ≡ 2 ^ d
three_powers a b c d e = sym (power_of_sum d (a + b) c (sym e) ∙ ap (λ (z : ℕ). z * 2 ^ c) (pow-add 2 a b))

-- 378 - E of a word's own exponent field
reach_is : (e : ℕ) → e ≤ 378 → reach (pos e) ≡ 378 - e
reach_is e h = omega (arith, ints)

scaled_placed : (e m : ℕ) → e < 254 → 2 ^ ((378 - suc e) / 2) * 2 ^ ((378 - suc e) / 2) * scaled (suc e) m ≡ cond (eqb ((378 - suc e) % 2) 0) (2 * (2 ^ 23 + m)) (2 ^ 23 + m) * 2 ^ 376
scaled_placed e m h = go (eqb ((378 - suc e) % 2) 0) refl
  where
    k : ℕ
    k = (378 - suc e) / 2

    go : (t : Bool) → eqb ((378 - suc e) % 2) 0 ≡ t → 2 ^ k * 2 ^ k * scaled (suc e) m ≡ cond t (2 * (2 ^ 23 + m)) (2 ^ 23 + m) * 2 ^ 376
    go true t = let d = eqb-true ((378 - suc e) % 2) 0 t in omega (arith, ap (λ (z : ℕ). (2 ^ 23 + m) * z) (three_powers k k e 377 (omega arith)))
    go false t = let d = eqb-false ((378 - suc e) % 2) 0 t in omega (arith, ap (λ (z : ℕ). (2 ^ 23 + m) * z) (three_powers k k e 376 (omega arith)))

-- the operand that a word is worked as
abbrev pub job_number : ℕ → ℕ
job_number v = number (2 ^ 23 + fraction v) (pos (exponent v))

pub placed : (v : ℕ) → 0 < exponent v → v < infinity → Placed v (reach (pos (exponent v)) / 2) (job_number v)
placed v l h = record { reach = omega (arith, r); balance = subst (λ (z : ℕ). 2 ^ (z / 2) * 2 ^ (z / 2) * units v ≡ cond (eqb (z % 2) 0) (2 * (2 ^ 23 + fraction v)) (2 ^ 23 + fraction v) * 2 ^ 376) (sym r) (go (exponent v) l (omega arith)) }
  where
    r : reach (pos (exponent v)) ≡ 378 - exponent v
    r = reach_is (exponent v) (omega arith)

    go : (e : ℕ) → 0 < e → e < 255 → 2 ^ ((378 - e) / 2) * 2 ^ ((378 - e) / 2) * scaled e (fraction v) ≡ cond (eqb ((378 - e) % 2) 0) (2 * (2 ^ 23 + fraction v)) (2 ^ 23 + fraction v) * 2 ^ 376
    go zero a c = absurd (omega arith)
    go (suc e) a c = scaled_placed e (fraction v) (omega arith)

pub number_low : (v : ℕ) → 2 ^ 23 ≤ job_number v
number_low v = go (eqb (reach (pos (exponent v)) % 2) 0)
  where
    go : (t : Bool) → 2 ^ 23 ≤ cond t (2 * (2 ^ 23 + fraction v)) (2 ^ 23 + fraction v)
    go true = omega arith
    go false = omega arith

pub number_high : (v : ℕ) → job_number v < 2 ^ 25
number_high v = go (eqb (reach (pos (exponent v)) % 2) 0)
  where
    go : (t : Bool) → cond t (2 * (2 ^ 23 + fraction v)) (2 ^ 23 + fraction v) < 2 ^ 25
    go true = omega arith
    go false = omega arith

-- the recipe gives what is right
pub worked_right : (v f : ℕ) → reads_as_zero v ≡ false → v < infinity → 2 ^ 23 < job_number v → job_number v * f ^ 2 < 2 ^ 73 → ReciprocalRoot 25 24 (job_number v) f → (mode : Mode) →
    Rsqrt mode v (packed (reach (pos (exponent v)) / 2) (cut mode f)) inexact_mark
worked_right v f z h a e r mode =
    let l : exponent v ≢ 0 = eqb-false (exponent v) 0 z in
    let t = answers v (reach (pos (exponent v)) / 2) (job_number v) f (placed v (omega arith) h) (between (job_number v) f a (number_high v) e r) mode in
    inexact z h t.finite t.rounded t.not_exact

-- ---- an exact root

pub exactly : (v r : ℕ) → units r ^ 2 * units v ≡ 2 ^ 447 → (mode : Mode) → Rounded mode v r
exactly v r e = all
  where
    U : ℕ
    U = units r

    some : 0 < units v
    some = ⊎_elim (λ c. c) (λ c. let z : units v ≡ 0 = omega arith in let d : units r ^ 2 * 0 ≡ 2 ^ 447 = subst (λ (q : ℕ). units r ^ 2 * q ≡ 2 ^ 447) z e in absurd (omega arith)) (cases_lt 0 (units v))

    twice : (U + U) ^ 2 * units v ≡ 4 * 2 ^ 447
    twice = ap (λ (z : ℕ). z * units v) (square_of_sum (units r)) ∙ omega (arith, e)

    below : LargestBelow v r
    below = record { under = omega (arith, e); largest = λ y _ at. ⊎_elim (λ c. absurd (omega (arith, square_lt (units r) (units y) (units v) some c, e, at))) (λ c. c) (cases_lt (units r) (units y)) }

    above : SmallestAbove v r
    above = record { over = omega (arith, e); smallest = λ y _ at. ⊎_elim (λ c. absurd (omega (arith, square_lt (units y) (units r) (units v) some c, e, at))) (λ c. c) (cases_lt (units y) (units r)) }

    near : Closest v r
    near =
        record {
          lower = λ y _ c. omega (arith, square_lt (units y + units r) (units r + units r) (units v) some (omega (arith, c)), twice);
          upper = λ y _ c. omega (arith, square_lt (units r + units r) (units r + units y) (units v) some (omega (arith, c)), twice);
        }

    all : (mode : Mode) → Rounded mode v r
    all Nearest = near
    all TowardZero = below
    all Up = above
    all Down = below

-- the root of a quarter is 2 ^ 25 halves
pub quarter_exact : (v k : ℕ) → Placed v k (2 ^ 23) → units (packed k (2 ^ 24)) ^ 2 * units v ≡ 2 ^ 447
quarter_exact v k p =
    let u = units_packed k (2 ^ 24) p.reach (omega arith) (omega arith) in
    ap (λ (z : ℕ). z ^ 2 * units v) u ∙ ap (λ (z : ℕ). z * units v) (square (2 ^ 24 * 2 ^ k)) ∙ omega (arith, p.balance)

pub quarter_right : (v : ℕ) → reads_as_zero v ≡ false → v < infinity → job_number v ≡ 2 ^ 23 → (mode : Mode) → Rsqrt mode v (packed (reach (pos (exponent v)) / 2) (2 ^ 24)) no_marks
quarter_right v z h q mode =
    let l : exponent v ≢ 0 = eqb-false (exponent v) 0 z in
    let k = reach (pos (exponent v)) / 2 in
    let p : Placed v k (2 ^ 23) = subst (Placed v k) q (placed v (omega arith) h) in
    let e = quarter_exact v k p in
    exact z h (packed_finite k (2 ^ 24) p.reach (omega arith)) (exactly v (packed k (2 ^ 24)) e mode) e
