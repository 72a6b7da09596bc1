-- No reciprocal root lies halfway between two neighbouring finite singles.
use Rattle.std.proofs.Common.{◌≡◌, ℕ, zero, suc, ◌+◌, ◌*◌, ◌^◌, ◌<◌, ◌≤◌, ◌⊎◌, sym, refl, ap, ◌∙◌, subst, inl, inr, ⊎_elim, mul-le-mul_left, arith, pow_mono}
use Rattle.std.proofs.lemmas.Bool.{cases_lt, cases_order}
use Rattle.arithmetic.proofs.Squares.{square, factor}
use Rattle.single.specs.Words.{exponent, fraction, scaled, units, infinity, Neighbours}
use Rattle.single.specs.Rsqrt.{NeverTied}
use Rattle.single.proofs.Spacing.{under_next, units_lt, units_once, by_fields}

-- ---- the next word

-- u and u' are n and n + 1 times a power of two, which is 1 where n is 0
record Next (u u' : ℕ) : Type 0 where
  bits : ℕ
  place : ℕ
  is : u ≡ bits * 2 ^ place
  next_is : u' ≡ (bits + 1) * 2 ^ place
  least : bits ≡ 0 → place ≡ 0

next_fraction : (e m : ℕ) → Next (scaled e m) (scaled e (m + 1))
next_fraction zero m = record { bits = m; place = 0; is = omega arith; next_is = omega arith; least = λ p. refl }
next_fraction (suc e) m = record { bits = 2 ^ 23 + m; place = e; is = refl; next_is = omega arith; least = λ p. absurd (omega arith) }

next_exponent : (e m : ℕ) → m + 1 ≡ 2 ^ 23 → Next (scaled e m) (scaled (suc e) 0)
next_exponent zero m h = record { bits = m; place = 0; is = omega arith; next_is = omega arith; least = λ p. refl }
next_exponent (suc e) m h = record { bits = 2 ^ 23 + m; place = e; is = refl; next_is = omega (arith, ap (λ (z : ℕ). z * 2 ^ e) w); least = λ p. absurd (omega arith) }
  where
    w : 2 ^ 24 ≡ 2 ^ 23 + m + 1
    w = omega arith

next_word : (y : ℕ) → suc y < infinity → Next (units y) (units (suc y))
next_word y h = ⊎_elim inside carried (cases_lt (fraction y + 1) (2 ^ 23))
  where
    inside : fraction y + 1 < 2 ^ 23 → Next (units y) (units (suc y))
    inside c = subst (Next (units y)) (sym (by_fields (suc y) (exponent y) (fraction y + 1) (omega arith) (omega arith))) (next_fraction (exponent y) (fraction y))

    carried : 2 ^ 23 ≤ fraction y + 1 → Next (units y) (units (suc y))
    carried c = subst (Next (units y)) (sym (by_fields (suc y) (suc (exponent y)) 0 (omega arith) (omega arith))) (next_exponent (exponent y) (fraction y) (omega arith))

-- ---- odd multiples of a power of two

odd_power : (n i : ℕ) → n + n + 1 ≡ 2 ^ i → n ≡ 0
odd_power n zero e = omega arith
odd_power n (suc i) e = absurd (omega arith)

small : (v : ℕ) → units v < 2 ^ 278
small v = omega (arith, under_next (exponent v) (fraction v) (omega arith), mul-le-mul_left (2 ^ 23) (pow_mono {i = exponent v} {j = 255} (omega arith)))

untied : (u u' V : ℕ) → Next u u' → V < 2 ^ 278 → (u + u') ^ 2 * V ≡ 4 * 2 ^ 447 → ⊥
untied u u' V t b e =
    let D : ℕ = 2 ^ t.place in
    let n = t.bits in
    let s : u + u' ≡ (n + n + 1) * D = omega (arith, t.is, t.next_is) in
    let d : (n + n + 1) * D * ((n + n + 1) * D) * V ≡ 2 ^ 449 = subst (λ (z : ℕ). z * z * V ≡ 2 ^ 449) s (sym (ap (λ (z : ℕ). z * V) (square (u + u'))) ∙ e) in
    let f = factor 449 (n + n + 1) (D * ((n + n + 1) * D) * V) (omega (arith, d)) in
    let z : n ≡ 0 = odd_power n f.0 f.1 in
    let p : D ≡ 1 = ap (λ (q : ℕ). 2 ^ q) (t.least z) in
    let c : (0 + 0 + 1) * 1 * ((0 + 0 + 1) * 1) * V ≡ 2 ^ 449 = subst (λ (q : ℕ). (0 + 0 + 1) * q * ((0 + 0 + 1) * q) * V ≡ 2 ^ 449) p (subst (λ (q : ℕ). (q + q + 1) * D * ((q + q + 1) * D) * V ≡ 2 ^ 449) z d) in
    omega arith

-- ---- neighbours by value are neighbours by word

follows : (y z : ℕ) → Neighbours y z → suc y ≡ z
follows y z n = sym (units_once z (suc y) n.high_finite fin (omega (arith, up, down)))
  where
    later : y < z
    later = ⊎_elim (λ c. c) (λ c. absurd (⊎_elim (λ d. omega (arith, n.apart, units_lt z y n.low_finite d)) (λ d. omega (arith, n.apart, ap units d)) (cases_lt_or_eq c))) (cases_lt y z)
      where
        cases_lt_or_eq : z ≤ y → (z < y) ⊎ (z ≡ y)
        cases_lt_or_eq c = ⊎_elim (λ e. inr e) (λ s. ⊎_elim (λ l. inl l) (λ l. absurd (omega arith)) s) (cases_order z y)

    fin : suc y < infinity
    fin = omega (arith, n.high_finite, later)

    up : units z ≤ units (suc y)
    up = ⊎_elim (λ c. absurd (omega (arith, c, units_lt y (suc y) fin (omega arith)))) (λ c. c) (n.nothing_between (suc y) fin)

    down : units (suc y) ≤ units z
    down = ⊎_elim (λ c. omega (arith, units_lt (suc y) z n.high_finite c)) (λ c. let e : z ≡ suc y = omega (arith, later) in omega (arith, ap units e)) (cases_lt (suc y) z)

pub never_tied : NeverTied
never_tied v y z n e = untied (units y) (units (suc y)) (units v) (next_word y (omega (arith, n.high_finite, follows y z n))) (small v) (subst (λ (w : ℕ). (units y + units w) ^ 2 * units v ≡ 4 * 2 ^ 447) (sym (follows y z n)) e)
