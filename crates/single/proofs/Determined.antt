-- One word and one set of marks are right for a single: the relation determines them.
use Rattle.std.proofs.Common.{◌≡◌, ℕ, ◌+◌, ◌*◌, ◌^◌, ◌<◌, true, false, eqb, ◌≢◌, ◌⊎◌, pos, sym, refl, ap, ◌∙◌, subst, inl, inr, ⊎_elim, arith}
use Rattle.std.proofs.lemmas.Bool.{cases_order, le-leb, lt-leb}
use Rattle.std.proofs.lemmas.Bool.Decides.{nat_tests}
use Rattle.single.specs.declared.mode.Mode.{Mode}
use Rattle.single.specs.declared.mode.Mode.TheVariants.{Nearest, TowardZero, Up, Down}
use Rattle.single.specs.declared.marks.Marks.{Marks}
use Rattle.single.specs.declared.answer.Answer.{Answer}
use Rattle.single.specs.declared.special.Special.{Special}
use Rattle.single.specs.declared.special.Special.TheVariants.{NotANumber, Zero, PlusInfinity, Negative}
use Rattle.single.specs.MarkSets.{no_marks, inexact_mark}
use Rattle.single.specs.Words.{exponent, fraction, units, infinity, is_nan, is_negative, reads_as_zero}
use Rattle.single.specs.Rsqrt.{Closest, Rounded, Rsqrt}
use Rattle.single.specs.Rsqrt.Rsqrt.{quiet_nan, signalling_nan, plus_zero, minus_zero, plus_infinity, negative, exact, inexact}
use Rattle.single.specs.Readings.{reading, special_answer}
use Rattle.single.specs.Readings.Reading.{special, positive}
use Rattle.single.proofs.Spacing.{units_once}

-- ---- which words are read how

pub zero_is_number : (v : ℕ) → reads_as_zero v ≡ true → is_nan v ≡ false
zero_is_number v z = grind (arith, nat_tests)

pub negative_not_infinity : (v : ℕ) → is_negative v ≡ true → eqb v infinity ≡ false
negative_not_infinity v n = grind (arith, nat_tests)

pub finite_is_number : (v : ℕ) → v < infinity → is_nan v ≡ false
finite_is_number v h = grind (arith, nat_tests)

pub finite_not_infinity : (v : ℕ) → v < infinity → eqb v infinity ≡ false
finite_not_infinity v h = grind (arith, nat_tests)

pub finite_not_negative : (v : ℕ) → v < infinity → is_negative v ≡ false
finite_not_negative v h = grind (arith, nat_tests)

pub reads_positive : (v : ℕ) → reads_as_zero v ≡ false → v < infinity → reading v ≡ positive (2 ^ 23 + fraction v) (pos (exponent v))
reads_positive v z h = rw (finite_is_number v h, z, finite_not_infinity v h, finite_not_negative v h)

-- ---- two right answers for one word are one

nearest_order : (v r r' : ℕ) → r < infinity → r' < infinity → Closest v r → Closest v r' → units r < units r' → ⊥
nearest_order v r r' a a' n n' l = omega (arith, n.upper r' a' l, n'.lower r a l)

same_units : (mode : Mode) (v r r' : ℕ) → r < infinity → r' < infinity → Rounded mode v r → Rounded mode v r' → units r ≡ units r'
same_units Nearest v r r' a a' n n' =
    ⊎_elim (λ e. e) (λ s. absurd (⊎_elim (nearest_order v r r' a a' n n') (nearest_order v r' r a' a n' n) s)) (cases_order (units r) (units r'))
same_units TowardZero v r r' a a' n n' = omega (arith, n.largest r' a' n'.under, n'.largest r a n.under)
same_units Up v r r' a a' n n' = omega (arith, n.smallest r' a' n'.over, n'.smallest r a n.over)
same_units Down v r r' a a' n n' = omega (arith, n.largest r' a' n'.under, n'.largest r a n.under)

rounded_once : (mode : Mode) (v r r' : ℕ) → r < infinity → r' < infinity → Rounded mode v r → Rounded mode v r' → r ≡ r'
rounded_once mode v r r' a a' n n' = units_once r r' a a' (same_units mode v r r' a a' n n')

-- a right answer is a special word's, or a rounded one
record Settled (v w : ℕ) (m : Marks) : Type 0 where
  word_is : Special
  reads : reading v ≡ special word_is
  answer : record { word = w; marks = m } ≡ special_answer word_is

record Ordinary (mode : Mode) (v w : ℕ) (m : Marks) : Type 0 where
  reads : reading v ≡ positive (2 ^ 23 + fraction v) (pos (exponent v))
  finite : w < infinity
  rounds : Rounded mode v w
  marks : ((units w ^ 2 * units v ≡ 2 ^ 447) × (m ≡ no_marks)) ⊎ ((units w ^ 2 * units v ≢ 2 ^ 447) × (m ≡ inexact_mark))

sorted : (mode : Mode) {v w : ℕ} {m : Marks} → Rsqrt mode v w m → Settled v w m ⊎ Ordinary mode v w m
sorted mode (quiet_nan {v = v} n q) = inl (record { word_is = NotANumber true; reads = rw (n, le-leb (2 ^ 22) (fraction v) q); answer = refl })
sorted mode (signalling_nan {v = v} n q) = inl (record { word_is = NotANumber false; reads = rw (n, lt-leb (2 ^ 22) (fraction v) q); answer = refl })
sorted mode (plus_zero {v = v} z p) = inl (record { word_is = Zero false; reads = rw (zero_is_number v z, z, p); answer = refl })
sorted mode (minus_zero {v = v} z p) = inl (record { word_is = Zero true; reads = rw (zero_is_number v z, z, p); answer = refl })
sorted mode plus_infinity = inl (record { word_is = PlusInfinity; reads = refl; answer = refl })
sorted mode (negative {v = v} n z p) = inl (record { word_is = Negative; reads = rw (n, z, negative_not_infinity v p, p); answer = refl })
sorted mode (exact {v = v} a b c d e) = inr (record { reads = reads_positive v a b; finite = c; rounds = d; marks = inl (e, refl) })
sorted mode (inexact {v = v} a b c d e) = inr (record { reads = reads_positive v a b; finite = c; rounds = d; marks = inr (e, refl) })

pub rsqrt_once : (mode : Mode) (v w w' : ℕ) (m m' : Marks) → Rsqrt mode v w m → Rsqrt mode v w' m' → (w ≡ w') × (m ≡ m')
rsqrt_once mode v w w' m m' r r' = go (sorted mode r) (sorted mode r')
  where
    go : Settled v w m ⊎ Ordinary mode v w m → Settled v w' m' ⊎ Ordinary mode v w' m' → (w ≡ w') × (m ≡ m')
    go (inl s) (inl t) =
        let same : s.word_is ≡ t.word_is = let a = s.reads in let b = t.reads in cc in
        let both : ◌≡◌ {A = Answer} (record { word = w; marks = m }) (record { word = w'; marks = m' }) = s.answer ∙ ap special_answer same ∙ sym t.answer in
        (ap (λ (a : Answer). a.word) both, ap (λ (a : Answer). a.marks) both)
    go (inl s) (inr t) = let a = s.reads in let b = t.reads in cc
    go (inr s) (inl t) = let a = s.reads in let b = t.reads in cc
    go (inr s) (inr t) = let e = rounded_once mode v w w' s.finite t.finite s.rounds t.rounds in (e, by e s.marks t.marks)
      where
        by : w ≡ w' → ((units w ^ 2 * units v ≡ 2 ^ 447) × (m ≡ no_marks)) ⊎ ((units w ^ 2 * units v ≢ 2 ^ 447) × (m ≡ inexact_mark)) →
            ((units w' ^ 2 * units v ≡ 2 ^ 447) × (m' ≡ no_marks)) ⊎ ((units w' ^ 2 * units v ≢ 2 ^ 447) × (m' ≡ inexact_mark)) → m ≡ m'
        by e (inl a) (inl b) = a.1 ∙ sym b.1
        by e (inl a) (inr b) = absurd (b.0 (subst (λ (z : ℕ). units z ^ 2 * units v ≡ 2 ^ 447) e a.0))
        by e (inr a) (inl b) = absurd (a.0 (subst (λ (z : ℕ). units z ^ 2 * units v ≡ 2 ^ 447) (sym e) b.0))
        by e (inr a) (inr b) = a.1 ∙ sym b.1
