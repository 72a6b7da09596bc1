-- The registers keep their meaning, digit by digit.
use Rattle.std.proofs.Common.{◌≡◌, ℕ, zero, suc, ◌+◌, ◌-◌, ◌*◌, ◌/◌, ◌%◌, ◌^◌, ◌<◌, ◌≤◌, false, cond, [], ◌∷◌, length, ℤ, pos, negsuc, ◌+ℤ◌, ◌-ℤ◌, ◌*ℤ◌, neg_ℤ, nat_abs, sym, refl, ap, ◌∙◌, subst, ap₂, mul-le-mul_right, mul_assoc, mul-le-mul, mul-le-mul_left, mul-zero, div-add-mod', arith, pow_pos, pow_mono}
use native.Mathlib.Nat.{mul-div-le, mul-mod_left}
use lib.IntN.{*ℤ_comm}
use borrow.Author.Differences.{ints}
use Rattle.std.proofs.lemmas.Bool.{le-ltb}
use Rattle.arithmetic.specs.Residues.{Congruent, InSigned}
use Rattle.arithmetic.specs.Estimates.{shortfall, Estimates}
use Rattle.arithmetic.proofs.Ring.{ring, ring₃, ring₄, v, #, ◌⊕◌, ◌⊖◌, ◌⊗◌, neg}
use Rattle.arithmetic.proofs.Congruence.{cong_refl, cong_trans, cong_sum, cong_times, Size, signed}
use Rattle.arithmetic.proofs.Powers.{power_of_sum}
use Rattle.arithmetic.proofs.Squares.{square}
use Rattle.number_form.specs.declared.words.Words.{Words}
use Rattle.number_form.specs.Forms.{FormModel, Fit, LawfulForm}
use Rattle.selection.specs.Operands.{Sized, InRange, Contained}
use Rattle.selection.specs.Starts.{halves}
use Rattle.selection.specs.Selectors.{SelectorModel, LawfulSelector, radix, digits, started, Residual}
use Rattle.selection.proofs.Range.{whole, Plain, plain, split, next_place, next_power, residual_size}
use Rattle.recurrence.specs.declared.registers.Registers.{Registers}
use Rattle.recurrence.specs.declared.registers.Partial.{Partial}
use Rattle.recurrence.specs.Recurrence.{first_residual, first_product, first_partial, first_registers, chosen_from, terms, reduced, appended, next_s, turned, turned_by, complete, turns}
use Rattle.recurrence.specs.Stages.{Means, Selected, Digits, Stage, Kept}
use Rattle.recurrence.specs.Stages.EachSelected.{none, next as EachNext}
use Rattle.recurrence.proofs.Products.{digit_times}
use Rattle.recurrence.proofs.Starting.{halves_least}
use Rattle.recurrence.proofs.Conversion.{Converted, converted}
use Rattle.recurrence.proofs.Estimating.{estimates}

-- ---- the algebra of a digit

-- G is 2 ^ Q, N is 2 ^ (K + 2 * Q), g is r ^ j and p is 2 ^ (Q - b * (j + 1)): the next residual
step_balances : (x s s' w q r g p G N : ℤ) → r *ℤ (g *ℤ p) ≡ G → w *ℤ G ≡ g *ℤ (N -ℤ x *ℤ (s *ℤ s)) → s' ≡ s +ℤ q *ℤ p →
    (r *ℤ w +ℤ neg_ℤ (pos 2 *ℤ q) *ℤ (x *ℤ s) +ℤ neg_ℤ (q *ℤ (q *ℤ (x *ℤ p)))) *ℤ G ≡ (r *ℤ g) *ℤ (N -ℤ x *ℤ (s' *ℤ s'))
step_balances x s s' w q r g p G N full balance next =
    ring (x ∷ s ∷ w ∷ q ∷ r ∷ p ∷ G ∷ []) ((v 4 ⊗ v 2 ⊕ neg (# (pos 2) ⊗ v 3) ⊗ (v 0 ⊗ v 1) ⊕ neg (v 3 ⊗ (v 3 ⊗ (v 0 ⊗ v 5)))) ⊗ v 6)
    (v 4 ⊗ (v 2 ⊗ v 6) ⊖ (# (pos 2) ⊗ v 3 ⊗ v 0 ⊗ v 1 ⊕ v 3 ⊗ v 3 ⊗ v 0 ⊗ v 5) ⊗ v 6) refl
    ∙ ap₂ (λ a b. r *ℤ a -ℤ (pos 2 *ℤ q *ℤ x *ℤ s +ℤ q *ℤ q *ℤ x *ℤ p) *ℤ b) balance (sym full)
    ∙ ring (x ∷ s ∷ q ∷ r ∷ g ∷ p ∷ N ∷ []) (v 3 ⊗ (v 4 ⊗ (v 6 ⊖ v 0 ⊗ (v 1 ⊗ v 1))) ⊖ (# (pos 2) ⊗ v 2 ⊗ v 0 ⊗ v 1 ⊕ v 2 ⊗ v 2 ⊗ v 0 ⊗ v 5) ⊗ (v 3 ⊗ (v 4 ⊗ v 5)))
    ((v 3 ⊗ v 4) ⊗ (v 6 ⊖ v 0 ⊗ ((v 1 ⊕ v 2 ⊗ v 5) ⊗ (v 1 ⊕ v 2 ⊗ v 5)))) refl
    ∙ ap (λ t. (r *ℤ g) *ℤ (N -ℤ x *ℤ (t *ℤ t))) (sym next)

step_product : (x s s' q p : ℤ) → s' ≡ s +ℤ q *ℤ p → x *ℤ s +ℤ q *ℤ (x *ℤ p) ≡ x *ℤ s'
step_product x s s' q p next = ring (x ∷ s ∷ q ∷ p ∷ []) (v 0 ⊗ v 1 ⊕ v 2 ⊗ (v 0 ⊗ v 3)) (v 0 ⊗ (v 1 ⊕ v 2 ⊗ v 3)) refl ∙ ap (λ t. x *ℤ t) (sym next)

in_signed : (n : ℤ) → nat_abs n < 2 ^ 63 → InSigned n
in_signed n h = record { least = omega (arith, ints); most = omega (arith, ints) }

abs_neg : (n : ℤ) → nat_abs (neg_ℤ n) ≡ nat_abs n
abs_neg n = omega (arith, ints)

-- what a digit adds are signed words
record Added (q term : ℤ) : Type 0 where
  multiple : InSigned (terms q term).multiple
  square : InSigned (terms q term).square
  once : InSigned (terms q term).once

added : (q : ℤ) (t : ℕ) → nat_abs q ≤ 3 → t ≤ 2 ^ 56 → Added q (pos t)
added q t few small =
    let m = digit_times q (pos t) few in
    let n = digit_times q (q *ℤ pos t) few in
    let d = digit_times q (pos 2) few in
    let two : pos 2 *ℤ q ≡ q *ℤ pos 2 = *ℤ_comm (pos 2) q in
    record {
      multiple = in_signed (neg_ℤ (pos 2 *ℤ q)) (rw (abs_neg (pos 2 *ℤ q), two) (omega (arith, d)));
      square = in_signed (neg_ℤ (q *ℤ (q *ℤ pos t))) (rw (abs_neg (q *ℤ (q *ℤ pos t))) (omega (arith, m, n)));
      once = in_signed (q *ℤ pos t) (omega (arith, m));
    }

-- a sum of multiples of p is one, where it is a natural number
still_multiple : (n s' p : ℕ) (q : ℤ) → 0 < p → pos s' ≡ pos (n * p) +ℤ q *ℤ pos p → s' % p ≡ 0
still_multiple n s' p q p_pos e = go (pos n +ℤ q) (e ∙ ring₃ (pos n) q (pos p) (λ a b c. a ⊗ c ⊕ b ⊗ c) (λ a b c. (a ⊕ b) ⊗ c) refl)
  where
    go : (z : ℤ) → pos s' ≡ z *ℤ pos p → s' % p ≡ 0
    go (pos k) f = let g : s' ≡ k * p = omega (arith, ints) in ap (λ t. t % p) g ∙ mul-mod_left k p
    go (negsuc k) f = absurd (omega (arith, ints))

-- ---- what the laws of a selector give

module _ (S : SelectorModel) (L : LawfulSelector shortfall S) where
  pub bits_pos : 1 ≤ S.bits
  bits_pos = omega (arith, L.bits)

  pub bits_small : S.bits ≤ 2
  bits_small = omega (arith, L.bits)

  radix_small : 2 ^ S.bits ≤ 4
  radix_small = pow_mono bits_small

  -- a digit still to make has its place
  pub room : (Q j : ℕ) → j ≤ digits S Q → S.bits * j ≤ Q
  room Q j h = omega (arith, mul-div-le Q S.bits, mul-le-mul_left S.bits h)

-- the residual's next words mean the next residual
residual_next : (F : FormModel) → LawfulForm shortfall F → (r n k w y : ℤ) (o u : Words) → InSigned k → InSigned n → Fit F o → Fit F u →
    Congruent (F.meaning o) y → Congruent (F.meaning u) (r *ℤ w) → Congruent (F.meaning (F.add n (F.add_multiple k o u))) (r *ℤ w +ℤ k *ℤ y +ℤ n)
residual_next F L r n k w y o u ks ns vf uf vm um =
    let sum = F.add_multiple k o u in
    cong_trans (F.meaning (F.add n sum)) (F.meaning sum +ℤ n) (r *ℤ w +ℤ k *ℤ y +ℤ n) (L.add_means n sum ns (L.multiple_fits k o u ks vf uf))
    (cong_sum (F.meaning sum) (r *ℤ w +ℤ k *ℤ y) n n
    (cong_trans (F.meaning sum) (F.meaning u +ℤ k *ℤ F.meaning o) (r *ℤ w +ℤ k *ℤ y) (L.multiple_means k o u ks vf uf)
    (cong_sum (F.meaning u) (r *ℤ w) (k *ℤ F.meaning o) (k *ℤ y) um (cong_times k (F.meaning o) y vm)))
    (cong_refl n))

-- ---- a stage of a job: the words u of the residual and o of the product, and the partial result t

pub record Follows (S : SelectorModel) (F : FormModel) (K Q x j : ℕ) (u o : Words) (t : Partial) (w : ℤ) : Type 0 where
  pub residual_is : Residual S.bits K Q x j t.s w
  pub residual_means : Means F u w
  pub product_means : Means F o (pos (x * t.s))
  pub below_is : t.below + 2 ^ (Q - S.bits * j) ≡ t.s
  pub contained : Contained S.bits S.largest K Q x j t.s
  pub start_is : j ≡ 0 → t.s ≡ started S K Q x
  pub aligned : 0 < j → t.s % 2 ^ (Q - S.bits * j) ≡ 0
  pub digits_made : Digits shortfall S F K Q x j t.s

-- the registers at a place
abbrev at : ℕ → ℕ → ℕ → ℕ → Words → Words → Partial → Registers
at K Q x p u o t = record { k = K; q = Q; factor = x; place = p; residual = u; product = o; partial = t }

-- the digit chosen at words and the registers that it leaves at its place
abbrev digit_at : SelectorModel → FormModel → ℕ → Words → Words → ℤ
digit_at S F n u o = (chosen_from S F n (F.shift S.bits u) o).digit

abbrev after : SelectorModel → FormModel → ℕ → ℕ → ℕ → ℕ → Words → Words → Partial → Registers
after S F K Q x p u o t =
    let q = digit_at S F (K + Q) u o in
    at K Q x p (reduced F q (pos (x * 2 ^ p)) o (F.shift S.bits u)) (F.add (terms q (pos (x * 2 ^ p))).once o) (appended (radix S) q p t)

-- a turn with room for a digit makes it at its place
turn_is : (S : SelectorModel) (F : FormModel) (K Q x p p' : ℕ) (u o : Words) (t : Partial) → S.bits ≤ p → p - S.bits ≡ p' → turned S F (at K Q x p u o t) ≡ after S F K Q x p' u o t
turn_is S F K Q x p p' u o t room e =
    let more : complete S (at K Q x p u o t) ≡ false = le-ltb p S.bits room in
    ap (λ c. cond c (at K Q x p u o t) (turned_by S F (digit_at S F (K + Q) u o) (at K Q x p u o t))) more ∙ ap (λ k. after S F K Q x k u o t) e

-- ---- one digit

module _ (S : SelectorModel) (F : FormModel) (LS : LawfulSelector shortfall S) (LF : LawfulForm shortfall F) (K Q x j : ℕ) (sized : Sized K Q) (range : InRange K x)
    (above : 2 ^ (K - 2) < x) (more : j < digits S Q) (u o : Words) (t : Partial) (w : ℤ) (f : Follows S F K Q x j u o t w) where
  P : Plain K Q x
  P = plain K Q x sized range

  fits_now : S.bits * j ≤ Q
  fits_now = omega (arith, room S LS Q (suc j) more)

  fits_next : S.bits * suc j ≤ Q
  fits_next = room S LS Q (suc j) more

  sizes : (t.s ≤ 3 * 2 ^ Q) × Size (7 * 2 ^ (K + Q)) w
  sizes = residual_size S.bits S.largest K Q x j t.s w P (bits_pos S LS) LS.under fits_now f.contained f.residual_is

  product_size : x * t.s ≤ 3 * 2 ^ (K + Q)
  product_size = let l : x ≤ 2 ^ K = omega (arith, P.operand) in omega (arith, mul-le-mul l sizes.0, P.unit)

  shifted_size : Size (2 ^ 62) (pos (radix S) *ℤ w)
  shifted_size = go (2 ^ S.bits) (2 ^ (K + Q)) (radix_small S LS) P.unit_small sizes.1
    where
      go : (r D : ℕ) → r ≤ 4 → D ≤ 2 ^ 56 → Size (7 * D) w → Size (2 ^ 62) (pos r *ℤ w)
      go r D r_small D_small z =
          let d : 7 * D ≤ 7 * 2 ^ 56 = omega arith in
          let k : r * (7 * D) ≤ 4 * (7 * 2 ^ 56) = mul-le-mul r_small d in
          record { at_most = omega (arith, ints, k, mul-le-mul_left r z.at_most); at_least = omega (arith, ints, k, mul-le-mul_left r z.at_least) }

  shifted_means : Means F (F.shift S.bits u) (pos (radix S) *ℤ w)
  shifted_means =
      record {
        fits = LF.shift_fits S.bits u LS.bits f.residual_means.fits;
        means = cong_trans (F.meaning (F.shift S.bits u)) (pos (radix S) *ℤ F.meaning u) (pos (radix S) *ℤ w)
            (LF.shift_means S.bits u LS.bits f.residual_means.fits) (cong_times (pos (radix S)) (F.meaning u) w f.residual_means.means);
        reads = signed shifted_size (omega arith);
      }

  scale_small : K + Q ≤ 60
  scale_small = omega (arith, sized.width.1, sized.places.1)

  abbrev Ŵ : ℤ
  Ŵ = F.estimate (K + Q - S.residual_places) (F.shift S.bits u)

  abbrev P̂ : ℤ
  P̂ = F.estimate (K + Q - S.product_places) o

  residual_estimates : Estimates shortfall (K + Q) S.residual_places (F.estimate (K + Q - S.residual_places) (F.shift S.bits u)) (pos (radix S) *ℤ w)
  residual_estimates = estimates F LF (K + Q) S.residual_places (F.shift S.bits u) (pos (radix S) *ℤ w) scale_small shifted_means.fits shifted_means.means shifted_size

  product_estimates : Estimates shortfall (K + Q) S.product_places (F.estimate (K + Q - S.product_places) o) (pos (x * t.s))
  product_estimates =
      estimates F LF (K + Q) S.product_places o (pos (x * t.s)) scale_small f.product_means.fits f.product_means.means
      (record { at_most = omega (arith, product_size, P.unit_small); at_least = omega arith })

  abbrev q : ℤ
  q = S.digit (F.estimate (K + Q - S.residual_places) (F.shift S.bits u)) (F.estimate (K + Q - S.product_places) o)

  abbrev p : ℕ
  p = Q - S.bits * suc j

  selected : Selected shortfall S F K Q x j t.s q
  selected =
      record {
        least = LS.least Ŵ P̂;
        most = LS.most Ŵ P̂;
        w = w;
        residual_is = f.residual_is;
        shifted = F.shift S.bits u;
        shifted_means = shifted_means;
        shifted_estimates = residual_estimates;
        product = o;
        product_means = f.product_means;
        product_estimates = product_estimates;
        chosen = refl;
      }

  few : nat_abs q ≤ 3
  few = omega (arith, ints, LS.least Ŵ P̂, LS.most Ŵ P̂, LS.under, radix_small S LS)

  -- the conversion
  place : 2 ^ (Q - S.bits * j) ≡ 2 ^ S.bits * 2 ^ (Q - S.bits * suc j)
  place = next_place S.bits Q j fits_next

  conversion : Converted (t.s + 2 ^ S.bits * 2 ^ p) (2 ^ S.bits) p q t
  conversion =
      converted (t.s + 2 ^ S.bits * 2 ^ p) (2 ^ S.bits) p t (omega (arith, f.below_is, place)) (omega arith) q
      (omega (arith, ints, LS.least Ŵ P̂, LS.under)) (omega (arith, ints, LS.most Ŵ P̂, LS.under))

  abbrev t' : Partial
  t' = appended (radix S) q p t

  abbrev s' : ℕ
  s' = next_s (pos (radix S)) q p t

  moved : pos s' ≡ pos t.s +ℤ q *ℤ pos (2 ^ p)
  moved = conversion.is

  contained : Contained S.bits S.largest K Q x (suc j) s'
  contained =
      let n = LS.containment K Q x sized range above j t.s w Ŵ P̂ more f.contained f.start_is f.aligned f.residual_is residual_estimates product_estimates in
      let same : n.0 ≡ s' = same_natural n.0 s' (n.1 ∙ sym moved) in
      subst (λ k. Contained S.bits S.largest K Q x (suc j) k) same n.2
    where
      same_natural : (m n : ℕ) → pos m ≡ pos n → m ≡ n
      same_natural m n e = ap nat_abs e

  -- the partial result so far is a multiple of the next digit's place
  multiple_of : (n : ℕ) × (t.s ≡ n * 2 ^ p)
  multiple_of = go j refl
    where
      go : (i : ℕ) → j ≡ i → (n : ℕ) × (t.s ≡ n * 2 ^ (Q - S.bits * suc j))
      go zero e =
          let b = S.bits in
          let h = halves (S.start K x) in
          let k : Q - 1 ≡ b - 1 + (Q - b * suc j) = omega (arith, bits_pos S LS, fits_next, ap (λ t. b * t) e, mul-zero b) in
          let r : 2 ^ (Q - 1) ≡ 2 ^ (b - 1) * 2 ^ (Q - b * suc j) = power_of_sum (Q - 1) (b - 1) (Q - b * suc j) k in
          (h * 2 ^ (b - 1), f.start_is e ∙ ap (λ t. h * t) r ∙ sym (mul_assoc h (2 ^ (b - 1)) (2 ^ (Q - b * suc j))))
      go (suc i) e =
          let y = 2 ^ (Q - S.bits * j) in
          let d : t.s / y * y + t.s % y ≡ t.s = div-add-mod' t.s y in
          let z : t.s % y ≡ 0 = f.aligned (omega arith) in
          (t.s / y * 2 ^ S.bits, omega (arith, ap (λ k. t.s / y * k) place))

  -- the next residual
  abbrev w' : ℤ
  w' = pos (radix S) *ℤ w +ℤ neg_ℤ (pos 2 *ℤ q) *ℤ pos (x * t.s) +ℤ neg_ℤ (q *ℤ (q *ℤ pos (x * 2 ^ p)))

  operand : x ≤ 2 ^ K
  operand = omega (arith, P.operand)

  words : Added q (pos (x * 2 ^ p))
  words = added q (x * 2 ^ p) few (small (2 ^ p) (omega (arith, P.operand, P.width_small)) (pow_mono {j = 28} (omega (arith, sized.places.1))))
    where
      small : (y : ℕ) → x ≤ 2 ^ 28 → y ≤ 2 ^ 28 → x * y ≤ 2 ^ 56
      small y l h = omega (arith, mul-le-mul l h)

  full : 2 ^ S.bits * (2 ^ (S.bits * j) * 2 ^ p) ≡ 2 ^ Q
  full = omega (arith, split S.bits Q j fits_now, ap (λ k. 2 ^ (S.bits * j) * k) place)

  balance : Residual S.bits K Q x (suc j) s' w'
  balance = record {
    balances = rw (square s', next_power S.bits j) (step_balances (pos x) (pos t.s) (pos s') w q (pos (2 ^ S.bits)) (pos (2 ^ (S.bits * j))) (pos (2 ^ p)) (pos (2 ^ Q)) (pos (2 ^ (K + 2 * Q)))
        (ap pos full) (rw (square t.s) at f.residual_is.balances) moved);
  }

  next_sizes : (s' ≤ 3 * 2 ^ Q) × Size (7 * 2 ^ (K + Q)) w'
  next_sizes = residual_size S.bits S.largest K Q x (suc j) s' w' P (bits_pos S LS) LS.under fits_next contained balance

  abbrev u' : Words
  u' = reduced F q (pos (x * 2 ^ p)) o (F.shift S.bits u)

  abbrev o' : Words
  o' = F.add (terms q (pos (x * 2 ^ p))).once o

  longer : Digits shortfall S F K Q x j t.s → Digits shortfall S F K Q x (suc j) s'
  longer d =
      let n : length d.list ≡ j = d.as_many in
      record {
        list = q ∷ d.list;
        as_many = ap suc n;
        sum = moved ∙ ap₂ (λ (a : ℤ) (i : ℕ). a +ℤ q *ℤ pos (2 ^ (Q - S.bits * suc i))) d.sum (sym n);
        each = EachNext d.each d.sum (subst (λ i. Selected shortfall S F K Q x i t.s q) (sym n) selected);
      }

  pub follows_next : Follows S F K Q x (suc j) u' o' t' w'
  follows_next =
      record {
        residual_is = balance;
        residual_means = record {
          fits = LF.add_fits (neg_ℤ (q *ℤ (q *ℤ pos (x * 2 ^ p)))) (F.add_multiple (neg_ℤ (pos 2 *ℤ q)) o (F.shift S.bits u)) words.square
              (LF.multiple_fits (neg_ℤ (pos 2 *ℤ q)) o (F.shift S.bits u) words.multiple f.product_means.fits shifted_means.fits);
          means = residual_next F LF (pos (radix S)) (neg_ℤ (q *ℤ (q *ℤ pos (x * 2 ^ p)))) (neg_ℤ (pos 2 *ℤ q)) w (pos (x * t.s)) o (F.shift S.bits u)
              words.multiple words.square f.product_means.fits shifted_means.fits f.product_means.means shifted_means.means;
          reads = signed next_sizes.1 (omega (arith, P.unit_small));
        };
        product_means = record {
          fits = LF.add_fits (q *ℤ pos (x * 2 ^ p)) o words.once f.product_means.fits;
          means = cong_trans (F.meaning (F.add (q *ℤ pos (x * 2 ^ p)) o)) (F.meaning o +ℤ q *ℤ pos (x * 2 ^ p)) (pos (x * s'))
              (LF.add_means (q *ℤ pos (x * 2 ^ p)) o words.once f.product_means.fits)
              (subst (λ z. Congruent (F.meaning o +ℤ q *ℤ pos (x * 2 ^ p)) z) (step_product (pos x) (pos t.s) (pos s') q (pos (2 ^ p)) moved)
              (cong_sum (F.meaning o) (pos (x * t.s)) (q *ℤ pos (x * 2 ^ p)) (q *ℤ pos (x * 2 ^ p)) f.product_means.means (cong_refl (q *ℤ pos (x * 2 ^ p)))));
          reads = record { least = omega (arith, ints); most = omega (arith, ints, mul-le-mul operand next_sizes.0, P.unit, P.unit_small) };
        };
        below_is = conversion.below;
        contained = contained;
        start_is = λ z. absurd (omega arith);
        aligned = λ z. still_multiple multiple_of.0 s' (2 ^ p) q (pow_pos p) (moved ∙ ap (λ k. pos k +ℤ q *ℤ pos (2 ^ p)) multiple_of.1);
        digits_made = longer f.digits_made;
      }

  pub turned_is : turned S F (at K Q x (Q - S.bits * j) u o t) ≡ at K Q x (Q - S.bits * suc j) u' o' t'
  turned_is = turn_is S F K Q x (Q - S.bits * j) (Q - S.bits * suc j) u o t (omega (arith, fits_next)) (omega (arith, fits_next))

-- ---- the start

start_balances : (D G N A h P X T : ℕ) → D ≡ P * G → G ≡ 4 * h → N ≡ P * (G * G) → A ≡ 2 * h → (pos D -ℤ pos (X * (T * T) * h)) *ℤ pos G ≡ pos 1 *ℤ (pos N -ℤ pos (X * (T * A * (T * A))))
start_balances D G N A h P X T d g n a =
    rw (d, n, a, g)
    (ring₄ (pos h) (pos P) (pos X) (pos T) (λ h p x t. (p ⊗ (# (pos 4) ⊗ h) ⊖ x ⊗ (t ⊗ t) ⊗ h) ⊗ (# (pos 4) ⊗ h))
    (λ h p x t. # (pos 1) ⊗ (p ⊗ (# (pos 4) ⊗ h ⊗ (# (pos 4) ⊗ h)) ⊖ x ⊗ (t ⊗ (# (pos 2) ⊗ h) ⊗ (t ⊗ (# (pos 2) ⊗ h))))) refl)

module _ (S : SelectorModel) (F : FormModel) (LS : LawfulSelector shortfall S) (LF : LawfulForm shortfall F) (K Q x : ℕ) (sized : Sized K Q) (range : InRange K x)
    (above : 2 ^ (K - 2) < x) where
  abbrev T : ℕ
  T = halves (S.start K x)

  abbrev w₀ : ℤ
  w₀ = first_residual K Q x (S.start K x)

  abbrev t₀ : Partial
  t₀ = first_partial Q (S.start K x)

  P₀ : Plain K Q x
  P₀ = plain K Q x sized range

  bound : Contained S.bits S.largest K Q x 0 (started S K Q x)
  bound = LS.start_contained K Q x sized range above

  half : 2 ^ (Q - 1) ≡ 2 * 2 ^ (Q - 2)
  half = power_of_sum (Q - 1) 1 (Q - 2) (omega (arith, sized.places.0))

  balance₀ : Residual S.bits K Q x 0 (started S K Q x) w₀
  balance₀ = record {
    balances = rw (mul-zero S.bits, square (started S K Q x)) (start_balances (2 ^ (K + Q)) (2 ^ Q) (2 ^ (K + 2 * Q)) (2 ^ (Q - 1)) (2 ^ (Q - 2)) (2 ^ K) x T P₀.unit P₀.half (whole K Q) half);
  }

  sizes₀ : (started S K Q x ≤ 3 * 2 ^ Q) × Size (7 * 2 ^ (K + Q)) w₀
  sizes₀ = residual_size S.bits S.largest K Q x 0 (started S K Q x) w₀ P₀ (bits_pos S LS) LS.under (omega (arith, mul-zero S.bits)) bound balance₀

  reads₀ : InSigned w₀
  reads₀ = signed sizes₀.1 (omega (arith, P₀.unit_small))

  product_is : first_product Q x (S.start K x) ≡ pos (x * started S K Q x)
  product_is = ap pos (mul_assoc x T (2 ^ (Q - 1)))

  product_reads : InSigned (pos (x * started S K Q x))
  product_reads = let l : x ≤ 2 ^ K = omega (arith, P₀.operand) in record { least = omega (arith, ints); most = omega (arith, ints, mul-le-mul l sizes₀.0, P₀.unit, P₀.unit_small) }

  begins : Follows S F K Q x 0 (F.set w₀) (F.set (first_product Q x (S.start K x))) t₀ w₀
  begins =
      record {
        residual_is = balance₀;
        residual_means = record { fits = LF.set_fits w₀ reads₀; means = LF.set_means w₀ reads₀; reads = reads₀ };
        product_means = subst (λ n. Means F (F.set n) (pos (x * started S K Q x))) (sym product_is)
            (record { fits = LF.set_fits (pos (x * started S K Q x)) product_reads; means = LF.set_means (pos (x * started S K Q x)) product_reads; reads = product_reads });
        below_is = let n : Q - S.bits * 0 ≡ Q = omega (arith, mul-zero S.bits) in rw n (omega (arith, mul-le-mul_right (2 ^ (Q - 1)) (halves_least (S.start K x)), whole_place));
        contained = bound;
        start_is = λ e. refl;
        aligned = λ h. absurd (omega arith);
        digits_made = record { list = []; as_many = refl; sum = refl; each = none };
      }
    where
      whole_place : 2 ^ Q ≡ 2 * 2 ^ (Q - 1)
      whole_place = power_of_sum Q 1 (Q - 1) (omega (arith, sized.places.0))

  -- ---- every stage

  record Reached (j : ℕ) : Type 0 where
    u : Words
    o : Words
    t : Partial
    w : ℤ
    follows : Follows S F K Q x j u o t w
    registers_are : turns S F j (first_registers S F K Q x) ≡ at K Q x (Q - S.bits * j) u o t

  reached : (j : ℕ) → j ≤ digits S Q → Reached j
  reached zero h =
      let n : Q ≡ Q - S.bits * 0 = omega (arith, mul-zero S.bits) in
      record {
        u = F.set w₀;
        o = F.set (first_product Q x (S.start K x));
        t = t₀;
        w = w₀;
        follows = begins;
        registers_are = ap (λ k. at K Q x k (F.set w₀) (F.set (first_product Q x (S.start K x))) t₀) n;
      }
  reached (suc j) h = go (reached j (omega arith))
    where
      go : Reached j → Reached (suc j)
      go r =
          record {
            u = u' S F LS LF K Q x j sized range above h r.u r.o r.t r.w r.follows;
            o = o' S F LS LF K Q x j sized range above h r.u r.o r.t r.w r.follows;
            t = t' S F LS LF K Q x j sized range above h r.u r.o r.t r.w r.follows;
            w = w' S F LS LF K Q x j sized range above h r.u r.o r.t r.w r.follows;
            follows = follows_next S F LS LF K Q x j sized range above h r.u r.o r.t r.w r.follows;
            registers_are = ap (turned S F) r.registers_are ∙ turned_is S F LS LF K Q x j sized range above h r.u r.o r.t r.w r.follows;
          }

  stage : (j : ℕ) (c : Registers) → Reached j → turns S F j (first_registers S F K Q x) ≡ c → Stage shortfall S F K Q x j c
  stage j c r e =
      subst (Stage shortfall S F K Q x j) (sym r.registers_are ∙ e)
      (record {
        width_is = refl;
        places_are = refl;
        factor_is = refl;
        place_is = refl;
        w = r.w;
        residual_is = r.follows.residual_is;
        residual_means = r.follows.residual_means;
        product_means = r.follows.product_means;
        below_is = r.follows.below_is;
        contained = r.follows.contained;
        digits_made = r.follows.digits_made;
      })

  pub kept : Kept shortfall S F K Q x
  kept j h = stage j (turns S F j (first_registers S F K Q x)) (reached j h) refl
