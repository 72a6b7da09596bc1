-- The carry-save form is lawful.
use Prim.Native.Nat.{ℕ, ◌+◌, ◌*◌, ◌/◌, ◌%◌, ◌^◌, ◌≤◌, ◌<◌}
use mathlib.Core.Path.{◌≡◌, refl, subst}
use native.Mathlib.Omega.{arith}
use native.Mathlib.Nat.{div-add-mod', mod-lt}
use lib.Bits.{bit_xor, xor_lt}
use lib.Pow.{pow_pos}
use lib.IntN.{ℤ, pos, ◌+ℤ◌, ◌*ℤ◌, neg_ℤ}
use borrow.Author.Differences.{ints}
use Rattle.arithmetic.proofs.Ring.{ring₃, ring₄, ◌⊕◌, ◌⊗◌}
use Rattle.arithmetic.specs.Residues.{Congruent, word, reading}
use Rattle.arithmetic.specs.Estimates.{shortfall}
use Rattle.arithmetic.proofs.Congruence.{cong_refl, cong_trans, cong_sum}
use Rattle.arithmetic.proofs.Words.{word_fits, word_means, read_signed, range, estimated_means}
use Rattle.number_form.specs.declared.words.Words.{Words}
use Rattle.number_form.specs.Forms.{InWords, Fit, LawfulForm, in_first, shifted, from_place}
use Rattle.number_form.specs.CarrySave.{majority, carried, carry_save}
use Rattle.number_form.proofs.Adder.{full_adder}
use Rattle.number_form.proofs.Shared.{in_first_fits, shifted_fits, sign_is}

abbrev sum : Words → ℤ
sum w = pos w.first +ℤ pos w.second

carried_fits : (n : ℕ) (w : Words) → n < 2 ^ 64 → InWords w → InWords (carried n w)
carried_fits n w h f =
    record {
      first_fits = xor_lt 64 (bit_xor w.first w.second) n (xor_lt 64 w.first w.second f.first_fits f.second_fits) h;
      second_fits = word_fits (pos (2 * majority w.first w.second n));
    }

-- x without carries and the carries m
adds : (x m a b n : ℕ) → x + m * 2 ≡ a + b + n → Congruent (pos x +ℤ pos ((2 * m) % 2 ^ 64)) (pos a +ℤ pos b +ℤ pos n)
adds x m a b n e = (neg_ℤ (pos (2 * m / 2 ^ 64)), omega (arith, ints))

carried_means : (n : ℤ) (w : Words) → Congruent (sum (carried (word n) w)) (sum w +ℤ n)
carried_means n w =
    cong_trans (sum (carried (word n) w)) (sum w +ℤ pos (word n)) (sum w +ℤ n)
    (adds (bit_xor (bit_xor w.first w.second) (word n)) (majority w.first w.second (word n)) w.first w.second (word n)
    (full_adder w.first w.second (word n)))
    (cong_sum (sum w) (sum w) (pos (word n)) n (cong_refl (sum w)) (word_means n))

multiple_means : (c : ℤ) (v w : Words) → Congruent (sum (carry_save.add_multiple c v w)) (sum w +ℤ c *ℤ sum v)
multiple_means c v w =
    let s : Words = carried (word (c *ℤ pos v.first)) w in
    let m : ℤ = c *ℤ pos v.first in
    let n : ℤ = c *ℤ pos v.second in
    let e : sum w +ℤ m +ℤ n ≡ sum w +ℤ c *ℤ sum v = ring₄ (sum w) c (pos v.first) (pos v.second) (λ w c x y. w ⊕ c ⊗ x ⊕ c ⊗ y) (λ w c x y. w ⊕ c ⊗ (x ⊕ y)) refl in
    subst (λ z. Congruent (sum (carry_save.add_multiple c v w)) z) e
    (cong_trans (sum (carried (word n) s)) (sum s +ℤ n) (sum w +ℤ m +ℤ n) (carried_means n s)
    (cong_sum (sum s) (sum w +ℤ m) n n (carried_means m w) (cong_refl n)))

shift_means : (b : ℕ) (w : Words) → Congruent (sum (carry_save.shift b w)) (pos (2 ^ b) *ℤ sum w)
shift_means b w =
    let x : ℤ = pos (2 ^ b * w.first) in
    let y : ℤ = pos (2 ^ b * w.second) in
    let e : x +ℤ y ≡ pos (2 ^ b) *ℤ sum w = ring₃ (pos (2 ^ b)) (pos w.first) (pos w.second) (λ p x y. p ⊗ x ⊕ p ⊗ y) (λ p x y. p ⊗ (x ⊕ y)) refl in
    subst (λ z. Congruent (sum (carry_save.shift b w)) z) e
    (cong_sum (pos (word x)) x (pos (word y)) y (word_means x) (word_means y))

estimate_short : (u : ℕ) (w : Words) → u ≤ 60 → (e : ℕ) × (e < 2 * 2 ^ u) × Congruent (sum w) (carry_save.estimate u w *ℤ pos (2 ^ u) +ℤ pos e)
estimate_short u w small =
    let p = 2 ^ u in
    let a = w.first in
    let b = w.second in
    let da : a / p * p + a % p ≡ a = div-add-mod' a p in
    let db : b / p * p + b % p ≡ b = div-add-mod' b p in
    let ma : a % p < p = mod-lt a (pow_pos u) in
    let mb : b % p < p = mod-lt b (pow_pos u) in (
      a % p + b % p,
      omega arith,
      estimated_means u small (pos (a / p) +ℤ pos (b / p)) (sum w) (pos (from_place u a) +ℤ pos (from_place u b)) (a % p + b % p) (omega (arith, ints)) (omega (arith, ints)),
    )

fit : (w : Words) → InWords w → Fit carry_save w
fit w f = record { fits = f; keeps = refl }

pub carry_save_lawful : LawfulForm shortfall carry_save
carry_save_lawful =
    record {
      set_fits = λ n s. fit (in_first n) (in_first_fits n);
      set_means = λ n s. cong_trans (pos (word n) +ℤ pos 0) (pos (word n)) n (pos 0, omega (arith, ints)) (word_means n);
      shift_fits = λ b w h f. fit (shifted b w) (shifted_fits b w);
      shift_means = λ b w h f. shift_means b w;
      add_fits = λ n w s f. fit (carried (word n) w) (carried_fits (word n) w (word_fits n) f.fits);
      add_means = λ n w s f. carried_means n w;
      multiple_fits = λ c v w s f g.
          let m = word (c *ℤ pos v.first) in
          let n = word (c *ℤ pos v.second) in
          fit (carried n (carried m w)) (carried_fits n (carried m w) (word_fits (c *ℤ pos v.second)) (carried_fits m w (word_fits (c *ℤ pos v.first)) g.fits));
      multiple_means = λ c v w s f g. multiple_means c v w;
      estimate_range = λ u w h f. let n = pos (from_place u w.first) +ℤ pos (from_place u w.second) in range u h (reading n) (read_signed n);
      estimate_short = λ u w h f. estimate_short u w h;
      sign_reads = λ w n f s c. sign_is (sum w) n s c;
    }
