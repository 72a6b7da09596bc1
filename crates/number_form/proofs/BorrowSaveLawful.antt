-- The borrow-save form is lawful.
use Prim.Native.Nat.{ℕ, ◌+◌, ◌-◌, ◌*◌, ◌/◌, ◌%◌, ◌^◌, ◌≤◌, ◌<◌}
use mathlib.Core.Path.{◌≡◌, refl, ap, ◌∙◌, subst}
use native.Mathlib.Omega.{arith}
use native.Mathlib.Nat.{div-add-mod', mod-lt}
use lib.Bits.{bit_xor, xor_lt}
use lib.Pow.{pow_pos}
use lib.IntN.{ℤ, pos, ◌+ℤ◌, ◌-ℤ◌, ◌*ℤ◌, neg_ℤ}
use borrow.Author.Differences.{ints}
use Rattle.arithmetic.proofs.Ring.{ring₃, ring₄, #, ◌⊕◌, ◌⊖◌, ◌⊗◌, neg}
use Rattle.arithmetic.specs.Residues.{Congruent, word, reading}
use Rattle.arithmetic.specs.Estimates.{shortfall}
use Rattle.arithmetic.proofs.Congruence.{cong_refl, cong_trans, cong_sum, cong_less}
use Rattle.arithmetic.proofs.Words.{word_fits, word_means, read_signed, range, estimated_means}
use Rattle.number_form.specs.declared.words.Words.{Words}
use Rattle.number_form.specs.Forms.{InWords, Fit, LawfulForm, in_first, shifted}
use Rattle.number_form.specs.CarrySave.{majority}
use Rattle.number_form.specs.BorrowSave.{borrowed, cut, borrow_save}
use Rattle.number_form.proofs.Adder.{full_subtracter}
use Rattle.number_form.proofs.Shared.{in_first_fits, shifted_fits, sign_is}

abbrev rest : Words → ℤ
rest w = pos w.first -ℤ pos w.second

borrowed_fits : (n : ℕ) (w : Words) → n < 2 ^ 64 → InWords w → InWords (borrowed n w)
borrowed_fits n w h f =
    record {
      first_fits = word_fits (pos (2 * majority w.first n (2 ^ 64 - 1 - w.second)));
      second_fits = xor_lt 64 (bit_xor w.first n) w.second (xor_lt 64 w.first n f.first_fits h) f.second_fits;
    }

-- twice m less x
adds : (x m a b n : ℕ) → m * 2 + b ≡ x + (a + n) → Congruent (pos ((2 * m) % 2 ^ 64) -ℤ pos x) (pos a -ℤ pos b +ℤ pos n)
adds x m a b n e = (neg_ℤ (pos (2 * m / 2 ^ 64)), omega (arith, ints))

borrowed_means : (n : ℤ) (w : Words) → InWords w → Congruent (rest (borrowed (word n) w)) (rest w +ℤ n)
borrowed_means n w f =
    cong_trans (rest (borrowed (word n) w)) (rest w +ℤ pos (word n)) (rest w +ℤ n)
    (adds (bit_xor (bit_xor w.first (word n)) w.second) (majority w.first (word n) (2 ^ 64 - 1 - w.second)) w.first w.second (word n)
    (full_subtracter 64 w.first (word n) w.second f.first_fits (word_fits n) f.second_fits))
    (cong_sum (rest w) (rest w) (pos (word n)) n (cong_refl (rest w)) (word_means n))

-- after the first of the two sums
abbrev half : ℤ → Words → Words → Words
half c v w = borrowed (word (c *ℤ pos v.first)) w

half_fits : (c : ℤ) (v w : Words) → InWords w → InWords (half c v w)
half_fits c v w f = borrowed_fits (word (c *ℤ pos v.first)) w (word_fits (c *ℤ pos v.first)) f

multiple_means : (c : ℤ) (v w : Words) → InWords w → Congruent (rest (borrow_save.add_multiple c v w)) (rest w +ℤ c *ℤ rest v)
multiple_means c v w f =
    let s : Words = half c v w in
    let m : ℤ = c *ℤ pos v.first in
    let n : ℤ = neg_ℤ (c *ℤ pos v.second) in
    let e : rest w +ℤ m +ℤ n ≡ rest w +ℤ c *ℤ rest v = ring₄ (rest w) c (pos v.first) (pos v.second) (λ w c x y. w ⊕ c ⊗ x ⊕ neg (c ⊗ y)) (λ w c x y. w ⊕ c ⊗ (x ⊖ y)) refl in
    subst (λ z. Congruent (rest (borrow_save.add_multiple c v w)) z) e
    (cong_trans (rest (borrowed (word n) s)) (rest s +ℤ n) (rest w +ℤ m +ℤ n) (borrowed_means n s (half_fits c v w f))
    (cong_sum (rest s) (rest w +ℤ m) n n (borrowed_means m w f) (cong_refl n)))

shift_means : (b : ℕ) (w : Words) → Congruent (rest (borrow_save.shift b w)) (pos (2 ^ b) *ℤ rest w)
shift_means b w =
    let x : ℤ = pos (2 ^ b * w.first) in
    let y : ℤ = pos (2 ^ b * w.second) in
    let e : x -ℤ y ≡ pos (2 ^ b) *ℤ rest w = ring₃ (pos (2 ^ b)) (pos w.first) (pos w.second) (λ p x y. p ⊗ x ⊖ p ⊗ y) (λ p x y. p ⊗ (x ⊖ y)) refl in
    subst (λ z. Congruent (rest (borrow_save.shift b w)) z) e
    (cong_less (pos (word x)) x (pos (word y)) y (word_means x) (word_means y))

-- the multiple of 2 ^ u that the estimate keeps, and what it leaves out
abbrev kept : ℕ → Words → ℤ
kept u w = pos (w.first / 2 ^ u) -ℤ pos (w.second / 2 ^ u) -ℤ pos 1

cut_is : (a b p : ℤ) → a *ℤ p -ℤ b *ℤ p -ℤ p ≡ (a -ℤ b -ℤ pos 1) *ℤ p
cut_is a b p = ring₃ a b p (λ a b p. a ⊗ p ⊖ b ⊗ p ⊖ p) (λ a b p. (a ⊖ b ⊖ # (pos 1)) ⊗ p) refl

estimate_short : (u : ℕ) (w : Words) → u ≤ 60 → (e : ℕ) × (e < 2 * 2 ^ u) × Congruent (rest w) (borrow_save.estimate u w *ℤ pos (2 ^ u) +ℤ pos e)
estimate_short u w small =
    let p = 2 ^ u in
    let a = w.first in
    let b = w.second in
    let e = a % p + (p - b % p) in
    let da : a / p * p + a % p ≡ a = div-add-mod' a p in
    let db : b / p * p + b % p ≡ b = div-add-mod' b p in
    let ma : a % p < p = mod-lt a (pow_pos u) in
    let mb : b % p < p = mod-lt b (pow_pos u) in
    let c : cut u w ≡ kept u w *ℤ pos p = cut_is (pos (a / p)) (pos (b / p)) (pos p) in
    let whole : rest w ≡ cut u w +ℤ pos e = omega (arith, ints) in
    (e, omega arith, estimated_means u small (kept u w) (rest w) (cut u w) e (whole ∙ ap (λ z. z +ℤ pos e) c) c)

fit : (w : Words) → InWords w → Fit borrow_save w
fit w f = record { fits = f; keeps = refl }

pub borrow_save_lawful : LawfulForm shortfall borrow_save
borrow_save_lawful =
    record {
      set_fits = λ n s. fit (in_first n) (in_first_fits n);
      set_means = λ n s. cong_trans (pos (word n) -ℤ pos 0) (pos (word n)) n (pos 0, omega (arith, ints)) (word_means n);
      shift_fits = λ b w h f. fit (shifted b w) (shifted_fits b w);
      shift_means = λ b w h f. shift_means b w;
      add_fits = λ n w s f. fit (borrowed (word n) w) (borrowed_fits (word n) w (word_fits n) f.fits);
      add_means = λ n w s f. borrowed_means n w f.fits;
      multiple_fits = λ c v w s f g.
          let n = word (neg_ℤ (c *ℤ pos v.second)) in
          fit (borrowed n (half c v w)) (borrowed_fits n (half c v w) (word_fits (neg_ℤ (c *ℤ pos v.second))) (half_fits c v w g.fits));
      multiple_means = λ c v w s f g. multiple_means c v w g.fits;
      estimate_range = λ u w h f. range u h (reading (cut u w)) (read_signed (cut u w));
      estimate_short = λ u w h f. estimate_short u w h;
      sign_reads = λ w n f s c. sign_is (rest w) n s c;
    }
