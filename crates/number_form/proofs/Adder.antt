-- Exclusive or and majority add three numbers, and subtract a third from two.
use mathlib.Core.Path.{◌≡◌, refl, sym, ap, ap₂, ◌∙◌}
use Prim.Native.Nat.{ℕ, zero, suc, ◌+◌, ◌-◌, ◌*◌, ◌/◌, ◌%◌, ◌^◌, ◌<◌}
use native.Mathlib.Omega.{arith}
use native.Mathlib.Nat.{mod-eq_of_lt}
use lib.Arith.{bin_ind}
use lib.Bits.{bit_and, bit_or, bit_xor, xor_add_and, xor_comm, xor_assoc, xor_lt, xor_shr, and_shr, or_shr, xor_mod, and_mod, or_mod, and_comm, and_mask}
use Rattle.number_form.specs.CarrySave.{majority}

digits_add : (x y z : ℕ) → x < 2 → y < 2 → z < 2 → bit_xor (bit_xor x y) z + majority x y z * 2 ≡ x + y + z
digits_add zero zero zero hx hy hz = refl
digits_add zero zero (suc zero) hx hy hz = refl
digits_add zero (suc zero) zero hx hy hz = refl
digits_add zero (suc zero) (suc zero) hx hy hz = refl
digits_add (suc zero) zero zero hx hy hz = refl
digits_add (suc zero) zero (suc zero) hx hy hz = refl
digits_add (suc zero) (suc zero) zero hx hy hz = refl
digits_add (suc zero) (suc zero) (suc zero) hx hy hz = refl
digits_add zero zero (suc (suc z)) hx hy hz = absurd (omega arith)
digits_add zero (suc zero) (suc (suc z)) hx hy hz = absurd (omega arith)
digits_add (suc zero) zero (suc (suc z)) hx hy hz = absurd (omega arith)
digits_add (suc zero) (suc zero) (suc (suc z)) hx hy hz = absurd (omega arith)
digits_add zero (suc (suc y)) z hx hy hz = absurd (omega arith)
digits_add (suc zero) (suc (suc y)) z hx hy hz = absurd (omega arith)
digits_add (suc (suc x)) y z hx hy hz = absurd (omega arith)

xor_half : (a b c : ℕ) → bit_xor (bit_xor a b) c / 2 ≡ bit_xor (bit_xor (a / 2) (b / 2)) (c / 2)
xor_half a b c = xor_shr (bit_xor a b) c 1 ∙ ap (λ x. bit_xor x (c / 2)) (xor_shr a b 1)

xor_low : (a b c : ℕ) → bit_xor (bit_xor a b) c % 2 ≡ bit_xor (bit_xor (a % 2) (b % 2)) (c % 2)
xor_low a b c = xor_mod (bit_xor a b) c 1 ∙ ap (λ x. bit_xor x (c % 2)) (xor_mod a b 1)

majority_half : (a b c : ℕ) → majority a b c / 2 ≡ majority (a / 2) (b / 2) (c / 2)
majority_half a b c =
    or_shr (bit_or (bit_and a b) (bit_and a c)) (bit_and b c) 1
    ∙ ap₂ bit_or (or_shr (bit_and a b) (bit_and a c) 1 ∙ ap₂ bit_or (and_shr a b 1) (and_shr a c 1)) (and_shr b c 1)

majority_low : (a b c : ℕ) → majority a b c % 2 ≡ majority (a % 2) (b % 2) (c % 2)
majority_low a b c =
    or_mod (bit_or (bit_and a b) (bit_and a c)) (bit_and b c) 1
    ∙ ap₂ bit_or (or_mod (bit_and a b) (bit_and a c) 1 ∙ ap₂ bit_or (and_mod a b 1) (and_mod a c 1)) (and_mod b c 1)

-- X + 2 Y from the halves and the last digits
from_digits : (x y n b c : ℕ) → x / 2 + y / 2 * 2 ≡ n / 2 + b / 2 + c / 2 → x % 2 + y % 2 * 2 ≡ n % 2 + b % 2 + c % 2 → x + y * 2 ≡ n + b + c
from_digits x y n b c h l = omega arith

pub full_adder : (a b c : ℕ) → bit_xor (bit_xor a b) c + majority a b c * 2 ≡ a + b + c
full_adder =
    bin_ind (λ n. (b c : ℕ) → bit_xor (bit_xor n b) c + majority n b c * 2 ≡ n + b + c)
    (λ b c. omega (arith, xor_add_and b c))
    (λ n ih b c. from_digits (bit_xor (bit_xor n b) c) (majority n b c) n b c
    (ap₂ (λ x y. x + y * 2) (xor_half n b c) (majority_half n b c) ∙ ih (b / 2) (c / 2))
    (ap₂ (λ x y. x + y * 2) (xor_low n b c) (majority_low n b c)
    ∙ digits_add (n % 2) (b % 2) (c % 2) (omega arith) (omega arith) (omega arith)))

-- the other bits of a word of k bits
flip : (k z : ℕ) → z < 2 ^ k → bit_xor (2 ^ k - 1) z ≡ 2 ^ k - 1 - z
flip k z h =
    let low : bit_and (2 ^ k - 1) z ≡ z = and_comm (2 ^ k - 1) z ∙ and_mask z k ∙ mod-eq_of_lt h in
    omega (arith, xor_add_and (2 ^ k - 1) z)

xor_flip : (k t z : ℕ) → t < 2 ^ k → z < 2 ^ k → bit_xor t (2 ^ k - 1 - z) ≡ 2 ^ k - 1 - bit_xor t z
xor_flip k t z ht hz =
    ap (λ x. bit_xor t x) (sym (flip k z hz)) ∙ sym (xor_assoc t (2 ^ k - 1) z)
    ∙ ap (λ x. bit_xor x z) (xor_comm t (2 ^ k - 1)) ∙ xor_assoc (2 ^ k - 1) t z ∙ flip k (bit_xor t z) (xor_lt k t z ht hz)

pub full_subtracter : (k a b c : ℕ) → a < 2 ^ k → b < 2 ^ k → c < 2 ^ k → majority a b (2 ^ k - 1 - c) * 2 + c ≡ bit_xor (bit_xor a b) c + (a + b)
full_subtracter k a b c ha hb hc =
    let t = xor_lt k a b ha hb in
    let x = xor_lt k (bit_xor a b) c t hc in
    omega (arith, full_adder a b (2 ^ k - 1 - c), xor_flip k (bit_xor a b) c t hc)
