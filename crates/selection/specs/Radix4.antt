-- The selector of radix 4, which compares the residual with two thresholds made of the product.
use Rattle.std.specs.Prelude.{ℕ, ◌*◌, ◌^◌, cond, ℤ, pos, negsuc, ◌+ℤ◌, ◌*ℤ◌, neg_ℤ, int_le, nat_lt}
use Rattle.std.specs.Int.Signed.{shr_z}
use Rattle.selection.specs.declared.start.Start.{Start}
use Rattle.selection.specs.declared.start.Start.TheVariants.{One, ThreeHalves, Two}
use Rattle.selection.specs.Selectors.{SelectorModel, guarded}

-- 2 for X below 3/8, 3/2 for X from 3/8 to below 3/4, and else 1
abbrev pub start_4 : ℕ → ℕ → Start
start_4 K x = cond (nat_lt (8 * x) (3 * 2 ^ K)) Two (cond (nat_lt (4 * x) (3 * 2 ^ K)) ThreeHalves One)

-- The thresholds P + 1/64 and 3 * (P + 1/64), each cut down to a multiple of 1/16, also where it is negative. The product's estimate P is in
-- 64ths, and the thresholds and the residual's estimate W are in sixteenths.
abbrev pub threshold : ℤ → ℤ → ℤ
threshold times P̂ = shr_z (times *ℤ (P̂ +ℤ pos 1)) 4

abbrev pub inner : ℤ → ℤ
inner P̂ = threshold (pos 1) P̂

abbrev pub outer : ℤ → ℤ
outer P̂ = threshold (pos 3) P̂

-- from which W on each digit is chosen
abbrev pub two_from : ℤ → ℤ
two_from P̂ = outer P̂

abbrev pub one_from : ℤ → ℤ
one_from P̂ = inner P̂

abbrev pub zero_from : ℤ → ℤ
zero_from P̂ = neg_ℤ (inner P̂)

abbrev pub minus_one_from : ℤ → ℤ
minus_one_from P̂ = neg_ℤ (outer P̂)

-- 2, 1, 0 and -1 from these thresholds on, the first that applies, and else -2
abbrev pub by_thresholds : ℤ → ℤ → ℤ → ℤ → ℤ → ℤ
by_thresholds two one nought minus_one Ŵ =
    cond (int_le two Ŵ) (pos 2) (cond (int_le one Ŵ) (pos 1) (cond (int_le nought Ŵ) (pos 0) (cond (int_le minus_one Ŵ) (negsuc 0) (negsuc 1))))

abbrev pub choice_4 : ℤ → ℤ → ℤ
choice_4 Ŵ P̂ = by_thresholds (two_from P̂) (one_from P̂) (zero_from P̂) (minus_one_from P̂) Ŵ

abbrev pub radix_4 : SelectorModel
radix_4 = record { bits = 2; largest = 2; residual_places = 4; product_places = 6; start = start_4; digit = guarded choice_4 }
