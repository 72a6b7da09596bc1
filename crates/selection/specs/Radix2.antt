-- The selector of radix 2, which looks at the residual alone.
use Rattle.std.specs.Prelude.{cond, ℤ, pos, negsuc, int_le}
use Rattle.selection.specs.declared.start.Start.TheVariants.{One}
use Rattle.selection.specs.Selectors.{SelectorModel, guarded}

-- the thresholds of the residual's estimate, in quarters: -1 from -1/2 down, 1 from 1/4 up
abbrev pub down_from : ℤ
down_from = negsuc 1

abbrev pub up_from : ℤ
up_from = pos 1

abbrev pub choice_2 : ℤ → ℤ → ℤ
choice_2 Ŵ P̂ = cond (int_le Ŵ down_from) (negsuc 0) (cond (int_le up_from Ŵ) (pos 1) (pos 0))

abbrev pub radix_2 : SelectorModel
radix_2 = record { bits = 1; largest = 1; residual_places = 2; product_places = 0; start = λ K x. One; digit = guarded choice_2 }
