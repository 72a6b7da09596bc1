-- Radix 2 with the start 3/2 for every operand.
use Rattle.selection.specs.declared.start.Start.TheVariants.{ThreeHalves}
use Rattle.selection.specs.Selectors.{SelectorModel}
use Rattle.selection.specs.Radix2.{radix_2}

abbrev pub middle_start : SelectorModel
middle_start = record { bits = 1; largest = 1; residual_places = 2; product_places = 0; start = λ K x. ThreeHalves; digit = radix_2.digit }
