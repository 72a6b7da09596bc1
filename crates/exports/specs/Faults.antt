-- Why an exported call refuses.
use Rattle.std.specs.Prelude.{ℕ}
use Rattle.selection.specs.Operands.{number as operand_number}
use Rattle.single.specs.Modes.{number as mode_number}
use Rattle.exports.specs.declared.fault.Fault.{Fault}
use Rattle.exports.specs.declared.fault.Fault.TheVariants.{Make, Operand, Mode}

-- the number of each refusal
abbrev pub number : Fault → ℕ
number Make = 19
number (Operand e) = operand_number e
number (Mode e) = mode_number e
