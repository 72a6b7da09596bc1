-- Rounding modes by their numbers.
use Rattle.std.specs.Prelude.{ℕ, cond, Ok, Err, Result, ◌==◌}
use Rattle.single.specs.declared.mode.Mode.{Mode}
use Rattle.single.specs.declared.mode.Mode.TheVariants.{Nearest, TowardZero, Up, Down}
use Rattle.single.specs.declared.mode.ModeRefusal.{ModeRefusal}
use Rattle.single.specs.declared.mode.ModeRefusal.TheVariants.{AboveThree}

abbrev pub mode_of : ℕ → Result Mode ModeRefusal
mode_of n = cond (n == 0) (Ok Nearest) (cond (n == 1) (Ok TowardZero) (cond (n == 2) (Ok Up) (cond (n == 3) (Ok Down) (Err AboveThree))))

-- the number by which the refusal is told to callers
abbrev pub number : ModeRefusal → ℕ
number AboveThree = 4
