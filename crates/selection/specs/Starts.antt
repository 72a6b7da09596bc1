-- The partial result that a job starts from.
use Rattle.std.specs.Prelude.{ℕ}
use Rattle.selection.specs.declared.start.Start.{Start}
use Rattle.selection.specs.declared.start.Start.TheVariants.{One, ThreeHalves, Two}

-- counted in halves
abbrev pub halves : Start → ℕ
halves One = 2
halves ThreeHalves = 3
halves Two = 4
