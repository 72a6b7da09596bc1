use Rattle.std.proofs.Common.{◌≡◌, take}
use Rattle.stream.specs.Answers.{bytes, Writes}
use Rattle.stream.proofs.writer.Writer.numbers.Given as goal

abbrev pub invariant-loop-number : goal.invariant-loop-number
invariant-loop-number l =
    (l.self.out.ghost_name ≡ l.initial.self.out.ghost_name) × Writes l.initial.self.at l.initial.self.out.now l.self.at l.self.out.now (bytes (take l.number-index l.numbers))
