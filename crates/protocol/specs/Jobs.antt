-- Jobs: what a loaded operand is worked by, digit by digit, and what it tells.
use Rattle.std.specs.Prelude.{ℕ, zero, suc, ℤ, Some, None, Option}
use Rattle.std.specs.Option.{option_map, option_map_or}
use Rattle.recurrence.specs.declared.registers.Outcome.{Outcome}
use Rattle.recurrence.specs.Recurrence.{State}
use Rattle.recurrence.specs.Recurrence as recurrence
use Rattle.single.specs.declared.mode.Mode.{Mode}
use Rattle.single.specs.declared.answer.Answer.{Answer}
use Rattle.single.specs.MarkSets.{marks_of}
use Rattle.single.specs.Readings.{Reading, reading, special_answer, rounded}
use Rattle.single.specs.Readings as readings
use Rattle.single.specs.Readings.Reading.{special, positive}
use Rattle.protocol.specs.Operands.{Make, Operand}
use Rattle.protocol.specs.Operands.Operand.{fixed as fixed_operand, single as single_operand}

-- A special single, settled with its answer; a fixed-point job of the recurrence; or a positive single with its exponent, and the job of the
-- recurrence that works it.
pub data Job : Type 0 where
  settled : Answer → Job
  fixed : State → Job
  single : ℤ → State → Job

abbrev pub begun_read : Make → Reading → Job
begun_read m (special s) = settled (special_answer s)
begun_read m (positive n E) = single E (recurrence.begun m.selector m.form 25 24 (readings.number n E))

abbrev pub begun : Make → Operand → Job
begun m (fixed_operand K Q x) = fixed (recurrence.begun m.selector m.form K Q x)
begun m (single_operand v) = begun_read m (reading v)

-- one digit more, by the one turn of the recurrence, where one is left
abbrev pub turned : Make → Job → Job
turned m (settled a) = settled a
turned m (fixed c) = fixed (recurrence.job_turned m.selector m.form c)
turned m (single E c) = single E (recurrence.job_turned m.selector m.form c)

-- n digits more, one upon the other
abbrev pub turns : Make → ℕ → Job → Job
turns m zero job = job
turns m (suc n) job = turned m (turns m n job)

-- the job of the recurrence that works it; a settled job has none
abbrev pub worked_by : Job → Option State
worked_by (settled a) = None
worked_by (fixed c) = Some c
worked_by (single E c) = Some c

-- the digits made, the digits left and the partial result, each 0 for a settled job
abbrev pub made : Make → Job → ℕ
made m job = option_map_or (recurrence.made m.selector) (worked_by job) 0

abbrev pub left : Make → Job → ℕ
left m job = option_map_or (recurrence.left m.selector) (worked_by job) 0

abbrev pub partial : Job → ℕ
partial job = option_map_or recurrence.partial_result (worked_by job) 0

-- what a job tells once no digit is left
abbrev pub fixed_answer : Outcome → Answer
fixed_answer o = record { word = o.f; marks = marks_of o.exact }

abbrev pub told : Make → Mode → Job → Option Answer
told m mode (settled a) = Some a
told m mode (fixed c) = option_map fixed_answer (recurrence.outcome m.selector m.form c)
told m mode (single E c) = option_map (rounded mode E) (recurrence.outcome m.selector m.form c)
