-- Refusals by their numbers.
use Rattle.std.specs.Prelude.{ℕ, List, Some, None, Option, codes}
use Rattle.selection.specs.Operands as operands
use Rattle.protocol.specs.declared.refusal.Refusal.{Refusal}
use Rattle.protocol.specs.declared.refusal.Refusal.TheVariants.{Operand, NoSuchLane, LaneHeld, Ticks, SerialsUsedUp, NotInForce, AlreadyLoaded, NoJob, DigitsLeft, BelowClock}

-- the number by which each refusal is told to callers
abbrev pub number : Refusal → ℕ
number (Operand r) = operands.number r
number NoSuchLane = 5
number LaneHeld = 6
number Ticks = 7
number SerialsUsedUp = 8
number NotInForce = 9
number AlreadyLoaded = 10
number NoJob = 11
number DigitsLeft = 12
number BelowClock = 13

-- the cause of each refusal in words; that of an operand is in the operand's own
abbrev pub cause : Refusal → Option (List ℕ)
cause (Operand r) = None
cause NoSuchLane = Some (codes "the lane is above 7")
cause LaneHeld = Some (codes "the lane is held")
cause Ticks = Some (codes "the ticks are 0, or the deadline is above 2^32 - 1")
cause SerialsUsedUp = Some (codes "the last serial, 2^32 - 1, is handed out")
cause NotInForce = Some (codes "the hold is not in force")
cause AlreadyLoaded = Some (codes "a job is already loaded")
cause NoJob = Some (codes "no job is loaded")
cause DigitsLeft = Some (codes "digits are still to make")
cause BelowClock = Some (codes "the time is below the clock")
