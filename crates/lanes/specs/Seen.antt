-- The code's lanes as the model has them.
use Rattle.std.specs.Prelude.{ℕ, ◌<◌, cond, List, Some, None, Ok, Err, Option, Result, ◌==◌, nat_lt, slice_index_or, option_and_then}
use Rattle.std.specs.Bool.{then_some}
use Rattle.lane_job.specs.Seen.{seen_option}
use Rattle.lanes.specs.declared.lanes.Holder.{Holder}
use Rattle.lanes.specs.declared.lanes.Lane.{Lane}
use Rattle.lanes.specs.declared.lanes.Lanes.{Lanes}
use Rattle.protocol.specs.declared.refusal.Refusal.{Refusal}
use Rattle.protocol.specs.declared.refusal.Refusal.TheVariants.{NotInForce}
use Rattle.protocol.specs.declared.call.Name.{Name}
use Rattle.protocol.specs.Bank.{Bank, at}
use Rattle.protocol.specs.Bank as bank
use Rattle.protocol.specs.Bank.Lane.{free, held}

abbrev pub lane_of : Option Holder → bank.Lane
lane_of None = free
lane_of (Some h) = held h.serial h.deadline (seen_option h.job)

abbrev pub empty : Lane
empty = record { holder = None }

-- the lane at a number; from 8 on there is none, so none is held
abbrev pub lane_at : List Lane → ℕ → bank.Lane
lane_at lanes i = cond (nat_lt i 8) (lane_of (slice_index_or lanes i empty).holder) free

abbrev pub seen : Lanes → Bank
seen l = record { time = l.clock; next = l.next; lane = lane_at l.lanes }

-- a lane as it stands at a time: free from the deadline on
abbrev pub at_time : ℕ → Lane → Lane
at_time t l = record { holder = option_and_then (λ (h : Holder). then_some (nat_lt t h.deadline) h) l.holder }

-- a bank with one lane written
abbrev pub put : ℕ → bank.Lane → Bank → Bank
put i l b = record { time = b.time; next = b.next; lane = at i (λ _. l) b.lane }

-- the holder of a hold that is in force
abbrev pub matching : ℕ → Option Holder → Result Holder Refusal
matching serial None = Err NotInForce
matching serial (Some h) = cond (h.serial == serial) (Ok h) (Err NotInForce)

abbrev pub in_force : Lanes → Name → Result Holder Refusal
in_force l name = cond (nat_lt 7 name.lane) (Err NotInForce) (matching name.serial (slice_index_or l.lanes name.lane empty).holder)

-- a hold that is in force has one of the eight lanes
abbrev pub BelowEight : ℕ → Result Holder Refusal → Type 0
BelowEight lane (Ok h) = lane < 8
BelowEight lane (Err r) = Unit {0}
