-- The bank: eight lanes, each let to one holder at a time. A refused call leaves it as it was.
use Rattle.std.specs.Prelude.{ℕ, ◌+◌, ◌^◌, min, Bool, true, false, cond, ◌||◌, Some, None, Ok, Err, Option, Result, ◌==◌, nat_le, nat_lt}
use Rattle.selection.specs.declared.refusal.Refusal.{Refusal as OperandRefusal}
use Rattle.selection.specs.Operands as operands
use Rattle.single.specs.declared.answer.Answer.{Answer}
use Rattle.protocol.specs.declared.refusal.Refusal.{Refusal}
use Rattle.protocol.specs.declared.refusal.Refusal.TheVariants.{Operand as BadOperand, NoSuchLane, LaneHeld, Ticks, SerialsUsedUp, NotInForce, AlreadyLoaded, NoJob, DigitsLeft, BelowClock}
use Rattle.protocol.specs.declared.call.Request.{Request}
use Rattle.protocol.specs.declared.call.Request.TheVariants.{Load, Load32, Step, Look, Collect, Give}
use Rattle.protocol.specs.declared.call.Call.{Call}
use Rattle.protocol.specs.declared.call.Call.TheVariants.{Tick, Take, Ask}
use Rattle.protocol.specs.declared.call.Reply.{Reply}
use Rattle.protocol.specs.declared.call.Reply.TheVariants.{Done, Took, Stepped, Shown, Told}
use Rattle.protocol.specs.Operands.{Make, Operand}
use Rattle.protocol.specs.Operands.Operand.{fixed, single}
use Rattle.protocol.specs.Jobs.{Job, begun, turns, made, left, partial, told}

-- ---- lanes and banks

-- free, or held by a serial to a deadline, with or without a job
pub data Lane : Type 0 where
  free : Lane
  held : ℕ → ℕ → Option Job → Lane

-- the clock, the next serial, and the lanes by number; from 8 on there is none, so none is ever held
pub record Bank : Type 0 where
  pub time : ℕ
  pub next : ℕ
  pub lane : ℕ → Lane

abbrev pub new : Bank
new = record { time = 0; next = 1; lane = λ i. free }

-- ---- what a request does to the job of its own hold

-- It is stopped; or answered, and the job goes on or the lane becomes free.
pub data Served : Type 0 where
  stopped : Refusal → Served
  goes_on : Reply → Job → Served
  frees : Reply → Served

abbrev pub loading : Make → Operand → Option OperandRefusal → Served
loading m o None = goes_on Done (begun m o)
loading m o (Some r) = stopped (BadOperand r)

abbrev pub collecting : Option Answer → Served
collecting None = stopped DigitsLeft
collecting (Some a) = frees (Told a)

-- with no job loaded
abbrev pub serve_idle : Make → Request → Served
serve_idle m (Load K Q x) = loading m (fixed K Q x) (operands.refusal K Q x)
serve_idle m (Load32 v) = loading m (single v) None
serve_idle m (Step n) = stopped NoJob
serve_idle m Look = stopped NoJob
serve_idle m (Collect mode) = stopped NoJob
serve_idle m Give = frees Done

-- with a job
abbrev pub serve_job : Make → Job → Request → Served
serve_job m job (Load K Q x) = stopped AlreadyLoaded
serve_job m job (Load32 v) = stopped AlreadyLoaded
serve_job m job (Step n) = goes_on (Stepped (min n (left m job))) (turns m (min n (left m job)) job)
serve_job m job Look = goes_on (Shown (made m job) (partial job)) job
serve_job m job (Collect mode) = collecting (told m mode job)
serve_job m job Give = frees Done

abbrev pub serve : Make → Option Job → Request → Served
serve m None r = serve_idle m r
serve m (Some job) r = serve_job m job r

abbrev pub said : Served → Result Reply Refusal
said (stopped n) = Err n
said (goes_on a job) = Ok a
said (frees a) = Ok a

abbrev pub kept : ℕ → ℕ → Option Job → Served → Lane
kept serial deadline job (stopped n) = held serial deadline job
kept serial deadline job (goes_on a next) = held serial deadline (Some next)
kept serial deadline job (frees a) = free

-- ---- the calls

-- what a lane answers to a request with a serial, and how it is left
abbrev pub replies : Make → ℕ → Request → Lane → Result Reply Refusal
replies m serial r free = Err NotInForce
replies m serial r (held owner deadline job) = cond (owner == serial) (said (serve m job r)) (Err NotInForce)

abbrev pub leaves : Make → ℕ → Request → Lane → Lane
leaves m serial r free = free
leaves m serial r (held owner deadline job) = cond (owner == serial) (kept owner deadline job (serve m job r)) (held owner deadline job)

-- a tick frees the lanes whose deadline it reaches
abbrev pub expires : ℕ → Lane → Lane
expires t free = free
expires t (held serial deadline job) = cond (nat_le deadline t) free (held serial deadline job)

abbrev pub is_held : Lane → Bool
is_held free = false
is_held (held serial deadline job) = true

-- why a take is refused, if it is; the first check that fails decides
abbrev pub bars : Bank → ℕ → ℕ → Option Refusal
bars b lane ticks =
    cond (nat_lt 7 lane) (Some NoSuchLane)
    (cond (is_held (b.lane lane)) (Some LaneHeld)
    (cond (ticks == 0 || nat_le (2 ^ 32) (b.time + ticks)) (Some Ticks)
    (cond (nat_le (2 ^ 32) b.next) (Some SerialsUsedUp) None)))

abbrev pub taking : ℕ → Option Refusal → Result Reply Refusal
taking serial None = Ok (Took serial)
taking serial (Some r) = Err r

-- the lanes with the one at i changed
abbrev pub at : ℕ → (Lane → Lane) → (ℕ → Lane) → ℕ → Lane
at i f lanes k = cond (k == i) (f (lanes k)) (lanes k)

abbrev pub put : Bank → ℕ → ℕ → Bank
put b lane ticks = record { time = b.time; next = b.next + 1; lane = at lane (λ l. held b.next (b.time + ticks) None) b.lane }

abbrev pub taken : Bank → ℕ → ℕ → Option Refusal → Bank
taken b lane ticks None = put b lane ticks
taken b lane ticks (Some r) = b

abbrev pub answer : Make → Bank → Call → Result Reply Refusal
answer m b (Tick t) = cond (nat_lt t b.time) (Err BelowClock) (Ok Done)
answer m b (Take lane ticks) = taking b.next (bars b lane ticks)
answer m b (Ask h r) = replies m h.serial r (b.lane h.lane)

abbrev pub after : Make → Bank → Call → Bank
after m b (Tick t) = cond (nat_lt t b.time) b (record { time = t; next = b.next; lane = λ k. expires t (b.lane k) })
after m b (Take lane ticks) = taken b lane ticks (bars b lane ticks)
after m b (Ask h r) = record { time = b.time; next = b.next; lane = at h.lane (leaves m h.serial r) b.lane }
