-- Calls with their answers, and what a list of them says of a hold.
use Rattle.std.specs.Prelude.{◌≡◌, ℕ, ◌+◌, Bool, true, false, cond, ◌&&◌, List, [], ◌∷◌, Some, None, Ok, Err, Option, Result, ◌==◌, nat_le}
use Rattle.protocol.specs.declared.refusal.Refusal.{Refusal}
use Rattle.protocol.specs.declared.call.Name.{Name}
use Rattle.protocol.specs.declared.call.Request.{Request}
use Rattle.protocol.specs.declared.call.Request.TheVariants.{Load, Load32, Step, Look, Collect, Give}
use Rattle.protocol.specs.declared.call.Call.{Call}
use Rattle.protocol.specs.declared.call.Call.TheVariants.{Tick, Take, Ask}
use Rattle.protocol.specs.declared.call.Reply.{Reply}
use Rattle.protocol.specs.declared.call.Reply.TheVariants.{Done, Took, Stepped, Shown, Told}
use Rattle.protocol.specs.Operands.{Operand}
use Rattle.protocol.specs.Operands.Operand.{fixed, single}

-- A hold is a lane and a serial, and equal numbers are one hold.
abbrev pub same : Name → Name → Bool
same g h = g.lane == h.lane && g.serial == h.serial

-- A call that none of its checks stops is accepted.
abbrev pub accepted : Result Reply Refusal → Bool
accepted (Ok a) = true
accepted (Err r) = false

-- A call with its answer. A history has the newest first.
pub record Event : Type 0 where
  pub call : Call
  pub reply : Result Reply Refusal

abbrev pub History : Type 0
History = List Event

-- ---- the clock

-- what a call, accepted, makes of the clock
abbrev pub sets : Call → ℕ → ℕ
sets (Tick t) now = t
sets (Take lane ticks) now = now
sets (Ask h r) now = now

abbrev pub clock : History → ℕ
clock [] = 0
clock (e ∷ es) = cond (accepted e.reply) (sets e.call (clock es)) (clock es)

-- ---- what a call does to a hold: begins, ends, loads and steps it

abbrev pub gave : ℕ → Result Reply Refusal → Bool
gave serial (Ok Done) = false
gave serial (Ok (Took n)) = n == serial
gave serial (Ok (Stepped n)) = false
gave serial (Ok (Shown n s)) = false
gave serial (Ok (Told a)) = false
gave serial (Err r) = false

-- a take of its lane that hands out its serial begins it
abbrev pub begins : Name → Call → Result Reply Refusal → Bool
begins h (Tick t) a = false
begins h (Take lane ticks) a = lane == h.lane && gave h.serial a
begins h (Ask g r) a = false

-- for how many ticks
abbrev pub lease : Call → ℕ
lease (Tick t) = 0
lease (Take lane ticks) = ticks
lease (Ask g r) = 0

-- its collect and its give, accepted, end it, and so does a tick that reaches its deadline
abbrev pub is_last : Request → Bool
is_last (Load K Q x) = false
is_last (Load32 v) = false
is_last (Step n) = false
is_last Look = false
is_last (Collect mode) = true
is_last Give = true

abbrev pub ends : Name → ℕ → Call → Bool
ends h deadline (Tick t) = nat_le deadline t
ends h deadline (Take lane ticks) = false
ends h deadline (Ask g r) = same g h && is_last r

-- its load and its load32, accepted, load it with an operand
abbrev pub operand_of : Request → Option Operand
operand_of (Load K Q x) = Some (fixed K Q x)
operand_of (Load32 v) = Some (single v)
operand_of (Step n) = None
operand_of Look = None
operand_of (Collect mode) = None
operand_of Give = None

abbrev pub loads : Name → Call → Option Operand
loads h (Tick t) = None
loads h (Take lane ticks) = None
loads h (Ask g r) = cond (same g h) (operand_of r) None

-- its step, accepted, asks for so many digits
abbrev pub count_of : Request → ℕ
count_of (Load K Q x) = 0
count_of (Load32 v) = 0
count_of (Step n) = n
count_of Look = 0
count_of (Collect mode) = 0
count_of Give = 0

abbrev pub steps : Name → Call → ℕ
steps h (Tick t) = 0
steps h (Take lane ticks) = 0
steps h (Ask g r) = cond (same g h) (count_of r) 0

-- ---- what a history says of a hold

-- A take has handed out the hold h.
pub data Taken (h : Name) : History → Type 0 where
  now : {e : Event} {es : History} → begins h e.call e.reply ≡ true → Taken h (e ∷ es)
  before : {e : Event} {es : History} → Taken h es → Taken h (e ∷ es)

-- A take gave the hold h to a deadline, and nothing since has ended it.
pub data InForce (h : Name) : ℕ → History → Type 0 where
  taken : {e : Event} {es : History} → begins h e.call e.reply ≡ true → InForce h (clock es + lease e.call) (e ∷ es)
  lasts : {e : Event} {es : History} {deadline : ℕ} → InForce h deadline es → (accepted e.reply && ends h deadline e.call) ≡ false →
      InForce h deadline (e ∷ es)

-- The hold h has loaded the operand o, and its steps since have asked for so many digits.
pub data Loaded (h : Name) (o : Operand) : ℕ → History → Type 0 where
  loaded : {e : Event} {es : History} → accepted e.reply ≡ true → loads h e.call ≡ Some o → Loaded h o 0 (e ∷ es)
  since : {e : Event} {es : History} {n : ℕ} → Loaded h o n es → Loaded h o (cond (accepted e.reply) (steps h e.call) 0 + n) (e ∷ es)
