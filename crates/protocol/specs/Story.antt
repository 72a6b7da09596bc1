-- The story of a slow job that outlives its hold, and of the holder who has the lane after it.
use Rattle.std.specs.Prelude.{◌≡◌, List, [], ◌∷◌, ◌++◌, map, None, Ok, Err}
use Rattle.selection.specs.Operands.{Contained}
use Rattle.single.specs.declared.mode.Mode.{Mode}
use Rattle.single.specs.declared.mode.Mode.TheVariants.{Nearest}
use Rattle.single.specs.declared.answer.Answer.{Answer}
use Rattle.protocol.specs.declared.refusal.Refusal.TheVariants.{NotInForce}
use Rattle.protocol.specs.declared.call.Name.{Name}
use Rattle.protocol.specs.declared.call.Request.TheVariants.{Load, Step, Look, Collect, Give}
use Rattle.protocol.specs.declared.call.Call.{Call}
use Rattle.protocol.specs.declared.call.Call.TheVariants.{Tick, Take, Ask}
use Rattle.protocol.specs.declared.call.Reply.TheVariants.{Told}
use Rattle.protocol.specs.declared.call.Play.{Play}
use Rattle.protocol.specs.Operands.{Make, Lawful, Operand, partial_result, Right}
use Rattle.protocol.specs.Operands.Operand.{fixed}
use Rattle.protocol.specs.History.{InForce}
use Rattle.protocol.specs.Promise.{history, next_answer, told_to, answers}
use Rattle.protocol.specs.Plays.{onto}

-- a call that is not played yet
abbrev pub unplayed : Call → Play
unplayed c = record { call = c; reply = None }

-- The slow holder has lane 0 by serial 1, and the next holder has it by serial 2.
abbrev pub slow : Name
slow = record { lane = 0; serial = 1 }

abbrev pub next : Name
next = record { lane = 0; serial = 2 }

-- what the next holder loads
abbrev pub operand : Operand
operand = fixed 4 4 5

-- Lists have the newest first. The slow holder takes the lane for 5 ticks and works; at tick 4 its hold is in force.
abbrev pub at_work : List Call
at_work = Tick 4 ∷ Ask slow (Step 2) ∷ Ask slow (Load 4 4 8) ∷ Take 0 5 ∷ []

-- At tick 5 the lane is free, and the next holder takes it.
abbrev pub handed_over : List Call
handed_over = Ask next (Step 1) ∷ Ask next (Load 4 4 5) ∷ Take 0 10 ∷ Tick 5 ∷ Ask slow Look ∷ at_work

-- The slow holder cleans up, too late.
abbrev pub cleaned_up : List Call
cleaned_up = Ask slow Give ∷ handed_over

-- The next holder goes on, and collects.
abbrev pub worked_off : List Call
worked_off = Ask next (Step 9) ∷ Ask next Look ∷ cleaned_up

abbrev pub story : List Call
story = Ask next (Collect Nearest) ∷ worked_off

-- the story as a list to play, the first call first
abbrev pub slow_job : List Play
slow_job = map unplayed (onto story [])

-- How the story goes on a bank of the make m.
pub record GoesWell (m : Make) : Type 0 where
  -- At tick 4 the slow holder's hold is in force, to its deadline 5.
  pub in_force : InForce slow 5 (history m at_work)
  -- Its late give is refused by 9,
  pub refused : next_answer m handed_over (Ask slow Give) ≡ Err NotInForce
  -- and whatever calls come later, what the next holder is told is what it would have been told without it.
  pub unchanged : (later : List Call) → answers (told_to next (history m (later ++ cleaned_up))) ≡ answers (told_to next (history m (later ++ handed_over)))
  -- The next holder's partial result is within the bound from the start,
  pub start : Contained m.selector.bits m.selector.largest 4 4 5 0 (partial_result m operand 0)
  -- and it is told what is right.
  pub collected : (mode : Mode) → (a : Answer) × (next_answer m worked_off (Ask next (Collect mode)) ≡ Ok (Told a)) × Right mode operand a.word a.marks

-- It goes so whatever the bank is made of.
abbrev pub GoesWellEverywhere : Type 0
GoesWellEverywhere = (m : Make) → Lawful m → GoesWell m
