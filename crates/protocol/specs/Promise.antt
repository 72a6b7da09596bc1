-- What any two holders of one operand share, whatever their banks are made of and whoever else calls.
use Rattle.std.specs.Prelude.{◌≡◌, ℕ, ◌-◌, ◌≤◌, min, Bool, true, false, cond, ◌≢◌, List, [], ◌∷◌, ◌++◌, map, Ok, Result}
use Rattle.arithmetic.specs.Estimates.{shortfall}
use Rattle.selection.specs.Operands.{Contained}
use Rattle.recurrence.specs.Stages.{Digits}
use Rattle.single.specs.declared.mode.Mode.{Mode}
use Rattle.single.specs.declared.answer.Answer.{Answer}
use Rattle.protocol.specs.declared.refusal.Refusal.{Refusal}
use Rattle.protocol.specs.declared.call.Name.{Name}
use Rattle.protocol.specs.declared.call.Request.{Request}
use Rattle.protocol.specs.declared.call.Request.TheVariants.{Step, Look, Collect}
use Rattle.protocol.specs.declared.call.Call.{Call}
use Rattle.protocol.specs.declared.call.Call.TheVariants.{Tick, Take, Ask}
use Rattle.protocol.specs.declared.call.Reply.{Reply}
use Rattle.protocol.specs.declared.call.Reply.TheVariants.{Stepped, Shown, Told}
use Rattle.protocol.specs.Operands.{Make, Lawful, Operand, width, places, number, settled, digits, partial_result, Right}
use Rattle.protocol.specs.History.{same, accepted, Event, History, begins, Taken, InForce, Loaded}
use Rattle.protocol.specs.Bank.{Bank, new, answer, after}

-- ---- what happened to a bank

-- A list of calls, the newest first, each upon the result of the one before, is all that ever happened to a bank of the make m.
-- This is how it leaves the bank,
abbrev pub bank_after : Make → List Call → Bank
bank_after m [] = new
bank_after m (c ∷ cs) = after m (bank_after m cs) c

-- and these are the calls with their answers.
abbrev pub history : Make → List Call → History
history m [] = []
history m (c ∷ cs) = record { call = c; reply = answer m (bank_after m cs) c } ∷ history m cs

-- what one more call is answered
abbrev pub next_answer : Make → List Call → Call → Result Reply Refusal
next_answer m cs c = answer m (bank_after m cs) c

-- ---- what a hold's own calls are

-- the calls with the hold h
abbrev pub names : Name → Call → Bool
names h (Tick t) = false
names h (Take lane ticks) = false
names h (Ask g r) = same g h

-- the ticks, the take that gave the hold h, and the calls with it
abbrev pub concerns : Name → Call → Result Reply Refusal → Bool
concerns h (Tick t) a = true
concerns h (Take lane ticks) a = begins h (Take lane ticks) a
concerns h (Ask g r) a = names h (Ask g r)

-- the part of a history that is calls with the hold h, and the part that concerns it
abbrev pub told_to : Name → History → History
told_to h [] = []
told_to h (e ∷ es) = cond (names h e.call) (e ∷ told_to h es) (told_to h es)

abbrev pub own : Name → History → History
own h [] = []
own h (e ∷ es) = cond (concerns h e.call e.reply) (e ∷ own h es) (own h es)

abbrev pub calls : History → List Call
calls es = map (λ (e : Event). e.call) es

abbrev pub answers : History → List (Result Reply Refusal)
answers es = map (λ (e : Event). e.reply) es

-- ---- refusals

-- A refused call leaves a bank as it was, whatever its state.
abbrev pub RefusalsLeave : Type 0
RefusalsLeave = (m : Make) (b : Bank) (c : Call) → accepted (answer m b c) ≡ false → after m b c ≡ b

-- ---- the promise

-- What the hold h, which loaded the operand o and asked for n digits since, is told after the calls cs.
pub record Holder (m : Make) (cs : List Call) (h : Name) (o : Operand) (n : ℕ) : Type 0 where
  -- After each digit made so far the partial result meets the bound for the operand that this holder loaded,
  pub contained : settled o ≡ false → (j : ℕ) → j ≤ min (digits m o) n →
      Contained m.selector.bits m.selector.largest (width o) (places o) (number o) j (partial_result m o j)
  -- and is the start with j digits, each of them the selector's for estimates of its own residual and product.
  pub digit_by_digit : settled o ≡ false → (j : ℕ) → j ≤ min (digits m o) n →
      Digits shortfall m.selector m.form (width o) (places o) (number o) j (partial_result m o j)
  -- In force it is shown by look the digits made and that partial result,
  pub looks : (deadline : ℕ) → InForce h deadline (history m cs) →
      next_answer m cs (Ask h Look) ≡ Ok (Shown (min (digits m o) n) (partial_result m o (min (digits m o) n)))
  -- it is given as many digits as it asks for, or all that are left,
  pub steps : (k deadline : ℕ) → InForce h deadline (history m cs) → next_answer m cs (Ask h (Step k)) ≡ Ok (Stepped (min k (digits m o - n)))
  -- and with all digits made it may collect, and is told what is right.
  pub collects : (mode : Mode) (deadline : ℕ) → InForce h deadline (history m cs) → digits m o ≤ n →
      (a : Answer) × (next_answer m cs (Ask h (Collect mode)) ≡ Ok (Told a)) × Right mode o a.word a.marks

-- a hold that may collect: in force and loaded, and its own steps made all digits
pub record MayCollect (m : Make) (cs : List Call) (h : Name) : Type 0 where
  pub deadline : ℕ
  pub in_force : InForce h deadline (history m cs)
  pub operand : Operand
  pub asked : ℕ
  pub loaded : Loaded h operand asked (history m cs)
  pub all_made : digits m operand ≤ asked

-- Each of two holders has what `each`, `only_then`, `undisturbed` and `separate` say of any; `alike` is what joins them.
pub record HoldersShare : Type 0 where
  pub each : (m : Make) → Lawful m → (cs : List Call) (h : Name) (o : Operand) (n : ℕ) → Loaded h o n (history m cs) → Holder m cs h o n
  -- No other hold may collect.
  pub only_then : (m : Make) → Lawful m → (cs : List Call) (h : Name) (mode : Mode) (a : Answer) →
      next_answer m cs (Ask h (Collect mode)) ≡ Ok (Told a) → MayCollect m cs h
  -- Two holders of one operand, in banks of any makes, are told the same.
  pub alike : (m₁ m₂ : Make) → Lawful m₁ → Lawful m₂ → (cs₁ cs₂ : List Call) (h₁ h₂ : Name) (o : Operand) (n₁ n₂ : ℕ) →
      Loaded h₁ o n₁ (history m₁ cs₁) → Loaded h₂ o n₂ (history m₂ cs₂) → (mode : Mode) (a₁ a₂ : Answer) →
      next_answer m₁ cs₁ (Ask h₁ (Collect mode)) ≡ Ok (Told a₁) → next_answer m₂ cs₂ (Ask h₂ (Collect mode)) ≡ Ok (Told a₂) → a₁ ≡ a₂
  -- Once a take has handed out the hold h, a call with another hold g changes nothing that calls with h are told, then or later.
  pub undisturbed : (m : Make) (past later : List Call) (g h : Name) (r : Request) → Taken h (history m past) → g ≢ h →
      answers (told_to h (history m (later ++ (Ask g r ∷ past)))) ≡ answers (told_to h (history m (later ++ past)))
  -- Lists alike in the ticks, in the take that gave the hold h and in the calls with it get the same answers to these.
  pub separate : (m : Make) (cs₁ cs₂ : List Call) (h : Name) →
      calls (own h (history m cs₁)) ≡ calls (own h (history m cs₂)) → answers (own h (history m cs₁)) ≡ answers (own h (history m cs₂))
