-- What comes of each record: its answer, and what becomes of bank and control.
use Rattle.std.specs.Prelude.{ℕ, List, [], ◌∷◌, ◌++◌, length, Some, Ok, Err, Result}
use Rattle.single.specs.declared.mode.Mode.{Mode}
use Rattle.single.specs.declared.mode.ModeRefusal.{ModeRefusal}
use Rattle.single.specs.declared.marks.Marks.{Marks}
use Rattle.single.specs.Modes.{mode_of}
use Rattle.single.specs.MarkSets as mark_sets
use Rattle.control.specs.declared.control.Control.{Control}
use Rattle.control.specs.Controls.{raised}
use Rattle.protocol.specs.declared.call.Name.{Name}
use Rattle.protocol.specs.declared.call.Request.{Request}
use Rattle.protocol.specs.declared.call.Request.TheVariants.{Load, Load32, Step, Look, Collect, Give}
use Rattle.protocol.specs.declared.call.Call.{Call}
use Rattle.protocol.specs.declared.call.Call.TheVariants.{Tick, Take, Ask}
use Rattle.protocol.specs.declared.call.Reply.{Reply}
use Rattle.protocol.specs.declared.call.Reply.TheVariants.{Done, Took, Stepped, Shown, Told}
use Rattle.protocol.specs.declared.call.Play.{Play}
use Rattle.protocol.specs.declared.refusal.Refusal.{Refusal}
use Rattle.protocol.specs.Operands.{Make}
use Rattle.protocol.specs.Bank.{Bank, answer, after}
use Rattle.records.specs.declared.fault.Fault.{Fault}
use Rattle.records.specs.declared.fault.Fault.TheVariants.{Mode as BadMode, Bank as ByBank}
use Rattle.records.specs.Faults as faults
use Rattle.records.specs.Records.{Item}
use Rattle.records.specs.Records.Item.{note, call, collect, marks}
use Rattle.stream.specs.Answers.{bytes}

-- A note with its label's length; the marks raised so far; a fault that is not of the bank, with the place told; or a call of the bank at a place, with the
-- bank's reply.
pub data Entry : Type 0 where
  noted : ℕ → Entry
  marked : Marks → Entry
  faulty : Fault → ℕ → Entry
  called : ℕ → Call → Result Reply Refusal → Entry

-- ---- answers

-- 0 and its values, or the refusal's number and the record's place
abbrev pub shown : Reply → List ℕ
shown Done = 0 ∷ []
shown (Took serial) = 0 ∷ serial ∷ []
shown (Stepped n) = 0 ∷ n ∷ []
shown (Shown n s) = 0 ∷ n ∷ s ∷ []
shown (Told a) = 0 ∷ a.word ∷ mark_sets.number a.marks ∷ []

abbrev pub refused : Fault → ℕ → List ℕ
refused f place = faults.number f ∷ place ∷ []

abbrev pub reply_numbers : ℕ → Result Reply Refusal → List ℕ
reply_numbers place (Ok a) = shown a
reply_numbers place (Err r) = refused (ByBank r) place

abbrev pub numbers : Entry → List ℕ
numbers (noted n) = 0 ∷ n ∷ []
numbers (marked k) = 0 ∷ mark_sets.number k ∷ []
numbers (faulty f place) = refused f place
numbers (called place c r) = reply_numbers place r

-- the bytes of the answers, one after the other
abbrev pub written : List Entry → List ℕ
written [] = []
written (e ∷ es) = bytes (numbers e) ++ written es

-- ---- bank and control

-- only a call changes the bank
abbrev pub bank_then : Make → Bank → Entry → Bank
bank_then m b (noted n) = b
bank_then m b (marked k) = b
bank_then m b (faulty f place) = b
bank_then m b (called place c r) = after m b c

-- a result that is told adds its marks to the control
abbrev pub heard : Control → Result Reply Refusal → Control
heard c (Err r) = c
heard c (Ok Done) = c
heard c (Ok (Took serial)) = c
heard c (Ok (Stepped n)) = c
heard c (Ok (Shown n s)) = c
heard c (Ok (Told a)) = raised c a.marks

-- only a collect changes the control
abbrev pub hears_request : Request → Control → Result Reply Refusal → Control
hears_request (Load K Q x) c r = c
hears_request (Load32 v) c r = c
hears_request (Step n) c r = c
hears_request Look c r = c
hears_request (Collect mode) c r = heard c r
hears_request Give c r = c

abbrev pub hears : Call → Control → Result Reply Refusal → Control
hears (Tick t) c r = c
hears (Take lane ticks) c r = c
hears (Ask h q) c r = hears_request q c r

abbrev pub control_then : Control → Entry → Control
control_then c (noted n) = c
control_then c (marked k) = c
control_then c (faulty f place) = c
control_then c (called place k r) = hears k c r

-- the numbers of a result: those of what it has, or those of its fault with a place
abbrev pub stated : {A : Type 0} → (A → List ℕ) → ℕ → Result A Fault → List ℕ
stated of place (Ok a) = of a
stated of place (Err f) = refused f place

-- ---- what comes of a record at a place

abbrev pub calling : Make → Bank → ℕ → Call → Entry
calling m b place c = called place c (answer m b c)

-- the mode is checked before the bank's own checks
abbrev pub collecting : Make → Bank → ℕ → Name → Result Mode ModeRefusal → Entry
collecting m b place h (Ok mode) = calling m b place (Ask h (Collect mode))
collecting m b place h (Err r) = faulty (BadMode r) place

abbrev pub entry : Make → Bank → Control → ℕ → Item → Entry
entry m b c place (note label) = noted (length label)
entry m b c place (call k) = calling m b place k
entry m b c place (collect h mode) = collecting m b place h (mode_of mode)
entry m b c place marks = marked c.marks

-- ---- the bank's part

-- the calls among the entries, with their answers
abbrev pub plays : List Entry → List Play
plays [] = []
plays (noted n ∷ es) = plays es
plays (marked k ∷ es) = plays es
plays (faulty f place ∷ es) = plays es
plays (called place c r ∷ es) = record { call = c; reply = Some r } ∷ plays es
