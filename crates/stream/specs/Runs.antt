-- A run: what every input gives.
use Rattle.std.specs.Prelude.{◌≡◌, ℕ, zero, suc, ◌-◌, ◌<◌, ◌≤◌, cond, List, [], ◌∷◌, length, drop, Some, None, Ok, Err, Option, Result, nat_le, nat_lt}
use Rattle.control.specs.declared.control.Control.{Control}
use Rattle.protocol.specs.Operands.{Make}
use Rattle.protocol.specs.Bank.{Bank}
use Rattle.protocol.specs.Plays.{StandsInHistory}
use Rattle.records.specs.declared.fault.Fault.{Fault}
use Rattle.records.specs.declared.fault.Fault.TheVariants.{NoRoom, TooLong}
use Rattle.records.specs.declared.fault.Placed.{Placed}
use Rattle.records.specs.Records.{Got, record_at}
use Rattle.records.specs.Reading.{placed}
use Rattle.std.specs.declared.ops.ControlFlow.{ControlFlow}
use Rattle.std.specs.declared.ops.ControlFlow.TheVariants.{Continue, Break}
use Rattle.stream.specs.declared.run.Report.{Report}
use Rattle.stream.specs.Answers.{bytes, Writes}
use Rattle.stream.specs.Entries.{Entry, numbers, written, bank_then, control_then, entry, plays}
use Rattle.stream.specs.Entries.Entry.{faulty}

-- ---- one record

-- It goes on from a next place, or ends; at the end of the input with nothing left, and else by a fault, which is written unless there is no room for it.
pub data Next : Type 0 where
  goes_on : Entry → ℕ → Next
  ends : List Entry → Option Placed → Next

abbrev pub read_next : Make → List ℕ → ℕ → Bank → Control → Got → Next
read_next m input p b c (Ok g) = goes_on (entry m b c p g.0) (length input - length g.1)
read_next m input p b c (Err bad) = ends (faulty (placed (length input) p bad).fault (placed (length input) p bad).place ∷ []) (Some (placed (length input) p bad))

-- at the place p, with so many bytes free: the room is checked first
abbrev pub next_turn : Make → List ℕ → ℕ → ℕ → Bank → Control → Next
next_turn m input p free b c =
    cond (nat_le (length input) p) (ends [] None)
    (cond (nat_lt free 8) (ends [] (Some (record { fault = NoRoom; place = p }))) (read_next m input p b c (record_at (drop p input))))

-- what one turn of the code comes to
pub record RunGoesOn (m : Make) (input : List ℕ) (p q at : ℕ) (out : List ℕ) (next : ℕ) (out' : List ℕ) (b b' : Bank) (c c' : Control) : Type 0 where
  pub done : Entry
  pub is : next_turn m input p (length out - at) b c ≡ goes_on done q
  pub writes : Writes at out next out' (bytes (numbers done))
  pub bank_is : b' ≡ bank_then m b done
  pub control_is : c' ≡ control_then c done
  pub ahead : p < q

pub record Ended (m : Make) (input : List ℕ) (p at : ℕ) (out : List ℕ) (next : ℕ) (out' : List ℕ) (b b' : Bank) (c c' : Control) (stop : Option Placed) : Type 0 where
  pub last : List Entry
  pub is : next_turn m input p (length out - at) b c ≡ ends last stop
  pub writes : Writes at out next out' (written last)
  pub bank_is : b' ≡ b
  pub control_is : c' ≡ c

abbrev pub Turned : Make → List ℕ → ℕ → ℕ → ℕ → List ℕ → ℕ → List ℕ → Bank → Bank → Control → Control → ControlFlow (Option Placed) (Unit {0}) → Type 0
Turned m input p q at out next out' b b' c c' (Continue u) = RunGoesOn m input p q at out next out' b b' c c'
Turned m input p q at out next out' b b' c c' (Break stop) = Ended m input p at out next out' b b' c c' stop

-- ---- all records

-- the entries of a run, bank and control after it, and the fault that ended it, with its place
pub record Course : Type 0 where
  pub entries : List Entry
  pub bank : Bank
  pub control : Control
  pub stop : Option Placed

abbrev pub before : Entry → Course → Course
before e r = record { entries = e ∷ r.entries; bank = r.bank; control = r.control; stop = r.stop }

abbrev pub onward : Make → ℕ → Bank → Control → Next → (ℕ → ℕ → Bank → Control → Course) → Course
onward m free b c (goes_on e q) rest = before e (rest q (free - length (bytes (numbers e))) (bank_then m b e) (control_then c e))
onward m free b c (ends es stop) rest = record { entries = es; bank = b; control = c; stop = stop }

-- from the place p on, with so many bytes free, at most k records
abbrev pub course : Make → List ℕ → ℕ → ℕ → ℕ → Bank → Control → Course
course m input zero p free b c = record { entries = []; bank = b; control = c; stop = None }
course m input (suc k) p free b c = onward m free b c (next_turn m input p free b c) (course m input k)

-- a record has at least one byte, so there are no more records than bytes
abbrev pub whole : Make → List ℕ → ℕ → Bank → Control → Course
whole m input free b c = course m input (suc (length input)) 0 free b c

-- ---- the run

-- the input may have so many bytes
abbrev pub longest : ℕ
longest = 32768

-- The bytes written, bank, control and how it ended are those of the course; the buffer goes on as it was. What the bank was called stands in its history.
pub record Ran (m : Make) (input out out' : List ℕ) (b b' : Bank) (c c' : Control) (r : Report) : Type 0 where
  pub writes : Writes 0 out r.written out' (written (whole m input (length out) b c).entries)
  pub fits : r.written ≤ length out'
  pub bank_is : b' ≡ (whole m input (length out) b c).bank
  pub control_is : c' ≡ (whole m input (length out) b c).control
  pub stop_is : r.stop ≡ (whole m input (length out) b c).stop
  pub history : StandsInHistory m b (plays (whole m input (length out) b c).entries) (plays (whole m input (length out) b c).entries) b'

pub record LeftAlone (input out out' : List ℕ) (b b' : Bank) (c c' : Control) (f : Fault) : Type 0 where
  pub fault : f ≡ TooLong
  pub too_long : longest < length input
  pub out_is : out' ≡ out
  pub bank_is : b' ≡ b
  pub control_is : c' ≡ c

abbrev pub Runs : Make → List ℕ → List ℕ → List ℕ → Bank → Bank → Control → Control → Result Report Fault → Type 0
Runs m input out out' b b' c c' (Ok r) = Ran m input out out' b b' c c' r
Runs m input out out' b b' c c' (Err f) = LeftAlone input out out' b b' c c' f
