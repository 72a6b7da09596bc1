-- What the calls with a hold tell and leave.
use Rattle.std.specs.Prelude.{◌≡◌, ℕ, Ok, Err, Result}
use Rattle.single.specs.declared.answer.Answer.{Answer}
use Rattle.protocol.specs.declared.refusal.Refusal.{Refusal}
use Rattle.protocol.specs.declared.call.Call.TheVariants.{Take, Ask}
use Rattle.protocol.specs.declared.call.Request.TheVariants.{Collect, Give}
use Rattle.protocol.specs.declared.call.Reply.TheVariants.{Done, Took, Told}
use Rattle.control.specs.declared.control.Control.{Control}
use Rattle.hold.specs.declared.hold.Hold.{Hold}
use Rattle.hold.specs.declared.hold.Rejected.{Rejected}
use Rattle.protocol.specs.Operands.{Make}
use Rattle.protocol.specs.Bank.{Bank, answer}
use Rattle.control.specs.Controls.{raised}

-- a take's hold has the lane that was asked for and the serial that was told
abbrev pub TakenBy : Make → Bank → ℕ → ℕ → Result Hold Refusal → Type 0
TakenBy m b lane ticks (Ok h) = (answer m b (Take lane ticks) ≡ Ok (Took h.numbers.serial)) × (h.numbers.lane ≡ lane)
TakenBy m b lane ticks (Err r) = answer m b (Take lane ticks) ≡ Err r

-- a give refused hands the hold back
abbrev pub GivenBy : Make → Bank → Hold → Result (Unit {0}) Rejected → Type 0
GivenBy m b h (Ok u) = answer m b (Ask h.numbers Give) ≡ Ok Done
GivenBy m b h (Err e) = (answer m b (Ask h.numbers Give) ≡ Err e.refusal) × (e.hold ≡ h)

-- a collect is told in the control's mode and adds its marks; refused it hands the hold back, and leaves the control
abbrev pub CollectedBy : Make → Bank → Hold → Control → Control → Result Answer Rejected → Type 0
CollectedBy m b h c c' (Ok a) = (answer m b (Ask h.numbers (Collect c.mode)) ≡ Ok (Told a)) × (c' ≡ raised c a.marks)
CollectedBy m b h c c' (Err e) = (answer m b (Ask h.numbers (Collect c.mode)) ≡ Err e.refusal) × (e.hold ≡ h) × (c' ≡ c)
