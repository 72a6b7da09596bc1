-- Faults of records and streams by their numbers, and in words.
use Rattle.std.specs.Prelude.{ℕ, List, codes}
use Rattle.seven_bit.specs.Numbers.{fault_number, fault_words}
use Rattle.single.specs.Modes as modes
use Rattle.protocol.specs.Refusals as refusals
use Rattle.records.specs.declared.fault.Fault.{Fault}
use Rattle.records.specs.declared.fault.Fault.TheVariants.{Mode, Bank, NoSuchRecord, Number, NoRoom, TooLong}

-- the number by which each fault is told to callers; what is refused below keeps its number
abbrev pub number : Fault → ℕ
number (Mode r) = modes.number r
number (Bank r) = refusals.number r
number NoSuchRecord = 14
number (Number e) = fault_number e
number NoRoom = 17
number TooLong = 18

-- what each fault says in words
abbrev pub words : Fault → List ℕ
words (Mode r) = codes "the mode is above 3"
words (Bank r) = codes "the bank refuses the call"
words NoSuchRecord = codes "the record's first byte is above 9"
words (Number e) = fault_words e
words NoRoom = codes "under 8 bytes of output are free"
words TooLong = codes "the input has more than 32,768 bytes"
