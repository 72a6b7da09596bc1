-- How a run ends at a record.
use Rattle.std.proofs.Common.{◌≡◌, ℕ, ◌-◌, ◌<◌, false, ltb, leb, List, [], ◌∷◌, length, drop, Some, Err, sym, refl, ap, ◌∙◌, arith, length-drop}
use Rattle.control.specs.declared.control.Control.{Control}
use Rattle.protocol.specs.Operands.{Make}
use Rattle.protocol.specs.Bank.{Bank}
use Rattle.records.specs.declared.defect.Defect.{Defect}
use Rattle.records.specs.declared.fault.Placed.{Placed}
use Rattle.records.specs.Faults.{number}
use Rattle.records.specs.Records.{record_at}
use Rattle.records.specs.Reading.{placed}
use Rattle.stream.specs.Answers.{bytes, Writes}
use Rattle.stream.specs.Entries.Entry.{faulty}
use Rattle.stream.specs.Runs.{read_next, Ended}
use Rattle.stream.specs.Runs.Next.{ends}
use Rattle.stream.proofs.Written.{wrote_last}

-- a record with a fault ends it, and the fault is written
pub by_fault : (m : Make) (input : List ℕ) (p at : ℕ) (out : List ℕ) (next : ℕ) (out' : List ℕ) (b : Bank) (c : Control) (bad : Defect) (f : Placed) → leb (length input) p ≡ false →
    ltb (length out - at) 8 ≡ false → record_at (drop p input) ≡ Err bad → f ≡ placed (length input) p bad → Writes at out next out' (bytes (number f.fault ∷ f.place ∷ [])) →
    Ended m input p at out next out' b b c c (Some f)
by_fault m input p at out next out' b c bad f more room e is w =
    record {
      last = faulty f.fault f.place ∷ [];
      is =
          rw (more, room)
          (ap (read_next m input p b c) e ∙ ap (λ (x : Placed). ends (faulty x.fault x.place ∷ []) (Some x)) (sym is));
      writes = wrote_last at out next out' _ w;
      bank_is = refl;
      control_is = refl;
    }

-- before the end of the bytes something is left of them
pub some_left : (input : List ℕ) (p : ℕ) → p < length input → drop p input ≡ [] → ⊥
some_left input p h e = omega (arith, ap length e, length-drop p input)
