-- The calls of a run, with their answers, stand in the history of its bank.
use Rattle.std.proofs.Common.{◌≡◌, ℕ, zero, suc, ◌-◌, Bool, true, false, cond, ltb, leb, List, [], ◌∷◌, length, drop, Some, Ok, Err, Result, sym, refl, ap, ◌∙◌, ap₂}
use Rattle.single.specs.declared.mode.Mode.{Mode}
use Rattle.single.specs.declared.mode.ModeRefusal.{ModeRefusal}
use Rattle.single.specs.Modes.{mode_of}
use Rattle.control.specs.declared.control.Control.{Control}
use Rattle.protocol.specs.declared.call.Reply.{Reply}
use Rattle.protocol.specs.declared.call.Play.{Play}
use Rattle.protocol.specs.declared.refusal.Refusal.{Refusal}
use Rattle.protocol.specs.Operands.{Make}
use Rattle.protocol.specs.Bank.{Bank, answer}
use Rattle.protocol.specs.Plays.{played, replied, StandsInHistory}
use Rattle.protocol.proofs.Playing.{stands_in_history}
use Rattle.records.specs.Records.{Item, Got, record_at}
use Rattle.records.specs.Records.Item.{note, call, collect, marks}
use Rattle.stream.specs.Answers.{bytes}
use Rattle.stream.specs.Entries.{Entry, numbers, bank_then, control_then, collecting, entry, plays}
use Rattle.stream.specs.Entries.Entry.{noted, marked, faulty, called}
use Rattle.stream.specs.Runs.{Next, read_next, next_turn, Course, before, onward, course, whole}
use Rattle.stream.specs.Runs.Next.{goes_on, ends}

-- the reply of an entry is the bank's
abbrev Honest : Make → Bank → Entry → Type 0
Honest m b (noted n) = Unit {0}
Honest m b (marked k) = Unit {0}
Honest m b (faulty f p) = Unit {0}
Honest m b (called p c r) = r ≡ answer m b c

honest : (m : Make) (b : Bank) (c : Control) (p : ℕ) (i : Item) → Honest m b (entry m b c p i)
honest m b c p (note l) = tt
honest m b c p (call k) = refl
honest m b c p (collect h n) = go (mode_of n)
  where
    go : (r : Result Mode ModeRefusal) → Honest m b (collecting m b p h r)
    go (Ok mode) = refl
    go (Err e) = tt
honest m b c p marks = tt

abbrev Fair : Make → Bank → Next → Type 0
Fair m b (goes_on e q) = Honest m b e
Fair m b (ends es stop) = plays es ≡ []

fair_by : (m : Make) (b : Bank) (x : Bool) (s t : Next) → Fair m b s → Fair m b t → Fair m b (cond x s t)
fair_by m b true s t f g = f
fair_by m b false s t f g = g

fair : (m : Make) (input : List ℕ) (p free : ℕ) (b : Bank) (c : Control) → Fair m b (next_turn m input p free b c)
fair m input p free b c =
    fair_by m b (leb (length input) p) _ _ refl (fair_by m b (ltb free 8) _ _ refl (go (record_at (drop p input))))
  where
    go : (r : Got) → Fair m b (read_next m input p b c r)
    go (Ok g) = honest m b c p g.0
    go (Err bad) = refl

pub record Consistent (m : Make) (b : Bank) (r : Course) : Type 0 where
  pub told : plays r.entries ≡ replied m b (plays r.entries)
  pub leaves : r.bank ≡ played m b (plays r.entries)

one_more : (m : Make) (b : Bank) (e : Entry) (r : Course) → Honest m b e → Consistent m (bank_then m b e) r → Consistent m b (before e r)
one_more m b (noted n) r h k = record { told = k.told; leaves = k.leaves }
one_more m b (marked x) r h k = record { told = k.told; leaves = k.leaves }
one_more m b (faulty f p) r h k = record { told = k.told; leaves = k.leaves }
one_more m b (called p c a) r h k =
    record {
      told = ap₂ (λ (x : Result Reply Refusal) (xs : List Play). record { call = c; reply = Some x } ∷ xs) h k.told;
      leaves = k.leaves;
    }

onward_consistent : (m : Make) (free : ℕ) (b : Bank) (c : Control) (n : Next) (rest : ℕ → ℕ → Bank → Control → Course) → Fair m b n →
    ((q f : ℕ) (b : Bank) (c : Control) → Consistent m b (rest q f b c)) → Consistent m b (onward m free b c n rest)
onward_consistent m free b c (goes_on e q) rest h ih =
    one_more m b e (rest q (free - length (bytes (numbers e))) (bank_then m b e) (control_then c e)) h (ih q (free - length (bytes (numbers e))) (bank_then m b e) (control_then c e))
onward_consistent m free b c (ends es stop) rest h ih =
    record { told = h ∙ ap (replied m b) (sym h); leaves = ap (played m b) (sym h) }

consistent : (m : Make) (input : List ℕ) (k p free : ℕ) (b : Bank) (c : Control) → Consistent m b (course m input k p free b c)
consistent m input zero p free b c = record { told = refl; leaves = refl }
consistent m input (suc k) p free b c =
    onward_consistent m free b c (next_turn m input p free b c) (course m input k) (fair m input p free b c) (λ q f b c. consistent m input k q f b c)

pub in_history : (m : Make) (input : List ℕ) (free : ℕ) (b b' : Bank) (c : Control) → b' ≡ (whole m input free b c).bank →
    StandsInHistory m b (plays (whole m input free b c).entries) (plays (whole m input free b c).entries) b'
in_history m input free b b' c e =
    let k = consistent m input (suc (length input)) 0 free b c in
    stands_in_history m b (plays (whole m input free b c).entries) (plays (whole m input free b c).entries) b' k.told (e ∙ k.leaves)
