-- Records: the one at the front of some bytes, and the bytes after it.
use Rattle.std.specs.Prelude.{◌≡◌, ℕ, cond, List, [], ◌∷◌, length, take, drop, Ok, Err, Result, ◌==◌, nat_lt}
use Rattle.seven_bit.specs.declared.fault.NumberFault.TheVariants.{Malformed, Cut as NumberCut}
use Rattle.seven_bit.specs.Numbers.{Read, number_at}
use Rattle.protocol.specs.declared.call.Name.{Name}
use Rattle.protocol.specs.declared.call.Request.TheVariants.{Load, Load32, Step, Look, Give}
use Rattle.protocol.specs.declared.call.Call.{Call}
use Rattle.protocol.specs.declared.call.Call.TheVariants.{Tick, Take, Ask}
use Rattle.records.specs.declared.defect.Defect.{Defect}
use Rattle.records.specs.declared.defect.Defect.TheVariants.{Unknown, Wrong, Cut}
use Rattle.records.specs.declared.kind.Kind.{Kind}
use Rattle.records.specs.declared.kind.Kind.TheVariants as kind_is
use Rattle.records.specs.declared.record.Record.{Record}
use Rattle.records.specs.declared.record.Record.TheVariants as record_of

-- What a record says, apart from where its label lies: a note with its label, a call of a bank, a collect by the number of its mode, or a question
-- for the marks raised.
pub data Item : Type 0 where
  note : List ℕ → Item
  call : Call → Item
  collect : Name → ℕ → Item
  marks : Item

abbrev pub item : Record → Item
item (record_of.Note label) = note label.now
item (record_of.Call c) = call c
item (record_of.Collect h mode) = collect h mode
item record_of.Marks = marks

-- how long a note's label is
abbrev pub label_length : Item → ℕ
label_length (note l) = length l
label_length (call c) = 0
label_length (collect h mode) = 0
label_length marks = 0

-- ---- reading

-- a thing at the front of some bytes with the bytes after it, or what is wrong with the bytes
abbrev pub Front : Type 0 → Type 0
Front A = Result (A × List ℕ) Defect

-- a way to read a thing at the front of some bytes
abbrev pub Reading : Type 0 → Type 0
Reading A = List ℕ → Front A

-- what comes after a thing that is read
abbrev pub then : {A B : Type 0} → Front A → (A → Reading B) → Front B
then (Ok p) f = f p.0 p.1
then (Err e) f = Err e

infixl 10 ◌>>=◌
-- one thing is read, and then another, which may depend on it
abbrev pub ◌>>=◌ : {A B : Type 0} → Reading A → (A → Reading B) → Reading B
(r >>= f) xs = then (r xs) f

-- nothing more is read
abbrev pub nothing_more : {A : Type 0} → A → Reading A
nothing_more a xs = Ok (a, xs)

-- A call of the code reads what stands at the front of the bytes before, and leaves the bytes after; stands_for gives the definition's thing for the code's.
abbrev pub Gives : {A B : Type 0} → Reading B → (A → B) → List ℕ → List ℕ → Result A Defect → Type 0
Gives reading stands_for before after (Ok a) = reading before ≡ Ok (stands_for a, after)
Gives reading stands_for before after (Err e) = reading before ≡ Err e

-- ---- numbers and names

-- a malformed number is told by how many bytes there are from its first one on
abbrev pub in_record : ℕ → Read → Front ℕ
in_record n (Ok p) = Ok p
in_record n (Err Malformed) = Err (Wrong n)
in_record n (Err NumberCut) = Err Cut

abbrev pub numbered : Reading ℕ
numbered xs = in_record (length xs) (number_at xs)

abbrev pub named : Reading Name
named = do
  lane ← numbered
  serial ← numbered
  nothing_more (record { lane = lane; serial = serial })

-- a label has a length, and then that many bytes
abbrev pub so_many : ℕ → Reading (List ℕ)
so_many n xs = cond (nat_lt (length xs) n) (Err Cut) (Ok (take n xs, drop n xs))

abbrev pub labelled : Reading (List ℕ)
labelled = numbered >>= so_many

-- ---- records

-- the kind of a record by its first byte
abbrev pub kind_of : ℕ → Result Kind Defect
kind_of b =
    cond (b == 0) (Ok kind_is.Note)
    (cond (b == 1) (Ok kind_is.Tick)
    (cond (b == 2) (Ok kind_is.Take)
    (cond (b == 3) (Ok kind_is.Load)
    (cond (b == 4) (Ok kind_is.Load32)
    (cond (b == 5) (Ok kind_is.Step)
    (cond (b == 6) (Ok kind_is.Look)
    (cond (b == 7) (Ok kind_is.Collect)
    (cond (b == 8) (Ok kind_is.Give)
    (cond (b == 9) (Ok kind_is.Marks) (Err Unknown))))))))))

abbrev pub kind_then : Result Kind Defect → Reading Kind
kind_then (Ok k) xs = Ok (k, xs)
kind_then (Err e) xs = Err e

abbrev pub kind_at : Reading Kind
kind_at [] = Err Cut
kind_at (b ∷ xs) = kind_then (kind_of b) xs

-- what follows the first byte
abbrev pub body_at : Kind → Reading Item
body_at kind_is.Note = do
  label ← labelled
  nothing_more (note label)
body_at kind_is.Tick = do
  time ← numbered
  nothing_more (call (Tick time))
body_at kind_is.Take = do
  lane ← numbered
  ticks ← numbered
  nothing_more (call (Take lane ticks))
body_at kind_is.Load = do
  h ← named
  K ← numbered
  Q ← numbered
  x ← numbered
  nothing_more (call (Ask h (Load K Q x)))
body_at kind_is.Load32 = do
  h ← named
  v ← numbered
  nothing_more (call (Ask h (Load32 v)))
body_at kind_is.Step = do
  h ← named
  n ← numbered
  nothing_more (call (Ask h (Step n)))
body_at kind_is.Look = do
  h ← named
  nothing_more (call (Ask h Look))
body_at kind_is.Collect = do
  h ← named
  mode ← numbered
  nothing_more (collect h mode)
body_at kind_is.Give = do
  h ← named
  nothing_more (call (Ask h Give))
body_at kind_is.Marks = nothing_more marks

abbrev pub Got : Type 0
Got = Front Item

-- the record at the front of the bytes, with its first byte
abbrev pub record_at : Reading Item
record_at = kind_at >>= body_at
