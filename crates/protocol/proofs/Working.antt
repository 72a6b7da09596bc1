-- Where a lane's job is after j digits of the operand that was loaded, and what it tells there.
use Rattle.std.proofs.Common.{◌≡◌, ℕ, zero, suc, ◌+◌, ◌-◌, ◌%◌, ◌^◌, ◌<◌, ◌≤◌, Bool, true, false, cond, not, ◌||◌, eqb, ltb, leb, ℤ, pos, Some, None, sym, refl, ap, ◌∙◌, subst, true≢false, arith}
use Rattle.std.proofs.lemmas.Bool.Decides.{nat_tests}
use Rattle.arithmetic.specs.Estimates.{shortfall}
use Rattle.selection.specs.declared.refusal.Refusal.TheVariants.{Width, Places, Range}
use Rattle.selection.specs.Operands.{Sized, InRange, refusal}
use Rattle.selection.specs.Selectors as selectors
use Rattle.recurrence.specs.Recurrence.{State, worked}
use Rattle.recurrence.specs.Recurrence as recurrence
use Rattle.recurrence.specs.Stages.{Kept}
use Rattle.recurrence.proofs.Finishing.{worked_root, worked_exactness, kept_above}
use Rattle.single.specs.declared.mode.Mode.{Mode}
use Rattle.single.specs.declared.answer.Answer.{Answer}
use Rattle.single.specs.declared.special.Special.TheVariants.{NotANumber, Zero, PlusInfinity, Negative}
use Rattle.single.specs.Words.{exponent, fraction, infinity, is_nan, is_negative, reads_as_zero}
use Rattle.single.specs.Readings.{Reading, reading, reach, special_answer}
use Rattle.single.specs.Readings as readings
use Rattle.single.specs.Readings.Reading.{special, positive}
use Rattle.single.proofs.Correct.{told_right, sized}
use Rattle.single.proofs.Rounding.{number_low, number_high}
use Rattle.arithmetic.proofs.Cases.{clash}
use Rattle.protocol.specs.Operands.{Make, Lawful, Operand, width, places, number, settled as settled_operand, digits, partial_result, number_read, settled_read, settled_partial_read, Right}
use Rattle.protocol.specs.Operands.Operand.{fixed as fixed_operand, single as single_operand}
use Rattle.protocol.specs.Operands.Right.{root, rounded}
use Rattle.protocol.specs.Jobs.{Job, begun, begun_read, turned, turns, made, left, partial, told}
use Rattle.protocol.specs.Jobs.Job.{settled, fixed, single}
use Rattle.protocol.proofs.Course.{states, OnCourse, on_course}

-- ---- turns of a lane's job are turns of the recurrence

turns_settled : (m : Make) (n : ℕ) (a : Answer) → turns m n (settled a) ≡ settled a
turns_settled m zero a = refl
turns_settled m (suc n) a = ap (turned m) (turns_settled m n a)

turns_fixed : (m : Make) (n : ℕ) (c : State) → turns m n (fixed c) ≡ fixed (states m.selector m.form n c)
turns_fixed m zero c = refl
turns_fixed m (suc n) c = ap (turned m) (turns_fixed m n c)

turns_single : (m : Make) (n : ℕ) (E : ℤ) (c : State) → turns m n (single E c) ≡ single E (states m.selector m.form n c)
turns_single m zero E c = refl
turns_single m (suc n) E c = ap (turned m) (turns_single m n E c)

pub turns_add : (m : Make) (k n : ℕ) (job : Job) → turns m k (turns m n job) ≡ turns m (k + n) job
turns_add m zero n job = ap (λ i. turns m i job) (sym (none n))
  where
    none : (n : ℕ) → 0 + n ≡ n
    none n = omega arith
turns_add m (suc k) n job = ap (turned m) (turns_add m k n job) ∙ ap (λ i. turns m i job) (one k n)
  where
    one : (k n : ℕ) → suc (k + n) ≡ suc k + n
    one k n = omega arith

-- ---- operands that a load accepts

pub data Admitted : Operand → Type 0 where
  checked : {K Q x : ℕ} → Sized K Q → InRange K x → Admitted (fixed_operand K Q x)
  any : {v : ℕ} → Admitted (single_operand v)

accepts : (K Q x : ℕ) (a b c : Bool) → (ltb K 4 || ltb 28 K) ≡ a → (ltb Q 2 || ltb 28 Q || not (eqb (Q % 2) 0)) ≡ b → (ltb x (2 ^ (K - 2)) || leb (2 ^ K) x) ≡ c →
    cond a (Some Width) (cond b (Some Places) (cond c (Some Range) None)) ≡ None → Admitted (fixed_operand K Q x)
accepts K Q x true b c p q r e = clash (cc)
accepts K Q x false true c p q r e = clash (cc)
accepts K Q x false false true p q r e = clash (cc)
accepts K Q x false false false p q r e =
    let even : Q % 2 ≡ 0 = grind (arith, nat_tests) in
    checked
    (record { width = (grind (arith, nat_tests), grind (arith, nat_tests)); places = (grind (arith, nat_tests), grind (arith, nat_tests)); even = even })
    (record { quarter = grind (arith, nat_tests); below_one = grind (arith, nat_tests) })

pub admits : (K Q x : ℕ) → refusal K Q x ≡ None → Admitted (fixed_operand K Q x)
admits K Q x e = accepts K Q x (ltb K 4 || ltb 28 K) (ltb Q 2 || ltb 28 Q || not (eqb (Q % 2) 0)) (ltb x (2 ^ (K - 2)) || leb (2 ^ K) x) refl refl refl e

-- ---- where the job is

pub record Goes (m : Make) (o : Operand) (j : ℕ) (job : Job) : Type 0 where
  pub made_is : made m job ≡ j
  pub left_is : left m job ≡ digits m o - j
  pub partial_is : partial job ≡ partial_result m o j
  pub early : j < digits m o → (mode : Mode) → told m mode job ≡ None
  pub at_end : j ≡ digits m o → (mode : Mode) → (a : Answer) × (told m mode job ≡ Some a) × Right mode o a.word a.marks

fixed_goes : (m : Make) → Lawful m → (K Q x j : ℕ) → Sized K Q → InRange K x → j ≤ digits m (fixed_operand K Q x) → Goes m (fixed_operand K Q x) j (turns m j (begun m (fixed_operand K Q x)))
fixed_goes m L K Q x j sized range h =
    subst (Goes m (fixed_operand K Q x) j) (sym (turns_fixed m j (recurrence.begun m.selector m.form K Q x)))
    (record {
      made_is = c.made_is;
      left_is = c.left_is;
      partial_is = c.partial_is;
      early = λ l mode. rw (c.early l);
      at_end = λ p mode. (_, rw (c.at_end p), root (worked_root m.selector m.form L.selector L.form K Q x sized range) (worked_exactness m.selector m.form L.selector L.form K Q x sized range));
    })
  where
    c : OnCourse m.selector m.form K Q x j (states m.selector m.form j (recurrence.begun m.selector m.form K Q x))
    c = on_course m.selector m.form L.selector L.form K Q x sized range j h

-- ---- singles

-- the number of a positive single is in range
Ranged : Reading → Type 0
Ranged (special s) = Unit {0}
Ranged (positive n E) = InRange 25 (readings.number n E)

ranged : (v : ℕ) → Ranged (reading v)
unfolding Ranged
ranged v = pick (is_nan v) (reads_as_zero v) (eqb v infinity) (is_negative v)
  where
    pick : (n z i p : Bool) →
        Ranged (cond n (special (NotANumber (leb (2 ^ 22) (fraction v))))
        (cond z (special (Zero (is_negative v)))
        (cond i (special PlusInfinity)
        (cond p (special Negative) (positive (2 ^ 23 + fraction v) (pos (exponent v)))))))
    pick true z i p = tt
    pick false true i p = tt
    pick false false true p = tt
    pick false false false true = tt
    pick false false false false = record { quarter = number_low v; below_one = number_high v }

-- what a reading takes and comes to, with the reading told apart
abbrev length_read : Make → Reading → ℕ
length_read m r = cond (settled_read r) 0 (selectors.digits m.selector 24)

record GoesRead (m : Make) (v : ℕ) (r : Reading) (j : ℕ) (job : Job) : Type 0 where
  made_is : made m job ≡ j
  left_is : left m job ≡ length_read m r - j
  partial_is : partial job ≡ cond (settled_read r) (settled_partial_read r) (recurrence.turns m.selector m.form j (recurrence.first_registers m.selector m.form 25 24 (number_read r))).partial.s
  early : j < length_read m r → (mode : Mode) → told m mode job ≡ None
  at_end : j ≡ length_read m r → (mode : Mode) → told m mode job ≡ Some (readings.told m.selector m.form mode r)

read_goes : (m : Make) → Lawful m → (v : ℕ) (r : Reading) → Ranged r → (j : ℕ) → j ≤ length_read m r → GoesRead m v r j (turns m j (begun_read m r))
unfolding Ranged
read_goes m L v (special s) range j h =
    subst (GoesRead m v (special s) j) (sym (turns_settled m j (special_answer s)))
    (record { made_is = omega arith; left_is = omega arith; partial_is = refl; early = λ l. absurd (omega arith); at_end = λ p mode. refl })
read_goes m L v (positive n E) range j h =
    subst (GoesRead m v (positive n E) j) (sym (turns_single m j E (recurrence.begun m.selector m.form 25 24 (readings.number n E))))
    (record {
      made_is = c.made_is;
      left_is = c.left_is;
      partial_is = c.partial_is;
      early = λ l mode. rw (c.early l);
      at_end = λ p mode. rw (c.at_end p);
    })
  where
    c : OnCourse m.selector m.form 25 24 (readings.number n E) j (states m.selector m.form j (recurrence.begun m.selector m.form 25 24 (readings.number n E)))
    c = on_course m.selector m.form L.selector L.form 25 24 (readings.number n E) sized range j h

single_goes : (m : Make) → Lawful m → (v j : ℕ) → j ≤ digits m (single_operand v) → Goes m (single_operand v) j (turns m j (begun m (single_operand v)))
single_goes m L v j h =
    let c = read_goes m L v (reading v) (ranged v) j h in
    record {
      made_is = c.made_is;
      left_is = c.left_is;
      partial_is = c.partial_is;
      early = c.early;
      at_end = λ p mode. (readings.told m.selector m.form mode (reading v), c.at_end p mode, rounded (told_right m.selector m.form L.selector L.form mode v));
    }

pub goes : (m : Make) → Lawful m → (o : Operand) → Admitted o → (j : ℕ) → j ≤ digits m o → Goes m o j (turns m j (begun m o))
goes m L (fixed_operand K Q x) (checked sized range) j h = fixed_goes m L K Q x j sized range h
goes m L (single_operand v) any j h = single_goes m L v j h

-- ---- the stages of an operand that takes digits

pub stages : (m : Make) → Lawful m → (o : Operand) → Admitted o → settled_operand o ≡ false → Kept shortfall m.selector m.form (width o) (places o) (number o)
unfolding Ranged
stages m L (fixed_operand K Q x) (checked sized range) e = kept_above m.selector m.form L.selector L.form K Q x sized range e
stages m L (single_operand v) any e = go (reading v) (ranged v) e
  where
    go : (r : Reading) → Ranged r → settled_read r ≡ false → Kept shortfall m.selector m.form 25 24 (number_read r)
    go (special s) range e = absurd (true≢false e)
    go (positive n E) range e = kept_above m.selector m.form L.selector L.form 25 24 (readings.number n E) sized range e
