-- Where a job is after j of its digits, and what it tells there.
use Rattle.std.proofs.Common.{◌≡◌, ℕ, zero, suc, ◌+◌, ◌-◌, ◌*◌, ◌/◌, ◌%◌, ◌^◌, ◌<◌, ◌≤◌, Bool, true, false, cond, ltb, ◌⊎◌, Some, None, sym, refl, ap, ◌∙◌, subst, inl, inr, arith}
use Rattle.std.proofs.lemmas.Bool.Decides.{nat_tests}
use Rattle.arithmetic.specs.Estimates.{shortfall}
use Rattle.number_form.specs.Forms.{FormModel, LawfulForm}
use Rattle.selection.specs.Operands.{Sized, InRange, quarter}
use Rattle.selection.specs.Selectors.{SelectorModel, LawfulSelector}
use Rattle.selection.specs.Selectors as selectors
use Rattle.recurrence.specs.declared.registers.Registers.{Registers}
use Rattle.recurrence.specs.declared.registers.Outcome.{Outcome}
use Rattle.recurrence.specs.Recurrence.{State, begun, job_turned, turns, first_registers, made, left, partial_result, outcome, result_of, quarter_outcome, worked}
use Rattle.recurrence.specs.Recurrence.State.{settled, running}
use Rattle.recurrence.specs.Stages.{Stage}
use Rattle.recurrence.proofs.Recurring.{room}
use Rattle.recurrence.proofs.Finishing.{kept_above}

-- ---- jobs of the recurrence

abbrev pub states : SelectorModel → FormModel → ℕ → State → State
states S F zero c = c
states S F (suc n) c = job_turned S F (states S F n c)

states_settled : (S : SelectorModel) (F : FormModel) (n : ℕ) (o : Outcome) → states S F n (settled o) ≡ settled o
states_settled S F zero o = refl
states_settled S F (suc n) o = ap (job_turned S F) (states_settled S F n o)

states_running : (S : SelectorModel) (F : FormModel) (n : ℕ) (c : Registers) → states S F n (running c) ≡ running (turns S F n c)
states_running S F zero c = refl
states_running S F (suc n) c = ap (job_turned S F) (states_running S F n c)

-- all digits of an operand
abbrev pub length : SelectorModel → ℕ → ℕ → ℕ → ℕ
length S K Q x = cond (quarter K x) 0 (selectors.digits S Q)

pub record OnCourse (S : SelectorModel) (F : FormModel) (K Q x j : ℕ) (c : State) : Type 0 where
  pub made_is : made S c ≡ j
  pub left_is : left S c ≡ length S K Q x - j
  pub partial_is : partial_result c ≡ cond (quarter K x) (2 ^ (Q + 1)) (turns S F j (first_registers S F K Q x)).partial.s
  pub early : j < length S K Q x → outcome S F c ≡ None
  pub at_end : j ≡ length S K Q x → outcome S F c ≡ Some (worked S F K Q x)

-- digits of one or two bits fill an even number of places
pub full : (b Q : ℕ) → (b ≡ 1) ⊎ (b ≡ 2) → Q % 2 ≡ 0 → b * (Q / b) ≡ Q
full b Q (inl e) h = rw e (omega arith)
full b Q (inr e) h = rw e (omega arith)

counted : (b Q j : ℕ) → (b ≡ 1) ⊎ (b ≡ 2) → b * j ≤ Q → (Q - (Q - b * j)) / b ≡ j
counted b Q j (inl e) h = let h' : 1 * j ≤ Q = rw e at h in rw e (omega arith)
counted b Q j (inr e) h = let h' : 2 * j ≤ Q = rw e at h in rw e (omega arith)

remaining : (b Q j : ℕ) → (b ≡ 1) ⊎ (b ≡ 2) → (Q - b * j) / b ≡ Q / b - j
remaining b Q j (inl e) = rw e (omega arith)
remaining b Q j (inr e) = rw e (omega arith)

unfinished : (b Q j : ℕ) → (b ≡ 1) ⊎ (b ≡ 2) → j < Q / b → ltb (Q - b * j) b ≡ false
unfinished b Q j (inl e) h = let h' : j < Q / 1 = rw e at h in rw e (grind (arith, nat_tests))
unfinished b Q j (inr e) h = let h' : j < Q / 2 = rw e at h in rw e (grind (arith, nat_tests))

finished : (b Q : ℕ) → (b ≡ 1) ⊎ (b ≡ 2) → Q % 2 ≡ 0 → ltb (Q - b * (Q / b)) b ≡ true
finished b Q (inl e) h = rw e (grind (arith, nat_tests))
finished b Q (inr e) h = rw e (grind (arith, nat_tests))

module _ (S : SelectorModel) (F : FormModel) (LS : LawfulSelector shortfall S) (LF : LawfulForm shortfall F) (K Q x : ℕ) (sized : Sized K Q) (range : InRange K x) where
  by_digits : quarter K x ≡ false → (j : ℕ) → j ≤ selectors.digits S Q → (c : Registers) → turns S F j (first_registers S F K Q x) ≡ c → Stage shortfall S F K Q x j c →
      OnCourse S F K Q x j (running c)
  by_digits e j h c is s =
      record {
        made_is = rw (s.places_are, s.place_is) (counted S.bits Q j LS.bits (room S LS Q j h));
        left_is = rw (s.place_is, e) (remaining S.bits Q j LS.bits);
        partial_is = rw (e, is);
        early = λ l. rw (s.place_is, unfinished S.bits Q j LS.bits (rw e at l));
        at_end = λ p. rw (s.place_is, e) (last (rw e at p));
      }
    where
      last : j ≡ selectors.digits S Q → cond (ltb (Q - S.bits * j) S.bits) (Some (result_of F c)) None ≡ Some (result_of F (turns S F (selectors.digits S Q) (first_registers S F K Q x)))
      last p =
          let done : ltb (Q - S.bits * j) S.bits ≡ true = rw p (finished S.bits Q LS.bits sized.even) in
          let same : turns S F (selectors.digits S Q) (first_registers S F K Q x) ≡ c = ap (λ k. turns S F k (first_registers S F K Q x)) (sym p) ∙ is in
          rw done (ap (λ (r : Registers). Some (result_of F r)) (sym same))

  pub on_course : (j : ℕ) → j ≤ length S K Q x → OnCourse S F K Q x j (states S F j (begun S F K Q x))
  on_course j h = go (quarter K x) refl
    where
      go : (t : Bool) → quarter K x ≡ t → OnCourse S F K Q x j (states S F j (begun S F K Q x))
      go true e =
          let none : j ≡ 0 = omega (arith, rw e at h) in
          let there : OnCourse S F K Q x j (settled (quarter_outcome Q)) =
          record {
            made_is = sym none;
            left_is = rw e (omega arith);
            partial_is = rw e;
            early = λ l. absurd (omega (arith, rw e at l));
            at_end = λ _. rw e;
          } in
          rw e (subst (OnCourse S F K Q x j) (sym (states_settled S F j (quarter_outcome Q))) there)
      go false e =
          let h' : j ≤ selectors.digits S Q = rw e at h in
          let c = turns S F j (first_registers S F K Q x) in
          let there : OnCourse S F K Q x j (running c) = by_digits e j h' c refl (kept_above S F LS LF K Q x sized range e j h') in
          rw e (subst (OnCourse S F K Q x j) (sym (states_running S F j (first_registers S F K Q x))) there)
